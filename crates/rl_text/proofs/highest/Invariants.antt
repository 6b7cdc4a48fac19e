use Rattle.std.proofs.Common.{◌≡◌}
use Rattle.rl_text.specs.Highest.{highest_of}
use Rattle.rl_text.proofs.highest.Given as goal

abbrev pub invariant-loop-octet : goal.invariant-loop-octet
invariant-loop-octet l = l.m ≡ highest_of l.s l.octet-index
