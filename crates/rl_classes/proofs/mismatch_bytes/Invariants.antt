use mathlib.Core.Path.{◌≡◌}
use Rattle.rl_classes.specs.Links.{mismatch}
use Rattle.rl_classes.proofs.mismatch_bytes.Given as goal

abbrev pub invariant-loop-i : goal.invariant-loop-i
invariant-loop-i l = mismatch l.a l.b l.at ≡ mismatch l.a l.b l.i
