use mathlib.Core.Path.{◌≡◌}
use lib.ListN.{drop}
use Rattle.rl_spec.specs.Runner.{all_have}
use Rattle.rl_admission.proofs.running.all_have.Given as goal

abbrev pub invariant-loop-argument : goal.invariant-loop-argument
invariant-loop-argument l = all_have l.counts (drop l.argument-index l.argument-items) ≡ all_have l.counts l.argument-items
