use mathlib.Core.Path.{◌≡◌}
use lib.ListN.{drop}
use Rattle.rl_spec.specs.Lowerer.{any_over}
use Rattle.rl_admission.proofs.lowering.any_over.Given as goal

abbrev pub invariant-loop-height : goal.invariant-loop-height
invariant-loop-height l = any_over l.most (drop l.height-index l.height-items) ≡ any_over l.most l.height-items
