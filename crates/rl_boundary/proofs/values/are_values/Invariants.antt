use mathlib.Core.Path.{◌≡◌}
use lib.ListN.{length}
use Rattle.rl_spec.specs.Boundary.{are_values}
use Rattle.rl_boundary.proofs.values.are_values.Given as goal

abbrev pub invariant-loop-left : goal.invariant-loop-left
invariant-loop-left l = are_values l.left ≡ are_values l.words

abbrev pub decreases-loop-left : goal.decreases-loop-left
decreases-loop-left l = length l.left
