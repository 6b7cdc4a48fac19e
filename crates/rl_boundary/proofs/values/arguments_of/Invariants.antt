use mathlib.Core.Path.{◌≡◌}
use mathlib.Core.List.{map}
use lib.ListN.{length, take}
use Rattle.rl_spec.specs.Ranges.{up_from}
use Rattle.rl_spec.specs.Boundary.{argument_at}
use Rattle.rl_boundary.proofs.values.arguments_of.Given as goal

abbrev pub invariant-loop-i : goal.invariant-loop-i
invariant-loop-i l = (length l.values ≡ 16) × (take l.i l.values ≡ map (argument_at l.words) (up_from 0 l.i))
