use Rattle.rl_arena.specs.Find.{spot_of}
use Rattle.rl_schema.specs.Codes.{codes}
use Prim.Native.Nat.{◌+◌, ◌-◌, ◌*◌, ◌≤◌}
use mathlib.Core.Path.{◌≡◌}
use Rattle.rl_arena.proofs.field_spot.Given as goal

abbrev pub invariant-loop : goal.invariant-loop
invariant-loop l = (l.place ≤ 65536 + 8 * l.counter) × (spot_of (codes l.row) (l.at + 1) l.j ≡ spot_of (codes l.rest) l.place (l.j - l.counter))
