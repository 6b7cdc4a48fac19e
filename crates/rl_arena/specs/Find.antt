-- Where a field of a record stands, a number of some bytes, and what an id finds.
use Rattle.std.specs.Prelude.{ℕ, zero, suc, ◌+◌, Bool, true, cond, List, [], ◌∷◌, eqb, ltb, Option, Some, None, Result, Ok, Err}
use Rattle.rl_spec.specs.declared.ArenaNo.{ArenaNo}
use Rattle.rl_spec.specs.declared.Cause.{Cause}
use Rattle.rl_spec.specs.declared.Cause.TheVariants.{OtherArena, NoSuchNode}
use Rattle.rl_spec.specs.declared.Counts.{Counts}
use Rattle.rl_spec.specs.declared.Id.{Id}
use Rattle.rl_spec.specs.Bytes.{num_at}
use Rattle.rl_spec.specs.Schema.{sort_of, width_of}
use Rattle.rl_arena.specs.declared.Spot.{Spot}

-- the widths that fields have
abbrev pub is_width : ℕ → Bool
is_width n = cond (eqb n 1) true (cond (eqb n 2) true (cond (eqb n 4) true (eqb n 8)))

-- the number in 1, 2, 4 or 8 bytes; 0 for any other width
unfoldable pub number_in : List ℕ → ℕ → ℕ → ℕ
number_in s at n = cond (is_width n) (num_at s at n) 0

-- the j-th of the fields with these codes, the first of which stands at a place
unfoldable pub spot_of : List ℕ → ℕ → ℕ → Option Spot
spot_of [] at j = None
spot_of (c ∷ cs) at zero = Some (record { code = c; at = at })
spot_of (c ∷ cs) at (suc j) = spot_of cs (at + width_of (sort_of c)) j

-- a foreign id is told before a missing node
unfoldable pub lookup : ArenaNo → Counts → Id → Result ℕ Cause
lookup arena c id =
    cond (eqb id.arena.0 arena.0) (cond (ltb id.node.0 c.expressions) (Ok id.node.0) (Err NoSuchNode)) (Err OtherArena)
