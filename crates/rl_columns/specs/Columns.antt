-- A column of a field. Assumes nothing.
use Rattle.std.specs.Prelude.{ℕ, cond, List, eqb, take}
use Rattle.rl_spec.specs.Utf8.{char_width, scalar_of}
use Rattle.rl_spec.specs.Pages.{space, printed}

-- the scalar that a field shows first of a text: a space where no character starts
unfoldable pub column_of : List ℕ → ℕ
column_of s = cond (eqb (char_width s 0) 0) space (printed (scalar_of (take (char_width s 0) s)))
