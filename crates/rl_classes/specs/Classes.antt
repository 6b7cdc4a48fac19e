-- The class of a text: 0 where it is empty, else 1 more than the least index of a text with the same bytes.
-- Assumes nothing.
use Rattle.std.specs.Prelude.{ℕ, zero, suc, ◌+◌, ◌≡◌, cond, List, length, get_or, eqb}
use Rattle.rl_spec.specs.Values.{same_text}

-- the first of the n texts from the u-th on that has the bytes of the t-th, or else the one after them
unfoldable pub first_from : (ℕ → List ℕ) → ℕ → ℕ → ℕ → ℕ
first_from bytes t zero u = u
first_from bytes t (suc n) u = cond (same_text (bytes u) (bytes t)) u (first_from bytes t n (u + 1))

unfoldable pub class_of : (ℕ → List ℕ) → ℕ → ℕ
class_of bytes t = cond (eqb (length (bytes t)) 0) 0 (first_from bytes t t 0 + 1)

-- words that hold the class of each text
abbrev pub ClassOfEach : (ℕ → List ℕ) → List ℕ → Type 0
ClassOfEach bytes cs = (t : ℕ) → get_or cs t 0 ≡ class_of bytes t
