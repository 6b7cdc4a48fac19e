-- The laws that the functions' proofs cite.
-- Assumes nothing.
use Prim.Native.Nat.{ℕ}
use mathlib.Core.Path.{◌≡◌, refl, sym}
use mathlib.Core.Bool.{not, ◌||◌}
use mathlib.Core.List.{List, [], ◌∷◌}
use native.Mathlib.Omega.{arith}
use lib.IntN.{pos}
use lib.Ieee as F
use lib.Ieee.{nan, binary64}
use borrow.Author.Tests.{lt-ltb, le-ltb, eq-eqb, ne_eqb}
use Rattle.rl_laws.specs.Tests.{by_ltb, by_eqb}
use Rattle.rl_spec.specs.Values.{same_text, less_text, as_f64}
use Rattle.rl_spec.specs.Folded.{const_of, with_text}
use Rattle.rl_spec.specs.declared.ConstVal.{ConstVal}
use Rattle.rl_spec.specs.declared.ConstVal.TheVariants as kind

-- ---- texts in one pass: at most is not above

pub at_most : (s t : List ℕ) → not (less_text t s) ≡ less_text s t || same_text s t
unfolding same_text less_text
at_most [] [] = refl
at_most [] (b ∷ t) = refl
at_most (a ∷ s) [] = refl
at_most (a ∷ s) (b ∷ t) =
    by_eqb a b
    (λ e. rw (eq-eqb a b e, eq-eqb b a (sym e)) (at_most s t))
    (λ e. rw (ne_eqb a b e, ne_eqb b a (λ f. e (sym f)))
    (by_ltb a b
    (λ l. rw (lt-ltb a b l, le-ltb b a (omega arith)) refl)
    (λ l. by_ltb b a (λ m. rw (le-ltb a b l, lt-ltb b a m) refl) (λ m. absurd (e (omega arith))))))

-- ---- floats

pub nan_is : F.of_bits binary64 9221120237041090560 ≡ nan
unfolding F.of_bits
nan_is = refl

pub zero_bits : F.of_bits binary64 0 ≡ F.of_int binary64 (pos 0)
unfolding F.of_bits F.of_fields F.of_int F.round F.odd F.units F.size F.climb F.span
zero_bits = refl

-- ---- a value beside a text

pub as_beside : (v : ConstVal) (t : List ℕ) → as_f64 (const_of v) ≡ as_f64 (with_text v t)
as_beside (kind.Int x) t = refl
as_beside (kind.Float x) t = refl
as_beside (kind.Str n) t = refl
as_beside (kind.Bool x) t = refl
