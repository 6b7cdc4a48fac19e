-- A finite float x is the number top x / den x, and its magnitude is num x / den x. Its distance from a whole number, and when two floats are the same number.
-- Assumes nothing.
use Rattle.std.specs.Prelude.{◌≡◌, ℕ, zero, suc, ◌+◌, ◌-◌, ◌*◌, ◌<◌, ◌≤◌, Bool, true, false, cond, not, ℤ, pos, negsuc, ◌-ℤ◌, ◌*ℤ◌, neg_ℤ, nat_lt, unsigned_abs, refl, Float}
use Rattle.std.proofs.Common.{sym, ap, ◌∙◌, arith, le_of_eq, le_antisymm, zero-mul, add-mul, mul_right_comm, mul-le-mul_right, le_of_mul-le-mul_right, ltb-true, ltb-false}
use Rattle.std.proofs.Math.Nat.{eq_of_mul-eq-mul_right}
use Rattle.std.proofs.Math.IntN.{sub_ℕ}
use Rattle.std.specs.Float.{nan, inf, fin}
use Rattle.std.specs.Float.Ieee.{up, down}
use Rattle.std.specs.Float.Ieee.Exact.{HasValue}
use Rattle.std.specs.Float.Ieee.Order.{transfer}
use Rattle.std.specs.Float.Ieee.Positive.{num, den}
use Rattle.rl_theorems.specs.Values.Rounding.{gap, gap_mul}

abbrev pub signed : Bool → ℕ → ℤ
signed false n = pos n
signed true n = neg_ℤ (pos n)

abbrev pub top : Float → ℤ
top nan = pos 0
top (inf s) = pos 0
top (fin s m e) = signed s (m * up e)

-- x and y are the same number
abbrev pub Same : Float → Float → Type 0
Same x y = top x *ℤ pos (den y) ≡ top y *ℤ pos (den x)

-- the distance between i and x is the fraction apart i x / den x
abbrev pub apart : ℤ → Float → ℕ
apart i x = unsigned_abs (i *ℤ pos (den x) -ℤ top x)

-- ---- distances by magnitudes: the difference where the signs are alike, and else the sum

abs_sub : (a b : ℕ) → unsigned_abs (sub_ℕ a b) ≡ gap a b
abs_sub a b = go (nat_lt a b) refl
  where
    go : (t : Bool) → nat_lt a b ≡ t → unsigned_abs (cond t (negsuc (b - suc a)) (pos (a - b))) ≡ gap a b
    go true e = let h : a < b = ltb-true a b e in omega arith
    go false e = let h : b ≤ a = ltb-false a b e in omega arith

abs_like : (s : Bool) (a b : ℕ) → unsigned_abs (signed s a -ℤ signed s b) ≡ gap a b
abs_like false a zero = omega arith
abs_like false a (suc b) = abs_sub a (suc b)
abs_like true zero zero = refl
abs_like true zero (suc b) = omega arith
abs_like true (suc a) zero = abs_sub 0 (suc a) ∙ omega arith
abs_like true (suc a) (suc b) = abs_sub (suc b) (suc a) ∙ omega arith

abs_unlike : (s : Bool) (a b : ℕ) → unsigned_abs (signed s a -ℤ signed (not s) b) ≡ a + b
abs_unlike false a zero = refl
abs_unlike false a (suc b) = refl
abs_unlike true zero zero = refl
abs_unlike true zero (suc b) = abs_sub 0 (suc b) ∙ omega arith
abs_unlike true (suc a) zero = abs_sub 0 (suc a) ∙ omega arith
abs_unlike true (suc a) (suc b) = omega arith

signed_mul : (s : Bool) (a d : ℕ) → signed s a *ℤ pos d ≡ signed s (a * d)
signed_mul false a d = refl
signed_mul true zero d = rw zero-mul refl
signed_mul true (suc a) d = refl

module _ (s : Bool) (a l : ℕ) where
  pub apart_like : (x : Float) (v : ℕ) → HasValue x s v l → apart (signed s a) x * l ≡ gap (a * l) v * den x
  apart_like nan v h = absurd h
  apart_like (inf t) v h = absurd h
  apart_like (fin t m e) v h =
      ap (λ (b : Bool). unsigned_abs (signed s a *ℤ pos (down e) -ℤ signed b (m * up e)) * l) h.0
      ∙ ap (λ (z : ℤ). unsigned_abs (z -ℤ signed s (m * up e)) * l) (signed_mul s a (down e))
      ∙ ap (λ (z : ℕ). z * l) (abs_like s (a * down e) (m * up e))
      ∙ sym (gap_mul (a * down e) (m * up e) l)
      ∙ ap (λ (z : ℕ). gap z (m * up e * l)) (mul_right_comm a (down e) l)
      ∙ ap (gap (a * l * down e)) h.1
      ∙ gap_mul (a * l) v (down e)

  pub apart_unlike : (x : Float) (v : ℕ) → HasValue x (not s) v l → apart (signed s a) x * l ≡ (a * l + v) * den x
  apart_unlike nan v h = absurd h
  apart_unlike (inf t) v h = absurd h
  apart_unlike (fin t m e) v h =
      ap (λ (b : Bool). unsigned_abs (signed s a *ℤ pos (down e) -ℤ signed b (m * up e)) * l) h.0
      ∙ ap (λ (z : ℤ). unsigned_abs (z -ℤ signed (not s) (m * up e)) * l) (signed_mul s a (down e))
      ∙ ap (λ (z : ℕ). z * l) (abs_unlike s (a * down e) (m * up e))
      ∙ add-mul (a * down e) (m * up e) l
      ∙ ap (λ (z : ℕ). z + m * up e * l) (mul_right_comm a (down e) l)
      ∙ ap (λ (z : ℕ). a * l * down e + z) h.1
      ∙ sym (add-mul (a * l) v (down e))

-- two fractions over one l: x / p is a / l, and y / q is b / l
module _ (x y p q a b l : ℕ) (L : 0 < l) (P : 0 < p) (Q : 0 < q) (g : x * l ≡ a * p) (h : y * l ≡ b * q) where
  pub cross_le : a ≤ b → x * q ≤ y * p
  cross_le k = transfer x y p q a b l l L L g h (mul-le-mul_right l k)

  pub cross_eq : x * q ≡ y * p → a ≡ b
  cross_eq e =
      le_antisymm
      (le_of_mul-le-mul_right (transfer a b l l x y p q P Q (sym g) (sym h) (le_of_eq e)) L)
      (le_of_mul-le-mul_right (transfer b a l l y x q p Q P (sym h) (sym g) (le_of_eq (sym e))) L)

-- ---- the same number

pub cross : (x : Float) (s : Bool) (a c : ℕ) → HasValue x s a c → num x * c ≡ a * den x
cross nan s a c h = absurd h
cross (inf t) s a c h = absurd h
cross (fin t m e) s a c h = h.1

top_mul : (x : Float) (s : Bool) (a c d : ℕ) → HasValue x s a c → top x *ℤ pos d ≡ signed s (num x * d)
top_mul nan s a c d h = absurd h
top_mul (inf t) s a c d h = absurd h
top_mul (fin t m e) s a c d h = ap (λ (b : Bool). signed b (m * up e) *ℤ pos d) h.0 ∙ signed_mul s (m * up e) d

module _ (x y : Float) (l : ℕ) (L : 0 < l) where
  pub same_value : (s : Bool) (v : ℕ) → HasValue x s v l → HasValue y s v l → Same x y
  same_value s v h k =
      let g = cross x s v l h in
      let f = cross y s v l k in
      let e : num x * den y ≡ num y * den x =
      le_antisymm
      (transfer (num x) (num y) (den x) (den y) v v l l L L g f (le_of_eq refl))
      (transfer (num y) (num x) (den y) (den x) v v l l L L f g (le_of_eq refl)) in
      top_mul x s v l (den y) h ∙ ap (signed s) e ∙ sym (top_mul y s v l (den x) k)

  zero_num : (z : Float) (s : Bool) → HasValue z s 0 l → num z ≡ 0
  zero_num z s h = eq_of_mul-eq-mul_right l L (num z) 0 (cross z s 0 l h ∙ zero-mul (den z) ∙ sym (zero-mul l))

  zero_top : (z : Float) (s : Bool) (d : ℕ) → HasValue z s 0 l → top z *ℤ pos d ≡ pos 0
  zero_top z s d h = top_mul z s 0 l d h ∙ ap (λ (v : ℕ). signed s (v * d)) (zero_num z s h) ∙ ap (signed s) (zero-mul d) ∙ no_sign s
    where
      no_sign : (s : Bool) → signed s 0 ≡ pos 0
      no_sign true = refl
      no_sign false = refl

  pub same_zero : (s t : Bool) → HasValue x s 0 l → HasValue y t 0 l → Same x y
  same_zero s t h k = zero_top x s (den y) h ∙ sym (zero_top y t (den x) k)
