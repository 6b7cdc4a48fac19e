-- A whole number as the nearest float, by its two halves of 32 bits: each half is a float exactly, so their sum is rounded once, from the number itself.
-- Assumes nothing.
use mathlib.Core.Path.{◌≡◌, refl, sym, ap, subst, ◌∙◌}
use mathlib.Core.Bool.{Bool, true, false, true≢false, false≢true}
use Prim.Native.Nat.{ℕ, suc, ◌+◌, ◌-◌, ◌*◌, ◌/◌, ◌%◌, ◌^◌, ◌≤◌, ◌<◌}
use native.Mathlib.Nat.{mul-one, one-mul, mul_comm, mul_assoc, mul_right_comm, add-mul, mul-sub, mul-pos, mul-lt-mul_of_pos_right, le_trans, le_of_lt, lt_of_lt_of_le}
use native.Mathlib.Omega.{arith}
use lib.Dec.{T, le→leb, lt→ltb, lit≤, lit<}
use lib.Pow.{pow-add, pow_mono, shl_lt}
use lib.Bits.{bit_and, and_mask}
use lib.IntN.{ℤ, pos, negsuc}
use lib.Signed.{mag, shr_z, mag_shr}
use lib.Ieee.{Float, nan, inf, fin, Format, binary64, prec, emax, low, up, down, unlike, round, sum, add, mul, of_int, in_float, of_bits}
use lib.Ieee.Fits.{down_pos}
use lib.Ieee.Exact.{HasValue, round_exact}
use lib.Ieee.Scale.{round_same}
use lib.Ieee.Back.{round_whole}
use mir.Syntax.{w64}
use mir.Val.{to_z, of_z, SFits}
use mir.Facts.{to_z-of_z, to_z_pos}
use borrow.Author.Tests.{lt-ltb, le-ltb}

abbrev read : ℤ → ℤ
read z = to_z w64 (of_z w64 z)

-- ---- a scaling by a power of two, and the sum of two whole numbers: each is rounded once, from the exact result

same_sign : (s : Bool) → unlike s false ≡ s
same_sign true = refl
same_sign false = refl

scaled : (m e a p : ℕ) → m * 1 ≡ a * e → m * (1 * p) * 1 ≡ a * p * (e * 1)
scaled m e a p h =
    let g : m ≡ a * e = sym (mul-one m) ∙ h in
    rw (mul-one (m * (1 * p)), one-mul p, mul-one e, g) (mul_right_comm a e p)

-- m / e = a, over the divisor e * d
over : (m e d a : ℕ) → m * 1 ≡ a * e → m * d ≡ a * (e * d)
over m e d a h = ap (λ (z : ℕ). z * d) (sym (mul-one m) ∙ h) ∙ mul_assoc a e d

over_left : (n d e b : ℕ) → n * 1 ≡ b * d → n * e ≡ b * (e * d)
over_left n d e b h = over n d e b h ∙ ap (λ (z : ℕ). b * z) (mul_comm d e)

less : (a b c : ℕ) → (a * c - b * c) * 1 ≡ (a - b) * c
less a b c = rw (mul-one, mul_comm a c, mul_comm b c, ← mul-sub, mul_comm c (a - b))

room : (k l t : ℕ) → k + k ≤ t → k + (k + l) ≤ l + t
room k l t h = omega arith

module _ (f : Format) where
  scale_at : (s : Bool) (x : Float) (a k : ℕ) → HasValue x s a 1 → mul f x (fin false 1 (pos k)) ≡ round f s (a * 2 ^ k) 1
  unfolding mul
  scale_at s nan a k h = absurd h
  scale_at s (inf t) a k h = absurd h
  scale_at s (fin t m e) a k h =
      ap (λ (b : Bool). round f b (m * up e * (1 * 2 ^ k)) (down e * 1)) (same_sign t ∙ h.0)
      ∙ round_same f s (m * up e * (1 * 2 ^ k)) (down e * 1) (a * 2 ^ k) 1 (mul-pos (down_pos e) (lit< tt)) (lit< tt) (scaled (m * up e) (down e) a (2 ^ k) h.1)

  add_at : (x y : Float) (a b : ℕ) → HasValue x false a 1 → HasValue y false b 1 → add f x y ≡ round f false (a + b) 1
  unfolding add sum
  add_at nan y a b h k = absurd h
  add_at (inf s) y a b h k = absurd h
  add_at (fin s m e) nan a b h k = absurd k
  add_at (fin s m e) (inf t) a b h k = absurd k
  add_at (fin true m e) (fin t n d) a b h k = absurd (true≢false h.0)
  add_at (fin false m e) (fin true n d) a b h k = absurd (true≢false k.0)
  add_at (fin false m e) (fin false n d) a b h k =
      let c = down e * down d in
      rw (over (m * up e) (down e) (down d) a h.1, over_left (n * up d) (down d) (down e) b k.1)
      (round_same f false (a * c + b * c) c (a + b) 1 (mul-pos (down_pos e) (down_pos d)) (lit< tt) (mul-one (a * c + b * c) ∙ sym (add-mul a b c)))

  subtract : (a b c : ℕ) → b < a → 0 < c → sum f true (a * c) false (b * c) c ≡ round f true (a - b) 1
  unfolding sum
  subtract a b c h C =
      let l : b * c < a * c = mul-lt-mul_of_pos_right h C in
      rw (le-ltb (a * c) (b * c) (le_of_lt l), lt-ltb (b * c) (a * c) l)
      (round_same f true (a * c - b * c) c (a - b) 1 C (lit< tt) (less a b c))

  add_below : (x y : Float) (a b : ℕ) → HasValue x true a 1 → HasValue y false b 1 → b < a → add f x y ≡ round f true (a - b) 1
  unfolding add
  add_below nan y a b h k l = absurd h
  add_below (inf s) y a b h k l = absurd h
  add_below (fin s m e) nan a b h k l = absurd k
  add_below (fin s m e) (inf t) a b h k l = absurd k
  add_below (fin false m e) (fin t n d) a b h k l = absurd (false≢true h.0)
  add_below (fin true m e) (fin true n d) a b h k l = absurd (true≢false k.0)
  add_below (fin true m e) (fin false n d) a b h k l =
      rw (over (m * up e) (down e) (down d) a h.1, over_left (n * up d) (down d) (down e) b k.1)
      (subtract a b (down e * down d) l (mul-pos (down_pos e) (down_pos d)))

  -- a * 2 ^ k is a float exactly, for an a below 2 ^ k
  scaled_exact : (s : Bool) (x : Float) (a k : ℕ) → k ≤ prec f → k + k ≤ suc (emax f) → a < 2 ^ k → HasValue x s a 1 → HasValue (mul f x (fin false 1 (pos k))) s (a * 2 ^ k) 1
  scaled_exact s x a k P E h v =
      subst (λ (z : Float). HasValue z s (a * 2 ^ k) 1) (sym (scale_at s x a k v))
      (round_exact f s (a * 2 ^ k) 1 a (k + low f) (lit< tt) (lt_of_lt_of_le h (pow_mono P))
      (lt_of_lt_of_le (shl_lt k (k + low f) h) (pow_mono (room k (low f) (suc (emax f)) E)))
      (mul_assoc a (2 ^ k) (2 ^ low f) ∙ ap (λ (z : ℕ). a * z) (sym (pow-add 2 k (low f))) ∙ sym (mul-one (a * 2 ^ (k + low f)))))

-- ---- the two halves of a 64-bit integer: x >> 32, and x & 0xffff_ffff, which is not negative

two_to_32 : of_bits binary64 0x41f0_0000_0000_0000 ≡ fin false 1 (pos 32)
unfolding of_bits
two_to_32 = refl

upper_exact : (a : ℕ) → a < 2 ^ 32 → HasValue (mul binary64 (of_int binary64 (pos a)) (fin false 1 (pos 32))) false (a * 2 ^ 32) 1
unfolding of_int
upper_exact a h = scaled_exact binary64 false (round binary64 false a 1) a 32 (lit≤ tt) (lit≤ tt) h (round_whole binary64 false a (le_trans (le_of_lt h) (lit≤ tt)))

upper_exact_below : (a : ℕ) → suc a < 2 ^ 32 → HasValue (mul binary64 (of_int binary64 (negsuc a)) (fin false 1 (pos 32))) true (suc a * 2 ^ 32) 1
unfolding of_int
upper_exact_below a h = scaled_exact binary64 true (round binary64 true (suc a) 1) (suc a) 32 (lit≤ tt) (lit≤ tt) h (round_whole binary64 true (suc a) (le_trans (le_of_lt h) (lit≤ tt)))

lower_exact : (b : ℕ) → b < 2 ^ 32 → HasValue (of_int binary64 (pos b)) false b 1
unfolding of_int
lower_exact b h = round_whole binary64 false b (le_trans (le_of_lt h) (lit≤ tt))

below_half : (x : ℤ) → SFits w64 x → SFits w64 (shr_z x (2 ^ 32))
below_half x h = let p = mag_shr x (2 ^ 32) in let q = h.sfits in record { sfits = omega arith }

join : (x : ℤ) → SFits w64 x → add binary64 (mul binary64 (of_int binary64 (shr_z x (2 ^ 32))) (fin false 1 (pos 32))) (of_int binary64 (pos (of_z w64 x % 2 ^ 32))) ≡ of_int binary64 x
unfolding of_int
join (pos n) h =
    let p = h.sfits in
    let q : n / 2 ^ 32 < 2 ^ 32 = omega arith in
    let r : n % 2 ^ 32 < 2 ^ 32 = omega arith in
    let e : n / 2 ^ 32 * 2 ^ 32 + n % 2 ^ 32 ≡ n = omega arith in
    add_at binary64 _ _ (n / 2 ^ 32 * 2 ^ 32) (n % 2 ^ 32) (upper_exact (n / 2 ^ 32) q) (lower_exact (n % 2 ^ 32) r)
    ∙ ap (λ (z : ℕ). round binary64 false z 1) e
join (negsuc n) h =
    let p = h.sfits in
    let u = suc (n / 2 ^ 32) in
    let b = (2 ^ 64 - suc n) % 2 ^ 32 in
    let q : u < 2 ^ 32 = omega arith in
    let r : b < 2 ^ 32 = omega arith in
    let e : u * 2 ^ 32 - b ≡ suc n = omega arith in
    let l : b < u * 2 ^ 32 = omega arith in
    add_below binary64 _ _ (u * 2 ^ 32) b (upper_exact_below (n / 2 ^ 32) q) (lower_exact b r) l
    ∙ ap (λ (z : ℕ). round binary64 true z 1) e

-- as the code has them
module _ (x : ℤ) (h : SFits w64 x) where
  upper_is : read (shr_z (read x) 4294967296) ≡ shr_z x (2 ^ 32)
  upper_is = ap (λ (z : ℤ). read (shr_z z (2 ^ 32))) (to_z-of_z h) ∙ to_z-of_z (below_half x h)

  lower_is : to_z w64 (bit_and (of_z w64 x) 4294967295) ≡ pos (of_z w64 x % 2 ^ 32)
  lower_is =
      let m : bit_and (of_z w64 x) 4294967295 ≡ of_z w64 x % 2 ^ 32 = and_mask (of_z w64 x) 32 in
      ap (to_z w64) m ∙ to_z_pos w64 (omega arith)

  pub upper_in : T (in_float binary64 (read (shr_z (read x) 4294967296)))
  unfolding in_float
  upper_in = subst (λ (z : ℤ). T (in_float binary64 z)) (sym upper_is) (go x h.sfits)
    where
      go : (x : ℤ) → mag x < 2 ^ 63 → T (in_float binary64 (shr_z x (2 ^ 32)))
      go (pos n) p = le→leb (n / 2 ^ 32) (2 ^ 53) (omega arith)
      go (negsuc n) p = lt→ltb (n / 2 ^ 32) (2 ^ 53) (omega arith)

  pub lower_in : T (in_float binary64 (to_z w64 (bit_and (of_z w64 x) 4294967295)))
  unfolding in_float
  lower_in = subst (λ (z : ℤ). T (in_float binary64 z)) (sym lower_is) (le→leb (of_z w64 x % 2 ^ 32) (2 ^ 53) (omega arith))

  pub halves_joined : add binary64 (mul binary64 (of_int binary64 (read (shr_z (read x) 4294967296))) (of_bits binary64 0x41f0_0000_0000_0000)) (of_int binary64 (to_z w64 (bit_and (of_z w64 x) 4294967295))) ≡ of_int binary64 x
  halves_joined =
      ap (λ (z : ℤ). add binary64 (mul binary64 (of_int binary64 z) (of_bits binary64 0x41f0_0000_0000_0000)) (of_int binary64 (to_z w64 (bit_and (of_z w64 x) 4294967295)))) upper_is
      ∙ ap (λ (c : Float). add binary64 (mul binary64 (of_int binary64 (shr_z x (2 ^ 32))) c) (of_int binary64 (to_z w64 (bit_and (of_z w64 x) 4294967295)))) two_to_32
      ∙ ap (λ (z : ℤ). add binary64 (mul binary64 (of_int binary64 (shr_z x (2 ^ 32))) (fin false 1 (pos 32))) (of_int binary64 z)) lower_is
      ∙ join x h
