-- A whole number as the binary64 value that is nearest to it, and of two that are equally near the even one: what `of_int binary64` gives.
-- Assumes nothing.
use Rattle.std.specs.Prelude.{◌≡◌, ℕ, zero, suc, ◌+◌, ◌-◌, ◌*◌, ◌/◌, ◌%◌, ◌^◌, ◌<◌, ◌≤◌, Bool, true, false, not, ◌&&◌, T, ◌⊎◌, ℤ, pos, negsuc, ◌≢◌, nat_eq, nat_le, nat_lt, refl, Float}
use Rattle.std.proofs.Common.{sym, ap, subst, ◌∙◌, inl, inr, ⊎_elim, arith, le_refl, le_trans, le_of_eq, le_of_lt, lt_of_le_of_lt, not-le_of_lt, eq-or-lt_of_le, one-mul, zero-mul, mul-one, mul_assoc, mul_right_comm, mul-le-mul_right, div-one, pow-suc, leb→le, ltb→lt, lit≤, lit<, pow-add, pow_pos, shl_lt}
use Rattle.std.proofs.Math.Nat.{eq_of_mul-eq-mul_right, mul-mod_left, mod-one}
use Rattle.std.proofs.Math.Arith.{lt_of_le-ne}
use Rattle.std.proofs.Math.Pow.{pow-lt}
use Rattle.std.specs.Int.Signed.{mag}
use Rattle.std.specs.Float.{nan, inf, fin, Format, binary32, binary64}
use Rattle.std.specs.Float.Ieee.{prec, emax, low, up, down, span, climb, size, odd, units, round, of_int, fits}
use Rattle.std.specs.Float.Ieee.Digits.{size-le, back}
use Rattle.std.specs.Float.Ieee.Fits.{kept-lt, two, two-le_pos, round_is, of_int-fits, and_l, and_r}
use Rattle.std.specs.Float.Ieee.Exact.{HasValue, units_val}
use Rattle.std.specs.Float.Ieee.Scale.{finite, overflow}
use Rattle.std.specs.Float.Ieee.Nearest.{closest}
use Rattle.std.specs.Float.Ieee.Positive.{num, den, den_pos}
use Rattle.rl_laws.specs.Tests.{by_ltb}
use Rattle.rl_theorems.specs.Values.Rounding as R
use Rattle.rl_theorems.specs.Values.Rounding.{gap, Tie}
use Rattle.rl_theorems.specs.Values.Distance.{signed, Same, apart, apart_like, apart_unlike, cross_le, cross_eq, cross, same_value, same_zero}

-- x is ± significand * 2 ^ exponent, where the significand has p binary digits and the last of them is b
pub record LastDigit (p b : ℕ) (x : Float) : Type 0 where
  pub significand : ℕ
  pub exponent : ℕ
  pub least : 2 ^ (p - 1) ≤ significand
  pub most : significand < 2 ^ p
  pub last : significand % 2 ≡ b
  pub value : num x ≡ significand * 2 ^ exponent * den x

-- ---- a finite value of the format is m * 2 ^ j of its smallest values, with m below 2 ^ prec

record InUnits (f : Format) (x : Float) : Type 0 where
  sign : Bool
  m : ℕ
  j : ℕ
  most : m < 2 ^ prec f
  has : HasValue x sign (m * 2 ^ j) (2 ^ low f)

under_pow : (a b : ℕ) → 2 ^ a ≤ 2 ^ b → a ≤ b
under_pow a b h = by_ltb b a (λ l. absurd (not-le_of_lt (pow-lt l) h)) (λ l. l)

at_exponent : (f : Format) (m : ℕ) (e : ℤ) → down e ≤ 2 ^ low f → (j : ℕ) × (m * up e * 2 ^ low f ≡ m * 2 ^ j * down e)
at_exponent f m (pos k) h = (k + low f, rw (pow-add, mul-one, mul_assoc) refl)
at_exponent f m (negsuc k) h =
    let l : suc k ≤ low f = under_pow (suc k) (low f) h in
    let e : 2 ^ low f ≡ 2 ^ (low f - suc k) * 2 ^ suc k = ap (λ (z : ℕ). 2 ^ z) (sym (back (low f) (suc k) l)) ∙ pow-add 2 (low f - suc k) (suc k) in
    (low f - suc k, ap (λ (z : ℕ). z * 2 ^ low f) (mul-one m) ∙ ap (λ (z : ℕ). m * z) e ∙ sym (mul_assoc m (2 ^ (low f - suc k)) (2 ^ suc k)))

in_units : (f : Format) (x : Float) → T (finite x) → T (fits f x) → InUnits f x
unfolding fits
in_units f nan t h = absurd t
in_units f (inf s) t h = absurd t
in_units f (fin s zero e) t h =
    record { sign = s; m = 0; j = 0; most = pow_pos (prec f); has = (refl, simp zero-mul) }
in_units f (fin s (suc m) e) t h =
    let odds = nat_eq (suc m % 2) 1 in
    let short = nat_lt (suc m) (2 ^ prec f) in
    let fine = nat_le (down e) (2 ^ low f) in
    let small = nat_lt (suc m * up e) (2 ^ suc (emax f) * down e) in
    let h' : T (odds && short && fine) = and_l (odds && short && fine) small h in
    let c = at_exponent f (suc m) e (leb→le (down e) (2 ^ low f) (and_r (odds && short) fine h')) in
    record {
      sign = s;
      m = suc m;
      j = c.0;
      most = ltb→lt (suc m) (2 ^ prec f) (and_r odds short (and_l (odds && short) fine h'));
      has = (refl, c.1);
    }

-- ---- what `round` makes of the whole number a with the sign s. In smallest values a is n, and the result r is q * 2 ^ k, of which q has p digits

like_or_not : (t s : Bool) → (t ≡ s) ⊎ (t ≡ not s)
like_or_not true true = inl refl
like_or_not true false = inr refl
like_or_not false true = inr refl
like_or_not false false = inl refl

within : (p z e l : ℕ) → z ≤ e + l → p ≤ e + l → p + (z - p) < l + suc e
within p z e l h k = omega arith

precise : (f : Format) → prec f ≤ emax f + low f
precise binary32 = lit≤ tt
precise binary64 = lit≤ tt

even_pow : (j : ℕ) → 0 < j → 2 ^ j % 2 ≡ 0
even_pow zero h = absurd (omega arith)
even_pow (suc j) h = ap (λ (z : ℕ). z % 2) (pow-suc 2 j) ∙ mul-mod_left (2 ^ j) 2

odd_not_pow : (m p : ℕ) → m % 2 ≡ 1 → 0 < p → m ≢ 2 ^ p
odd_not_pow m p o h e = let z : m % 2 ≡ 0 = ap (λ (x : ℕ). x % 2) e ∙ even_pow p h in omega arith

carry : (p j : ℕ) → 0 < p → 2 ^ p * 2 ^ j ≡ 2 ^ (p - 1) * 2 ^ suc j
carry p j h =
    let e : p + j ≡ p - 1 + suc j = omega arith in
    sym (pow-add 2 p j) ∙ ap (λ (z : ℕ). 2 ^ z) e ∙ pow-add 2 (p - 1) (suc j)

module _ (f : Format) (s : Bool) (a : ℕ) (h : a < 2 ^ emax f) where
  abbrev p : ℕ
  p = prec f

  abbrev l : ℕ
  l = 2 ^ low f

  abbrev n : ℕ
  n = a * 2 ^ low f

  abbrev k : ℕ
  k = R.dropped (prec f) (a * 2 ^ low f)

  abbrev q : ℕ
  q = R.rounded (prec f) (a * 2 ^ low f)

  abbrev r : Float
  r = round f s a 1

  above : 0 < p
  above = two-le_pos p (two f)

  rounds : r ≡ units f s q k
  rounds =
      round_is f s a 1
      ∙ ap (λ (z : ℕ). units f s (closest n (1 * 2 ^ (size z - p))) (size z - p)) (div-one n)
      ∙ ap (λ (z : ℕ). units f s (closest n z) k) (one-mul (2 ^ k))

  under : q * 2 ^ k < overflow f
  under =
      let z : size n ≤ emax f + low f = size-le n (emax f + low f) (shl_lt (emax f) (low f) h) in
      lt_of_le_of_lt (mul-le-mul_right (2 ^ k) (R.rounded_most p n))
      (lt_of_le_of_lt (le_of_eq (sym (pow-add 2 p k))) (pow-lt (within p (size n) (emax f) (low f) z (precise f))))

  has : HasValue r s (q * 2 ^ k) l
  has = subst (λ (z : Float). HasValue z s (q * 2 ^ k) l) (sym rounds) (units_val f s q k under)

  pub round_finite : T (finite r)
  round_finite = go r has
    where
      go : (z : Float) → HasValue z s (q * 2 ^ k) l → T (finite z)
      go nan v = absurd v
      go (inf t) v = absurd v
      go (fin t m e) v = tt

  no_farther_zero : (v : ℕ) → gap n (q * 2 ^ k) ≤ n + v
  no_farther_zero v = let z : gap n (q * 2 ^ k) ≤ gap n 0 = R.rounded_near p n above 0 0 (pow_pos p) in omega arith

  -- 0 is not half a unit away
  no_half_zero : (m : ℕ) × (0 ≡ m * 2 ^ k) × Tie n (2 ^ k) q m → ⊥
  no_half_zero (m, e, t) =
      let z : m ≡ 0 = eq_of_mul-eq-mul_right (2 ^ k) (pow_pos k) m 0 (sym e ∙ sym (zero-mul (2 ^ k))) in
      omega (arith, t.odd)

  -- 2 ^ k of the smallest values is a whole number, since n is half-way between two multiples of it
  deep : n % 2 ^ k * 2 ≡ 2 ^ k → low f ≤ k
  deep half = by_ltb k (low f) (λ g. absurd (none (le_of_lt g))) (λ g. g)
    where
      none : k ≤ low f → ⊥
      none g =
          let e : n ≡ a * 2 ^ (low f - k) * 2 ^ k = ap (λ (z : ℕ). a * 2 ^ z) (sym (back (low f) k g)) ∙ ap (λ (z : ℕ). a * z) (pow-add 2 (low f - k) k) ∙ sym (mul_assoc a (2 ^ (low f - k)) (2 ^ k)) in
          let z : n % 2 ^ k ≡ 0 = ap (λ (z : ℕ). z % 2 ^ k) e ∙ mul-mod_left (a * 2 ^ (low f - k)) (2 ^ k) in
          let u : 0 < 2 ^ k = pow_pos k in
          omega arith

  whole : (z : Float) (t : Bool) (m : ℕ) → low f ≤ k → HasValue z t (m * 2 ^ k) l → num z ≡ m * 2 ^ (k - low f) * den z
  whole z t m g v =
      let e : 2 ^ k ≡ 2 ^ (k - low f) * l = ap (λ (y : ℕ). 2 ^ y) (sym (back k (low f) g)) ∙ pow-add 2 (k - low f) (low f) in
      eq_of_mul-eq-mul_right l (pow_pos (low f)) (num z) (m * 2 ^ (k - low f) * den z)
      (cross z t (m * 2 ^ k) l v
      ∙ ap (λ (y : ℕ). m * y * den z) e
      ∙ ap (λ (y : ℕ). y * den z) (sym (mul_assoc m (2 ^ (k - low f)) l))
      ∙ mul_right_comm (m * 2 ^ (k - low f)) l (den z))

  module _ (x : Float) (finite-x : T (finite x)) (fits-x : T (fits f x)) where
    abbrev c : InUnits f x
    c = in_units f x finite-x fits-x

    abbrev v : ℕ
    v = c.m * 2 ^ c.j

    near_like : c.sign ≡ s → apart (signed s a) r * den x ≤ apart (signed s a) x * den r
    near_like e =
        cross_le (apart (signed s a) r) (apart (signed s a) x) (den r) (den x) (gap n (q * 2 ^ k)) (gap n v) l (pow_pos (low f)) (den_pos r) (den_pos x)
        (apart_like s a l r (q * 2 ^ k) has) (apart_like s a l x v (subst (λ (t : Bool). HasValue x t v l) e c.has))
        (R.rounded_near p n above c.m c.j c.most)

    near_unlike : c.sign ≡ not s → apart (signed s a) r * den x ≤ apart (signed s a) x * den r
    near_unlike e =
        cross_le (apart (signed s a) r) (apart (signed s a) x) (den r) (den x) (gap n (q * 2 ^ k)) (n + v) l (pow_pos (low f)) (den_pos r) (den_pos x)
        (apart_like s a l r (q * 2 ^ k) has) (apart_unlike s a l x v (subst (λ (t : Bool). HasValue x t v l) e c.has))
        (no_farther_zero v)

    pub near : apart (signed s a) r * den x ≤ apart (signed s a) x * den r
    near = ⊎_elim near_like near_unlike (like_or_not c.sign s)

    -- ---- where x is another number and equally near

    module _ (level : apart (signed s a) r * den x ≡ apart (signed s a) x * den r) (other : Same x r → ⊥) where
      tie_like : c.sign ≡ s → (m : ℕ) × (v ≡ m * 2 ^ k) × Tie n (2 ^ k) q m
      tie_like e =
          let hx : HasValue x s v l = subst (λ (t : Bool). HasValue x t v l) e c.has in
          R.rounded_tie p n above c.m c.j c.most
          (cross_eq (apart (signed s a) r) (apart (signed s a) x) (den r) (den x) (gap n (q * 2 ^ k)) (gap n v) l (pow_pos (low f)) (den_pos r) (den_pos x)
          (apart_like s a l r (q * 2 ^ k) has) (apart_like s a l x v hx) level)
          (λ g. other (same_value x r l (pow_pos (low f)) s (q * 2 ^ k) (subst (λ (z : ℕ). HasValue x s z l) g hx) has))

      no_tie : c.sign ≡ not s → ⊥
      no_tie e =
          let hx : HasValue x (not s) v l = subst (λ (t : Bool). HasValue x t v l) e c.has in
          let g : gap n (q * 2 ^ k) ≡ n + v =
          cross_eq (apart (signed s a) r) (apart (signed s a) x) (den r) (den x) (gap n (q * 2 ^ k)) (n + v) l (pow_pos (low f)) (den_pos r) (den_pos x)
          (apart_like s a l r (q * 2 ^ k) has) (apart_unlike s a l x v hx) level in
          let z : v ≡ 0 = omega (arith, no_farther_zero 0) in
          let u : gap n (q * 2 ^ k) ≡ gap n 0 = omega arith in
          no_half_zero
          (R.rounded_tie p n above 0 0 (pow_pos p) u
          (λ y. other (same_zero x r l (pow_pos (low f)) (not s) s (subst (λ (w : ℕ). HasValue x (not s) w l) z hx) (subst (λ (w : ℕ). HasValue r s w l) (sym y) has))))

      tie : (m : ℕ) × (v ≡ m * 2 ^ k) × Tie n (2 ^ k) q m
      tie = ⊎_elim tie_like (λ e. absurd (no_tie e)) (like_or_not c.sign s)

      -- digits are dropped, so p are left
      left : 2 ^ (p - 1) ≤ n / 2 ^ k
      left = R.digits_left p n above (some_dropped k tie.2.half)
        where
          some_dropped : (j : ℕ) → n % 2 ^ j * 2 ≡ 2 ^ j → 0 < j
          some_dropped zero e = absurd (omega (arith, mod-one n))
          some_dropped (suc j) e = omega arith

      pub round_even : LastDigit p 0 r
      round_even = go (eq-or-lt_of_le (R.rounded_most p n))
        where
          g : low f ≤ k
          g = deep tie.2.half

          go : (q ≡ 2 ^ p) ⊎ (q < 2 ^ p) → LastDigit p 0 r
          go (inr y) =
              record {
                significand = q;
                exponent = k - low f;
                least = le_trans left (R.rounded_least p n);
                most = y;
                last = tie.2.even;
                value = whole r s q g has;
              }
          go (inl y) =
              record {
                significand = 2 ^ (p - 1);
                exponent = suc (k - low f);
                least = le_refl (2 ^ (p - 1));
                most = pow-lt (omega (arith, above));
                last = even_pow (p - 1) (omega (arith, two f));
                value = whole r s q g has ∙ ap (λ (z : ℕ). z * den r) (ap (λ (z : ℕ). z * 2 ^ (k - low f)) y ∙ carry p (k - low f) above);
              }

      pub other_odd : LastDigit p 1 x
      other_odd =
          let m = tie.0 in
          let u : m ≤ 2 ^ p = le_trans tie.2.most (kept-lt p n) in
          record {
            significand = m;
            exponent = k - low f;
            least = le_trans left tie.2.least;
            most = lt_of_le-ne u (λ e. odd_not_pow m p tie.2.odd above e);
            last = tie.2.odd;
            value = whole x c.sign m (deep tie.2.half) (subst (λ (z : ℕ). HasValue x c.sign z l) tie.1 c.has);
          }

-- ---- whole numbers of 64 bits

in_range : (a : ℕ) → a ≤ 2 ^ 63 → a < 2 ^ emax binary64
in_range a h = lt_of_le_of_lt h (lit< tt)

pub nearest_held : (i : ℤ) → mag i < 2 ^ 63 → T (finite (of_int binary64 i)) × T (fits binary64 (of_int binary64 i))
unfolding of_int
nearest_held (pos a) h = (round_finite binary64 false a (in_range a (le_of_lt h)), of_int-fits binary64 (pos a))
nearest_held (negsuc a) h = (round_finite binary64 true (suc a) (in_range (suc a) h), of_int-fits binary64 (negsuc a))

-- no value is nearer
pub nearest_f64 : (i : ℤ) → mag i < 2 ^ 63 → (x : Float) → T (finite x) → T (fits binary64 x) → apart i (of_int binary64 i) * den x ≤ apart i x * den (of_int binary64 i)
unfolding of_int
nearest_f64 (pos a) h x t g = near binary64 false a (in_range a (le_of_lt h)) x t g
nearest_f64 (negsuc a) h x t g = near binary64 true (suc a) (in_range (suc a) h) x t g

-- where another value is as near, the significand of the result is even and that of the other is odd
pub nearest_even : (i : ℤ) → mag i < 2 ^ 63 → (x : Float) → T (finite x) → T (fits binary64 x) → apart i (of_int binary64 i) * den x ≡ apart i x * den (of_int binary64 i) → (Same x (of_int binary64 i) → ⊥) → LastDigit 53 0 (of_int binary64 i) × LastDigit 53 1 x
unfolding of_int
nearest_even (pos a) h x t g e d =
    let b = in_range a (le_of_lt h) in
    (round_even binary64 false a b x t g e d, other_odd binary64 false a b x t g e d)
nearest_even (negsuc a) h x t g e d =
    let b = in_range (suc a) h in
    (round_even binary64 true (suc a) b x t g e d, other_odd binary64 true (suc a) b x t g e d)

-- ---- worked examples

-- 9007199254740993 is as far from 9007199254740992 = 1 * 2 ^ 53 as from 9007199254740994 = 4503599627370497 * 2, and becomes the first
tie_down : of_int binary64 (pos 9007199254740993) ≡ fin false 1 (pos 53)
unfolding of_int round odd units size climb span
tie_down = refl

tie_down_level : (apart (pos 9007199254740993) (fin false 1 (pos 53)) ≡ 1) × (apart (pos 9007199254740993) (fin false 4503599627370497 (pos 1)) ≡ 1)
tie_down_level = (refl, refl)

-- 9007199254740995 is as far from 9007199254740994 as from 9007199254740996 = 2251799813685249 * 4, and becomes the second
tie_up : of_int binary64 (pos 9007199254740995) ≡ fin false 2251799813685249 (pos 2)
unfolding of_int round odd units size climb span
tie_up = refl

tie_up_level : (apart (pos 9007199254740995) (fin false 4503599627370497 (pos 1)) ≡ 1) × (apart (pos 9007199254740995) (fin false 2251799813685249 (pos 2)) ≡ 1)
tie_up_level = (refl, refl)

-- -9223372036854775807 becomes -(2 ^ 63), at the distance 1
lowest_but_one : of_int binary64 (negsuc 9223372036854775806) ≡ fin true 1 (pos 63)
unfolding of_int round odd units size climb span
lowest_but_one = refl

lowest_but_one_apart : apart (negsuc 9223372036854775806) (fin true 1 (pos 63)) ≡ 1
lowest_but_one_apart = refl
