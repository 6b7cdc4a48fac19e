-- A natural number rounded to p binary digits with zeros after them, a tie to the even one: no number of that form is nearer.
-- Nothing here is about floats. Assumes nothing.
use Rattle.std.specs.Prelude.{◌≡◌, ℕ, suc, ◌+◌, ◌-◌, ◌*◌, ◌/◌, ◌%◌, ◌^◌, ◌<◌, ◌≤◌, not, T, ◌⊎◌, ◌==◌, ◌≢◌, refl}
use Prim.Native.Nat.{compare, Ordering}
use Rattle.std.proofs.Common.{sym, ap, subst, ◌∙◌, inl, inr, arith, le_of_eq, le_trans, le_of_lt, lt_of_lt_of_le, lt_of_le_of_lt, ne_of_lt, add-mul, suc-mul, mul_comm, mul_assoc, mul-le-mul_right, div-add-mod', mod-lt, le-div_iff_mul-le, leb→le, eqb→eq, pow-add, pow_pos, pow_mono, shl_lt}
use Rattle.std.proofs.Math.Nat.{mul-sub}
use Rattle.std.proofs.Math.Dec.{is_le, compare_is_eq, nleb→lt, eqb_refl}
use Rattle.std.proofs.Math.Arith.{lt_of_le-ne}
use Rattle.std.specs.Float.Ieee.{size, nearest}
use Rattle.std.specs.Float.Ieee.Digits.{size_reaches, back}
use Rattle.std.specs.Float.Ieee.Fits.{kept-lt, nearest-le}
use Rattle.std.specs.Float.Ieee.Nearest.{closest, nearest-ge}
use Rattle.rl_laws.specs.Tests.{by_ltb}

-- |a - b|
abbrev pub gap : ℕ → ℕ → ℕ
gap a b = (a - b) + (b - a)

pub gap_mul : (a b c : ℕ) → gap (a * c) (b * c) ≡ gap a b * c
gap_mul a b c =
    let e : (a - b) * c ≡ a * c - b * c = rw (mul_comm (a - b) c, mul_comm a c, mul_comm b c) (mul-sub c a b) in
    let f : (b - a) * c ≡ b * c - a * c = rw (mul_comm (b - a) c, mul_comm a c, mul_comm b c) (mul-sub c b a) in
    rw (add-mul (a - b) (b - a) c, e, f) refl

nearer : (n a b : ℕ) → a < b → b ≤ n → gap n b < gap n a
nearer n a b h l = omega arith

-- ---- the nearest multiple of u

abbrev Order : Ordering → ℕ → ℕ → Type 0
Order Ordering.lt a b = a < b
Order Ordering.eq a b = a ≡ b
Order Ordering.gt a b = b < a

order : (a b : ℕ) → Order (compare a b) a b
order a b = go (compare a b) (leb→le a b) (nleb→lt a b) (eqb→eq a b) (λ (e : a ≡ b). subst (λ (x : ℕ). T (a == x)) e (eqb_refl a))
  where
    go : (o : Ordering) → (T (is_le o) → a ≤ b) → (T (not (is_le o)) → b < a) → (T (compare_is_eq o) → a ≡ b) → (a ≡ b → T (compare_is_eq o)) → Order o a b
    go Ordering.lt h k e n = lt_of_le-ne (h tt) n
    go Ordering.eq h k e n = e tt
    go Ordering.gt h k e n = k tt

-- M is below w, is w, is the next one, or is above that
abbrev Place : ℕ → ℕ → ℕ → Type 0
Place u w M = (M * u + u ≤ w * u) ⊎ ((M ≡ w) ⊎ ((M ≡ suc w) ⊎ (w * u + u + u ≤ M * u)))

place : (u w M : ℕ) → Place u w M
place u w M =
    by_ltb M w
    (λ p. inl (le_trans (le_of_eq (sym (suc-mul M u))) (mul-le-mul_right u p)))
    (λ p. by_ltb (suc w) M
    (λ q. inr (inr (inr (le_trans (le_of_eq (sym (suc-mul (suc w) u ∙ ap (λ (z : ℕ). z + u) (suc-mul w u)))) (mul-le-mul_right u q)))))
    (λ q. by_ltb w M (λ l. inr (inr (inl (omega arith)))) (λ l. inr (inl (omega arith)))))

-- w * u or the next multiple is nearest to n, which is w * u + r
module _ (n u w r : ℕ) (e : w * u + r ≡ n) (R : r < u) where
  near_low : (M : ℕ) → r * 2 ≤ u → gap n (w * u) ≤ gap n (M * u)
  near_low M h = go (place u w M)
    where
      go : Place u w M → gap n (w * u) ≤ gap n (M * u)
      go (inl p) = omega arith
      go (inr (inl p)) = rw p (omega arith)
      go (inr (inr (inl p))) = rw (p, suc-mul) (omega arith)
      go (inr (inr (inr p))) = omega arith

  near_high : (M : ℕ) → u ≤ r * 2 → gap n (w * u + u) ≤ gap n (M * u)
  near_high M h = go (place u w M)
    where
      go : Place u w M → gap n (w * u + u) ≤ gap n (M * u)
      go (inl p) = omega arith
      go (inr (inl p)) = rw p (omega arith)
      go (inr (inr (inl p))) = rw (p, suc-mul) (omega arith)
      go (inr (inr (inr p))) = omega arith

  -- another multiple is equally near to n only as the other neighbour, with n half-way between
  tie_low : (M : ℕ) → r * 2 ≤ u → gap n (w * u) ≡ gap n (M * u) → (M ≢ w) → (M ≡ suc w) × (r * 2 ≡ u)
  tie_low M h t d = go (place u w M)
    where
      go : Place u w M → (M ≡ suc w) × (r * 2 ≡ u)
      go (inl p) = absurd (omega arith)
      go (inr (inl p)) = absurd (d p)
      go (inr (inr (inl p))) = (p, let t' : gap n (w * u) ≡ gap n (w * u + u) = t ∙ rw (p, suc-mul) refl in omega arith)
      go (inr (inr (inr p))) = absurd (omega arith)

  tie_high : (M : ℕ) → u ≤ r * 2 → gap n (w * u + u) ≡ gap n (M * u) → (M ≢ suc w) → (M ≡ w) × (r * 2 ≡ u)
  tie_high M h t d = go (place u w M)
    where
      go : Place u w M → (M ≡ w) × (r * 2 ≡ u)
      go (inl p) = absurd (omega arith)
      go (inr (inl p)) = (p, let t' : gap n (w * u + u) ≡ gap n (w * u) = t ∙ rw p refl in omega arith)
      go (inr (inr (inl p))) = absurd (d p)
      go (inr (inr (inr p))) = absurd (omega arith)

-- n is half-way between M * u and K * u, and K is even
pub record Tie (n u K M : ℕ) : Type 0 where
  pub half : n % u * 2 ≡ u
  pub even : K % 2 ≡ 0
  pub odd : M % 2 ≡ 1
  pub least : n / u ≤ M
  pub most : M ≤ suc (n / u)

to_even : {P : Type 0} (w : ℕ) → (w % 2 ≡ 0 → w + w % 2 ≡ w → P) → (w % 2 ≡ 1 → w + w % 2 ≡ suc w → P) → P
to_even w f g = by_ltb (w % 2) 1 (λ p. f (omega arith) (omega arith)) (λ p. g (omega arith) (omega arith))

module _ (n u : ℕ) (U : 0 < u) (M : ℕ) where
  abbrev w : ℕ
  w = n / u

  near_of : (o : Ordering) → Order o (n % u * 2) u → gap n (nearest w o * u) ≤ gap n (M * u)
  near_of Ordering.lt h = near_low n u w (n % u) (div-add-mod' n u) (mod-lt n U) M (le_of_lt h)
  near_of Ordering.eq h =
      to_even w
      (λ b e. rw e (near_low n u w (n % u) (div-add-mod' n u) (mod-lt n U) M (le_of_eq h)))
      (λ b e. rw (e, suc-mul) (near_high n u w (n % u) (div-add-mod' n u) (mod-lt n U) M (le_of_eq (sym h))))
  near_of Ordering.gt h = rw suc-mul (near_high n u w (n % u) (div-add-mod' n u) (mod-lt n U) M (le_of_lt h))

  pub closest_near : gap n (closest n u * u) ≤ gap n (M * u)
  closest_near = near_of (compare (n % u * 2) u) (order (n % u * 2) u)

  tie_of : (o : Ordering) → Order o (n % u * 2) u → gap n (nearest w o * u) ≡ gap n (M * u) → (M ≢ nearest w o) → Tie n u (nearest w o) M
  tie_of Ordering.lt h t d =
      let c = tie_low n u w (n % u) (div-add-mod' n u) (mod-lt n U) M (le_of_lt h) t d in
      absurd (omega (arith, c.1))
  tie_of Ordering.eq h t d =
      to_even w
      (λ b e.
      let c = tie_low n u w (n % u) (div-add-mod' n u) (mod-lt n U) M (le_of_eq h) (rw e at t) (λ q. d (q ∙ sym e)) in
      record { half = h; even = omega arith; odd = omega (arith, c.0); least = omega (arith, c.0); most = omega (arith, c.0) })
      (λ b e.
      let c = tie_high n u w (n % u) (div-add-mod' n u) (mod-lt n U) M (le_of_eq (sym h)) (rw (e, suc-mul) at t) (λ q. d (q ∙ sym e)) in
      record { half = h; even = omega arith; odd = omega (arith, c.0); least = omega (arith, c.0); most = omega (arith, c.0) })
  tie_of Ordering.gt h t d =
      let c = tie_high n u w (n % u) (div-add-mod' n u) (mod-lt n U) M (le_of_lt h) (rw suc-mul at t) d in
      absurd (omega (arith, c.1))

  pub closest_tie : gap n (closest n u * u) ≡ gap n (M * u) → (M ≢ closest n u) → Tie n u (closest n u) M
  closest_tie = tie_of (compare (n % u * 2) u) (order (n % u * 2) u)

-- ---- n rounded to p digits: the digits after the first p are dropped, and `unit` is the weight of the last one that stays

module _ (p n : ℕ) where
  abbrev pub dropped : ℕ
  dropped = size n - p

  abbrev pub unit : ℕ
  unit = 2 ^ dropped

  abbrev pub rounded : ℕ
  rounded = closest n unit

  pub rounded_most : rounded ≤ 2 ^ p
  rounded_most = le_trans (nearest-le (n / unit) (compare (n % unit * 2) unit)) (kept-lt p n)

  pub rounded_least : n / unit ≤ rounded
  rounded_least = nearest-ge (n / unit) (compare (n % unit * 2) unit)

  module _ (P : 0 < p) where
    reaches : 0 < dropped → 2 ^ (p - 1) * unit ≤ n
    reaches h = le_trans (le_of_eq (sym (pow-add 2 (p - 1) dropped))) (size_reaches n (p - 1 + dropped) (omega arith))

    -- where digits are dropped, p are left
    pub digits_left : 0 < dropped → 2 ^ (p - 1) ≤ n / unit
    digits_left h = (le-div_iff_mul-le (pow_pos dropped)).1 (reaches h)

    module _ (m j : ℕ) (h : m < 2 ^ p) where
      multiple : dropped ≤ j → m * 2 ^ j ≡ m * 2 ^ (j - dropped) * unit
      multiple l =
          let e : 2 ^ j ≡ 2 ^ (j - dropped) * unit = ap (λ (z : ℕ). 2 ^ z) (sym (back j dropped l)) ∙ pow-add 2 (j - dropped) dropped in
          rw (e, mul_assoc) refl

      small : j < dropped → m * 2 ^ j < 2 ^ (p - 1) * unit
      small l = lt_of_lt_of_le (shl_lt p j h) (le_trans (pow_mono (omega arith)) (le_of_eq (pow-add 2 (p - 1) dropped)))

      nearer_one : j < dropped → gap n (rounded * unit) < gap n (m * 2 ^ j)
      nearer_one l = lt_of_le_of_lt (closest_near n unit (pow_pos dropped) (2 ^ (p - 1))) (nearer n (m * 2 ^ j) (2 ^ (p - 1) * unit) (small l) (reaches (omega arith)))

      pub rounded_near : gap n (rounded * unit) ≤ gap n (m * 2 ^ j)
      rounded_near =
          by_ltb j dropped
          (λ l. le_of_lt (nearer_one l))
          (λ l. rw (multiple l) (closest_near n unit (pow_pos dropped) (m * 2 ^ (j - dropped))))

      pub rounded_tie : gap n (rounded * unit) ≡ gap n (m * 2 ^ j) → (m * 2 ^ j ≢ rounded * unit) → (M : ℕ) × (m * 2 ^ j ≡ M * unit) × Tie n unit rounded M
      rounded_tie t d =
          by_ltb j dropped
          (λ l. absurd (ne_of_lt (nearer_one l) t))
          (λ l.
          let e = multiple l in
          let M = m * 2 ^ (j - dropped) in
          (M, e, closest_tie n unit (pow_pos dropped) M (t ∙ ap (gap n) e) (λ q. d (e ∙ ap (λ (z : ℕ). z * unit) q))))
