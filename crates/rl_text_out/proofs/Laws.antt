-- Laws on a text in a buffer, and on the digits of a number.
-- Assumes nothing.
use Prim.Native.Nat.{ℕ, zero, suc, ◌+◌, ◌-◌, ◌*◌, ◌/◌, ◌%◌, ◌^◌, ◌≤◌, ◌<◌, min}
use mathlib.Core.Path.{◌≡◌, refl, sym, ap, ◌∙◌}
use mathlib.Core.List.{List}
use native.Mathlib.Nat.{mod-eq_of_lt, pow-suc, pow-le-pow_right}
use native.Mathlib.Omega.{arith}
use lib.ListN.{length, take}
use lib.Seq.{paste}
use borrow.Author.Tests.{lt-ltb, le-ltb}
use Rattle.io.specs.Digits.{last_digits, IsDigitCount}
use Rattle.rl_spec.specs.Message.{decimal_by, decimal}
use Rattle.rl_laws.specs.Tests.{by_ltb}
use Rattle.rl_text_out.specs.Put.{fitting, with_text, after_text}
use Rattle.rl_text_out.proofs.Joined.{after_past, with_past}

-- where there is no room
module _ (out text : List ℕ) (at : ℕ) (h : length out ≤ at) where
  pub after_none : at ≡ after_text out at text
  after_none = sym (after_past out at text h)

  pub with_none : out ≡ with_text out at text
  with_none = sym (with_past out at text h)

-- where there is some
module _ (out text : List ℕ) (at n : ℕ) (e : n ≡ min (length text) (length out - at)) where
  pub after_some : at + n ≡ after_text out at text
  unfolding after_text fitting
  after_some = ap (λ (k : ℕ). at + k) e

  pub with_some : (w : List ℕ) → w ≡ paste out at text n → w ≡ with_text out at text
  unfolding with_text fitting
  with_some w f = f ∙ ap (λ (k : ℕ). paste out at text k) e

-- the fewest digits of a number are those of `decimal`

by_digits : (k j n : ℕ) → IsDigitCount 10 1 n k → k ≤ j → last_digits 10 k n ≡ decimal_by j n
unfolding decimal_by
by_digits zero j n f h = absurd (omega arith)
by_digits (suc k) zero n f h = absurd (omega arith)
by_digits (suc zero) (suc j) n f h =
    let l : n < 10 = f.1 in
    rw (mod-eq_of_lt l, lt-ltb n 10 l) refl
by_digits (suc (suc k)) (suc j) n f h =
    let z : suc (suc k) - 1 ≡ suc k = omega arith in
    let low : 10 ^ suc k ≤ n = rw z at (f.2 (omega arith)) in
    let p : 10 ^ suc k ≡ 10 ^ k * 10 = pow-suc 10 k in
    let one : 1 ≤ 10 ^ k = pow-le-pow_right {n = 10} (omega arith) {i = 0} {j = k} (omega arith) in
    let q : 10 ^ suc (suc k) ≡ 10 ^ suc k * 10 = pow-suc 10 (suc k) in
    let y : suc k - 1 ≡ k = omega arith in
    let g : IsDigitCount 10 1 (n / 10) (suc k) = (omega arith, omega arith, λ l. rw y (omega arith)) in
    rw (le-ltb n 10 (omega arith), lt-ltb (n % 10) 10 (omega arith), by_digits (suc k) j (n / 10) g (omega arith)) refl

-- 64 bits have at most 20
pub is_decimal : (n k : ℕ) → IsDigitCount 10 1 n k → n < 2 ^ 64 → last_digits 10 k n ≡ decimal n
unfolding decimal
is_decimal n k f h = by_digits k 20 n f (by_ltb k 21 (λ l. omega arith) (λ l. absurd (many l)))
  where
    many : 21 ≤ k → ⊥
    many l =
        let p : 10 ^ 20 ≤ 10 ^ (k - 1) = pow-le-pow_right {n = 10} (omega arith) {i = 20} {j = k - 1} (omega arith) in
        let q : 10 ^ (k - 1) ≤ n = f.2 (omega arith) in
        omega arith

module _ (out text : List ℕ) (at n k : ℕ) (f : IsDigitCount 10 1 n k) (h : n < 2 ^ 64) (e : take k text ≡ last_digits 10 k n) where
  pub after_number : (r : ℕ) → r ≡ after_text out at (take k text) → r ≡ after_text out at (decimal n)
  after_number r g = g ∙ ap (λ (t : List ℕ). after_text out at t) (e ∙ is_decimal n k f h)

  pub with_number : (w : List ℕ) → w ≡ with_text out at (take k text) → w ≡ with_text out at (decimal n)
  with_number w g = g ∙ ap (λ (t : List ℕ). with_text out at t) (e ∙ is_decimal n k f h)
