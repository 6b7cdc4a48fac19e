-- Laws on the numbers of an interval, from its i-th on.
-- Assumes nothing.
use Prim.Native.Nat.{ℕ, zero, suc, ◌+◌, ◌-◌, ◌≤◌, ◌<◌}
use mathlib.Core.Path.{◌≡◌, refl}
use mathlib.Core.List.{[], ◌∷◌, map}
use native.Mathlib.Omega.{arith}
use lib.Dec.{eqb}
use borrow.Author.Tests.{ne_eqb}
use Rattle.rl_spec.specs.Ranges.{up_from}
use Rattle.rl_spec.specs.FnContracts.{is_empty}

pub from_start : (k n : ℕ) → up_from (k + 0) (n - 0) ≡ up_from k n
from_start k n =
    let a : k + 0 ≡ k = omega arith in
    let b : n - 0 ≡ n = omega arith in
    rw (a, b) refl

pub from_end : (k n i : ℕ) → n ≤ i → up_from (k + i) (n - i) ≡ []
unfolding up_from
from_end k n i h = let z : n - i ≡ 0 = omega arith in rw z refl

pub from_next : (k n i : ℕ) → i < n → up_from (k + i) (n - i) ≡ (k + i) ∷ up_from (k + (i + 1)) (n - (i + 1))
unfolding up_from
from_next k n i h =
    let a : n - i ≡ suc (n - (i + 1)) = omega arith in
    let b : k + i + 1 ≡ k + (i + 1) = omega arith in
    rw (a, b) refl

pub empty_is : {A : Type 0} (f : ℕ → A) (k n : ℕ) → is_empty (map f (up_from k n)) ≡ eqb n 0
unfolding up_from
empty_is f k zero = refl
empty_is f k (suc n) = rw (ne_eqb (suc n) 0 (λ e. omega arith)) refl
