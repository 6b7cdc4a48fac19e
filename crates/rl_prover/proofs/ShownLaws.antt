-- A slice of zeros shows nothing, and one that is long enough shows all and is kept.
-- Assumes nothing.
use Prim.Native.Nat.{ℕ, zero, suc, ◌+◌, ◌-◌, ◌≤◌, ◌<◌}
use mathlib.Core.Path.{◌≡◌, refl, sym, ap, ◌∙◌}
use mathlib.Core.List.{List, [], ◌∷◌, ◌++◌}
use native.Mathlib.Omega.{arith}
use borrow.Author.Tests.{lt-ltb, le-ltb}
use lib.ListN.{length, take, replicate, length-replicate}
use Rattle.rl_prover.specs.Reports.{Shown, kept_at}

take_zeros : (n : ℕ) → take n (replicate {A = ℕ} n 0) ≡ replicate n 0
take_zeros zero = refl
take_zeros (suc n) = ap (λ (l : List ℕ). 0 ∷ l) (take_zeros n)

pub none_shown : (l : List ℕ) (n : ℕ) → l ≡ replicate n 0 → Shown l [] 0
none_shown l n e =
    let k : length l ≡ n = ap length e ∙ length-replicate n 0 in
    record { slice = rw k (e ∙ sym (take_zeros n)); place = refl }

few : (n k : ℕ) → n ≤ k → take n (replicate {A = ℕ} k 0) ≡ replicate n 0
few zero k l = refl
few (suc n) zero l = absurd (omega arith)
few (suc n) (suc k) l = ap (λ (x : List ℕ). 0 ∷ x) (few n k (omega arith))

pub all_shown : (n k : ℕ) (e : List ℕ) → length e ≤ n → n ≤ length e + k → take n (e ++ replicate k 0) ≡ e ++ replicate (n - length e) 0
all_shown n k [] h l = let z : n - 0 ≡ n = omega arith in few n k (omega arith) ∙ rw z refl
all_shown zero k (x ∷ e) h l = absurd (omega arith)
all_shown (suc n) k (x ∷ e) h l =
    let z : suc n - suc (length e) ≡ n - length e = omega arith in
    ap (λ (y : List ℕ). x ∷ y) (all_shown n k e (omega arith) (omega arith) ∙ rw z refl)

-- what is kept

pub kept_none : (room at : ℕ) (l out : List ℕ) → room < at → out ≡ replicate (length l) 0 → out ≡ kept_at room at l
unfolding kept_at
kept_none room at l out h e = rw (lt-ltb room at h) e

pub kept_all : (room at : ℕ) (l : List ℕ) → at ≤ room → l ≡ kept_at room at l
unfolding kept_at
kept_all room at l h = rw (le-ltb room at h) refl
