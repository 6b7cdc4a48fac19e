-- The laws that the functions' proofs cite, and some on tests that other crates cite too.
-- Assumes nothing.
use Prim.Native.Nat.{ℕ, zero, suc, ◌+◌, ◌<◌}
use mathlib.Core.Path.{◌≡◌, refl, ◌∙◌}
use mathlib.Core.List.{List}
use native.Mathlib.Omega.{arith}
use lib.ListN.{get_or, take, drop}
use Rattle.std.proofs.lemmas.List.{get_or-take, get_or-drop}
use Rattle.rl_spec.specs.Bytes.{num_at, u16_at, u32_at}

-- the number in n bytes is the same where the bytes are
pub num_same : (s t : List ℕ) (i j n : ℕ) → ((k : ℕ) → k < n → get_or s (i + k) 0 ≡ get_or t (j + k) 0) → num_at s i n ≡ num_at t j n
unfolding num_at
num_same s t i j zero same = refl
num_same s t i j (suc n) same =
    let rest : num_at s (i + 1) n ≡ num_at t (j + 1) n = num_same s t (i + 1) (j + 1) n (λ k h. grind (arith, same (k + 1) (omega arith))) in
    grind (arith, same 0 (omega arith))

-- the numbers in 1, 2, 4 and 8 bytes
pub one : (s : List ℕ) (at : ℕ) → get_or s at 0 ≡ num_at s at 1
unfolding num_at
one s at = omega arith

pub two : (s : List ℕ) (at : ℕ) → u16_at s at ≡ num_at s at 2
unfolding u16_at num_at
two s at = omega arith

pub four : (s : List ℕ) (at : ℕ) → u32_at s at ≡ num_at s at 4
unfolding u32_at u16_at num_at
four s at =
    let a : at + 1 + 1 ≡ at + 2 = omega arith in
    rw a (omega arith)

-- the second of two u16 in a part of four bytes
pub second : (s four : List ℕ) (at : ℕ) → four ≡ take 4 (drop at s) → u16_at four 2 ≡ u16_at s (at + 2)
unfolding u16_at
second s four at e =
    let low : get_or four 2 0 ≡ get_or s (at + 2) 0 = rw e (get_or-take 4 (drop at s) 2 0 (omega arith) ∙ get_or-drop at s 2 0) in
    let high : get_or four 3 0 ≡ get_or s (at + 3) 0 = rw e (get_or-take 4 (drop at s) 3 0 (omega arith) ∙ get_or-drop at s 3 0) in
    let next : at + 2 + 1 ≡ at + 3 = omega arith in
    rw (low, high, next) refl
