-- Two lists of numbers set one after the other at the front of zeros.
-- Assumes nothing.
use Rattle.std.specs.Prelude.{ℕ, zero, suc, ◌+◌, ◌-◌, ◌≤◌, ◌≡◌, List, ◌++◌, length, drop, replicate}
use Rattle.std.proofs.Common.{ap, ◌∙◌, arith, length-append, length-drop, take_at, drop_at, drop-drop}
use Rattle.std.proofs.lemmas.List.{length-replicate}
use Rattle.std.proofs.lemmas.List.Edits.{sets, sets-eq}

pub drop_replicate : (n k x : ℕ) → drop n (replicate k x) ≡ replicate (k - n) x
drop_replicate zero k x = let e : k - 0 ≡ k = omega arith in rw e
drop_replicate (suc n) zero x = let e : 0 - suc n ≡ 0 = omega arith in rw e
drop_replicate (suc n) (suc k) x = let e : suc k - suc n ≡ k - n = omega arith in rw e (drop_replicate n k x)

two_sets : (w xs ys : List ℕ) (a b : ℕ) → length xs ≡ a → length ys ≡ b → a + b ≤ length w → sets (sets w 0 xs) a ys ≡ xs ++ ys ++ drop (a + b) w
two_sets w xs ys a b d e l =
    let z : 0 + length xs ≡ a = omega arith in
    let x : sets w 0 xs ≡ xs ++ drop a w = rw z at (sets-eq xs w 0 (omega arith)) in
    let y = sets-eq ys (xs ++ drop a w) a (simp (length-append, length-drop) (omega arith)) in
    rw (x, y, take_at xs (drop a w) a d, ← (drop-drop (length ys) a (xs ++ drop a w)), drop_at xs (drop a w) a d, drop-drop, e)

pub two_filled : (m : ℕ) (xs ys : List ℕ) (a b : ℕ) → length xs ≡ a → length ys ≡ b → a + b ≤ m → sets (sets (replicate m 0) 0 xs) a ys ≡ xs ++ ys ++ replicate (m - (a + b)) 0
two_filled m xs ys a b d e l =
    two_sets (replicate m 0) xs ys a b d e (rw length-replicate l)
    ∙ ap (λ (r : List ℕ). xs ++ ys ++ r) (drop_replicate (a + b) m 0)
