-- The scratch slice: a piece is written behind what a section has, and the other sections keep theirs.
-- Assumes nothing.
use Rattle.std.proofs.Common.{◌≡◌, ℕ, ◌+◌, ◌≤◌, List, ◌++◌, length, take, drop, sym, refl, ap, ◌∙◌, ap₂, append_assoc, arith, length-append, length-take-le, drop-drop, take_at, take-add, drop_at}
use Rattle.rl_encode.specs.Words.{over}
use Rattle.rl_encode.proofs.Over.{before_over, after_over, length_over}
use Rattle.rl_context.specs.Additions.{Held}

pub drop_take : (n m : ℕ) (x : List ℕ) → n ≤ length x → drop n (take (n + m) x) ≡ take m (drop n x)
drop_take n m x h = ap (drop n) (take-add n m x) ∙ drop_at (take n x) (take m (drop n x)) n (length-take-le n x h)

module _ (l : List ℕ) (at : ℕ) (s : List ℕ) (h : at ≤ length l) where
  -- a section that ends before the piece
  pub held_before : (from : ℕ) (r : List ℕ) → from + length r ≤ at → at + length s ≤ length l → Held from r l → Held from r (over l at s)
  held_before from r k room e =
      sym (drop_take from (length r) (over l at s) (rw (length_over l at s room) (omega arith)))
      ∙ ap (drop from) (before_over l at s (from + length r) k h)
      ∙ drop_take from (length r) l (omega arith)
      ∙ e

  -- one that starts after it
  pub held_after : (from : ℕ) (r : List ℕ) → at + length s ≤ from → Held from r l → Held from r (over l at s)
  held_after from r k e = ap (take (length r)) (after_over l at s from k h) ∙ e

  at_over : take (length s) (drop at (over l at s)) ≡ s
  unfolding over
  at_over =
      ap (λ x. take (length s) (drop at x)) (append_assoc (take at l) s (drop (at + length s) l))
      ∙ ap (take (length s)) (drop_at (take at l) (s ++ drop (at + length s) l) at (length-take-le at l h))
      ∙ take_at s (drop (at + length s) l) (length s) refl

-- the section itself
pub held_more : (l : List ℕ) (from : ℕ) (r s : List ℕ) (at : ℕ) → at ≡ from + length r → at + length s ≤ length l → Held from r l → Held from (r ++ s) (over l at s)
held_more l from r s at q room e =
    ap (λ n. take n (drop from (over l at s))) (length-append r s)
    ∙ take-add (length r) (length s) (drop from (over l at s))
    ∙ ap₂ (λ x y. x ++ y) (held_before l at s (omega arith) from r (omega arith) room e)
    (ap (take (length s)) (drop-drop (length r) from (over l at s) ∙ ap (λ n. drop n (over l at s)) (sym q)) ∙ at_over l at s (omega arith))
