-- Bytes in the place of others: one piece after another, and what is not touched.
-- Assumes nothing.
use Prim.Native.Nat.{ℕ, suc, ◌+◌, ◌-◌, ◌≤◌, ◌<◌}
use mathlib.Core.Path.{◌≡◌, refl, ap, ap₂, sym, ◌∙◌}
use mathlib.Core.List.{List, [], ◌∷◌, ◌++◌, append_assoc, append-nil}
use native.Mathlib.Omega.{arith}
use native.Mathlib.Nat.{add-zero, add_assoc}
use lib.ListN.{length, set, take, drop, length-append, length-drop, take-append-drop}
use lib.Seq.{length-take-le, take_at, drop_at, drop-drop, take-take, take-append-le, set_split, append_snoc}
use Rattle.rl_encode.specs.Words.{over}

module _ (l : List ℕ) (at : ℕ) where
  pub over_none : over l at [] ≡ l
  unfolding over
  over_none = ap₂ (λ x n. x ++ drop n l) (append-nil (take at l)) (add-zero at) ∙ take-append-drop at l

  module _ (s : List ℕ) where
    joined : over l at s ≡ (take at l ++ s) ++ drop (at + length s) l
    unfolding over
    joined = refl

    length_head : at ≤ length l → length (take at l ++ s) ≡ at + length s
    length_head h = length-append (take at l) s ∙ ap (λ n. n + length s) (length-take-le at l h)

    pub length_over : at + length s ≤ length l → length (over l at s) ≡ length l
    length_over h =
        ap length joined
        ∙ length-append (take at l ++ s) (drop (at + length s) l)
        ∙ (rw (length_head (omega arith), length-drop) (omega arith))

    pub take_over : at ≤ length l → take (at + length s) (over l at s) ≡ take at l ++ s
    take_over h = ap (take (at + length s)) joined ∙ take_at (take at l ++ s) (drop (at + length s) l) (at + length s) (length_head h)

    pub drop_over : at ≤ length l → drop (at + length s) (over l at s) ≡ drop (at + length s) l
    drop_over h = ap (drop (at + length s)) joined ∙ drop_at (take at l ++ s) (drop (at + length s) l) (at + length s) (length_head h)

    -- what stands before it, and after it
    pub before_over : (n : ℕ) → n ≤ at → at ≤ length l → take n (over l at s) ≡ take n l
    before_over n h k =
        sym (take-take n (at + length s) (over l at s) (omega arith))
        ∙ ap (take n) (take_over k)
        ∙ take-append-le n (take at l) s (rw (length-take-le at l k) h)
        ∙ take-take n at l h

    pub after_over : (n : ℕ) → at + length s ≤ n → at ≤ length l → drop n (over l at s) ≡ drop n l
    after_over n h k =
        ap (λ i. drop i (over l at s)) e
        ∙ sym (drop-drop m (at + length s) (over l at s))
        ∙ ap (drop m) (drop_over k)
        ∙ drop-drop m (at + length s) l
        ∙ ap (λ i. drop i l) (sym e)
      where
        m : ℕ
        m = n - (at + length s)

        e : n ≡ at + length s + m
        e = omega arith

    pub over_over : (t : List ℕ) → at ≤ length l → over (over l at s) (at + length s) t ≡ over l at (s ++ t)
    unfolding over
    over_over t h =
        ap₂ (λ x y. x ++ t ++ y) (take_over h) (after_over (at + length s + length t) (omega arith) h)
        ∙ ap₂ (λ x n. x ++ drop n l) (append_assoc (take at l) s t) (add_assoc at (length s) (length t) ∙ ap (λ n. at + n) (sym (length-append s t)))

pub over_one : (l : List ℕ) (at b : ℕ) → at < length l → set l at b ≡ over l at (b ∷ [])
unfolding over
over_one l at b h = set_split l at b h ∙ sym (append_snoc (take at l) b (drop (suc at) l)) ∙ ap (λ n. take at l ++ (b ∷ []) ++ drop n l) q
  where
    q : suc at ≡ at + 1
    q = omega arith

pub over_set : (l : List ℕ) (at : ℕ) (s : List ℕ) (b : ℕ) → at + length s < length l → set (over l at s) (at + length s) b ≡ over l at (s ++ b ∷ [])
over_set l at s b h =
    over_one (over l at s) (at + length s) b (rw (length_over l at s (omega arith)) h) ∙ over_over l at s (b ∷ []) (omega arith)
