-- Bytes behind bytes in a slice.
-- Assumes nothing.
use Prim.Native.Nat.{ℕ, ◌+◌, ◌-◌, ◌≤◌, min}
use mathlib.Core.Path.{◌≡◌, refl, sym, ap, subst, ◌∙◌}
use mathlib.Core.List.{List, [], ◌++◌, append_assoc, append-nil}
use native.Mathlib.Omega.{arith}
use lib.ListN.{length, take, drop, replicate, length-append}
use lib.Seq.{take-append_seam, take-append-le, take-append-add, drop-append-add, take-length}
use Rattle.rl_laws.specs.Tests.{by_ltb}
use Rattle.rl_prover.specs.Reports.{Shown}
use Rattle.rl_prover.proofs.ShownLaws.{all_shown}
use Rattle.rl_lines.proofs.LineLaws.{drop_zeros}
use Rattle.rl_text_out.specs.Put.{fitting, with_text}
use Rattle.rl_text_out.proofs.Joined.{length_with, with_past}
use Rattle.rl_pages.specs.Added.{Adds}

-- ---- a text more in a slice that shows others

-- the text and zeros, as far as there is room for m
room_for : (m n : ℕ) (t : List ℕ) → m ≤ n → take m (t ++ replicate n 0) ≡ take (min (length t) m) t ++ replicate (m - min (length t) m) 0
room_for m n t l =
    by_ltb m (length t)
    (λ h.
    let z : min (length t) m ≡ m = omega arith in
    let y : m - m ≡ 0 = omega arith in
    rw (z, y) (take-append-le m t (replicate n 0) (omega arith) ∙ sym (append-nil (take m t))))
    (λ h.
    let z : min (length t) m ≡ length t = omega arith in
    rw (z, take-length t) (all_shown m n t h (omega arith)))

module _ (l e t : List ℕ) (at : ℕ) (sh : Shown l e at) where
  abbrev n : ℕ
  n = length l

  place_is : length e ≡ at
  place_is = sh.place

  -- past the end
  none_more : n ≤ at → with_text l at t ≡ take n (e ++ t ++ replicate n 0)
  none_more h =
      with_past l at t h ∙ sh.slice ∙ take-append-le n e (replicate n 0) (omega (arith, place_is))
      ∙ rw (append_assoc e t (replicate n 0)) (sym (take-append-le n e (t ++ replicate n 0) (omega (arith, place_is))))

  -- within
  module _ (h : at ≤ n) where
    abbrev m : ℕ
    m = n - at

    whole : l ≡ e ++ replicate m 0
    whole = sh.slice ∙ all_shown n n e (omega (arith, place_is)) (omega arith) ∙ rw place_is refl

    fits_so : fitting l at t ≡ min (length t) m
    unfolding fitting
    fits_so = refl

    front : take at l ≡ e
    front = ap (take at) whole ∙ ap (λ (i : ℕ). take i (e ++ replicate m 0)) (sym place_is) ∙ take-append_seam e (replicate m 0)

    back : drop (at + min (length t) m) l ≡ replicate (m - min (length t) m) 0
    back =
        let k : ℕ = min (length t) m in
        ap (drop (at + k)) whole ∙ ap (λ (i : ℕ). drop (i + k) (e ++ replicate m 0)) (sym place_is)
        ∙ drop-append-add e (replicate m 0) k ∙ drop_zeros k m

    more : with_text l at t ≡ take n (e ++ t ++ replicate n 0)
    unfolding with_text
    more =
        let k : n ≡ length e + m = omega (arith, place_is) in
        rw (fits_so, front, back, append_assoc e (take (min (length t) m) t) (replicate (m - min (length t) m) 0))
        (sym (ap (λ (i : ℕ). take i (e ++ t ++ replicate n 0)) k ∙ rw (append_assoc e t (replicate n 0)) (take-append-add e (t ++ replicate n 0) m)
        ∙ ap (λ (x : List ℕ). e ++ x) (room_for m n t (omega arith))))

  pub shown_more : Shown (with_text l at t) (e ++ t) (at + length t)
  shown_more =
      record {
        slice = rw (length_with l at t) (by_ltb n at (λ h. none_more (omega arith)) more);
        place = length-append e t ∙ ap (λ (i : ℕ). i + length t) place_is;
      }

-- ---- bytes behind bytes

pub adds_text : (l t out : List ℕ) (at r : ℕ) → out ≡ with_text l at t → r ≡ at + length t → Adds l at t out r
adds_text l t out at r f g e sh = rw (f, g) (shown_more l e t at sh)

pub adds_none : (l : List ℕ) (at : ℕ) → Adds l at [] l at
adds_none l at e sh = rw (append-nil e) sh

pub adds_then : (l a m b out : List ℕ) (at p r : ℕ) → Adds l at a m p → Adds m p b out r → Adds l at (a ++ b) out r
adds_then l a m b out at p r f g e sh = rw (← append_assoc e a b) (g (e ++ a) (f e sh))

pub adds_as : (l a b out : List ℕ) (at r : ℕ) → a ≡ b → Adds l at a out r → Adds l at b out r
adds_as l a b out at r e = subst (λ (x : List ℕ). Adds l at x out r) e
