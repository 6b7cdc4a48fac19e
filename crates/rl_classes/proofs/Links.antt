-- Laws for the functions on two texts: the first mismatch, whether they are the same.
-- Assumes nothing.
use Prim.Native.Nat.{ℕ, suc, ◌+◌, ◌-◌, ◌≤◌, ◌<◌, min, max}
use mathlib.Core.Path.{◌≡◌, refl, sym, ap, ◌∙◌}
use mathlib.Core.Bool.{Bool, true, false}
use mathlib.Core.List.{List, [], ◌∷◌, ◌++◌}
use native.Mathlib.Omega.{arith}
use native.Mathlib.Numerals.{add-one}
use lib.ListN.{length, get_or, take, drop, length-drop, drop_of_length-le, take-append-drop}
use lib.Seq.{drop-cons}
use borrow.Author.Tests.{eq-eqb, ne_eqb}
use Rattle.rl_laws.specs.Tests.{by_ltb, by_eqb}
use Rattle.rl_laws.specs.Words.{eight_at, Word, eight_then, eight_long, same_eight}
use Rattle.rl_spec.specs.Values.{same_text}
use Rattle.rl_classes.specs.Links.{common, mismatch}
use Rattle.rl_classes.proofs.Same.{never, same_equal, equal_same, apart_same}

-- ---- the first mismatch; whole is what the loop has to answer

common_front : (s u v : List ℕ) → common (s ++ u) (s ++ v) ≡ length s + common u v
unfolding common
common_front [] u v = omega arith
common_front (x ∷ s) u v = rw (eq-eqb x x refl, common_front s u v) (omega arith)

module _ (a b : List ℕ) (i whole : ℕ) (v : whole ≡ mismatch a b i) where
  pub mismatch_word : (n x y : ℕ) → n ≡ min (length a) (length b) → 8 ≤ n - i → Word a i x → Word b i y → x ≡ y → whole ≡ mismatch a b (i + 8)
  unfolding mismatch
  mismatch_word n x y p l wa wb e =
      let f : eight_at a i ≡ eight_at b i = same_equal (eight_at a i) (eight_at b i) (same_eight wa wb (omega arith) (omega arith) ∙ eq-eqb x y e) in
      let g : common (drop i a) (drop i b) ≡ 8 + common (drop (i + 8) a) (drop (i + 8) b) = rw (eight_then a i, eight_then b i, f, common_front (eight_at b i) (drop (i + 8) a) (drop (i + 8) b), eight_long b i (omega arith)) refl in
      v ∙ rw g (omega arith)

  none : common (drop i a) (drop i b) ≡ 0 → i ≡ whole
  unfolding mismatch
  none e = sym (v ∙ rw e (omega arith))

  pub mismatch_end : length a ≤ i → i ≡ whole
  unfolding common
  mismatch_end p = none (rw (drop_of_length-le a p) refl)

  module _ (p : i < length a) where
    pub mismatch_short : length b ≤ i → i ≡ whole
    unfolding common
    mismatch_short q = none (rw (drop-cons a i 0 p, drop_of_length-le b q) refl)

    module _ (q : i < length b) where
      pub mismatch_apart : (get_or a i 0 ≡ get_or b i 0 → ⊥) → i ≡ whole
      unfolding common
      mismatch_apart h = none (rw (drop-cons a i 0 p, drop-cons b i 0 q, ne_eqb (get_or a i 0) (get_or b i 0) h) refl)

      pub mismatch_more : get_or a i 0 ≡ get_or b i 0 → whole ≡ mismatch a b (i + 1)
      unfolding mismatch common
      mismatch_more h =
          let e : common (drop i a) (drop i b) ≡ suc (common (drop (i + 1) a) (drop (i + 1) b)) = rw (drop-cons a i 0 p, drop-cons b i 0 q, eq-eqb (get_or a i 0) (get_or b i 0) h, add-one i) refl in
          v ∙ rw e (omega arith)

-- past all bytes of a
pub mismatch_done : (a b : List ℕ) (at i : ℕ) → mismatch a b at ≡ mismatch a b i → length a ≤ i → (at ≤ length a → i ≤ length a) → max at (length a) ≡ mismatch a b at
mismatch_done a b at i v h k =
    by_ltb at (length a)
    (λ l.
    let e : i ≡ mismatch a b at = mismatch_end a b i (mismatch a b at) v h in
    let f : i ≤ length a = k (omega arith) in
    omega arith)
    (λ l. let e : at ≡ mismatch a b at = mismatch_end a b at (mismatch a b at) refl l in omega arith)

-- ---- whether they are the same

common_self : (x : List ℕ) → common x x ≡ length x
unfolding common
common_self [] = refl
common_self (a ∷ x) = rw (eq-eqb a a refl) (ap suc (common_self x))

common_all : (x y : List ℕ) → length x ≤ common x y → length y ≤ common x y → x ≡ y
unfolding common
common_all [] [] h k = refl
common_all [] (b ∷ y) h k = absurd (omega arith)
common_all (a ∷ x) [] h k = absurd (omega arith)
common_all (a ∷ x) (b ∷ y) h k =
    by_eqb a b
    (λ p.
    let h' : suc (length x) ≤ suc (common x y) = rw (eq-eqb a b p) at h in
    let k' : suc (length y) ≤ suc (common x y) = rw (eq-eqb a b p) at k in
    let q : x ≡ y = common_all x y (omega arith) (omega arith) in
    cc)
    (λ p.
    let h' : suc (length x) ≤ 0 = rw (ne_eqb a b p) at h in
    absurd (omega arith))

mismatch_self : (x y : List ℕ) (at : ℕ) → x ≡ y → (length x ≤ mismatch x y at) × (length y ≤ mismatch x y at)
unfolding mismatch
mismatch_self x y at e =
    let f : common (drop at y) (drop at y) ≡ length y - at = common_self (drop at y) ∙ length-drop at y in
    rw (e, f) (omega arith, omega arith)

mismatch_whole : (x y : List ℕ) (at : ℕ) → length x ≤ mismatch x y at → length y ≤ mismatch x y at → take at x ≡ take at y → x ≡ y
unfolding mismatch
mismatch_whole x y at h k e =
    let l : length (drop at x) ≡ length x - at = length-drop at x in
    let m : length (drop at y) ≡ length y - at = length-drop at y in
    let f : drop at x ≡ drop at y = common_all (drop at x) (drop at y) (omega arith) (omega arith) in
    sym (take-append-drop at x) ∙ rw (e, f) (take-append-drop at y)

both : (x y z w : List ℕ) → (x ≡ y → z ≡ w) → (z ≡ w → x ≡ y) → same_text x y ≡ same_text z w
both x y z w f g = go (same_text z w) refl
  where
    go : (t : Bool) → same_text z w ≡ t → same_text x y ≡ same_text z w
    go true e = rw e (equal_same x y (g (same_equal z w e)))
    go false e = rw e (apart_same x y (λ q. never (sym e ∙ equal_same z w (f q))))

module _ (a b : List ℕ) (at to : ℕ) (v : to ≡ mismatch a b at) where
  pub same_early : to < length a → false ≡ same_text a b
  same_early h = sym (apart_same a b (λ q. omega (arith, mismatch_self a b at q)))

  pub same_late : to < length b → false ≡ same_text a b
  same_late h = sym (apart_same a b (λ q. omega (arith, mismatch_self a b at q)))

  pub same_prefix : length a ≤ to → length b ≤ to → (x y : List ℕ) (r : Bool) → x ≡ take at a → y ≡ take at b → r ≡ same_text x y → r ≡ same_text a b
  same_prefix h k x y r e f g =
      g ∙ rw (e, f) (both (take at a) (take at b) a b (λ q. mismatch_whole a b at (omega arith) (omega arith) q) (λ q. ap (take at) q))
