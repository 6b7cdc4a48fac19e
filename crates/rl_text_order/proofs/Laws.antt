-- The laws that the functions' proofs cite: byte by byte, and by words.
-- Assumes nothing.
use Prim.Native.Nat.{ℕ, suc, ◌+◌, ◌-◌, ◌*◌, ◌≤◌, ◌<◌, min}
use mathlib.Core.Path.{◌≡◌, refl, sym, ap, ap₂, ◌∙◌}
use mathlib.Core.Bool.{Bool, true, false, cond}
use mathlib.Core.List.{List, [], ◌∷◌}
use native.Mathlib.Omega.{arith}
use native.Mathlib.Nat.{add-zero, add-suc}
use lib.ListN.{length, get_or, take, drop, length-drop, length-take, get_or-eq_default}
use lib.Seq.{drop-cons, take_all, get_or-take, get_or-drop}
use Rattle.std.proofs.Common.{◌⊎◌, inl, inr}
use Rattle.std.proofs.lemmas.List.{drop_all}
use lib.Dec.{ltb, eqb}
use borrow.Author.Tests.{lt-ltb, le-ltb, eq-eqb, ne_eqb}
use Rattle.rl_laws.specs.Tests.{by_ltb}
use Rattle.rl_laws.specs.Words.{number_after, Octets, eight_at, Word, same_word, less_word}
use Rattle.rl_spec.specs.Values.{same_text, less_text}

-- ---- byte by byte

module _ (a b : List ℕ) where
  -- where one text has ended, the shorter one is less
  pub less_ended : (i : ℕ) → less_text a b ≡ less_text (drop i a) (drop i b) → i ≡ min (length a) (length b) → ltb (length a) (length b) ≡ less_text a b
  unfolding less_text
  less_ended i v e =
      by_ltb (length a) (length b)
      (λ q. rw (lt-ltb (length a) (length b) q, v, drop_all i a (omega arith), drop-cons b i 0 (omega arith)) refl)
      (λ q. rw (le-ltb (length a) (length b) q, v, drop_all i b (omega arith)) refl)

  pub less_empty : (length a ≡ 0) ⊎ (length b ≡ 0) → ltb (length a) (length b) ≡ less_text a b
  less_empty (inl p) = less_ended 0 refl (omega arith)
  less_empty (inr p) = less_ended 0 refl (omega arith)

  -- the first byte
  pub less_first : 0 < length a → 0 < length b → (get_or a 0 0 ≡ get_or b 0 0 → ⊥) → ltb (get_or a 0 0) (get_or b 0 0) ≡ less_text a b
  unfolding less_text
  less_first p q h = rw (drop-cons a 0 0 p, drop-cons b 0 0 q, ne_eqb (get_or a 0 0) (get_or b 0 0) h) refl

-- ---- eight bytes as a number

module _ (s : List ℕ) (i r : ℕ) (h : i + 8 ≤ length s) where
  eight_is : eight_at s i ≡ get_or s i 0 ∷ get_or s (i + 1) 0 ∷ get_or s (i + 2) 0 ∷ get_or s (i + 3) 0 ∷ get_or s (i + 4) 0 ∷ get_or s (i + 5) 0 ∷ get_or s (i + 6) 0 ∷ get_or s (i + 7) 0 ∷ []
  eight_is =
      let at : (k : ℕ) → k < 8 → drop (i + k) s ≡ get_or s (i + k) 0 ∷ drop (i + suc k) s = λ k l. drop-cons s (i + k) 0 (omega arith) ∙ rw (add-suc i k) refl in
      let z : drop i s ≡ drop (i + 0) s = rw (add-zero i) refl in
      rw (z, at 0 (omega arith), at 1 (omega arith), at 2 (omega arith), at 3 (omega arith), at 4 (omega arith), at 5 (omega arith), at 6 (omega arith), at 7 (omega arith), add-zero i) refl

  octets_at : Octets s → Octets (eight_at s i)
  octets_at o k =
      by_ltb k 8
      (λ l. rw (get_or-take 8 (drop i s) k 0 l, get_or-drop i s k 0) (o (i + k)))
      (λ l. let e : get_or (eight_at s i) k 0 ≡ 0 = get_or-eq_default (eight_at s i) 0 (omega (arith, length-take 8 (drop i s))) in omega arith)

  pub word_is : r ≡ get_or s i 0 * 72057594037927936 + get_or s (i + 1) 0 * 281474976710656 + get_or s (i + 2) 0 * 1099511627776 + get_or s (i + 3) 0 * 4294967296 + get_or s (i + 4) 0 * 16777216 + get_or s (i + 5) 0 * 65536 + get_or s (i + 6) 0 * 256 + get_or s (i + 7) 0 → Octets s → Word s i r
  unfolding number_after
  word_is e o =
      record {
        is = rw eight_is (omega arith);
        octets = octets_at o;
      }

-- ---- by words: x and y are the words at i. whole is what the loop has to answer, and v its invariant

module _ (a b : List ℕ) (i x y : ℕ) (whole : Bool) (p : i + 8 ≤ length a) (q : i + 8 ≤ length b) (wa : Word a i x) (wb : Word b i y) where
  module _ (v : whole ≡ same_text (drop i a) (drop i b)) where
    pub same_word_apart : (x ≡ y → ⊥) → false ≡ whole
    same_word_apart h = rw (v, same_word wa wb p q, ne_eqb x y h) refl

    pub same_word_more : x ≡ y → whole ≡ same_text (drop (i + 8) a) (drop (i + 8) b)
    same_word_more h = rw (v, same_word wa wb p q, eq-eqb x y h) refl

  module _ (v : whole ≡ less_text (drop i a) (drop i b)) where
    pub less_word_apart : (x ≡ y → ⊥) → ltb x y ≡ whole
    less_word_apart h = rw (v, less_word wa wb p q, ne_eqb x y h) refl

    pub less_word_more : x ≡ y → whole ≡ less_text (drop (i + 8) a) (drop (i + 8) b)
    less_word_more h = rw (v, less_word wa wb p q, eq-eqb x y h) refl

-- texts of two lengths
pub same_lengths : (s t : List ℕ) → (length t ≡ length s → ⊥) → false ≡ same_text s t
unfolding same_text
same_lengths [] [] h = absurd (h refl)
same_lengths [] (b ∷ t) h = refl
same_lengths (a ∷ s) [] h = refl
same_lengths (a ∷ s) (b ∷ t) h = go (eqb a b) (same_lengths s t (λ e. h (ap suc e)))
  where
    go : (x : Bool) → false ≡ same_text s t → false ≡ cond x (same_text s t) false
    go true e = e
    go false e = refl

-- the bytes after the last word
all_left : (s : List ℕ) (n i : ℕ) → n ≡ length s → take (n - i) (drop i s) ≡ drop i s
all_left s n i e = take_all (n - i) (drop i s) (omega (arith, length-drop i s))

module _ (a b : List ℕ) (i : ℕ) (r whole : Bool) where
  pub same_rest : (n : ℕ) → n ≡ length a → length b ≡ n → whole ≡ same_text (drop i a) (drop i b) → r ≡ same_text (take (n - i) (drop i a)) (take (n - i) (drop i b)) → r ≡ whole
  same_rest n p q g h = h ∙ ap₂ same_text (all_left a n i p) (all_left b n i (sym q)) ∙ sym g

  pub less_rest : whole ≡ less_text (drop i a) (drop i b) → r ≡ less_text (take (length a - i) (drop i a)) (take (length b - i) (drop i b)) → r ≡ whole
  less_rest g h = h ∙ ap₂ less_text (all_left a (length a) i refl) (all_left b (length b) i refl) ∙ sym g

-- ---- by function
pub ruleset same_laws = (same_lengths, same_rest)

pub ruleset less_laws = (less_empty, less_first, less_rest)
