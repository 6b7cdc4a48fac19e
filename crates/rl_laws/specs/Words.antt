-- Texts by words: bytes as one number, the first byte highest, so that the order of the numbers is the order of the bytes.
-- Assumes nothing.
use Rattle.std.specs.Prelude.{ℕ, suc, ◌+◌, ◌*◌, ◌≤◌, ◌<◌, ◌≡◌, refl, Bool, false, cond, List, [], ◌∷◌, ◌++◌, length, get_or, take, drop, ltb, eqb}
use Rattle.std.proofs.Common.{sym, ◌∙◌, arith, length-drop, take-append-drop, drop-drop, length-take-le, lt-ltb, le-ltb, eq-eqb, ne_eqb}
use Rattle.rl_laws.specs.Tests.{by_ltb, by_eqb}
use Rattle.rl_spec.specs.Values.{same_text, less_text}

-- n is the number of the bytes before
unfoldable pub number_after : ℕ → List ℕ → ℕ
number_after n [] = n
number_after n (b ∷ s) = number_after (n * 256 + b) s

abbrev pub number : List ℕ → ℕ
number s = number_after 0 s

abbrev pub Octets : List ℕ → Type 0
Octets s = (k : ℕ) → get_or s k 0 < 256

-- ---- one byte more: what the bytes before decide stays decided, and it decides the rest

module _ (p q x y : ℕ) (hx : x < 256) (hy : y < 256) (rest : Bool) where
  same_digit : cond (eqb p q) (cond (eqb x y) rest false) false ≡ cond (eqb (p * 256 + x) (q * 256 + y)) rest false
  same_digit =
      by_eqb p q
      (λ e. by_eqb x y
      (λ f. rw (eq-eqb p q e, eq-eqb x y f, eq-eqb (p * 256 + x) (q * 256 + y) (omega arith)) refl)
      (λ f. rw (eq-eqb p q e, ne_eqb x y f, ne_eqb (p * 256 + x) (q * 256 + y) (λ g. f (omega arith))) refl))
      (λ e. rw (ne_eqb p q e, ne_eqb (p * 256 + x) (q * 256 + y) (λ g. e (omega arith))) refl)

  less_digit : cond (eqb p q) (cond (eqb x y) rest (ltb x y)) (ltb p q) ≡ cond (eqb (p * 256 + x) (q * 256 + y)) rest (ltb (p * 256 + x) (q * 256 + y))
  less_digit =
      by_eqb p q
      (λ e. by_eqb x y
      (λ f. rw (eq-eqb p q e, eq-eqb x y f, eq-eqb (p * 256 + x) (q * 256 + y) (omega arith)) refl)
      (λ f. rw (eq-eqb p q e, ne_eqb x y f, ne_eqb (p * 256 + x) (q * 256 + y) (λ g. f (omega arith)))
      (by_ltb x y
      (λ l. rw (lt-ltb x y l, lt-ltb (p * 256 + x) (q * 256 + y) (omega arith)) refl)
      (λ l. rw (le-ltb x y l, le-ltb (p * 256 + x) (q * 256 + y) (omega arith)) refl))))
      (λ e. rw (ne_eqb p q e, ne_eqb (p * 256 + x) (q * 256 + y) (λ g. e (omega arith)))
      (by_ltb p q
      (λ l. rw (lt-ltb p q l, lt-ltb (p * 256 + x) (q * 256 + y) (omega arith)) refl)
      (λ l. rw (le-ltb p q l, le-ltb (p * 256 + x) (q * 256 + y) (apart e l)) refl)))
    where
      apart : (p ≡ q → ⊥) → q ≤ p → q * 256 + y ≤ p * 256 + x
      apart e l = by_ltb q p (λ g. omega arith) (λ g. absurd (e (omega arith)))

after : (p q : ℕ) (s t : List ℕ) → length s ≡ length t → Octets s → Octets t → (cond (eqb p q) (same_text s t) false ≡ eqb (number_after p s) (number_after q t)) × (cond (eqb p q) (less_text s t) (ltb p q) ≡ ltb (number_after p s) (number_after q t))
unfolding number_after same_text less_text
after p q [] [] l hs ht =
    by_eqb p q
    (λ e. (rw (eq-eqb p q e) refl, rw (eq-eqb p q e, le-ltb p q (omega arith)) refl))
    (λ e. (rw (ne_eqb p q e) refl, rw (ne_eqb p q e) refl))
after p q [] (y ∷ t) l hs ht = absurd (omega arith)
after p q (x ∷ s) [] l hs ht = absurd (omega arith)
after p q (x ∷ s) (y ∷ t) l hs ht =
    let more = after (p * 256 + x) (q * 256 + y) s t (omega arith) (λ k. hs (suc k)) (λ k. ht (suc k)) in (
      same_digit p q x y (hs 0) (ht 0) (same_text s t) ∙ more.0,
      less_digit p q x y (hs 0) (ht 0) (less_text s t) ∙ more.1,
    )

-- THE LAW: texts of one length are the same, and less, exactly where their numbers are
by_number : (s t : List ℕ) → length s ≡ length t → Octets s → Octets t → (same_text s t ≡ eqb (number s) (number t)) × (less_text s t ≡ ltb (number s) (number t))
by_number s t l hs ht = after 0 0 s t l hs ht

-- ---- texts of which the first parts have one length: these are compared, and where they are the same the rest

same_parts : (s t u v : List ℕ) → length s ≡ length t → same_text (s ++ u) (t ++ v) ≡ cond (same_text s t) (same_text u v) false
unfolding same_text
same_parts [] [] u v l = refl
same_parts [] (y ∷ t) u v l = absurd (omega arith)
same_parts (x ∷ s) [] u v l = absurd (omega arith)
same_parts (x ∷ s) (y ∷ t) u v l =
    by_eqb x y
    (λ e. rw (eq-eqb x y e) (same_parts s t u v (omega arith)))
    (λ e. rw (ne_eqb x y e) refl)

less_parts : (s t u v : List ℕ) → length s ≡ length t → less_text (s ++ u) (t ++ v) ≡ cond (same_text s t) (less_text u v) (less_text s t)
unfolding same_text less_text
less_parts [] [] u v l = refl
less_parts [] (y ∷ t) u v l = absurd (omega arith)
less_parts (x ∷ s) [] u v l = absurd (omega arith)
less_parts (x ∷ s) (y ∷ t) u v l =
    by_eqb x y
    (λ e. rw (eq-eqb x y e) (less_parts s t u v (omega arith)))
    (λ e. rw (ne_eqb x y e) refl)

-- ---- the eight bytes at a place of a text

abbrev pub eight_at : List ℕ → ℕ → List ℕ
eight_at s i = take 8 (drop i s)

pub record Word (s : List ℕ) (i r : ℕ) : Type 0 where
  pub is : r ≡ number (eight_at s i)
  pub octets : Octets (eight_at s i)

pub eight_then : (s : List ℕ) (i : ℕ) → drop i s ≡ eight_at s i ++ drop (i + 8) s
eight_then s i = sym (take-append-drop 8 (drop i s)) ∙ rw (drop-drop 8 i s) refl

pub eight_long : (s : List ℕ) (i : ℕ) → i + 8 ≤ length s → length (eight_at s i) ≡ 8
eight_long s i h = length-take-le 8 (drop i s) (omega (arith, length-drop i s))

module _ {a b : List ℕ} {i x y : ℕ} (wa : Word a i x) (wb : Word b i y) (ha : i + 8 ≤ length a) (hb : i + 8 ≤ length b) where
  long : length (eight_at a i) ≡ length (eight_at b i)
  long = eight_long a i ha ∙ sym (eight_long b i hb)

  eight : (same_text (eight_at a i) (eight_at b i) ≡ eqb x y) × (less_text (eight_at a i) (eight_at b i) ≡ ltb x y)
  eight = rw (wa.is, wb.is) (by_number (eight_at a i) (eight_at b i) long wa.octets wb.octets)

  pub same_eight : same_text (eight_at a i) (eight_at b i) ≡ eqb x y
  same_eight = eight.0

  pub same_word : same_text (drop i a) (drop i b) ≡ cond (eqb x y) (same_text (drop (i + 8) a) (drop (i + 8) b)) false
  same_word = rw (eight_then a i, eight_then b i, same_parts (eight_at a i) (eight_at b i) (drop (i + 8) a) (drop (i + 8) b) long, eight.0) refl

  pub less_word : less_text (drop i a) (drop i b) ≡ cond (eqb x y) (less_text (drop (i + 8) a) (drop (i + 8) b)) (ltb x y)
  less_word = rw (eight_then a i, eight_then b i, less_parts (eight_at a i) (eight_at b i) (drop (i + 8) a) (drop (i + 8) b) long, eight.0, eight.1) refl
