-- Laws for a column, and for the columns of a field one after another.
-- Assumes nothing.
use Prim.Native.Nat.{ℕ, zero, suc, ◌+◌, ◌-◌, ◌≤◌, ◌<◌}
use mathlib.Core.Path.{◌≡◌, refl, sym, ap, ◌∙◌}
use mathlib.Core.List.{List, [], ◌∷◌, ◌++◌, map}
use native.Mathlib.Omega.{arith}
use lib.ListN.{length, get_or, take, drop, drop_of_length-le, length-drop, length-map}
use lib.Seq.{drop-cons, drop-drop}
use mir.Syntax.{w64}
use mir.Val.{Fits}
use borrow.Author.Tests.{lt-ltb, le-ltb, ne_eqb}
use Rattle.rl_spec.specs.Utf8.{utf8_char, begins, width_by, char_width, encode_scalar, encode_text, scalar_of, scalars_by, scalars_of}
use Rattle.rl_spec.specs.Pages.{spaces, question_mark, printed, fitted, left}
use Rattle.rl_laws.specs.Tests.{by_ltb, by_eqb}
use Rattle.rl_images.specs.Reading.Utf8.{scalar_low, encode_one, width_scalar}
use Rattle.rl_images.specs.Reading.Scalars.{front_octets, front_within, no_scalars, more_scalars, first_scalars}
use Rattle.rl_columns.specs.Columns.{column_of}
use Rattle.rl_text_out.specs.Put.{after_text, with_text}
use Rattle.rl_text_out.proofs.Joined.{length_with, after_nothing, with_nothing, after_after, with_with}

-- ---- a column

-- an octet below 128 is a character
width_low : (b : ℕ) (t : List ℕ) → b < 128 → char_width (b ∷ t) 0 ≡ 1
width_low b t l = rw (encode_one b (omega arith)) at (width_scalar b t (scalar_low b (omega arith)))

first_of : (w : ℕ) (t : List ℕ) (c : ℕ) → (w ≡ 0 → ⊥) → c ∷ [] ≡ take w t → c ≡ get_or t 0 0
first_of zero t c h e = absurd (h refl)
first_of (suc w) [] c h e = ap (λ (l : List ℕ). get_or l 0 0) e
first_of (suc w) (b ∷ t) c h e = ap (λ (l : List ℕ). get_or l 0 0) e

module _ (t : List ℕ) (h : char_width t 0 ≡ 0 → ⊥) where
  abbrev number : ℕ
  number = scalar_of (take (char_width t 0) t)

  column_is : column_of t ≡ printed number
  unfolding column_of
  column_is = rw (ne_eqb (char_width t 0) 0 h) refl

  -- a number below 128 is the octet itself
  number_low : number < 128 → number ≡ get_or t 0 0
  number_low l = first_of (char_width t 0) t number h (sym (encode_one number (omega arith)) ∙ front_octets t h)

  pub octets_shown : 32 ≤ get_or t 0 0 → encode_scalar (column_of t) ≡ take (char_width t 0) t
  unfolding printed
  octets_shown l =
      let high : 32 ≤ number = by_ltb number 32 (λ x. absurd (omega (arith, number_low (omega arith)))) (λ x. x) in
      rw (column_is, le-ltb number 32 high) (front_octets t h)

question : (b : ℕ) (t : List ℕ) → b < 32 → column_of (b ∷ t) ≡ question_mark
unfolding column_of printed scalar_of
question b t l = rw (width_low b t (omega arith), lt-ltb b 32 l) refl

module _ (s : List ℕ) (i w : ℕ) (e : w ≡ char_width s i) where
  here : w ≡ char_width (drop i s) 0
  unfolding char_width
  here = e

  pub column_there : (w ≡ 0 → ⊥) → i < length s
  unfolding char_width width_by begins utf8_char
  column_there h = by_ltb i (length s) (λ l. l) (λ l. absurd (h (e ∙ rw (drop_of_length-le s l) refl)))

  pub space_is : w ≡ 0 → 32 ∷ [] ≡ encode_scalar (column_of (drop i s))
  unfolding column_of encode_scalar
  space_is z = rw (sym here ∙ z) refl

  pub question_is : (w ≡ 0 → ⊥) → get_or s i 0 < 32 → 63 ∷ [] ≡ encode_scalar (column_of (drop i s))
  unfolding encode_scalar
  question_is h l = rw (drop-cons s i 0 (column_there h), question (get_or s i 0) (drop (suc i) s) l) refl

  pub octets_are : (t : List ℕ) → t ≡ take w (drop i s) → (w ≡ 0 → ⊥) → 32 ≤ get_or s i 0 → t ≡ encode_scalar (column_of (drop i s))
  octets_are t g h l =
      let f : get_or (drop i s) 0 0 ≡ get_or s i 0 = rw (drop-cons s i 0 (column_there h)) refl in
      g ∙ rw here (sym (octets_shown (drop i s) (λ z. h (here ∙ z)) (omega arith)))

  -- the next character starts in the text or at its end
  pub next_within : i ≤ length s → i + w ≤ length s
  next_within l =
      by_eqb w 0
      (λ z. omega arith)
      (λ h. let m = front_within (drop i s) (λ z. h (here ∙ z)) in omega (arith, m, here, length-drop i s))

  pub next_fits : i ≤ length s → Fits w64 (length s) → Fits w64 (i + w)
  next_fits l f = omega (arith, next_within l)

-- ---- a field, column by column

module _ (s : List ℕ) where
  fitted_is : (n : ℕ) → fitted n s ≡ map printed (scalars_by n s)
  unfolding fitted scalars_of
  fitted_is n = ap (map printed) (first_scalars n (length s) s (omega arith))

  pub left_is : (n : ℕ) → left n s ≡ map printed (scalars_by n s) ++ spaces (n - length (scalars_by n s))
  unfolding left
  left_is n = rw (fitted_is n, length-map (scalars_by n s) printed) refl

  pub left_spaces : (n : ℕ) → char_width s 0 ≡ 0 → left n s ≡ spaces n
  unfolding scalars_by
  left_spaces zero e = left_is zero
  left_spaces (suc n) e = left_is (suc n) ∙ rw (no_scalars n s e) (let z : suc n - 0 ≡ suc n = omega arith in rw z refl)

  pub left_none : left 0 s ≡ []
  unfolding scalars_by
  left_none = left_is 0

pub left_more : (n : ℕ) (s : List ℕ) → left (suc n) s ≡ column_of s ∷ left n (drop (char_width s 0) s)
unfolding column_of
left_more n s =
    by_eqb (char_width s 0) 0
    (λ e. rw (left_spaces s (suc n) e, e, left_spaces s n e) refl)
    (λ h.
    let z : suc n - suc (length (scalars_by n (drop (char_width s 0) s))) ≡ n - length (scalars_by n (drop (char_width s 0) s)) = omega arith in
    rw (left_is s (suc n), more_scalars n s h, ne_eqb (char_width s 0) 0 h, left_is (drop (char_width s 0) s) n, z) refl)

-- what is still to be put, put at this place, makes the whole: the place after it, and the buffer
abbrev pub RestAfter : List ℕ → ℕ → List ℕ → ℕ → List ℕ → ℕ → ℕ → ℕ → Type 0
RestAfter out₀ at s columns out place i column =
    after_text out place (encode_text (left (columns - column) (drop i s))) ≡ after_text out₀ at (encode_text (left columns s))

abbrev pub RestWith : List ℕ → ℕ → List ℕ → ℕ → List ℕ → ℕ → ℕ → ℕ → Type 0
RestWith out₀ at s columns out place i column =
    with_text out place (encode_text (left (columns - column) (drop i s))) ≡ with_text out₀ at (encode_text (left columns s))

module _ (out s : List ℕ) (at columns : ℕ) where
  pub all_after : RestAfter out at s columns out at 0 0
  all_after = let z : columns - 0 ≡ columns = omega arith in rw z refl

  pub all_with : RestWith out at s columns out at 0 0
  all_with = let z : columns - 0 ≡ columns = omega arith in rw z refl

module _ (out₀ s out : List ℕ) (at columns place i column : ℕ) where
  module _ (w place' : ℕ) (out' : List ℕ) (l : column < columns) (e : w ≡ char_width s i)
      (p : place' ≡ after_text out place (encode_scalar (column_of (drop i s)))) (q : out' ≡ with_text out place (encode_scalar (column_of (drop i s)))) where
    abbrev now_put : List ℕ
    now_put = encode_scalar (column_of (drop i s))

    abbrev later : List ℕ
    later = encode_text (left (columns - (column + 1)) (drop (i + w) s))

    both : now_put ++ later ≡ encode_text (left (columns - column) (drop i s))
    unfolding encode_text
    both =
        let m : columns - column ≡ suc (columns - (column + 1)) = omega arith in
        rw (m, left_more (columns - (column + 1)) (drop i s), ← here s i w e, drop-drop w i s) refl

    pub more_after : RestAfter out₀ at s columns out place i column → RestAfter out₀ at s columns out' place' (i + w) (column + 1)
    more_after g = rw (p, q) (after_after out place now_put later ∙ ap (after_text out place) both ∙ g)

    pub more_with : RestWith out₀ at s columns out place i column → RestWith out₀ at s columns out' place' (i + w) (column + 1)
    more_with g = rw (p, q) (with_with out place now_put later ∙ ap (with_text out place) both ∙ g)

  module _ (l : column ≤ columns) (m : columns ≤ column) where
    nothing : encode_text (left (columns - column) (drop i s)) ≡ []
    unfolding encode_text
    nothing = let z : columns - column ≡ 0 = omega arith in rw (z, left_none (drop i s)) refl

    pub none_after : RestAfter out₀ at s columns out place i column → place ≡ after_text out₀ at (encode_text (left columns s))
    none_after g = sym (after_nothing out place) ∙ ap (after_text out place) (sym nothing) ∙ g

    pub none_with : RestWith out₀ at s columns out place i column → out ≡ with_text out₀ at (encode_text (left columns s))
    none_with g = sym (with_nothing out place) ∙ ap (with_text out place) (sym nothing) ∙ g

-- the buffer keeps its length
pub same_room : (out₀ out out' t : List ℕ) (at : ℕ) → length out ≡ length out₀ → out' ≡ with_text out at t → length out' ≡ length out₀
same_room out₀ out out' t at e f = ap length f ∙ length_with out at t ∙ e

pub ruleset column_laws = (column_there, space_is, question_is, octets_are)

pub ruleset left_laws = (next_within, next_fits, all_after, all_with)
