-- What each number of the reader says: 3, 4, 6, 7, 8, 9 of one record, 5 of the header, 10 of the whole.
-- Assumes nothing.
use Rattle.std.specs.Prelude.{◌≡◌, ℕ, zero, suc, ◌+◌, ◌*◌, ◌<◌, ◌≤◌, ◌⊎◌, ◌↔◌, List, [], ◌∷◌, length, take, replicate, ◌≢◌, slice_index, refl}
use Rattle.std.proofs.Common.{sym, ⊎_elim}
use Rattle.std.proofs.Math.Path.{ap}
use Rattle.std.proofs.Math.Logic.{inl, inr}
use native.Mathlib.Omega.{arith}
use Rattle.rl_spec.specs.declared.Counts.{Counts}
use Rattle.rl_spec.specs.declared.Cause.{Cause}
use Rattle.rl_spec.specs.declared.Cause.TheVariants.{BytesEnd, WrongKind, CountOverLimit, BadText, BadValue, BadReference, TooHigh, BytesLeft}
use Rattle.rl_spec.specs.Answers.{goes_on, refused}
use Rattle.rl_spec.specs.declared.Section.{Section}
use Rattle.rl_spec.specs.declared.Sort.{Sort}
use Rattle.rl_spec.specs.declared.Sort.TheVariants.{Raw, Byte, Scalar, Part, One, Maybe, Many, Range, OperandSort, Operand}
use Rattle.rl_spec.specs.Bytes.{u16_at}
use Rattle.rl_spec.specs.Schema.{limits, sections, count_of, tallest, sort_of, width_of, fields_of}
use Rattle.rl_spec.specs.Fields.{record_at}
use Rattle.rl_spec.specs.Read.{number_of, counts_of, seen_by, most_starts, answer_of}
use Rattle.rl_spec.specs.Image.{widths_of}
use Rattle.rl_images.specs.Reading.Table.{row, Unmet, First, first_behind, by_parts, refuses_exactly}
use Rattle.rl_images.specs.Reading.Rows.{NoText, KindOutside, value_rows, field_rows, fields_rows, height_at, record_rows, records_rows, sections_rows, counts_rows, header_rows, sections_at, sections_end, content_rows, read_rows}
use Rattle.rl_images.specs.Reading.Causes.{record_by_lem}
use Rattle.rl_images.specs.Reading.Places.{field_place}
use Rattle.rl_images.specs.Reading.ReadOutcome.{read_refuses}
use Rattle.rl_laws.specs.AnswerLaws.{same_refusal}

-- ---- one field

-- the number of the only row
only : {P : Type 0} (c : Cause) (at : ℕ) (q : Cause) (n : ℕ) → First (row c at P ∷ []) q n → number_of c ≡ number_of q
only c at q n (inl x) = ap number_of x.1
only c at q n (inr x) = absurd x.1

-- 6, 7 or 8
abbrev OfValue : Cause → Type 0
OfValue q = (6 ≤ number_of q) × (number_of q ≤ 8)

-- 3, 6, 7 or 8
abbrev OfField : Cause → Type 0
OfField q = (3 ≡ number_of q) ⊎ OfValue q

-- and 4 and 9
abbrev OfRecord : Cause → Type 0
OfRecord q = (number_of q ≤ 9) × (number_of q ≢ 5)

of_text : (q : Cause) → 6 ≡ number_of q → OfValue q
of_text q e = (omega arith, omega arith)

of_value : (q : Cause) → 7 ≡ number_of q → OfValue q
of_value q e = (omega arith, omega arith)

of_reference : (q : Cause) → 8 ≡ number_of q → OfValue q
of_reference q e = (omega arith, omega arith)

module _ (s p : List ℕ) (seen : Counts) where
  value_number : (o : Sort) (at : ℕ) (q : Cause) (n : ℕ) → First (value_rows s p seen o at) q n → OfValue q
  value_number (Raw m) at q n f = absurd f
  value_number (Byte low high) at q n f = of_value q (only BadValue at q n f)
  value_number Scalar at q n f = of_value q (only BadValue at q n f)
  value_number Part at q n f = of_text q (only BadText at q n f)
  value_number (One t) at q n f = of_reference q (only BadReference at q n f)
  value_number (Maybe t) at q n f = of_reference q (only BadReference at q n f)
  value_number (Many l r m) at q n f = of_reference q (only BadReference at q n f)
  value_number (Range o) at q n f = of_reference q (only BadReference at q n f)
  value_number OperandSort at q n f = of_value q (only BadValue at q n f)
  value_number Operand at q n (inl x) = of_value q (ap number_of x.1)
  value_number Operand at q n (inr x) = of_reference q (only BadReference at q n x.1)

  field_number : (o : Sort) (at : ℕ) (q : Cause) (n : ℕ) → First (field_rows s p seen o at) q n → OfField q
  field_number o at q n (inl x) = inl (ap number_of x.1)
  field_number o at q n (inr x) = inr (value_number o at q n x.1)

  field_end : (o : Sort) (at n : ℕ) → First (field_rows s p seen o at) BytesEnd n → length s < at + width_of o
  field_end o at n (inl x) = x.0
  field_end o at n (inr x) = absurd (omega (arith, (value_number o at BytesEnd n x.1).0))

  field_text : (o : Sort) (at n : ℕ) → First (field_rows s p seen o at) BadText n → (o ≡ Part) × NoText s seen at
  field_text o at n (inl x) = absurd (omega (arith, ap number_of x.1))
  field_text o at n (inr x) = value_text o x.1
    where
      value_text : (o : Sort) → First (value_rows s p seen o at) BadText n → (o ≡ Part) × NoText s seen at
      value_text (Raw m) f = absurd f
      value_text (Byte low high) f = absurd (omega (arith, only BadValue at BadText n f))
      value_text Scalar f = absurd (omega (arith, only BadValue at BadText n f))
      value_text Part (inl y) = (refl, y.0)
      value_text Part (inr y) = absurd y.1
      value_text (One t) f = absurd (omega (arith, only BadReference at BadText n f))
      value_text (Maybe t) f = absurd (omega (arith, only BadReference at BadText n f))
      value_text (Many l r m) f = absurd (omega (arith, only BadReference at BadText n f))
      value_text (Range o) f = absurd (omega (arith, only BadReference at BadText n f))
      value_text OperandSort f = absurd (omega (arith, only BadValue at BadText n f))
      value_text Operand (inl y) = absurd (omega (arith, ap number_of y.1))
      value_text Operand (inr y) = absurd (omega (arith, only BadReference at BadText n y.1))

-- ---- one record, which starts at `at`

-- the sort of its j-th field
abbrev pub sort_at : List ℕ → ℕ → ℕ → Sort
sort_at s at j = sort_of (slice_index (fields_of (slice_index s at)) j)

-- its j-th field starts at n
abbrev pub FieldAt : List ℕ → ℕ → ℕ → ℕ → Type 0
FieldAt s at n j = (j < length (fields_of (slice_index s at))) × (n ≡ at + 1 + widths_of (take j (fields_of (slice_index s at))))

-- of fields from a place on, the j-th starts at n and is refused
abbrev Refusing : List ℕ → List ℕ → Counts → List ℕ → ℕ → Cause → ℕ → Type 0
Refusing s p seen os at q n =
    (j : ℕ) × (j < length os) × (n ≡ at + widths_of (take j os)) × First (field_rows s p seen (sort_of (slice_index os j)) n) q n

module _ (s p : List ℕ) (seen : Counts) (q : Cause) (n : ℕ) where
  field_found : (os : List ℕ) (at : ℕ) → First (fields_rows s p seen os at) q n → Refusing s p seen os at q n
  unfolding fields_rows widths_of
  field_found [] at f = absurd f
  field_found (o ∷ os) at f =
      by_parts (field_rows s p seen (sort_of o) at) _ q n
      (λ x. let e = field_place s p seen (sort_of o) at q n x in (0, omega arith, omega (arith, e), rw (sym e) at x))
      (λ u x.
      let r = field_found os (at + width_of (sort_of o)) x in
      (suc r.0, omega (arith, r.1), omega (arith, r.2), r.3))
      f

module _ (s w p : List ℕ) (seen : Counts) (own : Section) (at : ℕ) where
  -- THEOREM
  pub record_refuses : (q : Cause) (n : ℕ) → (record_at s w p seen own at ≡ refused q n) ↔ First (record_rows s w p seen own at) q n
  record_refuses = refuses_exactly (λ q q' n n' e. same_refusal e) (λ u q n e. differ e) (record_by_lem s w p seen own at)
    where
      differ : {a tall : ℕ} {q : Cause} {n : ℕ} → goes_on a tall ≢ refused q n
      differ e = let z : ◌≡◌ {A = ℕ} 0 1 = cc in omega arith

  -- by the part of the record that is refused
  refused_by : {P : Type 0} (q : Cause) (n : ℕ) → (length s ≤ at → 3 ≡ number_of q → n ≡ at → P) → (KindOutside s own at → 4 ≡ number_of q → n ≡ at → P) → ((j : ℕ) → FieldAt s at n j → First (field_rows s p seen (sort_at s at j) n) q n → P) → (tallest own < height_at s w seen own at → 9 ≡ number_of q → n ≡ at → P) → First (record_rows s w p seen own at) q n → P
  refused_by q n f g h k (inl x) = f x.0 (ap number_of x.1) (sym x.2)
  refused_by q n f g h k (inr (a, inl x)) = g x.0 (ap number_of x.1) (sym x.2)
  refused_by q n f g h k (inr (a, inr (b, x))) =
      by_parts (fields_rows s p seen (fields_of (slice_index s at)) (at + 1)) _ q n
      (λ y. let r = field_found s p seen q n (fields_of (slice_index s at)) (at + 1) y in h r.0 (r.1, r.2) r.3)
      (λ u. ⊎_elim (λ y. k y.0 (ap number_of y.1) (sym y.2)) (λ y. absurd y.1)) x

  -- THEOREMS

  -- 3: the kind is past the end, or the j-th field runs past it
  pub bytes_end : (n : ℕ) → record_at s w p seen own at ≡ refused BytesEnd n → ((n ≡ at) × (length s ≤ at)) ⊎ ((j : ℕ) × FieldAt s at n j × (length s < n + width_of (sort_at s at j)))
  bytes_end n e =
      refused_by BytesEnd n (λ x d h. inl (h, x)) (λ x d h. absurd (omega (arith, d)))
      (λ j f x. inr (j, f, field_end s p seen (sort_at s at j) n n x)) (λ x d h. absurd (omega (arith, d)))
      ((record_refuses BytesEnd n).0 e)

  -- 4: the kind is none of the section's
  pub kind_outside : (n : ℕ) → record_at s w p seen own at ≡ refused WrongKind n → (n ≡ at) × KindOutside s own at
  kind_outside n e =
      refused_by WrongKind n (λ x d h. absurd (omega (arith, d))) (λ x d h. (h, x))
      (λ j f x. ⊎_elim (λ d. absurd (omega (arith, d))) (λ d. absurd (omega (arith, d.0))) (field_number s p seen (sort_at s at j) n WrongKind n x)) (λ x d h. absurd (omega (arith, d)))
      ((record_refuses WrongKind n).0 e)

  -- 6: the j-th field is a text outside the text bytes, or not UTF-8
  pub bad_text : (n : ℕ) → record_at s w p seen own at ≡ refused BadText n → (j : ℕ) × FieldAt s at n j × (sort_at s at j ≡ Part) × NoText s seen n
  bad_text n e =
      refused_by BadText n (λ x d h. absurd (omega (arith, d))) (λ x d h. absurd (omega (arith, d)))
      (λ j f x. let t = field_text s p seen (sort_at s at j) n n x in (j, f, t.0, t.1)) (λ x d h. absurd (omega (arith, d)))
      ((record_refuses BadText n).0 e)

  -- 7: the value of the j-th field is outside its set
  pub bad_value : (n : ℕ) → record_at s w p seen own at ≡ refused BadValue n → (j : ℕ) × FieldAt s at n j × First (field_rows s p seen (sort_at s at j) n) BadValue n
  bad_value n e =
      refused_by BadValue n (λ x d h. absurd (omega (arith, d))) (λ x d h. absurd (omega (arith, d))) (λ j f x. (j, f, x))
      (λ x d h. absurd (omega (arith, d))) ((record_refuses BadValue n).0 e)

  -- 8: the j-th field has a reference or a list that is not allowed
  pub bad_reference : (n : ℕ) → record_at s w p seen own at ≡ refused BadReference n → (j : ℕ) × FieldAt s at n j × First (field_rows s p seen (sort_at s at j) n) BadReference n
  bad_reference n e =
      refused_by BadReference n (λ x d h. absurd (omega (arith, d))) (λ x d h. absurd (omega (arith, d))) (λ j f x. (j, f, x))
      (λ x d h. absurd (omega (arith, d))) ((record_refuses BadReference n).0 e)

  -- 9: the height is over the section's
  pub height_over : (n : ℕ) → record_at s w p seen own at ≡ refused TooHigh n → (n ≡ at) × (tallest own < height_at s w seen own at)
  height_over n e =
      refused_by TooHigh n (λ x d h. absurd (omega (arith, d))) (λ x d h. absurd (omega (arith, d)))
      (λ j f x. ⊎_elim (λ d. absurd (omega (arith, d))) (λ d. absurd (omega (arith, d.1))) (field_number s p seen (sort_at s at j) n TooHigh n x)) (λ x d h. (h, x))
      ((record_refuses TooHigh n).0 e)

-- ---- the whole

field_of_record : (q : Cause) → OfField q → OfRecord q
field_of_record q (inl e) = (omega arith, λ d. omega (arith, d))
field_of_record q (inr h) = (omega (arith, h.1), λ d. omega (arith, d, h.0))

module _ (s : List ℕ) (q : Cause) (n : ℕ) where
  record_number : (w p : List ℕ) (seen : Counts) (own : Section) (at : ℕ) → First (record_rows s w p seen own at) q n → OfRecord q
  record_number w p seen own at =
      refused_by s w p seen own at q n (λ x e h. (omega (arith, e), λ d. omega (arith, d, e))) (λ x e h. (omega (arith, e), λ d. omega (arith, d, e)))
      (λ j f x. field_of_record q (field_number s p seen (sort_at s at j) n q n x)) (λ x e h. (omega (arith, e), λ d. omega (arith, d, e)))

  records_number : (c : Counts) (o : Section) (m i at : ℕ) (w p : List ℕ) → First (records_rows s c o m i at w p) q n → OfRecord q
  unfolding records_rows
  records_number c o zero i at w p f = absurd f
  records_number c o (suc m) i at w p f =
      by_parts (record_rows s w p (seen_by c o i) o at) _ q n (record_number w p (seen_by c o i) o at) (λ u. records_number c o m (i + 1) _ _ _) f

  sections_number : (c : Counts) (os : List Section) (at : ℕ) (w p : List ℕ) → First (sections_rows s c os at w p) q n → OfRecord q
  unfolding sections_rows
  sections_number c [] at w p f = absurd f
  sections_number c (o ∷ os) at w p f =
      by_parts (records_rows s c o (count_of c o) 0 at w p) _ q n (records_number c o (count_of c o) 0 at w p) (λ u. sections_number c os _ _ _) f

  counts_number : (ms : List ℕ) (at : ℕ) → First (counts_rows s ms at) q n → number_of q ≤ 9
  unfolding counts_rows
  counts_number [] at f = absurd f
  counts_number (m ∷ ms) at (inl x) = omega (arith, ap number_of x.1)
  counts_number (m ∷ ms) at (inr (a, inl x)) = omega (arith, ap number_of x.1)
  counts_number (m ∷ ms) at (inr (a, inr (b, f))) = counts_number ms (at + 2) f

  header_number : First (header_rows s) q n → number_of q ≤ 9
  header_number (inl x) = omega (arith, ap number_of x.1)
  header_number (inr (a, inl x)) = omega (arith, ap number_of x.1)
  header_number (inr (a, inr (b, inl x))) = omega (arith, ap number_of x.1)
  header_number (inr (a, inr (b, inr (c, f)))) = counts_number limits 5 f

  -- by the part of the whole that is refused: before the header, in it, behind it
  content_by : {P : Type 0} (k : ℕ) → (number_of q ≤ 3 → P) → (First (header_rows s) q n → P) → (OfRecord q → P) → First (content_rows s k) q n → P
  content_by k f g h (inl x) = f (omega (arith, ap number_of x.1))
  content_by k f g h (inr (a, inl x)) = f (omega (arith, ap number_of x.1))
  content_by k f g h (inr (a, inr (b, y))) =
      by_parts (header_rows s) _ q n g
      (λ u.
      ⊎_elim (λ x. f (omega (arith, ap number_of x.1)))
      (λ x. h (sections_number (counts_of s) sections (sections_at s) (replicate k 0) (replicate most_starts 0) x.1))) y

-- the j-th count is over its limit
abbrev CountOver : List ℕ → List ℕ → ℕ → ℕ → Type 0
CountOver s ms at n = (j : ℕ) × (j < length ms) × (n ≡ at + 2 * j) × (slice_index ms j < u16_at s n)

module _ (s : List ℕ) (n : ℕ) where
  counts_over : (ms : List ℕ) (at : ℕ) → First (counts_rows s ms at) CountOverLimit n → CountOver s ms at n
  unfolding counts_rows
  counts_over [] at f = absurd f
  counts_over (m ∷ ms) at (inl x) = absurd (omega (arith, ap number_of x.1))
  counts_over (m ∷ ms) at (inr (a, inl x)) = (0, omega arith, omega (arith, x.2), rw x.2 at x.0)
  counts_over (m ∷ ms) at (inr (a, inr (b, f))) =
      let r = counts_over ms (at + 2) f in (suc r.0, omega (arith, r.1), omega (arith, r.2), r.3)

  header_over : First (header_rows s) CountOverLimit n → CountOver s limits 5 n
  header_over (inl x) = absurd (omega (arith, ap number_of x.1))
  header_over (inr (a, inl x)) = absurd (omega (arith, ap number_of x.1))
  header_over (inr (a, inr (b, inl x))) = absurd (omega (arith, ap number_of x.1))
  header_over (inr (a, inr (b, inr (c, f)))) = counts_over limits 5 f

  module _ (k : ℕ) where
    -- 5: the j-th count of the header is over its limit
    pub count_over : answer_of s k ≡ refused CountOverLimit n → (j : ℕ) × (j < length limits) × (n ≡ 5 + 2 * j) × (slice_index limits j < u16_at s n)
    count_over e =
        by_parts (content_rows s k) _ CountOverLimit n
        (content_by s CountOverLimit n k (λ h. absurd (omega (arith, h))) header_over (λ h. absurd (h.1 refl)))
        (λ u. ⊎_elim (λ x. absurd (omega (arith, ap number_of x.1))) (λ x. absurd x.1)) ((read_refuses s k CountOverLimit n).0 e)

    -- 10: all sections are read, and bytes are left behind them
    pub bytes_left : (answer_of s k ≡ refused BytesLeft n) ↔ (Unmet (content_rows s k) × (n ≡ sections_end s) × (n < length s))
    bytes_left = (λ e. there ((read_refuses s k BytesLeft n).0 e), λ x. (read_refuses s k BytesLeft n).1 (back x))
      where
        there : First (read_rows s k) BytesLeft n → Unmet (content_rows s k) × (n ≡ sections_end s) × (n < length s)
        there =
            by_parts (content_rows s k) _ BytesLeft n
            (content_by s BytesLeft n k (λ h. absurd (omega (arith, h))) (λ f. absurd (omega (arith, header_number s BytesLeft n f)))
            (λ h. absurd (omega (arith, h.0))))
            (λ u. ⊎_elim (λ x. (u, sym x.2, rw x.2 at x.0)) (λ x. absurd x.1))

        back : Unmet (content_rows s k) × (n ≡ sections_end s) × (n < length s) → First (read_rows s k) BytesLeft n
        back x = first_behind (content_rows s k) _ BytesLeft n x.0 (inl (rw x.1 at x.2, refl, sym x.1))
