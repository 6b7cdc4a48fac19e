-- The parameters, clauses, functions and calls, where a function has another body list.
-- Assumes nothing.
use Prim.Native.Nat.{ℕ, ◌+◌, ◌-◌, ◌*◌, ◌<◌}
use mathlib.Core.Path.{◌≡◌, refl, ap, ap₂, sym, ◌∙◌, subst}
use mathlib.Core.List.{List, ◌++◌, append_assoc}
use native.Mathlib.Omega.{arith}
use lib.ListN.{length, get_or, set, length-append}
use Rattle.rl_spec.specs.declared.Interval.{Interval}
use Rattle.rl_spec.specs.declared.Section.TheVariants.{Parameters, Clauses, Functions, Calls}
use Rattle.rl_spec.specs.Schema.{sort_of, width_of, fields_of, fields_in, schema}
use Rattle.rl_spec.specs.Image.{Field, pair, Rec, Image, records_of, size_of, record_of, no_field, no_record, bytes_of, encode_field, encode_record, encode_records, encode, widths_of, WellFormed}
use Rattle.rl_spec.specs.Found.{parameters_at}
use Rattle.rl_spec.specs.Lower.{bodied}
use Rattle.rl_images.specs.Encoding.BytesAt.{BytesAt, left, right, length_bytes}
use Rattle.rl_images.specs.Encoding.ReaderKnows.{counts}
use Rattle.rl_images.specs.Encoding.Sections.{sized_at, kind_at, length_at}
use Rattle.rl_assemble.specs.Pieces.{part, body_at, new_rest}
use Rattle.rl_assemble.proofs.Laid.{rest_of, before, behind, with_field, as_it_is, length_before, field_width, as_many}
use Rattle.rl_assemble.proofs.Parts.{bytes_in, part_is, last_is, of_image, size_in, rest_ends, functions_place, rest_stands}

module _ (im : Image) (wf : WellFormed im) (f : ℕ) (l : f < size_of im Functions) where
  abbrev fs : List Rec
  fs = records_of im Functions

  abbrev r : Rec
  r = record_of im Functions f

  alike : (n : ℕ) → n < length fs → length (encode_record (get_or fs n no_record)) ≡ 24
  unfolding widths_of fields_of fields_in schema sort_of
  alike = length_at im wf Functions refl

  kind_is : r.kind ≡ 82
  kind_is = kind_at im wf Functions refl f l

  seven : 4 < length r.fields
  unfolding fields_of fields_in schema
  seven = omega (arith, as_many (fields_of r.kind) r.fields (sized_at im wf Functions f l) ∙ ap (λ k. length (fields_of k)) kind_is)

  abbrev body_sort : Field → List ℕ
  body_sort g = encode_field (sort_of (get_or (fields_of r.kind) 4 0)) g

  abbrev front : List ℕ
  front = bytes_in im Parameters ++ (bytes_in im Clauses ++ before 24 fs f 4 alike l)

  abbrev back : List ℕ
  back = behind 24 fs f 4 alike l ++ bytes_in im Calls

  -- the four sections, with a body list
  abbrev pub with_list : Field → List ℕ
  with_list g =
      bytes_in im Parameters
      ++ (bytes_in im Clauses ++ (encode_records (set fs f (bodied r g)) ++ bytes_in im Calls))

  regroup : (p c x y z k : List ℕ) → p ++ (c ++ ((x ++ (y ++ z)) ++ k)) ≡ (p ++ (c ++ x)) ++ (y ++ (z ++ k))
  regroup p c x y z k = simp append_assoc

  pieces : (g : Field) → with_list g ≡ front ++ (body_sort g ++ back)
  pieces g =
      ap (λ x. bytes_in im Parameters ++ (bytes_in im Clauses ++ (x ++ bytes_in im Calls)))
      (with_field 24 fs f 4 alike l (sized_at im wf Functions f l) seven g)
      ∙ regroup (bytes_in im Parameters) (bytes_in im Clauses) (before 24 fs f 4 alike l) (body_sort g) (behind 24 fs f 4 alike l) (bytes_in im Calls)

  abbrev old : Field
  old = get_or r.fields 4 no_field

  as_it_was : rest_of (of_image im) ≡ front ++ (body_sort old ++ back)
  as_it_was =
      ap (λ x. bytes_in im Parameters ++ (bytes_in im Clauses ++ (encode_records x ++ bytes_in im Calls)))
      (sym (as_it_is 24 fs f 4 alike l (sized_at im wf Functions f l) seven))
      ∙ pieces old

  front_length : length front ≡ size_in im Parameters + (size_in im Clauses + (f * 24 + 12))
  unfolding widths_of fields_of fields_in schema sort_of
  front_length =
      rw (length-append, length-append, length_before 24 fs f 4 alike l (sized_at im wf Functions f l) seven, kind_is) refl

  old_length : length (body_sort old) ≡ 4
  unfolding fields_of fields_in schema sort_of
  old_length =
      field_width (fields_of r.kind) r.fields 4 (sized_at im wf Functions f l) seven
      ∙ ap (λ k. width_of (sort_of (get_or (fields_of k) 4 0))) kind_is

  st : BytesAt (encode im) (parameters_at (encode im) (counts im)) (front ++ (body_sort old ++ back))
  st = subst (BytesAt (encode im) (parameters_at (encode im) (counts im))) as_it_was (rest_stands im wf)

  three : (a b c : List ℕ) → length (a ++ (b ++ c)) ≡ length a + (length b + length c)
  three a b c = length-append a (b ++ c) ∙ ap (λ n. length a + n) (length-append b c)

  abbrev parameters_here : ℕ
  parameters_here = parameters_at (encode im) (counts im)

  abbrev body_here : ℕ
  body_here = body_at (encode im) (counts im) f

  front_part : part (encode im) parameters_here (body_here - parameters_here) ≡ front
  front_part = part_is (left front _ st) parameters_here (body_here - parameters_here) refl (omega (arith, front_length, functions_place im wf))

  back_part : part (encode im) (body_here + 4) (length (encode im)) ≡ back
  back_part =
      last_is (right (body_sort old) back (right front _ st)) (body_here + 4) (length (encode im)) (omega (arith, front_length, old_length, functions_place im wf))
      (omega (arith, rest_ends im wf, ap length as_it_was ∙ three front (body_sort old) back)) (omega arith)

  pub rest_is : (list : Interval) → new_rest (encode im) parameters_here body_here list ≡ with_list (pair list.first list.count)
  unfolding new_rest
  rest_is list =
      ap₂ (λ x y. x ++ bytes_of 2 list.first ++ bytes_of 2 list.count ++ y) front_part back_part
      ∙ four front (bytes_of 2 list.first) (bytes_of 2 list.count) back
      ∙ sym (pieces (pair list.first list.count))
    where
      four : (a b c d : List ℕ) → a ++ b ++ c ++ d ≡ a ++ ((b ++ c) ++ d)
      four a b c d = simp append_assoc

  -- the bytes are as many as before
  pub rest_same : (a b : ℕ) → length (with_list (pair a b)) ≡ length (rest_of (of_image im))
  rest_same a b =
      ap length (pieces (pair a b))
      ∙ three front (body_sort (pair a b)) back
      ∙ ap (λ n. length front + (n + length back)) (new_length_lem ∙ sym old_length)
      ∙ sym (ap length as_it_was ∙ three front (body_sort old) back)
    where
      new_length_lem : length (body_sort (pair a b)) ≡ 4
      new_length_lem = simp (length-append, length_bytes)
