-- Where the pieces of a well-formed image's bytes stand.
-- Assumes nothing.
use Prim.Native.Nat.{ℕ, ◌+◌, ◌*◌, ◌≤◌}
use mathlib.Core.Path.{◌≡◌, refl, ap, ap₂, sym, ◌∙◌}
use mathlib.Core.List.{List, [], ◌∷◌, ◌++◌, append-nil}
use native.Mathlib.Omega.{arith}
use native.Mathlib.Nat.{add-zero}
use lib.ListN.{length, take, drop, length-append, length-drop}
use lib.Seq.{take-length, take_all}
use Rattle.rl_spec.specs.declared.Section.{Section}
use Rattle.rl_spec.specs.declared.Section.TheVariants.{Texts, Lists, Expressions, Statements, Parameters, Clauses, Functions, Calls}
use Rattle.rl_spec.specs.Schema.{sections, sort_of, fields_of, fields_in, schema}
use Rattle.rl_spec.specs.Fields.{lists_at}
use Rattle.rl_spec.specs.Image.{Image, records_of, size_of, no_record, bytes_of, encode_records, encode, widths_of, WellFormed}
use Rattle.rl_spec.specs.Found.{parameters_at, functions_at}
use Rattle.rl_images.specs.Encoding.BytesAt.{BytesAt, left, right, moved, piece, length_bytes}
use Rattle.rl_images.specs.Encoding.FieldWidths.{length_records}
use Rattle.rl_images.specs.Encoding.ReaderKnows.{counts}
use Rattle.rl_images.specs.Encoding.Header.{records_are}
use Rattle.rl_images.specs.Encoding.Sections.{place_of, length_at}
use Rattle.rl_assemble.specs.Pieces.{part, expressions_at}
use Rattle.rl_assemble.proofs.Laid.{Sections, layout, layout_length, five_counts, four_counts, rest_of, sections_of, laid, five_length, four_length, laid_length}

-- ---- a piece by its place and its length

module _ {s : List ℕ} {at : ℕ} {x : List ℕ} (st : BytesAt s at x) where
  pub part_is : (from n : ℕ) → from ≡ at → n ≡ length x → part s from n ≡ x
  part_is from n e f =
      ap₂ (λ i k. take k (drop i s)) (e ∙ sym (add-zero at)) f ∙ piece st 0 (length x) (omega arith) ∙ take-length x

  -- the last one
  pub last_is : (from n : ℕ) → from ≡ at → at + length x ≡ length s → length s ≤ n → part s from n ≡ x
  last_is from n e f h =
      take_all n (drop from s) (rw (length-drop) (omega arith)) ∙ sym (take_all (length x) (drop from s) (rw (length-drop) (omega arith)))
      ∙ part_is from (length x) e refl

abbrev pub of_image : Image → Sections
of_image im =
    record {
      texts = records_of im Texts;
      lists = records_of im Lists;
      expressions = records_of im Expressions;
      statements = records_of im Statements;
      parameters = records_of im Parameters;
      clauses = records_of im Clauses;
      functions = records_of im Functions;
      calls = records_of im Calls;
    }

-- the bytes of a section, and how many they are
abbrev pub bytes_in : Image → Section → List ℕ
bytes_in im o = encode_records (records_of im o)

abbrev pub size_in : Image → Section → ℕ
size_in im o = length (bytes_in im o)

module _ (im : Image) (wf : WellFormed im) where
  whole : encode im ≡ layout im.arena im.bytes (of_image im)
  unfolding sections
  whole =
      ap (λ rss. encode (record { arena = im.arena; bytes = im.bytes; records = rss })) (records_are im wf)
      ∙ laid im.arena im.bytes (of_image im)

  -- ---- lengths

  pub texts_length : size_in im Texts ≡ size_of im Texts * 5
  unfolding widths_of fields_of fields_in schema sort_of
  texts_length = length_records 5 no_record (records_of im Texts) (length_at im wf Texts refl)

  pub lists_length : size_in im Lists ≡ size_of im Lists * 3
  unfolding widths_of fields_of fields_in schema sort_of
  lists_length = length_records 3 no_record (records_of im Lists) (length_at im wf Lists refl)

  pub parameters_length : size_in im Parameters ≡ size_of im Parameters * 17
  unfolding widths_of fields_of fields_in schema sort_of
  parameters_length = length_records 17 no_record (records_of im Parameters) (length_at im wf Parameters refl)

  pub clauses_length : size_in im Clauses ≡ size_of im Clauses * 5
  unfolding widths_of fields_of fields_in schema sort_of
  clauses_length = length_records 5 no_record (records_of im Clauses) (length_at im wf Clauses refl)

  pub functions_length : size_in im Functions ≡ size_of im Functions * 24
  unfolding widths_of fields_of fields_in schema sort_of
  functions_length = length_records 24 no_record (records_of im Functions) (length_at im wf Functions refl)

  pub calls_length : size_in im Calls ≡ size_of im Calls * 11
  unfolding widths_of fields_of fields_in schema sort_of
  calls_length = length_records 11 no_record (records_of im Calls) (length_at im wf Calls refl)

  pub rest_length : length (rest_of (of_image im)) ≡ size_in im Parameters + (size_in im Clauses + (size_in im Functions + size_in im Calls))
  rest_length = simp length-append

  pub whole_length : length (encode im) ≡ layout_length im.bytes (of_image im)
  whole_length = ap length whole ∙ laid_length im.arena im.bytes (of_image im)

  -- ---- places

  pub statements_place : place_of im Statements ≡ expressions_at (counts im) + size_in im Expressions
  unfolding sections
  statements_place = omega (arith, texts_length, lists_length)

  pub parameters_place : parameters_at (encode im) (counts im) ≡ expressions_at (counts im) + size_in im Expressions + size_in im Statements
  parameters_place =
      omega (arith, whole_length, rest_length, texts_length, lists_length, parameters_length, clauses_length, functions_length, calls_length)

  pub rest_ends : parameters_at (encode im) (counts im) + length (rest_of (of_image im)) ≡ length (encode im)
  rest_ends = omega (arith, whole_length, parameters_place, texts_length, lists_length)

  pub functions_place : functions_at (encode im) (counts im) ≡ parameters_at (encode im) (counts im) + size_in im Parameters + size_in im Clauses
  functions_place =
      omega (arith, whole_length, rest_length, texts_length, lists_length, parameters_length, clauses_length, functions_length, calls_length)

  -- ---- what stands there

  st₀ : BytesAt (encode im) 0 (layout im.arena im.bytes (of_image im))
  st₀ = record { before = []; rest = []; whole = whole ∙ sym (append-nil _); place = refl }

  pub front_stands : BytesAt (encode im) 0 (1 ∷ bytes_of 4 im.arena)
  front_stands = left (1 ∷ bytes_of 4 im.arena) _ st₀

  st₂ : BytesAt (encode im) 15 (four_counts (of_image im) ++ (im.bytes ++ sections_of (of_image im)))
  st₂ =
      moved (right (five_counts im.bytes (of_image im)) _ (right (1 ∷ bytes_of 4 im.arena) _ st₀)) 15
      (rw (length_bytes, five_length) refl)

  pub counts_stand : BytesAt (encode im) 15 (four_counts (of_image im))
  counts_stand = left (four_counts (of_image im)) _ st₂

  st₃ : BytesAt (encode im) 23 (im.bytes ++ sections_of (of_image im))
  st₃ = moved (right (four_counts (of_image im)) _ st₂) 23 (rw four_length refl)

  pub bytes_stand : BytesAt (encode im) 23 im.bytes
  bytes_stand = left im.bytes _ st₃

  pub texts_stand : BytesAt (encode im) (23 + length im.bytes) (bytes_in im Texts)
  texts_stand = left (bytes_in im Texts) _ (right im.bytes _ st₃)

  st₄ : BytesAt (encode im) (lists_at (counts im)) (bytes_in im Lists ++ (bytes_in im Expressions ++ (bytes_in im Statements ++ rest_of (of_image im))))
  st₄ = moved (right (bytes_in im Texts) _ (right im.bytes _ st₃)) (lists_at (counts im)) (rw texts_length refl)

  pub lists_stand : BytesAt (encode im) (lists_at (counts im)) (bytes_in im Lists)
  lists_stand = left (bytes_in im Lists) _ st₄

  st₅ : BytesAt (encode im) (expressions_at (counts im)) (bytes_in im Expressions ++ (bytes_in im Statements ++ rest_of (of_image im)))
  st₅ = moved (right (bytes_in im Lists) _ st₄) (expressions_at (counts im)) (rw lists_length refl)

  pub expressions_stand : BytesAt (encode im) (expressions_at (counts im)) (bytes_in im Expressions)
  expressions_stand = left (bytes_in im Expressions) _ st₅

  st₆ : BytesAt (encode im) (place_of im Statements) (bytes_in im Statements ++ rest_of (of_image im))
  st₆ = moved (right (bytes_in im Expressions) _ st₅) (place_of im Statements) (sym statements_place)

  pub statements_stand : BytesAt (encode im) (place_of im Statements) (bytes_in im Statements)
  statements_stand = left (bytes_in im Statements) _ st₆

  pub rest_stands : BytesAt (encode im) (parameters_at (encode im) (counts im)) (rest_of (of_image im))
  rest_stands =
      moved (right (bytes_in im Statements) _ st₆) (parameters_at (encode im) (counts im)) (rw (parameters_place, statements_place) refl)
