-- One small image that is well formed: `return (null)` in a function `a`, and a call of it.
-- Assumes nothing.
use Rattle.std.specs.Prelude.{◌≡◌, ℕ, zero, suc, ◌<◌, List, [], ◌∷◌, refl}
use Rattle.std.proofs.Common.{arith, lit<, lit≤}
use Rattle.rl_spec.specs.Answers.{accepted}
use Rattle.rl_spec.specs.declared.Section.{Section}
use Rattle.rl_spec.specs.declared.Section.TheVariants.{Texts, Lists, Expressions, Statements, Parameters, Clauses, Functions, Calls}
use Rattle.rl_spec.specs.declared.Target.{Target}
use Rattle.rl_spec.specs.Schema.{limits, sections, in_section, sort_of, fields_of, fields_in, schema}
use Rattle.rl_spec.specs.Utf8.{within, utf8_char, begins, width_by, char_width, octets, utf8}
use Rattle.rl_spec.specs.Bytes.{u16_at, u32_at, past}
use Rattle.rl_spec.specs.Fields.{kind_of_statement, allowed, child_height, entry_at, range_of, part_of, byte_in, refer_to, entries_from, list_of, value_of, field_at, fields_from, record_at}
use Rattle.rl_spec.specs.Read.{counts_of, counts_from, header_of, records_from, sections_from, end_of, body_of, read_of, answer_of}
use Rattle.rl_spec.specs.Image.{Field, num, pair, Rec, Image, size_of, record_of, bytes_of, encode_fields, encode_record, encode_records, encode_sections, encode_counts, encode, tallest_entry, tallest_child, heights_from, heights, Refers, a_raw, a_byte, a_part, a_reference, a_list, a_range, no_fields, ◌&◌, RecordFits, WellFormed}

abbrev made : ℕ → List Field → Rec
made k fs = record { kind = k; fields = fs }

abbrev pub example : Image
example =
    record {
      arena = 7;
      bytes = 0x61 ∷ [];
      records =
          -- the text "a", and a list of the record 0
          (made 2 (pair 0 1 ∷ []) ∷ []) ∷ (made 3 (num 0 ∷ []) ∷ [])
          -- null, and null in parentheses
          ∷ (made 16 (num 1 ∷ []) ∷ made 34 (num 2 ∷ num 0 ∷ []) ∷ [])
          -- return
          ∷ (made 66 (num 3 ∷ num 1 ∷ []) ∷ []) ∷ [] ∷ []
          -- the function, and a call with the argument null
          ∷ (made 82 (num 0 ∷ num 4 ∷ pair 0 0 ∷ num 0 ∷ pair 0 1 ∷ pair 0 0 ∷ pair 0 0 ∷ []) ∷ [])
          ∷ (made 83 (num 0 ∷ num 5 ∷ pair 0 1 ∷ []) ∷ []) ∷ [];
    }

example_fits : (o : Section) (i : ℕ) → i < size_of example o → RecordFits example o i (record_of example o i)
unfolding in_section fields_of fields_in schema sort_of heights heights_from tallest_child tallest_entry utf8 octets char_width width_by begins utf8_char within
example_fits Texts zero l = record { kind = refl; fields = a_part (lit≤ tt) refl & no_fields; height = lit≤ tt }
example_fits Texts (suc i) l = absurd (omega arith)
example_fits Lists zero l = record { kind = refl; fields = a_raw (lit< tt) & no_fields; height = lit≤ tt }
example_fits Lists (suc i) l = absurd (omega arith)
example_fits Expressions zero l = record { kind = refl; fields = a_raw (lit< tt) & no_fields; height = lit≤ tt }
example_fits Expressions (suc zero) l =
    record { kind = refl; fields = a_raw (lit< tt) & a_reference (record { earlier = lit< tt; taken = refl }) & no_fields; height = lit≤ tt }
example_fits Expressions (suc (suc i)) l = absurd (omega arith)
example_fits Statements zero l =
    record { kind = refl; fields = a_raw (lit< tt) & a_reference (record { earlier = lit< tt; taken = refl }) & no_fields; height = lit≤ tt }
example_fits Statements (suc i) l = absurd (omega arith)
example_fits Parameters i l = absurd (omega arith)
example_fits Clauses i l = absurd (omega arith)
example_fits Functions zero l =
    let name : Refers example Functions 0 Target.Text 0 = record { earlier = lit< tt; taken = refl } in
    let body : Refers example Functions 0 Target.Statement 0 = record { earlier = lit< tt; taken = refl } in
    record {
      kind = refl;
      fields = a_reference name & a_raw (lit< tt) & a_range (lit≤ tt) & a_byte (lit≤ tt) (lit≤ tt) & a_list {n = 1} (lit≤ tt) refl (body, tt)
          & a_range (lit≤ tt) & a_range (lit≤ tt) & no_fields;
      height = lit≤ tt;
    }
example_fits Functions (suc i) l = absurd (omega arith)
example_fits Calls zero l =
    let callee : Refers example Calls 0 Target.Text 0 = record { earlier = lit< tt; taken = refl } in
    let argument : Refers example Calls 0 Target.Expression 0 = record { earlier = lit< tt; taken = refl } in
    record {
      kind = refl;
      fields = a_reference callee & a_raw (lit< tt) & a_list {n = 1} (lit≤ tt) refl (argument, tt) & no_fields;
      height = lit≤ tt;
    }
example_fits Calls (suc i) l = absurd (omega arith)

pub example_well_formed : WellFormed example
unfolding limits encode encode_counts encode_sections encode_records encode_record encode_fields bytes_of fields_of fields_in schema sort_of
example_well_formed =
    record {
      arena = lit< tt;
      bytes = (lit< tt, tt);
      counts = (lit≤ tt, (lit≤ tt, (lit≤ tt, (lit≤ tt, (lit≤ tt, (lit≤ tt, (lit≤ tt, (lit≤ tt, (lit≤ tt, tt)))))))));
      fits = example_fits;
      size = lit≤ tt;
    }

-- the reader's definition computes on its bytes to what the theorem says
pub example_accepted : answer_of (encode example) 8192 ≡ accepted (record { 0 = 7 }) (record { bytes = 1; texts = 1; lists = 1; expressions = 2; statements = 1; parameters = 0; clauses = 0; functions = 1; calls = 1 })
unfolding encode encode_counts encode_sections encode_records encode_record encode_fields bytes_of fields_of fields_in schema sort_of answer_of read_of header_of counts_from limits counts_of body_of end_of sections_from sections records_from record_at in_section fields_from field_at value_of refer_to allowed kind_of_statement child_height entry_at entries_from list_of range_of part_of byte_in past u16_at u32_at utf8 octets char_width width_by begins utf8_char within
example_accepted = refl
