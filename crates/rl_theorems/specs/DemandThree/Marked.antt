-- The marked cases as one list, from the bytes of small images; and the printer's example.
-- Assumes nothing.
use Rattle.std.specs.Prelude.{◌≡◌, ℕ, ◌-◌, ◌<◌, ◌≤◌, true, false, List, [], ◌∷◌, ◌++◌, map, length, replicate, pos, negsuc, refl, None, Some, Ok}
use Prim.Native.String.{String}
use Rattle.std.proofs.Common.{ap, subst, ◌∙◌, arith, lit<}
use Rattle.std.proofs.Math.Option.{Option, none, some}
use Rattle.std.specs.Float.Ieee as F
use Rattle.rl_spec.specs.Answers.{accepted, ran, Folded}
use Rattle.rl_spec.specs.declared.Arguments.{Arguments}
use Rattle.rl_spec.specs.declared.ConstVal.TheVariants.{Int, Bool as Truth}
use Rattle.rl_spec.specs.declared.Outcome.{Outcome}
use Rattle.rl_spec.specs.declared.Outcome.TheVariants.{Returned}
use Rattle.rl_spec.specs.declared.Plain.TheVariants.{Const}
use Rattle.rl_spec.specs.declared.Section.TheVariants.{Expressions, Functions, Calls}
use Rattle.rl_spec.specs.declared.Value.TheVariants.{Plain as Bare}
use Rattle.rl_spec.specs.declared.Violation.{Violation}
use Rattle.rl_spec.specs.declared.Violation.TheVariants.{Refinement, Requires}
use Rattle.rl_spec.specs.Schema.{limits, sections, in_section, sort_of, fields_of, fields_in, schema}
use Rattle.rl_spec.specs.Utf8.{within, utf8_char, begins, width_by, char_width, octets, utf8}
use Rattle.rl_spec.specs.Bytes.{num_at, u16_at, u32_at, past}
use Rattle.rl_spec.specs.Fields.{zeros, kind_of_statement, allowed, child_height, entry_at, range_of, part_of, byte_in, operand_sort_of, refer_to, refer_or_none, entries_from, list_of, operand_of, value_of, field_at, fields_from, record_at}
use Rattle.rl_spec.specs.Read.{counts_of, counts_from, header_of, records_from, sections_from, end_of, body_of, read_of, answer_of}
use Rattle.rl_spec.specs.Image.{Rec, Image, records_of, text_of, size_of, tallest_entry, tallest_child, heights_from, heights, bytes_of, encode_fields, encode_record, encode_records, encode_sections, encode_counts, encode, image_of, sections_in, records_in, record_in, next_at, end_at, fields_at, widths_of, WellFormed}
use Rattle.rl_spec.specs.Values.{int, compare_values, compare_floats, compare_bools, less_text, same_text, arith_values, bang, negate}
use Rattle.rl_spec.specs.Tree.{ascii, form_by, descend_by, descend, expr_tree}
use Rattle.rl_spec.specs.Fold.{Binding, unary_value, unary_folded, binary_value, binary_folded, lookup, const_eval, fold_of}
use Rattle.rl_spec.specs.Records.{param_at, clause_at, function_at, call_at}
use Rattle.rl_spec.specs.Ranges.{up_from}
use Rattle.rl_spec.specs.FnContracts.{param_of, clause_of, contracts_of, any_refined, is_callee, callee_among, callee_of, arguments_of}
use Rattle.rl_spec.specs.Prove.{bind_arguments, refine_bound, refutes, fails_at, failed_refinements, failed_requires, prove_call, violations_of, report_entries, call_entries, all_entries, prove_of, reports_of, prove_all_of, all_reports_of}
use Rattle.rl_spec.specs.Statement.{statement_by, item_tree}
use Rattle.rl_spec.specs.Run.{find, eval}
use Rattle.rl_spec.specs.Reading.{checks, stmt, body, branch_or, or_else, top, run_function, reading}
use Rattle.rl_spec.specs.Mapped.{map_expr, map_body}
use Rattle.rl_spec.specs.Functions.{refinement_checks, plain_function, contract_function, reading_in}
use Rattle.rl_spec.specs.Runner.{outcome_in, all_have, ran_of, ran_in, run_of}
use Rattle.rl_spec.specs.Message.{decimal_by, decimal, message_by, opening, message_of}
use Rattle.rl_spec.specs.Printed.{output_of}
use Rattle.rl_spec.specs.Lower.{lowered}
use Rattle.rl_spec.specs.Lowerer.{any_over, too_tall, or_limit, lower_of}
use Rattle.rl_images.specs.Encoding.ReaderKnows.{counts}
use Rattle.rl_theorems.specs.Reading.EncodedAnswers.{lowered_encoded, ran_encoded, proved_encoded, reports_encoded, all_proved_encoded, all_reports_encoded, fitting_room, slice_room, are_bytes, well_formed_by, folded_longer}
use Rattle.rl_theorems.specs.Runs.Budget.{run_same, reading_same}
use Rattle.rl_examples.specs.LowerExamples.{requires_identifier, requires_lowered, case10_whole, returns_ok, returns_lowered, case11_whole, lowering}
use Rattle.rl_examples.specs.MarkedImages.{integer, uint, byte, string, bool, float, binary, unary, grouping, plus, minus, slash, compare, less, text_bytes, text_records, nodes, last_node, named_before, named_behind, returns_true, flow}
use Rattle.rl_examples.specs.PrinterExamples.{two_lines, refusals}

-- ---- what a case says

-- from the image's bytes, with any work slice that is long enough, folding the last node answers v
pub record Folds (im : Image) (v : Folded) : Type 0 where
  pub answer : (k : ℕ) → 8192 ≤ k → fold_of (encode im) k (last_node im) ≡ Ok v

-- a call has one report, by what it violates, its entries and its message; and from the image's bytes, with any slices that are long
-- enough, proving the call answers it
pub record Reports (im : Image) (call : ℕ) (v : Violation) (report : List ℕ) (message : String) : Type 0 where
  pub violations : violations_of im call ≡ v ∷ []
  pub entries : call_entries im call ≡ report
  pub text : message_of im call v ≡ ascii message
  pub image : image_of (encode im) ≡ im
  pub answer : (k room : ℕ) → 8192 ≤ k → 4 ≤ room → prove_of (encode im) k call room ≡ Ok 1
  pub slice : (k room : ℕ) → 8192 ≤ k → 4 ≤ room → reports_of (encode im) k call room ≡ report ++ replicate (room - 4) 0

-- from the image's bytes, with any slices that are long enough, lowering a function makes an image with nodes of these kinds
pub record Lowers (im : Image) (f : ℕ) (kinds : List ℕ) : Type 0 where
  pub lowered : Image
  pub nodes : map (λ (r : Rec). r.kind) (records_of lowered Expressions) ≡ kinds
  pub image : image_of (encode im) ≡ im
  pub answer : (k room : ℕ) → 8192 ≤ k → 65535 ≤ room → lower_of (encode im) k f room ≡ Ok lowered

-- with any budget that is enough, the contract reading of a function comes to this outcome in so many steps; and from the image's bytes,
-- with any slices that are long enough, lowering it makes an image from whose bytes the function runs to it in as many
pub record EndsSo (im : Image) (f : ℕ) (o : Outcome) (steps : ℕ) : Type 0 where
  pub image : image_of (encode im) ≡ im
  pub reads : (budget : ℕ) → steps ≤ budget → reading_in im f [] budget ≡ (outcome_in im o, steps)
  pub lowered : Image
  pub answer : (k room : ℕ) → 8192 ≤ k → 65535 ≤ room → lower_of (encode im) k f room ≡ Ok lowered
  pub runs : (k budget : ℕ) (args : Arguments) → 8192 ≤ k → args.count ≡ 0 → steps ≤ budget → budget ≤ 1000000 → run_of (encode lowered) k f args budget ≡ ran o steps

-- the names found in the first pass over a call of the f-th function
abbrev pub names_found : Image → ℕ → ℕ → List (Binding ℕ)
names_found im f call = bind_arguments (text_of im) [] (contracts_of im f).params (arguments_of im call)

-- ---- THE LIST

pub record MarkedCases : Type 0 where
  -- 1. -(-9223372036854775808): none
  pub case1 : Folds (nodes [] (integer (negsuc 9223372036854775807) ∷ grouping 0 ∷ unary minus 1 ∷ [])) None
  -- 2. 9223372036854775807 + 1: none
  pub case2 : Folds (nodes [] (integer (pos 9223372036854775807) ∷ integer (pos 1) ∷ binary 0 plus 1 ∷ [])) None
  -- 3. -7 / 2 = -3; the -7 a literal, and `-` of 7
  pub case3 : Folds (nodes [] (integer (negsuc 6) ∷ integer (pos 2) ∷ binary 0 slash 1 ∷ [])) (Some (Int (negsuc 2))) × Folds (nodes [] (integer (pos 7) ∷ unary minus 0 ∷ integer (pos 2) ∷ binary 1 slash 2 ∷ [])) (Some (Int (negsuc 2)))
  -- 4. 7 / 0: none
  pub case4 : Folds (nodes [] (integer (pos 7) ∷ integer (pos 0) ∷ binary 0 slash 1 ∷ [])) None
  -- 5. UInt 9223372036854775808: none; one less folds
  pub case5 : Folds (nodes [] (uint 9223372036854775808 ∷ [])) None × Folds (nodes [] (uint 9223372036854775807 ∷ [])) (Some (Int (pos 9223372036854775807)))
  -- 6. 9007199254740993 == 9007199254740992.0: true
  pub case6 : Folds (nodes [] (integer (pos 9007199254740993) ∷ float 0x4340000000000000 ∷ binary 0 compare 1 ∷ [])) (Some (Truth true))
  -- 7. 1.0 / -0.0: none; the -0.0 a literal, and `-` of 0.0
  pub case7 : Folds (nodes [] (float 0x3FF0000000000000 ∷ float 0x8000000000000000 ∷ binary 0 slash 1 ∷ [])) None × Folds (nodes [] (float 0x3FF0000000000000 ∷ float 0 ∷ unary minus 1 ∷ binary 0 slash 2 ∷ [])) None
  -- 8. true < false: none; "a" < "b": true
  pub case8 : Folds (nodes [] (bool 1 ∷ bool 0 ∷ binary 0 less 1 ∷ [])) None × Folds (nodes ("a" ∷ "b" ∷ []) (string 0 ∷ string 1 ∷ binary 0 less 1 ∷ [])) (Some (Truth true))
  -- 9. Byte 5: 5
  pub case9 : Folds (nodes [] (byte 5 ∷ [])) (Some (Int (pos 5)))
  -- 10. Node 0 an Identifier as requires without message, empty plain body: 1 String, 2 Identifier, 3 Unary, 4 ErrLiteral, 5 Call
  pub case10 : Lowers requires_identifier 0 (30 ∷ 25 ∷ 30 ∷ 33 ∷ 50 ∷ 41 ∷ [])
  -- 11. Result function, one-node ensures without message, one kind 66: 10 new nodes, behind the original's three
  pub case11 : Lowers returns_ok 0 (26 ∷ 49 ∷ 30 ∷ 30 ∷ 41 ∷ 30 ∷ 30 ∷ 41 ∷ 25 ∷ 30 ∷ 33 ∷ 50 ∷ 30 ∷ [])
  -- 12. f(1, a), parameters a, b: b, the text 2, is 1 after the first pass, and of requires b != 1 and b == 1 the first is reported
  pub case12 : (lookup (text_of named_before) (names_found named_before 0 0) 2 ≡ some (int (pos 1))) × Reports named_before 0 (Requires 0) (0 ∷ 10 ∷ 1 ∷ 0 ∷ []) "contract violation (proven at compile time): b is 1"
  -- 13. f(y, 5), parameters x > 9 and y: reported
  pub case13 : Reports named_behind 0 (Refinement 0) (0 ∷ 10 ∷ 0 ∷ 0 ∷ []) "contract violation (proven at compile time): refinement failed: x > 9"
  -- 14. `return true` under ensures `ret`: 9 steps
  pub case14 : EndsSo returns_true 0 (Returned (Bare (Const (Truth true)))) 9

-- ---- the printer's example: all that it writes, and for a byte too many; the two reports, and no others

pub record PrinterExample : Type 0 where
  pub output : output_of (encode flow) ≡ ascii "0 7 contract violation (proven at compile time): refinement failed: flow >= 1\n1 9 contract violation (proven at compile time): flow id range\n"
  pub refused : output_of (encode flow ++ 0 ∷ []) ≡ ascii "refused 10 at 213\n"
  pub first : Reports flow 0 (Refinement 0) (0 ∷ 7 ∷ 0 ∷ 0 ∷ []) "contract violation (proven at compile time): refinement failed: flow >= 1"
  pub second : Reports flow 1 (Requires 0) (1 ∷ 9 ∷ 1 ∷ 0 ∷ []) "contract violation (proven at compile time): flow id range"
  pub answer : (k room : ℕ) → 8192 ≤ k → 8 ≤ room → prove_all_of (encode flow) k room ≡ Ok 2
  pub slice : (k room : ℕ) → 8192 ≤ k → 8 ≤ room → all_reports_of (encode flow) k room ≡ 0 ∷ 7 ∷ 0 ∷ 0 ∷ 1 ∷ 9 ∷ 1 ∷ 0 ∷ replicate (room - 8) 0

-- ---- from the bytes to the image

folds : {im : Image} {v : Folded} → are_bytes (encode im) ≡ true → answer_of (encode im) 8192 ≡ accepted (record { 0 = im.arena }) (counts im) → fold_of (encode im) 8192 (last_node im) ≡ Ok v → Folds im v
folds {im} b a e = record { answer = λ k long. rw (folded_longer (encode im) _ _ b a (last_node im) k long) e }

module _ (im : Image) (b : are_bytes (encode im) ≡ true) (a : answer_of (encode im) 8192 ≡ accepted (record { 0 = im.arena }) (counts im)) (d : image_of (encode im) ≡ im) where
  well_formed : WellFormed im
  well_formed = subst WellFormed d (well_formed_by (encode im) _ _ b a)

  reports : {call : ℕ} {v : Violation} {report : List ℕ} {message : String} → call < size_of im Calls → violations_of im call ≡ v ∷ [] → call_entries im call ≡ report → message_of im call v ≡ ascii message → length report ≡ 4 → Reports im call v report message
  reports {call} {v} {report} l e c m n =
      record {
        violations = e;
        entries = c;
        text = m;
        image = d;
        answer = λ k room long fit.
            rw (proved_encoded im well_formed k long call room l, c, fitting_room room report (omega arith), n);
        slice = λ k room long fit.
            rw (reports_encoded im well_formed k long call room l, c, slice_room room report (omega arith), n);
      }

  lowers : {f : ℕ} {kinds : List ℕ} (im' : Image) → f < size_of im Functions → too_tall im ≡ false → lowered im f ≡ some im' →
      map (λ (r : Rec). r.kind) (records_of im' Expressions) ≡ kinds → Lowers im f kinds
  lowers {f} im' l low e q =
      record {
        lowered = im';
        nodes = q;
        image = d;
        answer = λ k room long fit. lowered_encoded im well_formed k long f room l low fit ∙ ap or_limit e;
      }

-- ---- by computation. What it opens of decoding, of folding, of proving and of reading contracts:

unfoldable pub decoding : Unit {0}
unfolding text_bytes text_records ascii encode encode_counts encode_sections encode_records encode_record encode_fields bytes_of fields_of fields_in schema sort_of answer_of read_of header_of counts_from limits counts_of body_of end_of sections_from sections records_from record_at in_section fields_from field_at value_of refer_to refer_or_none allowed kind_of_statement child_height entry_at entries_from list_of range_of part_of byte_in operand_sort_of operand_of zeros past u16_at u32_at num_at utf8 octets char_width width_by begins utf8_char within image_of sections_in records_in record_in next_at end_at fields_at widths_of
decoding = tt

unfoldable pub folding : Unit {0}
unfolding form_by descend_by descend expr_tree fold_of unary_value unary_folded binary_value binary_folded lookup const_eval compare_values compare_floats compare_bools less_text same_text arith_values negate F.of_int F.round F.of_bits F.of_fields F.odd F.units F.size F.climb F.span F.eq F.lt F.is_nan F.neg
folding = tt

unfoldable pub proving : Unit {0}
unfolding param_at clause_at function_at call_at param_of clause_of up_from contracts_of any_refined is_callee callee_among callee_of arguments_of bind_arguments refine_bound refutes fails_at failed_refinements failed_requires prove_call violations_of report_entries call_entries all_entries decimal_by decimal message_by opening message_of
proving = tt

running : Unit {0}
unfolding statement_by item_tree map_expr map_body refinement_checks plain_function contract_function reading_in find eval checks stmt body branch_or or_else top run_function reading bang
running = tt

unfoldable pub measuring : Unit {0}
unfolding too_tall any_over heights heights_from tallest_child tallest_entry
measuring = tt

lowers_10 : Lowers requires_identifier 0 (30 ∷ 25 ∷ 30 ∷ 33 ∷ 50 ∷ 41 ∷ [])
unfolding decoding measuring
lowers_10 = lowers requires_identifier refl refl refl requires_lowered (lit< tt) refl case10_whole refl

lowers_11 : Lowers returns_ok 0 (26 ∷ 49 ∷ 30 ∷ 30 ∷ 41 ∷ 30 ∷ 30 ∷ 41 ∷ 25 ∷ 30 ∷ 33 ∷ 50 ∷ 30 ∷ [])
unfolding decoding measuring
lowers_11 = lowers returns_ok refl refl refl returns_lowered (lit< tt) refl case11_whole refl

-- ---- what lowering makes of the image of case 14, and its runs

abbrev made_of : Option Image → Image
made_of none = returns_true
made_of (some im) = im

abbrev returns_true_lowered : Image
returns_true_lowered = made_of (lowered returns_true 0)

answer_14 : (k room : ℕ) → 8192 ≤ k → 65535 ≤ room → lower_of (encode returns_true) k 0 room ≡ Ok returns_true_lowered
unfolding decoding measuring lowering
answer_14 k room long fit =
    lowered_encoded returns_true (well_formed returns_true refl refl refl) k long 0 room (lit< tt) refl fit

lowered_well_formed : WellFormed returns_true_lowered
unfolding decoding lowering
lowered_well_formed = well_formed returns_true_lowered refl refl refl

runs_14 : (budget : ℕ) → 9 ≤ budget → ran_in returns_true_lowered 0 [] budget ≡ ran (Returned (Bare (Const (Truth true)))) 9
unfolding decoding folding proving running lowering ran_in
runs_14 budget enough =
    ap ran_of (run_same (text_of returns_true_lowered) (plain_function returns_true_lowered 0) [] 9 budget tt enough)

ends_14 : EndsSo returns_true 0 (Returned (Bare (Const (Truth true)))) 9
unfolding decoding folding proving running lowering all_have
ends_14 =
    record {
      image = refl;
      reads = λ budget enough. reading_same (λ t. t) (contract_function returns_true 0) [] (ascii "ret") 9 budget tt enough;
      lowered = returns_true_lowered;
      answer = answer_14;
      runs = λ k budget args long without enough taken.
          ran_encoded returns_true_lowered lowered_well_formed k long 0 args budget (lit< tt) (rw without refl) (rw without refl)
          taken
          ∙ rw without (runs_14 budget enough);
    }

-- THEOREMS
pub marked_cases : MarkedCases
unfolding decoding folding proving running
marked_cases =
    record {
      case1 = folds refl refl refl;
      case2 = folds refl refl refl;
      case3 = (folds refl refl refl, folds refl refl refl);
      case4 = folds refl refl refl;
      case5 = (folds refl refl refl, folds refl refl refl);
      case6 = folds refl refl refl;
      case7 = (folds refl refl refl, folds refl refl refl);
      case8 = (folds refl refl refl, folds refl refl refl);
      case9 = folds refl refl refl;
      case10 = lowers_10;
      case11 = lowers_11;
      case12 = (refl, reports named_before refl refl refl (lit< tt) refl refl refl refl);
      case13 = reports named_behind refl refl refl (lit< tt) refl refl refl refl;
      case14 = ends_14;
    }

pub printer_example : PrinterExample
unfolding decoding folding proving
printer_example =
    record {
      output = two_lines;
      refused = refusals.1;
      first = reports flow refl refl refl (lit< tt) refl refl refl refl;
      second = reports flow refl refl refl (lit< tt) refl refl refl refl;
      answer = λ k room long fit.
          all_proved_encoded flow (well_formed flow refl refl refl) k long room ∙ fitting_room room (all_entries flow 2 0) fit;
      slice = λ k room long fit.
          all_reports_encoded flow (well_formed flow refl refl refl) k long room ∙ slice_room room (all_entries flow 2 0) fit;
    }
