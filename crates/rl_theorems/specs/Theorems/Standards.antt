-- DEMAND 2. RFC 3629 for text and IEEE 754-2019 for floats, save 01's listed differences; then the Rust decides, but for the change requests.
-- What it decides stands here as closed tables, a row or more for each rule, proved by computation; the marked cases are one list. What the printer
-- writes is stated for all bytes.
-- Assumes nothing.
use Rattle.std.specs.Prelude.{◌≡◌, ℕ, ◌*◌, ◌^◌, ◌<◌, ◌≤◌, Bool, true, false, T, List, [], ◌∷◌, ◌++◌, map, length, ℤ, negsuc, Float}
use Rattle.std.proofs.Math.Option.{some, none}
use Rattle.std.specs.Int.Signed.{mag}
use Rattle.std.specs.Float.{binary64}
use Rattle.std.specs.Float.Ieee.{of_int, fits}
use Rattle.std.specs.Float.Ieee.Scale.{finite}
use Rattle.std.specs.Float.Ieee.Positive.{den}
use Rattle.rl_spec.specs.Answers.{accepted, refused}
use Rattle.rl_spec.specs.declared.ArenaNo.{ArenaNo}
use Rattle.rl_spec.specs.declared.Cause.{Cause}
use Rattle.rl_spec.specs.declared.Counts.{Counts}
use Rattle.rl_spec.specs.Utf8.{utf8, is_scalar, encode_text, scalars_of}
use Rattle.rl_spec.specs.Read.{answer_of}
use Rattle.rl_spec.specs.Image.{Image, text_of, pair, encode, image_of, WellFormed}
use Rattle.rl_spec.specs.Tree.{ascii}
use Rattle.rl_spec.specs.Records.{call_at}
use Rattle.rl_spec.specs.Ranges.{up_from}
use Rattle.rl_spec.specs.FnContracts.{is_some}
use Rattle.rl_spec.specs.Prove.{call_entries, all_entries, violations_of}
use Rattle.rl_spec.specs.Message.{decimal}
use Rattle.rl_spec.specs.Texts.{message_at}
use Rattle.rl_spec.specs.Printed.{refused_line, line_at, joined, output_of}
use Rattle.rl_spec.specs.Make.{new_text, new_list, stmt as statement}
use Rattle.rl_spec.specs.Lower.{lowered, expr, fitting}
use Rattle.rl_spec.specs.Functions.{plain_function, contract_function}
use Rattle.rl_spec.specs.Runner.{value_sort, value_payload}
use Rattle.rl_spec.specs.Values.{int}
use Rattle.rl_images.specs.Images.Reports as Reports
use Rattle.rl_images.specs.Reading.Scalars as Scalars
use Rattle.rl_images.specs.Reading.Utf8 as Utf8
use Rattle.rl_examples.specs.CallTable as CallTable
use Rattle.rl_examples.specs.ColumnExamples as ColumnExamples
use Rattle.rl_examples.specs.ContractRows as ContractRows
use Rattle.rl_examples.specs.CopyExamples as CopyExamples
use Rattle.rl_examples.specs.DemandExamples as DemandExamples
use Rattle.rl_examples.specs.FloatTable as FloatTable
use Rattle.rl_examples.specs.FunctionExamples as FunctionExamples
use Rattle.rl_examples.specs.LowerExamples as LowerExamples
use Rattle.rl_examples.specs.LowerLimitExamples as LowerLimitExamples
use Rattle.rl_examples.specs.LowerRecords as LowerRecords
use Rattle.rl_examples.specs.MarkedImages as MarkedImages
use Rattle.rl_examples.specs.NodeRows as NodeRows
use Rattle.rl_examples.specs.NumberTable as NumberTable
use Rattle.rl_examples.specs.OperatorTable as OperatorTable
use Rattle.rl_examples.specs.PrinterExamples as PrinterExamples
use Rattle.rl_examples.specs.RefinementTable as RefinementTable
use Rattle.rl_examples.specs.Utf8Examples as Utf8Examples
use Rattle.rl_examples.specs.ValueExamples as ValueExamples
use Rattle.rl_theorems.specs.Answers.InOrder as InOrder
use Rattle.rl_theorems.specs.DemandThree.Marked as Marked
use Rattle.rl_theorems.specs.Values.Distance.{Same, apart}
use Rattle.rl_theorems.specs.Values.Nearest as Nearest

-- ---- text (Utf8): the syntax of RFC 3629 admits the encodings of scalars and nothing else

pub encoded_is_utf8 : (cs : List ℕ) → Utf8.All is_scalar cs → utf8 (encode_text cs) ≡ true
encoded_is_utf8 = Utf8.encoded_is_utf8

pub utf8_is_encoded : (s : List ℕ) → utf8 s ≡ true → (cs : List ℕ) × (Utf8.All is_scalar cs × (encode_text cs ≡ s))
utf8_is_encoded = Utf8.utf8_is_encoded

-- reading scalars back undoes encoding them, and encoding the scalars of UTF-8 undoes reading them (Scalars)
pub scalars_encoded : (cs : List ℕ) → Utf8.All is_scalar cs → scalars_of (encode_text cs) ≡ cs
scalars_encoded = Scalars.scalars_encoded

pub encoded_scalars : (s : List ℕ) → utf8 s ≡ true → encode_text (scalars_of s) ≡ s
encoded_scalars = Scalars.encoded_scalars

-- ---- a whole number of 64 bits beside a float becomes a binary64 value, and none is nearer (Nearest). apart i x / den x is the distance
-- between i and x

module _ (i : ℤ) (h : mag i < 2 ^ 63) where
  pub nearest_held : T (finite (of_int binary64 i)) × T (fits binary64 (of_int binary64 i))
  nearest_held = Nearest.nearest_held i h

  module _ (x : Float) (finite-x : T (finite x)) (fits-x : T (fits binary64 x)) where
    pub nearest_f64 : apart i (of_int binary64 i) * den x ≤ apart i x * den (of_int binary64 i)
    nearest_f64 = Nearest.nearest_f64 i h x finite-x fits-x

    -- where another number x is equally near, the last of the significand's 53 digits is 0, and that of x is 1
    pub nearest_even : apart i (of_int binary64 i) * den x ≡ apart i x * den (of_int binary64 i) → (Same x (of_int binary64 i) → ⊥) → Nearest.LastDigit 53 0 (of_int binary64 i) × Nearest.LastDigit 53 1 x
    nearest_even = Nearest.nearest_even i h x finite-x fits-x

-- ---- text, closed: the examples of RFC 3629, octets that are no UTF-8, and the ends of the scalars (Utf8Examples)

pub encodings_so : map (λ (r : List ℕ × List ℕ). encode_text r.0) Utf8Examples.encodings ≡ map (λ (r : List ℕ × List ℕ). r.1) Utf8Examples.encodings
encodings_so = Utf8Examples.encodings_so

pub judged_so : map (λ (r : List ℕ × Bool). utf8 r.0) Utf8Examples.judged ≡ map (λ (r : List ℕ × Bool). r.1) Utf8Examples.judged
judged_so = Utf8Examples.judged_so

pub scalars_so : map is_scalar (0 ∷ 0xD7FF ∷ 0xD800 ∷ 0xDFFF ∷ 0xE000 ∷ 0x10FFFF ∷ 0x110000 ∷ []) ≡ true ∷ true ∷ false ∷ false ∷ true ∷ true ∷ false ∷ []
scalars_so = Utf8Examples.scalars_so

-- the scalars of octets, from both ends of each line of UTF8-char, and up to where no character starts (ColumnExamples)
pub read_back_so : map (λ (r : List ℕ × List ℕ). scalars_of r.0) ColumnExamples.scalars ≡ map (λ (r : List ℕ × List ℕ). r.1) ColumnExamples.scalars
read_back_so = ColumnExamples.read_back_so

pub encodings_back : map (λ (r : List ℕ × List ℕ). scalars_of r.1) Utf8Examples.encodings ≡ map (λ (r : List ℕ × List ℕ). r.0) Utf8Examples.encodings
encodings_back = ColumnExamples.encodings_back

-- ---- floats and operators, closed (NodeRows says what a row is: nodes, what the last one folds to, and what its run comes to)

-- NaNs, zeros, infinities, rounding, the ends of the range, whole numbers beside floats, SFloats (FloatTable)
pub floats_so : map NodeRows.actual FloatTable.rows ≡ map NodeRows.expected FloatTable.rows
floats_so = FloatTable.floats_so

-- each operator byte: 1 to 12 on two literals of any two sorts, and on one, 13 to 63 on two numbers, on one and on a truth value; each
-- kind of literal (OperatorTable)
pub operators_so : map NodeRows.actual OperatorTable.rows ≡ map NodeRows.expected OperatorTable.rows
operators_so = OperatorTable.operators_so

-- the operators on values alone: arithmetic at the limits of 64 bits and by zero; comparisons (ValueExamples)
pub computed_so : ValueExamples.computed ≡ none ∷ none ∷ some (int (negsuc 2)) ∷ none ∷ none ∷ none ∷ []
computed_so = ValueExamples.computed_so

pub compared_so : ValueExamples.compared ≡ some true ∷ none ∷ some true ∷ []
compared_so = ValueExamples.compared_so

-- ---- reports, closed (ContractRows says what a row is: an image, and for each of its calls its reports and how its callee is read and runs)

-- each refinement with each sort of operand, and the texts of clauses (RefinementTable)
pub refinements_so : map ContractRows.actual RefinementTable.rows ≡ map ContractRows.expected RefinementTable.rows
refinements_so = RefinementTable.refinements_so

-- the function that a call is proved against, by the texts of its reports, and the entries of one report (CallTable)
pub callees_so : map (ContractRows.reported CallTable.named_alike) (up_from 0 19) ≡ map (map ascii) CallTable.callees
callees_so = CallTable.callees_so

pub entries_so : call_entries CallTable.named_alike 18 ≡ 18 ∷ 10 ∷ 1 ∷ 1 ∷ []
entries_so = CallTable.entries_so

-- shuts out 01's worthless version "never reports": the reports of the printer's example, as entries and as texts (DemandExamples)
pub flow_reported : (all_entries MarkedImages.flow 2 0 ≡ 0 ∷ 7 ∷ 0 ∷ 0 ∷ 1 ∷ 9 ∷ 1 ∷ 0 ∷ [])
    × (ContractRows.reported MarkedImages.flow 0 ≡ ascii "contract violation (proven at compile time): refinement failed: flow >= 1" ∷ [])
    × (ContractRows.reported MarkedImages.flow 1 ≡ ascii "contract violation (proven at compile time): flow id range" ∷ [])
flow_reported = DemandExamples.flow_reported

-- ---- functions and their values, closed

-- names, parameters and result flags, as contracts are read and as the runner runs (FunctionExamples)
pub read_names : FunctionExamples.named (λ f. (contract_function FunctionExamples.two f).name) (λ f. (contract_function FunctionExamples.two f).params) ≡ FunctionExamples.expected
read_names = FunctionExamples.read_names

pub read_results : (contract_function FunctionExamples.two 0).is_result ∷ (contract_function FunctionExamples.two 1).is_result ∷ [] ≡ false ∷ true ∷ []
read_results = FunctionExamples.read_results

pub run_names : FunctionExamples.named (λ f. text_of FunctionExamples.two (plain_function FunctionExamples.two f).name) (λ f. map (text_of FunctionExamples.two) (plain_function FunctionExamples.two f).params) ≡ FunctionExamples.expected
run_names = FunctionExamples.run_names

pub run_results : (plain_function FunctionExamples.two 0).is_result ∷ (plain_function FunctionExamples.two 1).is_result ∷ [] ≡ false ∷ true ∷ []
run_results = FunctionExamples.run_results

-- runs on as many values as there are parameters, sixteen at most, and on others: the number, and the answer (CallTable)
pub values_so : map (λ v. CallTable.answered (CallTable.run v)) CallTable.values ≡ map (λ (v : CallTable.Values). (v.number, v.answer)) CallTable.values
values_so = CallTable.values_so

-- values as two words, the sort and the payload (NumberTable)
pub sorts_so : map value_sort NumberTable.values ≡ 0 ∷ 1 ∷ 1 ∷ 3 ∷ 4 ∷ 4 ∷ 8 ∷ 9 ∷ 19 ∷ []
sorts_so = NumberTable.sorts_so

pub payloads_so : map value_payload NumberTable.values ≡ 0 ∷ 5 ∷ 18446744073709551615 ∷ 7 ∷ 1 ∷ 0 ∷ 0 ∷ 5 ∷ 7 ∷ []
payloads_so = NumberTable.payloads_so

-- ---- lowered images, closed

-- whole: a requires (marked case 10), an ensures of a result function (marked case 11), a loop with a return and a bare last expression; the
-- reader accepts them and others (LowerExamples)
pub case10_whole : lowered LowerExamples.requires_identifier 0 ≡ some LowerExamples.requires_lowered
case10_whole = LowerExamples.case10_whole

pub case11_whole : lowered LowerExamples.returns_ok 0 ≡ some LowerExamples.returns_lowered
case11_whole = LowerExamples.case11_whole

pub loop_and_last_whole : lowered LowerExamples.loop_and_last 0 ≡ some LowerExamples.loop_and_last_lowered
loop_and_last_whole = LowerExamples.loop_and_last_whole

pub lowerable_accepted : map (λ im. LowerExamples.read_by (lowered im 0)) LowerExamples.lowerable ≡ 0 ∷ 0 ∷ 0 ∷ 0 ∷ 0 ∷ 0 ∷ []
lowerable_accepted = LowerExamples.lowerable_accepted

-- in the part that tells: conditionals, loops, arms, the printer's example, no contracts, one function of two (LowerExamples)
pub lowerings_so : LowerExamples.Lowerings
lowerings_so = LowerExamples.lowerings_so

-- the spans of new records, temporaries with two digits, requires before ensures, what arms and loops keep (LowerRecords)
pub new_records_so : LowerRecords.NewRecords
new_records_so = LowerRecords.new_records_so

-- copies of conditions, temporaries, operands' texts (CopyExamples)
pub copies_so : CopyExamples.Copies
copies_so = CopyExamples.copies_so

-- the six limits: the last of each that there is room for, and one too many (LowerLimitExamples)
pub last_ones : (LowerLimitExamples.answered (new_text (ascii "ab") (LowerLimitExamples.filled 16382 2047 0 0 0)) ≡ some 2047)
    × (LowerLimitExamples.answered (new_list (1 ∷ 2 ∷ []) (LowerLimitExamples.filled 0 0 4094 0 0)) ≡ some (pair 4094 2))
    × (LowerLimitExamples.answered (new_list [] (LowerLimitExamples.filled 0 0 4096 0 0)) ≡ some (pair 4096 0))
    × (LowerLimitExamples.answered (expr 16 [] (LowerLimitExamples.filled 0 0 0 4095 0)) ≡ some 4095)
    × (LowerLimitExamples.answered (statement 77 9 [] (LowerLimitExamples.filled 0 0 0 0 2047)) ≡ some 2047)
last_ones = LowerLimitExamples.last_ones

pub too_many : (LowerLimitExamples.answered (new_text (ascii "ab") (LowerLimitExamples.filled 16383 2047 0 0 0)) ≡ none)
    × (LowerLimitExamples.answered (new_text (ascii "ab") (LowerLimitExamples.filled 16382 2048 0 0 0)) ≡ none)
    × (LowerLimitExamples.answered (new_list (1 ∷ 2 ∷ []) (LowerLimitExamples.filled 0 0 4095 0 0)) ≡ none)
    × (LowerLimitExamples.answered (expr 16 [] (LowerLimitExamples.filled 0 0 0 4096 0)) ≡ none)
    × (LowerLimitExamples.answered (statement 77 9 [] (LowerLimitExamples.filled 0 0 0 0 2048)) ≡ none)
too_many = LowerLimitExamples.too_many

pub longest : is_some (fitting true (LowerLimitExamples.sized 4072)) ≡ true
longest = LowerLimitExamples.longest

pub too_long : is_some (fitting true (LowerLimitExamples.sized 4073)) ≡ false
too_long = LowerLimitExamples.too_long

-- ---- what the printer writes

-- closed: 01's two lines, a call with two reports, refusals (PrinterExamples)

pub two_lines : output_of (encode MarkedImages.flow) ≡ ascii "0 7 contract violation (proven at compile time): refinement failed: flow >= 1\n1 9 contract violation (proven at compile time): flow id range\n"
two_lines = PrinterExamples.two_lines

pub in_order : output_of (encode PrinterExamples.both_fail) ≡ ascii "0 10 contract violation (proven at compile time): refinement failed: a > 5\n0 10 contract violation (proven at compile time): requires violated\n"
in_order = PrinterExamples.in_order

pub refusals : (output_of [] ≡ ascii "refused 3 at 0\n") × (output_of (encode MarkedImages.flow ++ 0 ∷ []) ≡ ascii "refused 10 at 213\n")
refusals = PrinterExamples.refusals

-- for all bytes: where they are accepted the lines of all calls, one after another, `in_order` n calls from the k-th on, of each call one for
-- each report by its number; and else the line of the refusal (InOrder)
pub output_in_order : (s : List ℕ) (a : ArenaNo) (c : Counts) → answer_of s 8192 ≡ accepted a c → output_of s ≡ joined (InOrder.in_order (image_of s) c.calls 0)
output_in_order = InOrder.output_in_order

pub output_refused : (s : List ℕ) (q : Cause) (p : ℕ) → answer_of s 8192 ≡ refused q p → output_of s ≡ refused_line q p
output_refused = InOrder.output_refused

-- a line with a report has the report's message in it and ends in a newline; every line fits the printer's buffer, and every message its
-- array (InOrder; the last two: Reports of rl_images)
pub message_in_line : (im : Image) (call n : ℕ) → n < length (violations_of im call) → line_at im call n ≡ decimal call ++ ascii " " ++ decimal (call_at im call).span ++ ascii " " ++ message_at im call n ++ ascii "\n"
message_in_line = InOrder.message_in_line

pub line_ends : (im : Image) (call n : ℕ) → n < length (violations_of im call) → (l : List ℕ) × (line_at im call n ≡ l ++ ascii "\n")
line_ends = InOrder.line_ends

pub line_fits : (im : Image) → WellFormed im → (call n : ℕ) → length (line_at im call n) ≤ 65536
line_fits = Reports.line_fits

pub message_fits : (im : Image) → WellFormed im → (call n : ℕ) → length (message_at im call n) ≤ 65535
message_fits = Reports.message_fits

-- a call has at most the 512 reports that the printer's slice takes (rl_images: Images.Reports)
pub at_most_512 : (im : Image) → WellFormed im → (call : ℕ) → length (violations_of im call) ≤ 512
at_most_512 = Reports.at_most_512

-- ---- the marked cases, and the printer's example (Marked has both lists, MarkedImages the images)

pub marked_cases : Marked.MarkedCases
marked_cases = Marked.marked_cases

pub printer_example : Marked.PrinterExample
printer_example = Marked.printer_example
