-- DEMAND 1. Any bytes are read, or refused with the number and place of 01's table and for those causes only; a refusal leaves every lent
-- output zero. That all ends needs no statement here: definitions are total, and code meets a contract only where it ends.
-- Assumes nothing.
use Rattle.std.specs.Prelude.{◌≡◌, ℕ, ◌+◌, ◌-◌, ◌*◌, ◌/◌, ◌^◌, ◌<◌, ◌≤◌, true, false, ◌⊎◌, ◌↔◌, List, [], ◌∷◌, ◌++◌, map, length, take, drop, replicate, negsuc, from_bits, slice_index, None, Some, Ok}
use Rattle.std.proofs.Math.Option.{some}
use Rattle.std.specs.Float.{binary64}
use Rattle.rl_spec.specs.Answers.{accepted, ran, refused, Folded}
use Rattle.rl_spec.specs.declared.ArenaNo.{ArenaNo}
use Rattle.rl_spec.specs.declared.Arguments.{Arguments}
use Rattle.rl_spec.specs.declared.Cause.TheVariants.{BytesEnd, BadText, BadReference, TooHigh, WrongKind, CountOverLimit, BadValue, BytesLeft, WrongValues, NoSuchText}
use Rattle.rl_spec.specs.declared.Cause.{Cause}
use Rattle.rl_spec.specs.declared.ConstVal.TheVariants.{Int, Float, Str, Bool}
use Rattle.rl_spec.specs.declared.Counts.{Counts}
use Rattle.rl_spec.specs.declared.Id.{Id}
use Rattle.rl_spec.specs.declared.Outcome.TheVariants.{Returned, Stopped, Fault, Spent}
use Rattle.rl_spec.specs.declared.Outcome.{Outcome}
use Rattle.rl_spec.specs.declared.Plain.TheVariants.{Const}
use Rattle.rl_spec.specs.declared.Section.TheVariants.{Expressions, Statements, Functions, Calls}
use Rattle.rl_spec.specs.declared.Section.{Section}
use Rattle.rl_spec.specs.declared.Sort.TheVariants.{Part}
use Rattle.rl_spec.specs.declared.TextPart.{TextPart}
use Rattle.rl_spec.specs.declared.Value.TheVariants.{Plain}
use Rattle.rl_spec.specs.declared.Value.TheVariants as val
use Rattle.rl_spec.specs.Bytes.{u16_at}
use Rattle.rl_spec.specs.Schema.{text_bytes_at, tallest, width_of, limits, lowest, highest}
use Rattle.rl_spec.specs.Utf8.{utf8}
use Rattle.rl_spec.specs.Fields.{record_at}
use Rattle.rl_spec.specs.Read.{number_of, counts_of, answer_of, number_in, work_of, packed}
use Rattle.rl_spec.specs.Image.{Image, encode, image_of, text_of, size_of, heights, AllBytes, WellFormed}
use Rattle.rl_spec.specs.Folded.{as_folded}
use Rattle.rl_spec.specs.Tree.{expr_tree, ascii}
use Rattle.rl_spec.specs.Records.{function_at}
use Rattle.rl_spec.specs.Fold.{const_eval, fold_of, fold_number, work_unless}
use Rattle.rl_spec.specs.Prove.{call_entries, all_entries, prove_of, reports_of, prove_all_of, all_reports_of, prove_number, violations_of}
use Rattle.rl_spec.specs.Printed.{line_at}
use Rattle.rl_spec.specs.Texts.{text_part, text_for, text_number, message_at, message_answer, message_out, message_number}
use Rattle.rl_spec.specs.Pages.{pages_of, pages_answer, pages_out, pages_number}
use Rattle.rl_spec.specs.Lower.{lowered, unlimited}
use Rattle.rl_spec.specs.Lowerer.{lower_of, lower_answer, lower_number, lower_out}
use Rattle.rl_spec.specs.Runner.{given, ran_in, run_of, run_number}
use Rattle.rl_spec.specs.Words.{sort_word_of, payload_word_of}
use Rattle.rl_spec.specs.Boundary.{prove_packed, lower_packed, id_of, fold_packed, fold_words, are_values, count_of_words, arguments_of, outcome_words, run_packed, run_words, text_packed, message_packed, pages_packed}
use Rattle.rl_laws.specs.Heights.{expr_height}
use Rattle.rl_images.specs.Encoding.Accepted as Well
use Rattle.rl_images.specs.Encoding.Encoded as Encoded
use Rattle.rl_images.specs.Encoding.ReaderKnows.{counts}
use Rattle.rl_images.specs.Images.Heights as Heights
use Rattle.rl_images.specs.Reading.Decode as Decode
use Rattle.rl_images.specs.Reading.Places as Places
use Rattle.rl_images.specs.Reading.ReadOutcome as ReadOutcome
use Rattle.rl_images.specs.Reading.Refusals as Refusals
use Rattle.rl_images.specs.Reading.Rows.{field_rows, height_at, record_rows, sections_end, content_rows, read_rows}
use Rattle.rl_images.specs.Reading.Table.{First, Unmet}
use Rattle.rl_examples.specs.BoundaryTable as BoundaryTable
use Rattle.rl_examples.specs.DemandExamples as DemandExamples
use Rattle.rl_examples.specs.MarkedImages as MarkedImages
use Rattle.rl_examples.specs.NumberTable as NumberTable
use Rattle.rl_examples.specs.PrinterExamples as PrinterExamples
use Rattle.rl_theorems.specs.Answers.OfFolding as OfFolding
use Rattle.rl_theorems.specs.Answers.OfLimits as OfLimits
use Rattle.rl_theorems.specs.Answers.OfPages as OfPages
use Rattle.rl_theorems.specs.Answers.OfProving as OfProving
use Rattle.rl_theorems.specs.Answers.OfRunning as OfRunning
use Rattle.rl_theorems.specs.Answers.OfTexts as OfTexts
use Rattle.rl_theorems.specs.Answers.OfWords as OfWords
use Rattle.rl_theorems.specs.Answers.Outputs as Outputs
use Rattle.rl_theorems.specs.Answers.Tables.{lower_rows, fold_rows, prove_rows, reports_from, prove_all_rows, text_rows, message_rows, pages_rows, run_rows}
use Rattle.rl_theorems.specs.Images.FunctionReady.{Under}
use Rattle.rl_theorems.specs.Lowering.LimitPassed as LimitPassed
use Rattle.rl_theorems.specs.Reading.EncodedBytes as EncodedBytes
use Rattle.rl_theorems.specs.Reading.Numbers as Numbers

-- ---- CHECKS RUN IN THE TABLE'S ORDER. A table is a list of rows: a cause, its place, and what it says (Table). `First t q p`: the first
-- row of t that holds is the cause q at p. `Unmet t`: none holds. The reader's table is in Rows, the others in Tables; each stands behind
-- the reader's. Every refusal is for the first cause that holds, and every other answer is given where none does (ReadOutcome, OfLimits,
-- OfFolding, OfProving, OfTexts, OfPages, OfRunning)

module _ (s : List ℕ) (k : ℕ) where
  -- 1 to 10
  pub read_refuses : (q : Cause) (p : ℕ) → (answer_of s k ≡ refused q p) ↔ First (read_rows s k) q p
  read_refuses = ReadOutcome.read_refuses s k

  pub read_accepts : ((a : ArenaNo) × (c : Counts) × (answer_of s k ≡ accepted a c)) ↔ Unmet (read_rows s k)
  read_accepts = ReadOutcome.read_accepts s k

  -- 11, 12, 13, 14
  pub lower_refuses : AllBytes s → (f room : ℕ) (q : Cause) (p : ℕ) → (lower_of s k f room ≡ refused q p) ↔ First (read_rows s k ++ lower_rows (image_of s) f room) q p
  lower_refuses bytes f room = OfLimits.lower_refuses s k f room bytes

  -- the image that lowering without limits makes
  pub lower_accepts : AllBytes s → (f room : ℕ) (im' : Image) → (lower_of s k f room ≡ Ok im') ↔ (Unmet (read_rows s k ++ lower_rows (image_of s) f room) × (unlimited (image_of s) f ≡ some im'))
  lower_accepts bytes f room = OfLimits.lower_accepts s k f room bytes

  -- 15, 16
  pub fold_refuses : (id : Id) (q : Cause) (p : ℕ) → (fold_of s k id ≡ refused q p) ↔ First (read_rows s k ++ fold_rows (image_of s) id) q p
  fold_refuses = OfFolding.fold_refuses s k

  pub fold_accepts : (id : Id) (v : Folded) → (fold_of s k id ≡ Ok v) ↔ (Unmet (read_rows s k ++ fold_rows (image_of s) id) × (as_folded (const_eval (text_of (image_of s)) [] (expr_tree (image_of s) id.node.0)) ≡ v))
  fold_accepts = OfFolding.fold_accepts s k

  -- one call: 17, 18
  pub prove_refuses : (call room : ℕ) (q : Cause) (p : ℕ) → (prove_of s k call room ≡ refused q p) ↔ First (read_rows s k ++ prove_rows (image_of s) call room) q p
  prove_refuses = OfProving.prove_refuses s k

  pub prove_accepts : (call room n : ℕ) → (prove_of s k call room ≡ Ok n) ↔ (Unmet (read_rows s k ++ prove_rows (image_of s) call room) × (length (violations_of (image_of s) call) ≡ n))
  prove_accepts = OfProving.prove_accepts s k

  -- all calls: 18
  pub prove_all_refuses : (room : ℕ) (q : Cause) (p : ℕ) → (prove_all_of s k room ≡ refused q p) ↔ First (read_rows s k ++ prove_all_rows (image_of s) room) q p
  prove_all_refuses = OfProving.prove_all_refuses s k

  pub prove_all_accepts : (room n : ℕ) → (prove_all_of s k room ≡ Ok n) ↔ (Unmet (read_rows s k ++ prove_all_rows (image_of s) room) × (reports_from (image_of s) (size_of (image_of s) Calls) 0 ≡ n))
  prove_all_accepts = OfProving.prove_all_accepts s k

  -- a text by its number: 20
  pub text_refuses : (t : ℕ) (q : Cause) (p : ℕ) → (text_for s k t ≡ refused q p) ↔ First (read_rows s k ++ text_rows (image_of s) t) q p
  text_refuses = OfTexts.text_refuses s k

  pub text_accepts : (t : ℕ) (part : TextPart) → (text_for s k t ≡ Ok part) ↔ (Unmet (read_rows s k ++ text_rows (image_of s) t) × (text_part (image_of s) t ≡ part))
  text_accepts = OfTexts.text_accepts s k

  -- the part that is found has the text's bytes and stands within the image; its start and its length have 16 bits each
  pub text_stands : (t : ℕ) (part : TextPart) → AllBytes s → text_for s k t ≡ Ok part → (take part.length (drop part.start s) ≡ text_of (image_of s) t) × (part.start + part.length ≤ length s) × (part.start < 65536) × (part.length < 65536)
  text_stands = OfTexts.text_stands s k

  -- the message of a call's n-th report: 17. Without such a report it is empty
  pub message_refuses : (call n : ℕ) (q : Cause) (p : ℕ) → (message_answer s k call n ≡ refused q p) ↔ First (read_rows s k ++ message_rows (image_of s) call) q p
  message_refuses = OfTexts.message_refuses s k

  pub message_accepts : (call n l : ℕ) → (message_answer s k call n ≡ Ok l) ↔ (Unmet (read_rows s k ++ message_rows (image_of s) call) × (length (message_at (image_of s) call n) ≡ l))
  message_accepts = OfTexts.message_accepts s k

  -- pages of the reports of all calls: 22
  pub pages_refuses : (room : ℕ) (q : Cause) (p : ℕ) → (pages_answer s k room ≡ refused q p) ↔ First (read_rows s k ++ pages_rows (image_of s) room) q p
  pages_refuses = OfPages.pages_refuses s k

  pub pages_accepts : (room n : ℕ) → (pages_answer s k room ≡ Ok n) ↔ (Unmet (read_rows s k ++ pages_rows (image_of s) room) × (length (pages_of (image_of s) (size_of (image_of s) Calls)) ≡ n))
  pages_accepts = OfPages.pages_accepts s k

  -- 11, 19, 20, 21
  pub run_refuses : (f : ℕ) (args : Arguments) (budget : ℕ) (q : Cause) (p : ℕ) → (run_of s k f args budget ≡ refused q p) ↔ First (read_rows s k ++ run_rows (image_of s) f args budget) q p
  run_refuses = OfRunning.run_refuses s k

  pub run_accepts : (f : ℕ) (args : Arguments) (budget : ℕ) (o : Outcome) (n : ℕ) → (run_of s k f args budget ≡ ran o n) ↔ (Unmet (read_rows s k ++ run_rows (image_of s) f args budget) × (ran_in (image_of s) f (given args) budget ≡ ran o n))
  run_accepts = OfRunning.run_accepts s k

  -- values in words, two each, of a function that is there (OfWords): words that are no values are 19, and so are more than sixteen values
  pub no_values_lem : (f : ℕ) (words : List ℕ) (budget : ℕ) (a : ArenaNo) (c : Counts) → answer_of s k ≡ accepted a c → f < c.functions → are_values words ≡ false → run_of s k f (arguments_of words) budget ≡ refused WrongValues 0
  no_values_lem = OfWords.no_values_lem s k

  pub many_values : (f : ℕ) (words : List ℕ) (budget : ℕ) (a : ArenaNo) (c : Counts) → answer_of s k ≡ accepted a c → f < c.functions → 17 ≤ length words / 2 → run_of s k f (arguments_of words) budget ≡ refused WrongValues 0
  many_values = OfWords.many_values s k

  -- as many values as parameters are 20 where the i-th is a Str, bare, in an Ok or in an Err, and its payload is no text's number, also above
  -- 65,535
  pub str_missing : (f : ℕ) (words : List ℕ) (budget : ℕ) (a : ArenaNo) (c : Counts) → answer_of s k ≡ accepted a c → f < c.functions → are_values words ≡ true → length words / 2 ≤ 16 → length words / 2 ≡ (function_at (image_of s) f).params.count → (i : ℕ) → i < length words / 2 → (slice_index words (i * 2) ≡ 3) ⊎ ((slice_index words (i * 2) ≡ 11) ⊎ (slice_index words (i * 2) ≡ 19)) → c.texts ≤ slice_index words (i * 2 + 1) → run_of s k f (arguments_of words) budget ≡ refused NoSuchText 0
  str_missing = OfWords.str_missing s k

  -- A REFUSAL LEAVES EVERY LENT SLICE ALL ZERO (Outputs; the reader's own: refused-work). Without one the work slice holds what reading
  -- leaves there, and the other slice what is answered, then zeros
  pub refused_work : (q : Cause) (p : ℕ) → answer_of s k ≡ refused q p → work_of s k ≡ replicate k 0
  refused_work = Refusals.refused_work s k

  pub fold_zero : (id : Id) (q : Cause) (p : ℕ) → fold_of s k id ≡ refused q p → (work_unless (fold_number (fold_of s k id)) s k ≡ replicate k 0) × (fold_words (fold_of s k id) ≡ replicate 2 0)
  fold_zero = Outputs.fold_zero s k

  pub fold_leaves : (id : Id) (v : Folded) → fold_of s k id ≡ Ok v → (work_unless (fold_number (fold_of s k id)) s k ≡ work_of s k) × (fold_words (fold_of s k id) ≡ sort_word_of v ∷ payload_word_of v ∷ [])
  fold_leaves = Outputs.fold_leaves s k

  pub prove_zero : (call room : ℕ) (q : Cause) (p : ℕ) → prove_of s k call room ≡ refused q p → (work_unless (prove_number (prove_of s k call room)) s k ≡ replicate k 0) × (reports_of s k call room ≡ replicate room 0)
  prove_zero = Outputs.prove_zero s k

  pub prove_leaves : (call room n : ℕ) → prove_of s k call room ≡ Ok n → (work_unless (prove_number (prove_of s k call room)) s k ≡ work_of s k) × (reports_of s k call room ≡ call_entries (image_of s) call ++ replicate (room - length (call_entries (image_of s) call)) 0)
  prove_leaves = Outputs.prove_leaves s k

  pub prove_all_zero : (room : ℕ) (q : Cause) (p : ℕ) → prove_all_of s k room ≡ refused q p → (work_unless (prove_number (prove_all_of s k room)) s k ≡ replicate k 0) × (all_reports_of s k room ≡ replicate room 0)
  prove_all_zero = Outputs.prove_all_zero s k

  pub prove_all_leaves : (room n : ℕ) → prove_all_of s k room ≡ Ok n → (work_unless (prove_number (prove_all_of s k room)) s k ≡ work_of s k) × (all_reports_of s k room ≡ all_entries (image_of s) (counts_of s).calls 0 ++ replicate (room - length (all_entries (image_of s) (counts_of s).calls 0)) 0)
  prove_all_leaves = Outputs.prove_all_leaves s k

  pub text_zero : (t : ℕ) (q : Cause) (p : ℕ) → text_for s k t ≡ refused q p → work_unless (text_number (text_for s k t)) s k ≡ replicate k 0
  text_zero = Outputs.text_zero s k

  pub text_leaves : (t : ℕ) (part : TextPart) → text_for s k t ≡ Ok part → work_unless (text_number (text_for s k t)) s k ≡ work_of s k
  text_leaves = Outputs.text_leaves s k

  pub message_zero : (call n : ℕ) (q : Cause) (p : ℕ) → message_answer s k call n ≡ refused q p → (work_unless (message_number (message_answer s k call n)) s k ≡ replicate k 0) × (message_out s k call n ≡ replicate 65535 0)
  message_zero = Outputs.message_zero s k

  -- a message of a well-formed image has at most 65,535 bytes (message-fits of Standards)
  pub message_leaves : (call n l : ℕ) → message_answer s k call n ≡ Ok l → (work_unless (message_number (message_answer s k call n)) s k ≡ work_of s k) × (message_out s k call n ≡ message_at (image_of s) call n ++ replicate (65535 - length (message_at (image_of s) call n)) 0)
  message_leaves = Outputs.message_leaves s k

  pub pages_zero : (room : ℕ) (q : Cause) (p : ℕ) → pages_answer s k room ≡ refused q p → (work_unless (pages_number (pages_answer s k room)) s k ≡ replicate k 0) × (pages_out s k room ≡ replicate room 0)
  pages_zero = Outputs.pages_zero s k

  pub pages_leaves : (room n : ℕ) → pages_answer s k room ≡ Ok n → (work_unless (pages_number (pages_answer s k room)) s k ≡ work_of s k) × (pages_out s k room ≡ pages_of (image_of s) (counts_of s).calls ++ replicate (room - length (pages_of (image_of s) (counts_of s).calls)) 0)
  pages_leaves = Outputs.pages_leaves s k

  pub lower_zero : (f room : ℕ) (q : Cause) (p : ℕ) → lower_of s k f room ≡ refused q p → (work_unless (lower_number (lower_of s k f room)) s k ≡ replicate k 0) × (lower_out room (lower_of s k f room) ≡ replicate room 0)
  lower_zero = Outputs.lower_zero s k

  pub lower_leaves : (f room : ℕ) (im' : Image) → lower_of s k f room ≡ Ok im' → (work_unless (lower_number (lower_of s k f room)) s k ≡ work_of s k) × (lower_out room (lower_of s k f room) ≡ encode im' ++ replicate (room - length (encode im')) 0)
  lower_leaves = Outputs.lower_leaves s k

  pub run_zero : (f : ℕ) (args : Arguments) (budget : ℕ) (q : Cause) (p : ℕ) → run_of s k f args budget ≡ refused q p → (work_unless (run_number (run_of s k f args budget)) s k ≡ replicate k 0) × (run_words (run_of s k f args budget) ≡ replicate 4 0)
  run_zero = Outputs.run_zero s k

  pub run_leaves : (f : ℕ) (args : Arguments) (budget : ℕ) (o : Outcome) (n : ℕ) → run_of s k f args budget ≡ ran o n → (work_unless (run_number (run_of s k f args budget)) s k ≡ work_of s k) × (run_words (run_of s k f args budget) ≡ outcome_words o n)
  run_leaves = Outputs.run_leaves s k

-- the numbers of the causes are those of 01's table; in one word the number stands above the place's 32 bits (NumberTable)
pub numbers_so : map number_of NumberTable.causes ≡ 1 ∷ 2 ∷ 3 ∷ 4 ∷ 5 ∷ 6 ∷ 7 ∷ 8 ∷ 9 ∷ 10 ∷ 11 ∷ 12 ∷ 13 ∷ 14 ∷ 15 ∷ 16 ∷ 17 ∷ 18 ∷ 19 ∷ 20 ∷ 21 ∷ 22 ∷ []
numbers_so = NumberTable.numbers_so

pub packed_so : packed (refused BadText 300) ≡ 25769804076
packed_so = NumberTable.packed_so

-- in one word: a refusal's is the same of all entry points, and any other is what is answered (Outputs)
pub refusals_packed : (q : Cause) (p : ℕ) → (fold_packed (refused q p) ≡ packed (refused q p)) × (run_packed (refused q p) ≡ packed (refused q p)) × (prove_packed (refused q p) ≡ packed (refused q p)) × (lower_packed (refused q p) ≡ packed (refused q p)) × (text_packed (refused q p) ≡ packed (refused q p)) × (message_packed (refused q p) ≡ packed (refused q p)) × (pages_packed (refused q p) ≡ packed (refused q p))
refusals_packed = Outputs.refusals_packed

pub answers_packed : (v : Folded) (o : Outcome) (n : ℕ) (part : TextPart) → (fold_packed (Ok v) ≡ 0) × (run_packed (ran o n) ≡ 0) × (prove_packed (Ok n) ≡ n) × (lower_packed (Ok n) ≡ n) × (message_packed (Ok n) ≡ n) × (pages_packed (Ok n) ≡ n) × (text_packed (Ok part) ≡ part.start + part.length * 2 ^ 16)
answers_packed = Outputs.answers_packed

-- ---- what C and Rust get, closed: words taken for values, and words that are none; runs, folds, texts, messages and lines by number (BoundaryTable)

pub taken_so : map count_of_words BoundaryTable.taken ≡ 0 ∷ 1 ∷ 1 ∷ 1 ∷ 1 ∷ 1 ∷ 1 ∷ 1 ∷ 1 ∷ 1 ∷ 1 ∷ 1 ∷ 1 ∷ 1 ∷ 3 ∷ 16 ∷ []
taken_so = BoundaryTable.taken_so

pub no_values_so : map count_of_words BoundaryTable.no_values ≡ replicate 19 17
no_values_so = BoundaryTable.no_values_so

pub strs_so : BoundaryTable.strs
    ≡ Plain (Const (Str 0)) ∷ Plain (Const (Str 65534)) ∷ Plain (Const (Str 65535)) ∷ Plain (Const (Str 65535)) ∷ Plain (Const (Str 65535))
    ∷ val.Ok (Const (Str 65535)) ∷ val.Err (Const (Str 65535)) ∷ []
strs_so = BoundaryTable.strs_so

pub runs_so : BoundaryTable.runs_of 0 (1 ∷ 7 ∷ []) 9 ∷ BoundaryTable.runs_of 0 (3 ∷ 2 ∷ []) 9 ∷ BoundaryTable.runs_of 0 (17 ∷ 7 ∷ []) 9 ∷ BoundaryTable.runs_of 0 (1 ∷ 7 ∷ []) 1
    ∷ BoundaryTable.runs_of 1 (5 ∷ 0 ∷ []) 1000001 ∷ BoundaryTable.runs_of 0 (5 ∷ 0 ∷ []) 1000001 ∷ BoundaryTable.runs_of 0 [] 1000001 ∷ BoundaryTable.runs_of 0 (3 ∷ 65536 ∷ []) 1000001
    ∷ BoundaryTable.runs_of 0 (3 ∷ 3 ∷ []) 9 ∷ BoundaryTable.runs_of 0 (1 ∷ 7 ∷ []) 1000001 ∷ []
    ≡ (0 ∷ 1 ∷ 2 ∷ 1 ∷ 7 ∷ []) ∷ (0 ∷ 1 ∷ 2 ∷ 3 ∷ 2 ∷ []) ∷ (0 ∷ 1 ∷ 2 ∷ 17 ∷ 7 ∷ []) ∷ (0 ∷ 4 ∷ 1 ∷ 0 ∷ 0 ∷ [])
    ∷ (47244640256 ∷ 0 ∷ 0 ∷ 0 ∷ 0 ∷ []) ∷ (81604378624 ∷ 0 ∷ 0 ∷ 0 ∷ 0 ∷ []) ∷ (81604378624 ∷ 0 ∷ 0 ∷ 0 ∷ 0 ∷ []) ∷ (85899345920 ∷ 0 ∷ 0 ∷ 0 ∷ 0 ∷ [])
    ∷ (85899345920 ∷ 0 ∷ 0 ∷ 0 ∷ 0 ∷ []) ∷ (90194313216 ∷ 0 ∷ 0 ∷ 0 ∷ 0 ∷ []) ∷ []
runs_so = BoundaryTable.runs_so

pub outcomes_so : outcome_words (Returned (val.Ok (Const (Int (negsuc 0))))) 7 ∷ outcome_words (Stopped (Const (Str 2))) 14 ∷ outcome_words (Fault 4) 5 ∷ outcome_words Spent 9 ∷ []
    ≡ (1 ∷ 7 ∷ 9 ∷ 18446744073709551615 ∷ []) ∷ (2 ∷ 14 ∷ 3 ∷ 2 ∷ []) ∷ (3 ∷ 5 ∷ 4 ∷ 0 ∷ []) ∷ (4 ∷ 9 ∷ 0 ∷ 0 ∷ []) ∷ []
outcomes_so = BoundaryTable.outcomes_so

pub words_so : map fold_words (Ok (Some (Float (from_bits binary64 13832806255468478464))) ∷ Ok (Some (Bool true)) ∷ Ok (Some (Bool false)) ∷ Ok None ∷ [])
    ≡ (2 ∷ 13832806255468478464 ∷ []) ∷ (4 ∷ 1 ∷ []) ∷ (4 ∷ 0 ∷ []) ∷ (0 ∷ 0 ∷ []) ∷ []
words_so = BoundaryTable.words_so

pub folds_so : BoundaryTable.folds_of 1 0 ∷ BoundaryTable.folds_of 1 1 ∷ BoundaryTable.folds_of 1 3 ∷ BoundaryTable.folds_of 7 1 ∷ BoundaryTable.folds_of 1 7 ∷ []
    ≡ (0 ∷ 0 ∷ 0 ∷ []) ∷ (0 ∷ 1 ∷ 4096 ∷ []) ∷ (0 ∷ 3 ∷ 2 ∷ []) ∷ (64424509440 ∷ 0 ∷ 0 ∷ []) ∷ (68719476736 ∷ 0 ∷ 0 ∷ []) ∷ []
folds_so = BoundaryTable.folds_so

pub refused_so : fold_packed (fold_of BoundaryTable.cut 8192 (id_of 1 1)) ∷ run_packed (run_of BoundaryTable.cut 8192 0 (arguments_of (1 ∷ 7 ∷ [])) 9) ∷ prove_packed (prove_of BoundaryTable.cut 8192 0 4)
    ∷ prove_packed (prove_all_of BoundaryTable.cut 8192 8) ∷ lower_packed (lower_answer (lower_of BoundaryTable.cut 8192 0 65535)) ∷ text_packed (text_for BoundaryTable.cut 8192 0)
    ∷ message_packed (message_answer BoundaryTable.cut 8192 0 0) ∷ pages_packed (pages_answer BoundaryTable.cut 8192 0) ∷ fold_words (fold_of BoundaryTable.cut 8192 (id_of 1 1)) ++ run_words (run_of BoundaryTable.cut 8192 0 (arguments_of (1 ∷ 7 ∷ [])) 9)
    ≡ replicate 8 42949673173 ++ replicate 6 0
refused_so = BoundaryTable.refused_so

pub answered_so : prove_packed (prove_of (encode MarkedImages.flow) 8192 1 4) ∷ prove_packed (prove_all_of (encode MarkedImages.flow) 8192 8) ∷ prove_packed (prove_all_of (encode MarkedImages.flow) 8192 7)
    ∷ lower_packed (lower_answer (lower_of (encode MarkedImages.flow) 8192 0 65535)) ∷ [] ≡ 1 ∷ 2 ∷ 77309411328 ∷ 571 ∷ []
answered_so = BoundaryTable.answered_so

pub texts_so : map (λ t. text_packed (text_for (encode MarkedImages.flow) 8192 t)) (0 ∷ 1 ∷ 2 ∷ 3 ∷ 65536 ∷ [])
    ≡ 262167 ∷ 262171 ∷ 851999 ∷ 85899345920 ∷ 85899345920 ∷ []
texts_so = BoundaryTable.texts_so

pub messages_so : message_at MarkedImages.flow 0 0 ∷ message_at MarkedImages.flow 0 1 ∷ message_at MarkedImages.flow 1 0 ∷ message_at PrinterExamples.both_fail 0 1 ∷ []
    ≡ ascii "contract violation (proven at compile time): refinement failed: flow >= 1" ∷ []
    ∷ ascii "contract violation (proven at compile time): flow id range" ∷ ascii "contract violation (proven at compile time): requires violated" ∷ []
messages_so = BoundaryTable.messages_so

pub lengths_so : BoundaryTable.messages_of 0 0 ∷ BoundaryTable.messages_of 0 1 ∷ BoundaryTable.messages_of 1 0 ∷ BoundaryTable.messages_of 2 0 ∷ BoundaryTable.messages_of 65536 0 ∷ [] ≡ 73 ∷ 0 ∷ 58 ∷ 73014444032 ∷ 73014444032 ∷ []
lengths_so = BoundaryTable.lengths_so

pub lines_so : line_at PrinterExamples.both_fail 0 0 ∷ line_at PrinterExamples.both_fail 0 1 ∷ line_at PrinterExamples.both_fail 0 2 ∷ line_at PrinterExamples.both_fail 1 0 ∷ []
    ≡ ascii "0 10 contract violation (proven at compile time): refinement failed: a > 5\n"
    ∷ ascii "0 10 contract violation (proven at compile time): requires violated\n" ∷ [] ∷ [] ∷ []
lines_so = BoundaryTable.lines_so

-- ---- what each number of the reader says (Numbers), and where a refusal stands (Places)

pub place_within : (s : List ℕ) (k : ℕ) (q : Cause) (n : ℕ) → answer_of s k ≡ refused q n → n ≤ length s
place_within = Places.place_within

-- of one record, which starts at `at`
module _ (s w p : List ℕ) (seen : Counts) (own : Section) (at : ℕ) where
  pub record_refuses : (q : Cause) (n : ℕ) → (record_at s w p seen own at ≡ refused q n) ↔ First (record_rows s w p seen own at) q n
  record_refuses = Numbers.record_refuses s w p seen own at

  -- 3: the kind is past the end, or the j-th field runs past it
  pub bytes_end : (n : ℕ) → record_at s w p seen own at ≡ refused BytesEnd n → ((n ≡ at) × (length s ≤ at)) ⊎ ((j : ℕ) × Numbers.FieldAt s at n j × (length s < n + width_of (Numbers.sort_at s at j)))
  bytes_end = Numbers.bytes_end s w p seen own at

  -- 4: the kind is none of the section's
  pub kind_outside : (n : ℕ) → record_at s w p seen own at ≡ refused WrongKind n → (n ≡ at) × ((slice_index s at < lowest own) ⊎ (highest own < slice_index s at))
  kind_outside = Numbers.kind_outside s w p seen own at

  -- 6: the j-th field is a text outside the text bytes, or not UTF-8
  pub bad_text : (n : ℕ) → record_at s w p seen own at ≡ refused BadText n → (j : ℕ) × Numbers.FieldAt s at n j × (Numbers.sort_at s at j ≡ Part) × ((seen.bytes < u16_at s n + u16_at s (n + 2)) ⊎ (utf8 (take (u16_at s (n + 2)) (drop (text_bytes_at + u16_at s n) s)) ≡ false))
  bad_text = Numbers.bad_text s w p seen own at

  -- 7: the value of the j-th field is outside the set that its sort has (field_rows)
  pub bad_value : (n : ℕ) → record_at s w p seen own at ≡ refused BadValue n → (j : ℕ) × Numbers.FieldAt s at n j × First (field_rows s p seen (Numbers.sort_at s at j) n) BadValue n
  bad_value = Numbers.bad_value s w p seen own at

  -- 8: the j-th field has a reference or a list that is not allowed
  pub bad_reference : (n : ℕ) → record_at s w p seen own at ≡ refused BadReference n → (j : ℕ) × Numbers.FieldAt s at n j × First (field_rows s p seen (Numbers.sort_at s at j) n) BadReference n
  bad_reference = Numbers.bad_reference s w p seen own at

  -- 9: the height is over the section's
  pub height_over : (n : ℕ) → record_at s w p seen own at ≡ refused TooHigh n → (n ≡ at) × (tallest own < height_at s w seen own at)
  height_over = Numbers.height_over s w p seen own at

-- 5: the j-th count of the header is over its limit
pub count_over : (s : List ℕ) (n k : ℕ) → answer_of s k ≡ refused CountOverLimit n → (j : ℕ) × (j < length limits) × (n ≡ 5 + 2 * j) × (slice_index limits j < u16_at s n)
count_over = Numbers.count_over

-- 10: all sections are read, and bytes are left behind them
pub bytes_left : (s : List ℕ) (n k : ℕ) → (answer_of s k ≡ refused BytesLeft n) ↔ (Unmet (content_rows s k) × (n ≡ sections_end s) × (n < length s))
bytes_left = Numbers.bytes_left

-- ---- 14 is for limits alone: without limits there is an image; where it passes one, nothing is made under limits, and else that image
-- (LimitPassed)

pub limits_alone : (im : Image) (f : ℕ) → WellFormed im → f < size_of im Functions → Under 64 (heights im Expressions) → Under 32 (heights im Statements) → (x : Image) × (unlimited im f ≡ some x) × LimitPassed.Answers x (lowered im f)
limits_alone = LimitPassed.limits_alone

-- ---- an accepted byte list is the encoding of the image that it stands for (Decode)

pub accepted_encodes : (s : List ℕ) (k : ℕ) (a : ArenaNo) (c : Counts) → AllBytes s → answer_of s k ≡ accepted a c → encode (image_of s) ≡ s
accepted_encodes = Decode.accepted_encodes

-- ---- it stands for a well-formed image, and its work slice holds that image's heights (Accepted)

pub accepted_well_formed : (s : List ℕ) (k : ℕ) (a : ArenaNo) (c : Counts) → AllBytes s → answer_of s k ≡ accepted a c → WellFormed (image_of s)
accepted_well_formed = Well.accepted_well_formed

pub accepted_work : (s : List ℕ) (k : ℕ) (a : ArenaNo) (c : Counts) → AllBytes s → answer_of s k ≡ accepted a c → work_of s k ≡ heights (image_of s) Expressions ++ heights (image_of s) Statements ++ replicate (k - (c.expressions + c.statements)) 0
accepted_work = Well.accepted_work

-- with a work slice of 8,192 entries or more, accepted are exactly the encodings of well-formed images
pub accepted_exactly : (s : List ℕ) (k : ℕ) → AllBytes s → 8192 ≤ k → ((a : ArenaNo) × (c : Counts) × (answer_of s k ≡ accepted a c)) ↔ ((im : Image) × WellFormed im × (encode im ≡ s))
accepted_exactly = Well.accepted_exactly

-- ---- no expression of a well-formed image stands for a tree of more than 68 levels (Heights)

pub trees_low : (im : Image) → WellFormed im → (i : ℕ) → expr_height (expr_tree im i) ≤ 68
trees_low = Heights.trees_low

-- ---- the encoding of a well-formed image is accepted and stands for that image (Encoded; EncodedExample has one). `counts im` are the
-- sizes of its sections

pub encoded_accepted : (im : Image) (k : ℕ) → WellFormed im → 8192 ≤ k → answer_of (encode im) k ≡ accepted (record { 0 = im.arena }) (counts im)
encoded_accepted = Encoded.encoded_accepted

pub encoded_image : (im : Image) → WellFormed im → image_of (encode im) ≡ im
encoded_image = Encoded.encoded_image

-- its work slice: the heights of the expressions, then of the statements, then zeros
pub encoded_work : (im : Image) (k : ℕ) → WellFormed im → 8192 ≤ k → work_of (encode im) k ≡ heights im Expressions ++ heights im Statements ++ replicate (k - (size_of im Expressions + size_of im Statements)) 0
encoded_work = Encoded.encoded_work

pub encoded_bytes : (im : Image) → WellFormed im → AllBytes (encode im)
encoded_bytes = EncodedBytes.encoded_bytes

-- ---- shuts out 01's worthless version "refuses each image or call": the printer's example is accepted, folded, proved, lowered and run
-- (DemandExamples)

pub flow_not_refused : number_in (answer_of (encode MarkedImages.flow) 8192) ∷ fold_number (fold_of (encode MarkedImages.flow) 8192 (MarkedImages.last_node MarkedImages.flow)) ∷ prove_number (prove_of (encode MarkedImages.flow) 8192 0 4) ∷ prove_number (prove_all_of (encode MarkedImages.flow) 8192 8) ∷ lower_number (lower_of (encode MarkedImages.flow) 8192 0 65535) ∷ run_number (run_of (encode MarkedImages.flow) 8192 0 DemandExamples.one 1000) ∷ [] ≡ 0 ∷ 0 ∷ 0 ∷ 0 ∷ 0 ∷ 0 ∷ []
flow_not_refused = DemandExamples.flow_not_refused
