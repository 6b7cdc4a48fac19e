-- WHAT CHANGE REQUESTS KEEP AND BRING, request by request. `before im` is the image as it was taken before request [1].
-- Assumes nothing.
use Rattle.std.specs.Prelude.{◌≡◌, ℕ, ◌+◌, ◌-◌, ◌*◌, ◌/◌, ◌%◌, ◌<◌, ◌≤◌, true, false, cond, ◌↔◌, List, [], ◌∷◌, ◌++◌, map, length, take, drop, replicate, pos, ◌-ℤ◌, slice_index_or, Ok}
use mathlib.Core.List.{Mem, Sublist}
use Rattle.std.proofs.Math.Option.{none, some}
use Rattle.rl_spec.specs.declared.Form.TheVariants.{Other}
use Rattle.rl_spec.specs.declared.Section.TheVariants.{Expressions, Calls}
use Rattle.rl_spec.specs.declared.Cause.TheVariants.{BytesLeft, PagesTooShort}
use Rattle.rl_spec.specs.Answers.{refused}
use Rattle.rl_spec.specs.declared.Violation.{Violation}
use Rattle.rl_spec.specs.declared.Violation.TheVariants.{Refinement, Requires}
use Rattle.rl_spec.specs.Utf8.{utf8, scalars_of}
use Rattle.rl_spec.specs.Read.{counts_of}
use Rattle.rl_spec.specs.Image.{Image, size_of, record_of, text_of, encode, image_of, AllBytes, WellFormed}
use Rattle.rl_spec.specs.Values.{ConstVal, int}
use Rattle.rl_spec.specs.Fold.{Binding, const_eval}
use Rattle.rl_spec.specs.Tree.{ascii, other, form_of, below, tree_by, expr_tree}
use Rattle.rl_spec.specs.Ranges.{up_from}
use Rattle.rl_spec.specs.Records.{call_at}
use Rattle.rl_spec.specs.FnContracts.{callee_of}
use Rattle.rl_spec.specs.Prove.{violations_of, all_entries, prove_of, prove_all_of}
use Rattle.rl_spec.specs.Mapped.{Text}
use Rattle.rl_spec.specs.Message.{decimal, opening, message_by, message_of}
use Rattle.rl_spec.specs.Texts.{message_at}
use Rattle.rl_spec.specs.Printed.{joined}
use Rattle.rl_spec.specs.Pages.{spaces, printed, left, right, page_line, unopened, report_lines, all_report_lines, on_pages, ended, pages_of, pages_answer, pages_out}
use Rattle.rl_images.specs.Images.PageLines as PageLines
use Rattle.rl_images.specs.Images.Paged as Paged
use Rattle.rl_examples.specs.ColumnExamples as ColumnExamples
use Rattle.rl_examples.specs.MarkedImages as MarkedImages
use Rattle.rl_examples.specs.PagesExamples as PagesExamples
use Rattle.rl_examples.specs.PrinterExamples as PrinterExamples
use Rattle.rl_theorems.specs.Answers.Tables.{reports_from}
use Rattle.rl_theorems.specs.DemandThree.Demand.{DistinctNames}
use Rattle.rl_theorems.specs.Changes.SmallConstants as SmallConstants
use Rattle.rl_theorems.specs.Changes.SmallConstants.{is_small, before}
use Rattle.rl_theorems.specs.Changes.KeptFolds as KeptFolds
use Rattle.rl_theorems.specs.Changes.KeptReports as KeptReports
use Rattle.rl_theorems.specs.Changes.PageNumbers as PageNumbers
use Rattle.rl_theorems.specs.Changes.PageRoom as PageRoom
use Rattle.rl_theorems.specs.Changes.PrintedPages as PrintedPages
use Rattle.rl_theorems.specs.Changes.PrintedPages.{Every, Columns, Page}
use Rattle.rl_theorems.specs.Changes.SmallConstantsExamples as Examples
use Rattle.rl_theorems.specs.Changes.SmallConstantsExamples.{formed, whole, five, priority, level, twice}

-- ---- [1] Small constants in calls: what folded before folds alike under the same names. SUInt, Byte, SByte, BByte and BSByte, which had
-- no value, fold and run as the whole number that they hold (SmallConstants has `before`; KeptFolds, KeptReports)

-- SUInt, Byte and BByte hold their number, SByte and BSByte n and n - 2 ^ 7, n and n - 2 ^ 15
pub unsigned_holds : (im : Image) (n : ℕ) → (formed im 20 n ≡ whole (pos n)) × (formed im 21 n ≡ whole (pos n)) × (formed im 23 n ≡ whole (pos n))
unsigned_holds = Examples.unsigned_holds

pub sbyte_holds : (im : Image) (n : ℕ) → n < 128 → (formed im 22 n ≡ whole (pos n)) × (formed im 22 (128 + n) ≡ whole (pos n -ℤ pos 128))
sbyte_holds = Examples.sbyte_holds

pub bsbyte_holds : (im : Image) (n : ℕ) → n < 32768 → (formed im 24 n ≡ whole (pos n)) × (formed im 24 (32768 + n) ≡ whole (pos n -ℤ pos 32768))
bsbyte_holds = Examples.bsbyte_holds

-- of the kinds 16 to 57 of expressions, 20 to 24 are small constants
pub kinds_so : map is_small (up_from 16 42) ≡ replicate 4 false ++ replicate 5 true ++ replicate 33 false
kinds_so = Examples.kinds_so

-- the trees before were the same trees with small constants as `other`
pub tree_before : (im : Image) (i : ℕ) → expr_tree (before im) i ≡ tree_by (before im) (cond (is_small (record_of im Expressions i).kind) Other (form_of im i)) (below i (λ _. other) (expr_tree (before im)))
tree_before = SmallConstants.tree_before

-- literals of 17 to 24, and a Character, of the payload 5: what they folded to before, and what they fold to
pub fives_so : (map (five before) (17 ∷ 18 ∷ 19 ∷ 20 ∷ 21 ∷ 22 ∷ 23 ∷ 24 ∷ 29 ∷ []) ≡ replicate 3 (some (int (pos 5))) ++ replicate 6 none) × (map (five λ im. im) (17 ∷ 18 ∷ 19 ∷ 20 ∷ 21 ∷ 22 ∷ 23 ∷ 24 ∷ 29 ∷ []) ≡ replicate 8 (some (int (pos 5))) ++ none ∷ [])
fives_so = Examples.fives_so

-- a text has the bytes that it had
pub text_same : (im : Image) (t : ℕ) → text_of (before im) t ≡ text_of im t
text_same = SmallConstants.text_same

-- WHAT FOLDED BEFORE FOLDS ALIKE UNDER THE SAME NAMES: of every image, node and list of names
pub folds_alike : (im : Image) (i : ℕ) (names : List (Binding ℕ)) (v : ConstVal ℕ) → const_eval (text_of (before im)) names (expr_tree (before im) i) ≡ some v → const_eval (text_of im) names (expr_tree im i) ≡ some v
folds_alike = KeptFolds.folds_alike

-- a call has the span and the arguments that it had
pub call_same : (im : Image) (call : ℕ) → call_at (before im) call ≡ call_at im call
call_same = SmallConstants.call_same

-- and the callee
pub callee_same : (im : Image) (call : ℕ) → callee_of (before im) call ≡ callee_of im call
callee_same = SmallConstants.callee_same

-- a report has the message that it had
pub message_same : (im : Image) (call : ℕ) (v : Violation) → message_of (before im) call v ≡ message_of im call v
message_same = SmallConstants.message_same

-- where the names of the callee's parameters are distinct, what was reported is reported still, for the same call and check
pub still_reported : (im : Image) (call : ℕ) → ((f : ℕ) → callee_of im call ≡ some f → DistinctNames im f) → (v : Violation) → Mem v (violations_of (before im) call) → Mem v (violations_of im call)
still_reported = KeptReports.still_reported

-- in the same order, once for each time; more can come in between
pub reports_kept : (im : Image) (call : ℕ) → ((f : ℕ) → callee_of im call ≡ some f → DistinctNames im f) → Sublist (violations_of (before im) call) (violations_of im call)
reports_kept = KeptReports.reports_kept

-- f(Byte 5), requires a < 4: a report comes
pub report_comes : (violations_of (before priority) 0 ≡ []) × (violations_of priority 0 ≡ Requires 0 ∷ [])
report_comes = Examples.report_comes

-- f(SByte -1), a > 9: a report comes
pub refinement_comes : (violations_of (before level) 0 ≡ []) × (violations_of level 0 ≡ Refinement 0 ∷ [])
refinement_comes = Examples.refinement_comes

-- f(1, Byte 5), both parameters being `a`, requires a != 1: a report goes, since a is now 5. So distinct names are needed
pub report_goes : (violations_of (before twice) 0 ≡ Requires 0 ∷ []) × (violations_of twice 0 ≡ [])
report_goes = Examples.report_goes

-- from the bytes of the three, `prove` answers one report, one, and none
pub examples_prove : (prove_of (encode priority) 8192 0 4 ≡ Ok 1) × (prove_of (encode level) 8192 0 4 ≡ Ok 1) × (prove_of (encode twice) 8192 0 4 ≡ Ok 0)
examples_prove = Examples.examples_prove

-- ---- [3] Reports on a printed page (PrintedPages has `Every` and what a `Page` is; Paged). Of every image and number of calls, well-formed or
-- not

module _ (im : Image) (n : ℕ) where
  -- A PAGE HAS 60 LINES, AND EACH LINE 72 SCALARS, none below 32, whatever the texts are
  pub pages_so : Every Page (on_pages (all_report_lines im n))
  pages_so = PrintedPages.pages_so im n

  -- THE PAGES ARE UTF-8
  pub pages_utf8 : utf8 (pages_of im n) ≡ true
  pages_utf8 = PrintedPages.pages_utf8 im n

  -- their scalars are those of the pages' lines, each ended by a newline, which by `pages_so` is its only one
  pub pages_scalars : scalars_of (pages_of im n) ≡ joined (map ended (joined (on_pages (all_report_lines im n))))
  pages_scalars = PrintedPages.pages_scalars im n

  -- there is a line for each report; of n calls from the first on there are `reports_from im n 0`, each of four entries
  pub lines_reports : length (all_report_lines im n) ≡ reports_from im n 0
  lines_reports = PrintedPages.lines_reports im n

  pub lines_entries : length (all_report_lines im n) ≡ length (all_entries im n 0) / 4
  lines_entries = PrintedPages.lines_entries im n

  -- THE NUMBER OF PAGES is the number of reports divided by 60, rounded up
  pub pages_reports : length (on_pages (all_report_lines im n)) ≡ (reports_from im n 0 + 59) / 60
  pages_reports = PrintedPages.pages_reports im n

  -- 60 times as many lines, and 73 scalars a line
  pub pages_lines : length (joined (on_pages (all_report_lines im n))) ≡ 60 * ((reports_from im n 0 + 59) / 60)
  pages_lines = PrintedPages.pages_lines im n

  pub pages_size : length (scalars_of (pages_of im n)) ≡ 4380 * ((reports_from im n 0 + 59) / 60)
  pages_size = PrintedPages.pages_size im n

  -- no page exactly where there is no report
  pub no_page : (pages_of im n ≡ []) ↔ (reports_from im n 0 ≡ 0)
  no_page = PrintedPages.no_page im n

  -- 14,280 bytes a page are enough (PageRoom)
  pub pages_room : length (pages_of im n) ≤ 14280 * ((reports_from im n 0 + 59) / 60)
  pages_room = PageRoom.pages_room im n

-- from bytes: by the reports that proving all calls answers
pub proved_pages : (s : List ℕ) (k room r : ℕ) → prove_all_of s k room ≡ Ok r → length (on_pages (all_report_lines (image_of s) (counts_of s).calls)) ≡ (r + 59) / 60
proved_pages = PrintedPages.proved_pages

-- what is answered has 32 bits
pub written_most : (s : List ℕ) (k room n : ℕ) → AllBytes s → pages_answer s k room ≡ Ok n → n ≤ 31201800
written_most = PageRoom.written_most

-- WHAT STANDS IN A LINE: the i-th of a call has the call's number, span and callee, and the message of its i-th report without the opening
pub report_line_lem : (im : Image) (call i : ℕ) → i < length (violations_of im call) →
    slice_index_or (report_lines im call) i [] ≡ page_line call (call_at im call).span (text_of im (call_at im call).callee) (drop (length opening) (message_at im call i))
report_line_lem = PageLines.report_line_lem

pub report_lines_lem : (im : Image) (call : ℕ) → length (report_lines im call) ≡ length (violations_of im call)
report_lines_lem = PageLines.reports_count

-- THE CALLS IN ORDER: none of no call, and those of a call more behind the others
pub no_lines : (im : Image) → all_report_lines im 0 ≡ []
no_lines = PageLines.all_none

pub next_lines : (im : Image) (n : ℕ) → all_report_lines im (n + 1) ≡ all_report_lines im n ++ report_lines im n
next_lines = PageLines.all_more

-- on pages: the lines given, and behind them lines of 72 spaces up to a whole page
pub paged : (lines : List (List ℕ)) → joined (on_pages lines) ≡ lines ++ replicate ((60 - length lines % 60) % 60) (spaces 72)
paged = Paged.paged

-- a line of any numbers and texts has 72 columns
pub line_columns : (call span : ℕ) (callee message : Text) → Columns 72 (page_line call span callee message)
line_columns = PrintedPages.line_columns

-- a field shows all of a text that is short enough, and else as many of its scalars as it has columns; a text without scalars below 32 as it is
pub field_whole : (columns : ℕ) (text : Text) → length (scalars_of text) ≤ columns → left columns text ≡ map printed (scalars_of text) ++ spaces (columns - length (scalars_of text))
field_whole = PrintedPages.field_whole

pub field_cut : (columns : ℕ) (text : Text) → columns ≤ length (scalars_of text) → left columns text ≡ map printed (take columns (scalars_of text))
field_cut = PrintedPages.field_cut

pub printed_same : (cs : List ℕ) → Every (λ (c : ℕ). 32 ≤ c) cs → map printed cs ≡ cs
printed_same = PrintedPages.printed_same

-- the calls and spans of a well-formed image are shown whole (PageNumbers)
pub call_whole : (im : Image) → WellFormed im → (call : ℕ) → call < size_of im Calls → right 4 (decimal call) ≡ spaces (4 - length (decimal call)) ++ decimal call
call_whole = PageNumbers.call_whole

pub span_whole : (im : Image) → WellFormed im → (call : ℕ) → call < size_of im Calls → right 10 (decimal (call_at im call).span) ≡ spaces (10 - length (decimal (call_at im call).span)) ++ decimal (call_at im call).span
span_whole = PageNumbers.span_whole

-- the message of a line is that of the report, without its opening
pub unopened_message : (im : Image) (call f : ℕ) (v : Violation) → callee_of im call ≡ some f → unopened im call v ≡ message_by im f v
unopened_message = PageLines.unopened_is

-- closed (ColumnExamples, PagesExamples)

-- fields to the left, to the right, of scalars below 32, and of characters of one to four octets
pub left_so : map (left 3) (ascii "abc" ∷ ascii "abcd" ∷ ascii "ab" ∷ [] ∷ []) ≡ ascii "abc" ∷ ascii "abc" ∷ ascii "ab " ∷ ascii "   " ∷ []
left_so = ColumnExamples.left_so

pub right_so : map (λ n. right 4 (decimal n)) (0 ∷ 10 ∷ 255 ∷ 9999 ∷ 12345 ∷ []) ++ right 10 (decimal 4294967295) ∷ right 3 (ascii "abcd") ∷ []
    ≡ ascii "   0" ∷ ascii "  10" ∷ ascii " 255" ∷ ascii "9999" ∷ ascii "1234" ∷ ascii "4294967295" ∷ ascii "abc" ∷ []
right_so = ColumnExamples.right_so

pub below_32_so : map printed (up_from 0 33) ≡ replicate 32 63 ++ 32 ∷ []
below_32_so = ColumnExamples.below_32_so

-- a character of two octets at the right takes one column
pub right_wide_so : right 3 (0xC3 ∷ 0xA9 ∷ []) ≡ 32 ∷ 32 ∷ 0xE9 ∷ []
right_wide_so = ColumnExamples.right_wide_so

pub printed_so : left 7 (0 ∷ 9 ∷ 10 ∷ 31 ∷ 32 ∷ 127 ∷ 0xC2 ∷ 0x80 ∷ []) ≡ ascii "???? " ++ 127 ∷ 128 ∷ []
printed_so = ColumnExamples.printed_so

pub columns_so : map (λ (a : List ℕ × ℕ). map (λ (b : List ℕ × ℕ). left 2 (a.0 ++ b.0 ++ a.0)) ColumnExamples.characters) ColumnExamples.characters
    ≡ map (λ (a : List ℕ × ℕ). map (λ (b : List ℕ × ℕ). a.1 ∷ b.1 ∷ []) ColumnExamples.characters) ColumnExamples.characters
columns_so = ColumnExamples.columns_so

-- whole lines: of a report, where all is too long, and those of calls
pub line_so : page_line 7 4294967295 (ascii "open") (ascii "flow id range")
    ≡ ascii "   7 4294967295 open             flow id range                          "
line_so = ColumnExamples.line_so

pub full_line_so : page_line 10000 98765432109 (joined (replicate 17 (0xC3 ∷ 0xA9 ∷ []))) (joined (replicate 40 (0xF0 ∷ 0x9F ∷ 0x98 ∷ 0x80 ∷ [])))
    ≡ ascii "1000 9876543210 " ++ replicate 16 0xE9 ++ ascii " " ++ replicate 39 0x1F600
full_line_so = ColumnExamples.full_line_so

pub reports_so : report_lines MarkedImages.flow 0 ∷ report_lines MarkedImages.flow 1 ∷ report_lines MarkedImages.flow 2 ∷ report_lines PrinterExamples.both_fail 0 ∷ []
    ≡ (ascii "   0          7 open             refinement failed: flow >= 1           " ∷ [])
    ∷ (ascii "   1          9 open             flow id range                          " ∷ [])
    ∷ []
    ∷ (ascii "   0         10 f                refinement failed: a > 5               " ∷ ascii "   0         10 f                requires violated                      " ∷ [])
    ∷ []
reports_so = PagesExamples.reports_so

-- the pages of 0, 1, 59, 60, 61 and 120 lines
pub on_pages_so : map (λ n. on_pages (ColumnExamples.numbered 0 n)) (0 ∷ 1 ∷ 59 ∷ 60 ∷ 61 ∷ 120 ∷ [])
    ≡ []
    ∷ ((ColumnExamples.numbered 0 1 ++ ColumnExamples.blank_lines 59) ∷ [])
    ∷ ((ColumnExamples.numbered 0 59 ++ ColumnExamples.blank_lines 1) ∷ [])
    ∷ (ColumnExamples.numbered 0 60 ∷ [])
    ∷ (ColumnExamples.numbered 0 60 ∷ (ColumnExamples.numbered 60 1 ++ ColumnExamples.blank_lines 59) ∷ [])
    ∷ (ColumnExamples.numbered 0 60 ∷ ColumnExamples.numbered 60 60 ∷ [])
    ∷ []
on_pages_so = ColumnExamples.on_pages_so

-- all of a page, as bytes
pub flow_page_lem : pages_of MarkedImages.flow 2
    ≡ ascii "   0          7 open             refinement failed: flow >= 1           \n"
    ++ ascii "   1          9 open             flow id range                          \n"
    ++ joined (replicate 58 (replicate 72 32 ++ 10 ∷ []))
flow_page_lem = PagesExamples.flow_page_lem

-- a page slice just long enough, one byte short, without any; no report; bytes that are refused. And what the slice holds
pub answers_so : pages_answer (encode MarkedImages.flow) 8192 4380 ∷ pages_answer (encode MarkedImages.flow) 8192 4379 ∷ pages_answer (encode MarkedImages.flow) 8192 0
    ∷ pages_answer (encode MarkedImages.returns_true) 8192 0 ∷ pages_answer (encode MarkedImages.flow ++ 0 ∷ []) 8192 0 ∷ []
    ≡ Ok 4380 ∷ refused PagesTooShort 0 ∷ refused PagesTooShort 0 ∷ Ok 0 ∷ refused BytesLeft 213 ∷ []
answers_so = PagesExamples.answers_so

pub slices_so : (pages_out (encode MarkedImages.flow) 8192 4382 ≡ PagesExamples.flow_page ++ 0 ∷ 0 ∷ []) × (pages_out (encode MarkedImages.flow) 8192 3 ≡ 0 ∷ 0 ∷ 0 ∷ [])
    × (pages_out (encode MarkedImages.returns_true) 8192 3 ≡ 0 ∷ 0 ∷ 0 ∷ []) × (pages_out (encode MarkedImages.flow ++ 0 ∷ []) 8192 3 ≡ 0 ∷ 0 ∷ 0 ∷ [])
slices_so = PagesExamples.slices_so
