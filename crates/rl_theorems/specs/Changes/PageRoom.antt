-- How many bytes printed pages have at the most: 238 a line, so 14,280 a page; and of a well-formed image fewer than 2 ^ 25.
-- Assumes nothing.
use Rattle.std.specs.Prelude.{◌≡◌, ℕ, zero, suc, ◌+◌, ◌-◌, ◌*◌, ◌/◌, ◌≤◌, List, [], ◌∷◌, ◌++◌, map, length, take, replicate, refl, Ok}
use Rattle.std.proofs.Common.{ap, ◌∙◌, arith, lt-ltb, le-ltb, length-append}
use Rattle.rl_spec.specs.declared.Section.TheVariants.{Calls}
use Rattle.rl_spec.specs.declared.Violation.{Violation}
use Rattle.rl_spec.specs.Schema.{limits}
use Rattle.rl_spec.specs.Utf8.{encode_scalar, encode_text}
use Rattle.rl_spec.specs.Image.{Image, size_of, text_of, image_of, AllBytes, WellFormed}
use Rattle.rl_spec.specs.Ranges.{up_from}
use Rattle.rl_spec.specs.Records.{call_at}
use Rattle.rl_spec.specs.Prove.{violations_of}
use Rattle.rl_spec.specs.Mapped.{Text}
use Rattle.rl_spec.specs.Message.{decimal}
use Rattle.rl_spec.specs.Printed.{joined}
use Rattle.rl_spec.specs.Pages.{spaces, printed, fitted, left, right, page_line, unopened, report_line, report_lines, all_report_lines, on_pages, ended, lines_bytes, pages_of, pages_answer}
use Rattle.rl_laws.specs.Tests.{by_ltb}
use Rattle.rl_images.specs.Encoding.Accepted.{accepted_well_formed}
use Rattle.rl_images.specs.Reading.ReadOutcome.{read_accepts}
use Rattle.rl_images.specs.Reading.Rows.{read_rows}
use Rattle.rl_images.specs.Reading.Scalars.{Ascii, ascii_append, ascii_encoded, ascii_scalars, decimal_ascii}
use Rattle.rl_images.specs.Reading.Table.{unmet_parts}
use Rattle.rl_images.specs.Images.Limits.{size_within}
use Rattle.rl_images.specs.Images.PageLines.{encoded_append, encoded_short}
use Rattle.rl_images.specs.Images.Paged.{blanks, paged}
use Rattle.rl_images.specs.Images.Reports.{at_most_512}
use Rattle.rl_theorems.specs.Answers.Tables.{reports_from, pages_rows}
use Rattle.rl_theorems.specs.Answers.OfPages.{pages_accepts}
use Rattle.rl_theorems.specs.Changes.PrintedPages.{Every, every_append, every_replicate, every_joined, every_map, blank, left_columns, right_columns, pages_lines}

-- ---- the bytes of scalars: at most four each, and one each of ASCII

text_append : (s t : List ℕ) → length (encode_text (s ++ t)) ≡ length (encode_text s) + length (encode_text t)
text_append s t = ap length (encoded_append s t) ∙ length-append (encode_text s) (encode_text t)

text_ascii : (s : List ℕ) → Ascii s → length (encode_text s) ≡ length s
text_ascii s a = ap length (ascii_encoded s a)

ascii_spaces : (n : ℕ) → Ascii (spaces n)
ascii_spaces zero = tt
ascii_spaces (suc n) = (omega arith, ascii_spaces n)

spaces_size : (n : ℕ) → length (encode_text (spaces n)) ≡ n
spaces_size n = text_ascii (spaces n) (ascii_spaces n) ∙ (blank n).wide

-- ---- a field

ascii_printed : (n : ℕ) (s : List ℕ) → Ascii s → Ascii (map printed (take n s))
unfolding printed
ascii_printed zero s a = tt
ascii_printed (suc n) [] a = tt
ascii_printed (suc n) (c ∷ s) a =
    (by_ltb c 32 (λ l. rw (lt-ltb c 32 l) (omega arith)) (λ l. rw (le-ltb c 32 l) a.0), ascii_printed n s a.1)

ascii_right : (columns n : ℕ) → Ascii (right columns (decimal n))
unfolding right fitted
ascii_right columns n =
    let shown : List ℕ = map printed (take columns (decimal n)) in
    let gap : ℕ = columns - length shown in
    rw (ascii_scalars (decimal n) (decimal_ascii n))
    (ascii_append (spaces gap) shown (ascii_spaces gap) (ascii_printed columns (decimal n) (decimal_ascii n)))

number_size : (columns n : ℕ) → length (encode_text (right columns (decimal n))) ≡ columns
number_size columns n = text_ascii (right columns (decimal n)) (ascii_right columns n) ∙ (right_columns columns (decimal n)).wide

field_size : (columns : ℕ) (text : Text) → length (encode_text (left columns text)) ≤ 4 * columns
field_size columns text = omega (arith, encoded_short (left columns text), (left_columns columns text).wide)

-- ---- a line: 4 + 1 + 10 + 1 + 16 * 4 + 1 + 39 * 4 bytes

abbrev Short : List ℕ → Type 0
Short line = length (encode_text line) ≤ 237

line_short : (call span : ℕ) (callee message : Text) → Short (page_line call span callee message)
unfolding page_line
line_short call span callee message =
    simp (text_append, spaces_size, number_size)
    (omega (arith, field_size 16 callee, field_size 39 message))

module _ (im : Image) where
  report_short : (call : ℕ) (v : Violation) → Short (report_line im call v)
  unfolding report_line
  report_short call v = line_short call (call_at im call).span (text_of im (call_at im call).callee) (unopened im call v)

  lines_short : (call : ℕ) → Every Short (report_lines im call)
  unfolding report_lines
  lines_short call = every_map Short (report_line im call) (report_short call) (violations_of im call)

  all_short : (n : ℕ) → Every Short (all_report_lines im n)
  unfolding all_report_lines
  all_short n = every_joined Short _ (every_map (Every Short) (report_lines im) lines_short (up_from 0 n))

  pages_short : (n : ℕ) → Every Short (joined (on_pages (all_report_lines im n)))
  pages_short n =
      let more : ℕ = blanks (length (all_report_lines im n)) in
      rw (paged (all_report_lines im n))
      (every_append Short (all_report_lines im n) (replicate more (spaces 72)) (all_short n)
      (every_replicate Short more (spaces 72) (omega (arith, spaces_size 72))))

-- ---- all lines, each ended by a newline

newline_size : length (encode_text (10 ∷ [])) ≡ 1
unfolding encode_text encode_scalar
newline_size = refl

none_size : length (encode_text []) ≡ 0
unfolding encode_text
none_size = refl

lines_most : (lines : List (List ℕ)) → Every Short lines → length (lines_bytes lines) ≤ 238 * length lines
unfolding lines_bytes joined
lines_most [] p = omega (arith, none_size)
lines_most (line ∷ lines) p =
    omega (
      arith,
      text_append (ended line) (joined (map ended lines)),
      text_append line (10 ∷ []),
      newline_size,
      p.0,
      lines_most lines p.1,
    )

module _ (im : Image) (n : ℕ) where
  -- THEOREM: 14,280 bytes a page are enough
  pub pages_room : length (pages_of im n) ≤ 14280 * ((reports_from im n 0 + 59) / 60)
  unfolding pages_of
  pages_room = omega (arith, lines_most (joined (on_pages (all_report_lines im n))) (pages_short im n), pages_lines im n)

-- ---- of a well-formed image: at most 512 reports of each of at most 256 calls

reports_most : (im : Image) → WellFormed im → (n k : ℕ) → reports_from im n k ≤ 512 * n
unfolding reports_from
reports_most im wf zero k = omega arith
reports_most im wf (suc n) k = omega (arith, at_most_512 im wf k, reports_most im wf n (k + 1))

-- THEOREM: 31,201,800 bytes are enough
pub room_most : (im : Image) → WellFormed im → length (pages_of im (size_of im Calls)) ≤ 31201800
unfolding limits
room_most im wf =
    let calls : ℕ = size_of im Calls in
    omega (arith, pages_room im calls, reports_most im wf calls 0, size_within im wf Calls)

-- THEOREM: so the answer has 32 bits
pub written_most : (s : List ℕ) (k room n : ℕ) → AllBytes s → pages_answer s k room ≡ Ok n → n ≤ 31201800
written_most s k room n bytes e =
    let found = (pages_accepts s k room n).0 e in
    let read = (read_accepts s k).1 (unmet_parts (read_rows s k) (pages_rows (image_of s) room) found.0).0 in
    rw (← found.1) (room_most (image_of s) (accepted_well_formed s k read.0 read.1 bytes read.2))
