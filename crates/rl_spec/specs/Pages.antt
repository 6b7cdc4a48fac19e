-- 02's [3]: the reports of all calls in order, one a line, on pages of 60 lines of 72 columns. All is in Unicode scalars; only `lines_bytes`
-- makes bytes of them, their UTF-8.
use Rattle.std.specs.Prelude.{ℕ, zero, suc, ◌-◌, cond, List, [], ◌∷◌, ◌++◌, map, length, take, drop, replicate, nat_lt, Ok, Err}
use Rattle.rl_spec.specs.Answers.{Answer, refused, PagesAnswer}
use Rattle.rl_spec.specs.declared.Cause.TheVariants.{PagesTooShort}
use Rattle.rl_spec.specs.declared.Violation.{Violation}
use Rattle.rl_spec.specs.Utf8.{encode_text, scalars_of}
use Rattle.rl_spec.specs.Read.{number_of, counts_of, answer_of}
use Rattle.rl_spec.specs.Image.{Image, text_of, image_of}
use Rattle.rl_spec.specs.Ranges.{up_from}
use Rattle.rl_spec.specs.Records.{call_at}
use Rattle.rl_spec.specs.Prove.{violations_of}
use Rattle.rl_spec.specs.Mapped.{Text}
use Rattle.rl_spec.specs.Message.{decimal, opening, message_of}
use Rattle.rl_spec.specs.Printed.{joined}

-- ---- a field of so many columns: a scalar takes one

abbrev pub space : ℕ
space = 32

abbrev pub spaces : ℕ → List ℕ
spaces n = replicate n space

-- scalars below 32 print as ?
abbrev pub question_mark : ℕ
question_mark = 63

unfoldable pub printed : ℕ → ℕ
printed c = cond (nat_lt c 32) question_mark c

-- what it shows of a text: a longer one is cut after the last scalar that fits
unfoldable pub fitted : ℕ → Text → List ℕ
fitted columns text = map printed (take columns (scalars_of text))

unfoldable pub left : ℕ → Text → List ℕ
left columns text = fitted columns text ++ spaces (columns - length (fitted columns text))

unfoldable pub right : ℕ → Text → List ℕ
right columns text = spaces (columns - length (fitted columns text)) ++ fitted columns text

-- ---- a line

unfoldable pub page_line : ℕ → ℕ → Text → Text → List ℕ
page_line call span callee message =
    right 4 (decimal call) ++ spaces 1 ++ right 10 (decimal span) ++ spaces 1 ++ left 16 callee ++ spaces 1 ++ left 39 message

-- a report's message without "contract violation (proven at compile time): "
unfoldable pub unopened : Image → ℕ → Violation → Text
unopened im call v = drop (length opening) (message_of im call v)

unfoldable pub report_line : Image → ℕ → Violation → List ℕ
report_line im call v = page_line call (call_at im call).span (text_of im (call_at im call).callee) (unopened im call v)

-- one for each report: of a call, and of the first n calls in order
unfoldable pub report_lines : Image → ℕ → List (List ℕ)
report_lines im call = map (report_line im call) (violations_of im call)

unfoldable pub all_report_lines : Image → ℕ → List (List ℕ)
all_report_lines im n = joined (map (report_lines im) (up_from 0 n))

-- ---- a page: 60 lines, a short one padded with lines of spaces

unfoldable pub page : List (List ℕ) → List (List ℕ)
page lines = lines ++ replicate (60 - length lines) (spaces 72)

-- lines on up to n pages; without lines there is no page
unfoldable pub pages_by : ℕ → List (List ℕ) → List (List (List ℕ))
pages_by zero lines = []
pages_by (suc n) [] = []
pages_by (suc n) (line ∷ lines) = page (take 60 (line ∷ lines)) ∷ pages_by n (drop 60 (line ∷ lines))

-- on all of them: there are no more pages than lines
unfoldable pub on_pages : List (List ℕ) → List (List (List ℕ))
on_pages lines = pages_by (length lines) lines

-- ---- the bytes of lines, each ended by a newline; and of all pages of an image

abbrev pub newline : ℕ
newline = 10

abbrev pub ended : List ℕ → List ℕ
ended line = line ++ newline ∷ []

unfoldable pub lines_bytes : List (List ℕ) → List ℕ
lines_bytes lines = encode_text (joined (map ended lines))

unfoldable pub pages_of : Image → ℕ → List ℕ
pages_of im n = lines_bytes (joined (on_pages (all_report_lines im n)))

-- ---- THE ANSWER: reading first, then 22 where the slice is shorter than the pages

abbrev pub pages_from : List ℕ → ℕ → Answer → PagesAnswer
pages_from s room (Ok h) =
    cond (nat_lt room (length (pages_of (image_of s) h.counts.calls))) (refused PagesTooShort 0) (Ok (length (pages_of (image_of s) h.counts.calls)))
pages_from s room (Err r) = Err r

unfoldable pub pages_answer : List ℕ → ℕ → ℕ → PagesAnswer
pages_answer s k room = pages_from s room (answer_of s k)

-- the slice: the pages, then zeros; all zero where something is refused
abbrev pub pages_slice : List ℕ → ℕ → PagesAnswer → List ℕ
pages_slice s room (Ok n) = pages_of (image_of s) (counts_of s).calls ++ replicate (room - n) 0
pages_slice s room (Err r) = replicate room 0

unfoldable pub pages_out : List ℕ → ℕ → ℕ → List ℕ
pages_out s k room = pages_slice s room (pages_answer s k room)

abbrev pub pages_number : PagesAnswer → ℕ
pages_number (Ok n) = 0
pages_number (Err r) = number_of r.cause
