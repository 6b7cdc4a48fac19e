-- Bytes behind bytes in a slice, and the bytes of a report's line. Assumes nothing.
use Rattle.std.specs.Prelude.{ℕ, cond, List, [], ◌++◌, ltb, get_or, Ok}
use Rattle.rl_spec.specs.declared.Cause.TheVariants.{PagesTooShort}
use Rattle.rl_spec.specs.Answers.{PagesAnswer, refused}
use Rattle.rl_spec.specs.Utf8.{encode_text}
use Rattle.rl_spec.specs.Image.{Image}
use Rattle.rl_spec.specs.Pages.{report_lines, ended}
use Rattle.rl_prover.specs.Reports.{Shown}

-- behind whatever the slice holds up to `at` stand these bytes, as far as it is long; r is the place after them
abbrev pub Adds : List ℕ → ℕ → List ℕ → List ℕ → ℕ → Type 0
Adds l at bytes out r = (e : List ℕ) → Shown l e at → Shown out (e ++ bytes) r

-- the bytes of the line of a call's report of a number
unfoldable pub line_bytes : Image → ℕ → ℕ → List ℕ
line_bytes im call number = encode_text (ended (get_or (report_lines im call) number []))

-- the answer for bytes up to a place
unfoldable pub answer_at : ℕ → ℕ → PagesAnswer
answer_at room at = cond (ltb room at) (refused PagesTooShort 0) (Ok at)
