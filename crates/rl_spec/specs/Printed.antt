-- What the printer writes: a line per report, in the order of the calls, or the one line of a refusal.
use Rattle.std.specs.Prelude.{ℕ, zero, suc, ◌+◌, List, [], ◌∷◌, ◌++◌, map, slice_index_or, Ok, Err}
use Rattle.std.proofs.Math.Option.{Option, none, some}
use Rattle.rl_spec.specs.Answers.{Answer}
use Rattle.rl_spec.specs.declared.Cause.{Cause}
use Rattle.rl_spec.specs.declared.Violation.{Violation}
use Rattle.rl_spec.specs.Read.{number_of, answer_of}
use Rattle.rl_spec.specs.Image.{Image, image_of}
use Rattle.rl_spec.specs.Tree.{ascii}
use Rattle.rl_spec.specs.Records.{call_at}
use Rattle.rl_spec.specs.FnContracts.{callee_of}
use Rattle.rl_spec.specs.Prove.{violations_of}
use Rattle.rl_spec.specs.Message.{decimal, opening, message_by}

-- ---- a line

-- refused N at P
unfoldable pub refused_line : Cause → ℕ → List ℕ
refused_line cause place = ascii "refused " ++ decimal (number_of cause) ++ ascii " at " ++ decimal place ++ ascii "\n"

-- CALL SPAN contract violation (proven at compile time): TEXT
unfoldable pub line_with : ℕ → ℕ → List ℕ → List ℕ
line_with call span text = decimal call ++ ascii " " ++ decimal span ++ ascii " " ++ opening ++ text ++ ascii "\n"

-- the line of a violation of the function's contracts
unfoldable pub line_of : Image → ℕ → ℕ → ℕ → Violation → List ℕ
line_of im function call span v = line_with call span (message_by im function v)

-- ---- the lines of an image

-- of a call: one for each violation of its callee's contracts, in order
abbrev pub lines_by : Image → ℕ → Option ℕ → List (List ℕ)
lines_by im call none = []
lines_by im call (some f) = map (line_of im f call (call_at im call).span) (violations_of im call)

unfoldable pub call_lines : Image → ℕ → List (List ℕ)
call_lines im call = lines_by im call (callee_of im call)

-- the one of a number, from 0; empty where there is none
unfoldable pub line_at : Image → ℕ → ℕ → List ℕ
line_at im call n = slice_index_or (call_lines im call) n []

-- of n calls from the k-th on
unfoldable pub all_lines : Image → ℕ → ℕ → List (List ℕ)
all_lines im zero k = []
all_lines im (suc n) k = call_lines im k ++ all_lines im n (k + 1)

-- ---- ALL THAT IT WRITES, for these bytes on standard input. Its work slice has 8,192 entries

abbrev pub lines_from : List ℕ → Answer → List (List ℕ)
lines_from s (Ok h) = all_lines (image_of s) h.counts.calls 0
lines_from s (Err r) = refused_line r.cause r.place ∷ []

unfoldable pub lines_of : List ℕ → List (List ℕ)
lines_of s = lines_from s (answer_of s 8192)

-- one after another
unfoldable pub joined : {A : Type 0} → List (List A) → List A
joined [] = []
joined (line ∷ lines) = line ++ joined lines

unfoldable pub output_of : List ℕ → List ℕ
output_of s = joined (lines_of s)
