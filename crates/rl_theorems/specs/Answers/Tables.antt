-- THE TABLES of lowering, folding, proving, texts, messages, pages and running, in order; each cause with its place, which is 0, and what
-- it says of the image that the bytes stand for.
use Rattle.std.specs.Prelude.{◌≡◌, ℕ, zero, suc, ◌+◌, ◌*◌, ◌<◌, ◌≤◌, ◌≢◌, ◌⊎◌, List, [], ◌∷◌, ◌++◌, length, slice_index, slice_index_or}
use Rattle.std.proofs.Math.Option.{some}
use Rattle.rl_spec.specs.declared.Id.{Id}
use Rattle.rl_spec.specs.declared.Cause.TheVariants.{NoSuchFunction, HeightOverLimit, OutputTooShort, LimitPassed, OtherArena, NoSuchNode, NoSuchCall, ReportsTooShort, WrongValues, NoSuchText, BudgetOverLimit, PagesTooShort}
use Rattle.rl_spec.specs.declared.Section.{Section}
use Rattle.rl_spec.specs.declared.Section.TheVariants.{Texts, Expressions, Statements, Functions, Calls}
use Rattle.rl_spec.specs.declared.ConstVal.TheVariants.{Str}
use Rattle.rl_spec.specs.declared.Plain.TheVariants.{Null, Const}
use Rattle.rl_spec.specs.declared.Value.TheVariants.{Plain}
use Rattle.rl_spec.specs.declared.Argument.{Argument}
use Rattle.rl_spec.specs.declared.Arguments.{Arguments}
use Rattle.rl_spec.specs.Image.{Image, size_of, heights, encode}
use Rattle.rl_spec.specs.Records.{function_at}
use Rattle.rl_spec.specs.Prove.{violations_of}
use Rattle.rl_spec.specs.Pages.{pages_of}
use Rattle.rl_spec.specs.Make.{most, most_bytes}
use Rattle.rl_spec.specs.Lower.{unlimited}
use Rattle.rl_spec.specs.Runner.{given, content_of}
use Rattle.rl_images.specs.Reading.Table.{Row, row}

-- ---- lowering the function f into an output slice of so many bytes

-- an expression over 64 or a statement over 32
abbrev pub HeightOver : Image → Type 0
HeightOver im = ((i : ℕ) × (64 < slice_index (heights im Expressions) i)) ⊎ ((i : ℕ) × (32 < slice_index (heights im Statements) i))

-- 11, 12, 13
abbrev pub lower_checks : Image → ℕ → ℕ → List Row
lower_checks im f room =
    row NoSuchFunction 0 (size_of im Functions ≤ f) ∷ row HeightOverLimit 0 (HeightOver im) ∷ row OutputTooShort 0 (room < 65535) ∷ []

-- the text bytes or a section are over their limit, or there are more than 65,535 bytes
abbrev pub OverLimit : Image → Type 0
OverLimit im = (most_bytes < length im.bytes) ⊎ (((o : Section) × (most o < size_of im o)) ⊎ (65535 < length (encode im)))

-- 11, 12, 13, and 14: the image that lowering without limits makes passes a limit
abbrev pub lower_rows : Image → ℕ → ℕ → List Row
lower_rows im f room =
    lower_checks im f room ++ row LimitPassed 0 ((im' : Image) × (unlimited im f ≡ some im') × OverLimit im') ∷ []

-- ---- folding a node by its id: 15, 16

abbrev pub fold_rows : Image → Id → List Row
fold_rows im id = row OtherArena 0 (id.arena.0 ≢ im.arena) ∷ row NoSuchNode 0 (size_of im Expressions ≤ id.node.0) ∷ []

-- ---- proving, into a slice of so many entries, of which a report takes four

-- one call: 17, 18
abbrev pub prove_rows : Image → ℕ → ℕ → List Row
prove_rows im call room =
    row NoSuchCall 0 (size_of im Calls ≤ call) ∷ row ReportsTooShort 0 (room < 4 * length (violations_of im call)) ∷ []

-- how many reports n calls from the i-th on have
unfoldable pub reports_from : Image → ℕ → ℕ → ℕ
reports_from im zero i = 0
reports_from im (suc n) i = length (violations_of im i) + reports_from im n (i + 1)

-- all calls: 18
abbrev pub prove_all_rows : Image → ℕ → List Row
prove_all_rows im room = row ReportsTooShort 0 (room < 4 * reports_from im (size_of im Calls) 0) ∷ []

-- ---- a text by its number: 20

abbrev pub text_rows : Image → ℕ → List Row
text_rows im t = row NoSuchText 0 (size_of im Texts ≤ t) ∷ []

-- ---- the message of a call's report: 17. Of a report that the call has not there is none, which is no refusal

abbrev pub message_rows : Image → ℕ → List Row
message_rows im call = row NoSuchCall 0 (size_of im Calls ≤ call) ∷ []

-- ---- pages of the reports of all calls, into a slice of so many bytes: 22

abbrev pub pages_rows : Image → ℕ → List Row
pages_rows im room = row PagesTooShort 0 (room < length (pages_of im (size_of im Calls))) ∷ []

-- ---- running the function f on values, with a budget

-- what stands for a value past the last
abbrev pub no_value : Argument
no_value = record { value = Plain Null }

-- the i-th value given, or what it is Ok or Err of, is a text t that the image has not
abbrev pub TextMissing : Image → Arguments → Type 0
TextMissing im args =
    (i : ℕ) × (t : ℕ) × (content_of (slice_index_or (given args) i no_value).value ≡ Const (Str t)) × (size_of im Texts ≤ t)

-- 11, 19, 20, 21
abbrev pub run_rows : Image → ℕ → Arguments → ℕ → List Row
run_rows im f args budget =
    row NoSuchFunction 0 (size_of im Functions ≤ f)
    ∷ row WrongValues 0 ((args.count ≢ (function_at im f).params.count) ⊎ (16 < args.count))
    ∷ row NoSuchText 0 (TextMissing im args)
    ∷ row BudgetOverLimit 0 (1000000 < budget) ∷ []
