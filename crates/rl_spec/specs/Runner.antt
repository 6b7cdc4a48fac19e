-- What the runner answers: reading first, then 11, 19, 20 and 21, else the run of the body; and values in words.
use Rattle.std.specs.Prelude.{ℕ, ◌+◌, ◌-◌, Bool, true, cond, not, ◌&&◌, List, [], ◌∷◌, map, take, ◌==◌, nat_lt, None, Some, Ok, Err}
use Rattle.rl_spec.specs.Answers.{Answer, ran, refused, Folded, RunAnswer}
use Rattle.rl_spec.specs.declared.Cause.TheVariants.{NoSuchFunction, WrongValues, NoSuchText, BudgetOverLimit}
use Rattle.rl_spec.specs.declared.Counts.{Counts}
use Rattle.rl_spec.specs.declared.ConstVal.{ConstVal}
use Rattle.rl_spec.specs.declared.ConstVal.TheVariants.{Int, Float, Str, Bool as Truth}
use Rattle.rl_spec.specs.declared.Plain.{Plain}
use Rattle.rl_spec.specs.declared.Plain.TheVariants.{Null, Const}
use Rattle.rl_spec.specs.declared.Value.{Value}
use Rattle.rl_spec.specs.declared.Value.TheVariants.{Plain as Bare}
use Rattle.rl_spec.specs.declared.Value.TheVariants as val
use Rattle.rl_spec.specs.declared.Argument.{Argument}
use Rattle.rl_spec.specs.declared.Arguments.{Arguments}
use Rattle.rl_spec.specs.declared.Outcome.{Outcome}
use Rattle.rl_spec.specs.declared.Outcome.TheVariants.{Returned, Stopped, Fault, Spent}
use Rattle.rl_spec.specs.Read.{number_of, answer_of}
use Rattle.rl_spec.specs.Image.{Image, image_of, text_of}
use Rattle.rl_spec.specs.Folded.{const_of, as_const}
use Rattle.rl_spec.specs.Words.{sort_word_of, payload_word_of, words_value}
use Rattle.rl_spec.specs.Records.{function_at}
use Rattle.rl_spec.specs.Run as run
use Rattle.rl_spec.specs.Reading.{run_function}
use Rattle.rl_spec.specs.Mapped.{map_outcome, Text}
use Rattle.rl_spec.specs.Functions.{plain_function}

-- ---- the declared values and outcomes, as those of the definitions; a text is its index

abbrev pub plain_of : Plain → run.Plain ℕ
plain_of Null = run.nothing
plain_of (Const v) = run.folded (const_of v)

abbrev pub value_of : Value → run.Value ℕ
value_of (Bare p) = run.plain (plain_of p)
value_of (val.Ok p) = run.ok (plain_of p)
value_of (val.Err p) = run.err (plain_of p)

abbrev pub as_plain : run.Plain ℕ → Plain
as_plain run.nothing = Null
as_plain (run.folded v) = Const (as_const v)

abbrev pub as_value : run.Value ℕ → Value
as_value (run.plain p) = Bare (as_plain p)
as_value (run.ok p) = val.Ok (as_plain p)
as_value (run.err p) = val.Err (as_plain p)

abbrev pub as_outcome : run.Outcome ℕ → Outcome
as_outcome (run.returned v) = Returned (as_value v)
as_outcome (run.stopped p) = Stopped (as_plain p)
as_outcome (run.fault k) = Fault k
as_outcome run.spent = Spent

abbrev pub outcome_of : Outcome → run.Outcome ℕ
outcome_of (Returned v) = run.returned (value_of v)
outcome_of (Stopped p) = run.stopped (plain_of p)
outcome_of (Fault k) = run.fault k
outcome_of Spent = run.spent

-- an outcome whose texts are an image's, with their bytes
abbrev pub outcome_in : Image → Outcome → run.Outcome Text
outcome_in im o = map_outcome (text_of im) (outcome_of o)

-- ---- arguments

-- a text is one of the image's
abbrev pub const_has : Counts → ConstVal → Bool
const_has c (Int x) = true
const_has c (Float x) = true
const_has c (Str t) = nat_lt t c.texts
const_has c (Truth b) = true

abbrev pub plain_has : Counts → Plain → Bool
plain_has c Null = true
plain_has c (Const v) = const_has c v

-- 20 looks into an Ok and an Err
abbrev pub value_has : Counts → Value → Bool
value_has c (Bare p) = plain_has c p
value_has c (val.Ok p) = plain_has c p
value_has c (val.Err p) = plain_has c p

unfoldable pub all_have : Counts → List Argument → Bool
all_have c [] = true
all_have c (a ∷ as') = value_has c a.value && all_have c as'

abbrev pub given : Arguments → List Argument
given args = take args.count args.values

abbrev pub values_of : List Argument → List (run.Value ℕ)
values_of vs = map (λ a. value_of a.value) vs

-- ---- THE ANSWER

abbrev pub ran_of : run.Outcome ℕ × ℕ → RunAnswer
ran_of r = ran (as_outcome r.0) r.1

-- the run of a function of an image
unfoldable pub ran_in : Image → ℕ → List Argument → ℕ → RunAnswer
ran_in im f vs budget = ran_of (run.used budget (run_function (text_of im) (plain_function im f) (values_of vs) budget))

-- as many values as parameters, and no more than sixteen
abbrev pub is_for : ℕ → ℕ → Bool
is_for count params = count == params && not (nat_lt 16 count)

abbrev pub run_by : List ℕ → ℕ → Arguments → ℕ → Answer → RunAnswer
run_by s f args budget (Ok h) =
    cond (not (nat_lt f h.counts.functions)) (refused NoSuchFunction 0)
    (cond (not (is_for args.count (function_at (image_of s) f).params.count)) (refused WrongValues 0)
    (cond (not (all_have h.counts (given args))) (refused NoSuchText 0)
    (cond (nat_lt 1000000 budget) (refused BudgetOverLimit 0) (ran_in (image_of s) f (given args) budget))))
run_by s f args budget (Err r) = Err r

unfoldable pub run_of : List ℕ → ℕ → ℕ → Arguments → ℕ → RunAnswer
run_of s k f args budget = run_by s f args budget (answer_of s k)

abbrev pub run_number : RunAnswer → ℕ
run_number (Ok h) = 0
run_number (Err r) = number_of r.cause

-- ---- a value in two words: its sort, 0 Null, 1 Int, 2 Float, 3 Str, 4 Bool, and 8 more in an Ok, 16 more in an Err; and its payload

abbrev pub folded_in : Plain → Folded
folded_in Null = None
folded_in (Const v) = Some v

abbrev pub plain_in : Folded → Plain
plain_in None = Null
plain_in (Some v) = Const v

abbrev pub content_of : Value → Plain
content_of (Bare p) = p
content_of (val.Ok p) = p
content_of (val.Err p) = p

abbrev pub wrap_word : Value → ℕ
wrap_word (Bare p) = 0
wrap_word (val.Ok p) = 8
wrap_word (val.Err p) = 16

abbrev pub value_sort : Value → ℕ
value_sort v = sort_word_of (folded_in (content_of v)) + wrap_word v

abbrev pub value_payload : Value → ℕ
value_payload v = payload_word_of (folded_in (content_of v))

abbrev pub plain_of_words : ℕ → ℕ → Plain
plain_of_words sort payload = plain_in (words_value sort payload)

-- the value of two words
unfoldable pub value_of_words : ℕ → ℕ → Value
value_of_words sort payload =
    cond (nat_lt sort 8) (Bare (plain_of_words sort payload))
    (cond (nat_lt sort 16) (val.Ok (plain_of_words (sort - 8) payload)) (val.Err (plain_of_words (sort - 16) payload)))
