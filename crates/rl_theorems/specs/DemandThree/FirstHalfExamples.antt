-- A function that meets the premises of the first half of demand 3, and for each premise one that does not and whose run and reading
-- differ; by computation.
-- Assumes nothing.
use Rattle.std.specs.Prelude.{◌≡◌, ℕ, true, ◌∷◌, replicate, refl}
use Rattle.std.proofs.Common.{arith}
use Rattle.rl_spec.specs.declared.Argument.{Argument}
use Rattle.rl_spec.specs.declared.Arguments.{Arguments}
use Rattle.rl_spec.specs.declared.Cause.TheVariants.{NoSuchText}
use Rattle.rl_spec.specs.declared.ConstVal.TheVariants.{Str, Bool as Truth}
use Rattle.rl_spec.specs.declared.Outcome.{Outcome}
use Rattle.rl_spec.specs.declared.Outcome.TheVariants.{Returned}
use Rattle.rl_spec.specs.declared.Plain.TheVariants.{Null, Const}
use Rattle.rl_spec.specs.Answers.{RunAnswer, ran, refused}
use Rattle.rl_spec.specs.declared.Value.{Value}
use Rattle.rl_spec.specs.declared.Value.TheVariants.{Plain as Bare}
use Rattle.rl_spec.specs.Image.{Image, encode, image_of}
use Rattle.rl_spec.specs.Values as value
use Rattle.rl_spec.specs.Tree.{ascii}
use Rattle.rl_spec.specs.Run as run
use Rattle.rl_spec.specs.Run.{returned, fault, folds}
use Rattle.rl_spec.specs.Mapped.{Text}
use Rattle.rl_spec.specs.Functions.{contract_function, reading_in}
use Rattle.rl_spec.specs.Runner.{outcome_in, given, values_of, run_of}
use Rattle.rl_theorems.specs.Reading.EncodedAnswers.{bytes_by}
use Rattle.rl_theorems.specs.Lowering.LowerFrame.{begins, CleanChecks}
use Rattle.rl_theorems.specs.Lowering.LoweredRuns.{Premises}
use Rattle.rl_examples.specs.LowerExamples.{loop_and_last, loop_and_last_lowered}
use Rattle.rl_theorems.specs.DemandThree.FirstHalf.{first_half}
use Rattle.rl_theorems.specs.DemandThree.FirstHalfImages.{echo, echo_lowered, promising, promising_lowered, echo_made, answering}
use Rattle.rl_theorems.specs.DemandThree.DepthTests.{texts_pass}
use Rattle.rl_theorems.specs.DemandThree.Demand.{NoReservedText, NoBareLast, no_values_lem}

-- ---- their runs and readings, with a budget of 1,000

abbrev valued : Value → Argument
valued v = record { value = v }

-- the t-th text
abbrev text : ℕ → Arguments
text t = record { values = valued (Bare (Const (Str t))) ∷ replicate 15 (valued (Bare Null)); count = 1 }

abbrev runs : Image → Arguments → RunAnswer
runs im args = run_of (encode im) 8192 0 args 1000

abbrev reads : Image → Arguments → run.Outcome Text × ℕ
reads im args = reading_in (image_of (encode im)) 0 (values_of (given args)) 1000

abbrev yes : Outcome
yes = Returned (Bare (Const (Truth true)))

-- it meets the premises
echo_premises : Premises (contract_function (image_of (encode echo)) 0)
unfolding answering CleanChecks
echo_premises = record { ensures = tt; last = tt }

-- on the text "x"
pub echo_example : (o : Outcome) × (n : ℕ) × (runs echo_lowered (text 2) ≡ ran o n) × ((outcome_in (image_of (encode echo_lowered)) o, n) ≡ reads echo (text 2))
unfolding answering
echo_example =
    first_half (encode echo) 8192 0 65535 echo_lowered (bytes_by (encode echo) refl) echo_made 8192 (text 2) 1000 refl echo_premises
    (Returned (Bare (Const (Str 2)))) 2 refl

pub echo_ends : (runs echo_lowered (text 2) ≡ ran (Returned (Bare (Const (Str 2)))) 5)
    × (reads echo (text 2) ≡ (returned (folds (value.str (ascii "x"))), 5))
unfolding answering
echo_ends = (refl, refl)

-- marked case 14's image
pub ret_ends : (runs (promising_lowered "ret") no_values_lem ≡ ran yes 9)
    × (reads (promising "ret") no_values_lem ≡ (returned (folds (value.bool true)), 9))
unfolding answering
ret_ends = (refl, refl)

-- ---- NEEDED

-- the values' texts are the original's: the lowered image has a fourth text, and runs where the original's run is refused
pub texts_needed : (runs echo (text 3) ≡ refused NoSuchText 0) × (runs echo_lowered (text 3) ≡ ran (Returned (Bare (Const (Str 3)))) 5)
unfolding answering
texts_needed = (refl, refl)

-- no reserved name in the ensures: the lowered body finds its own temporary
pub names_needed : (runs (promising_lowered "__ensure_ret_0") no_values_lem ≡ ran yes 9)
    × (reads (promising "__ensure_ret_0") no_values_lem ≡ (fault 3, 7))
unfolding answering
names_needed = (refl, refl)

-- a bare last expression is the only statement: the lowered body begins with it
pub last_needed : (runs loop_and_last_lowered no_values_lem ≡ ran yes 9) × (reads loop_and_last no_values_lem ≡ (fault 4, 9))
unfolding answering
last_needed = (refl, refl)

-- the last two meet the other premise
looking_last : NoBareLast (image_of (encode (promising "__ensure_ret_0"))) 0
unfolding answering
looking_last z l = absurd (omega (arith, l))

trailing_texts : NoReservedText (image_of (encode loop_and_last))
unfolding answering begins
trailing_texts = texts_pass (image_of (encode loop_and_last)) (ascii "__ensure_ret_") refl
