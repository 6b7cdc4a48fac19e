-- The checks of the runner after reading, in the table's order. Assumes nothing.
use Rattle.std.specs.Prelude.{ℕ, not, cond, ltb, Result, Ok, Err}
use Rattle.rl_spec.specs.declared.Arguments.{Arguments}
use Rattle.rl_spec.specs.declared.Cause.{Cause}
use Rattle.rl_spec.specs.declared.Cause.TheVariants.{NoSuchFunction, WrongValues, NoSuchText, BudgetOverLimit}
use Rattle.rl_spec.specs.declared.Counts.{Counts}
use Rattle.rl_spec.specs.Answers.{RunAnswer, refused}
use Rattle.rl_spec.specs.Image.{Image}
use Rattle.rl_spec.specs.Records.{function_at}
use Rattle.rl_spec.specs.Runner.{is_for, all_have, given}

unfoldable pub run_admission : Image → Counts → ℕ → Arguments → ℕ → Result Unit Cause
run_admission im c f args budget =
    cond (not (ltb f c.functions)) (Err NoSuchFunction)
    (cond (not (is_for args.count (function_at im f).params.count)) (Err WrongValues)
    (cond (not (all_have c (given args))) (Err NoSuchText)
    (cond (ltb 1000000 budget) (Err BudgetOverLimit) (Ok tt))))

abbrev pub run_or : Result Unit Cause → RunAnswer → RunAnswer
run_or (Ok x) r = r
run_or (Err cause) r = refused cause 0
