-- The checks of lowering after reading, in the table's order.
use Rattle.std.specs.Prelude.{ℕ, Bool, not, cond, ◌||◌, List, ltb, take, drop, Result, Ok, Err}
use Rattle.rl_spec.specs.declared.Cause.{Cause}
use Rattle.rl_spec.specs.declared.Cause.TheVariants.{NoSuchFunction, HeightOverLimit, OutputTooShort}
use Rattle.rl_spec.specs.declared.Counts.{Counts}
use Rattle.rl_spec.specs.Answers.{refused}
use Rattle.rl_spec.specs.Lowerer.{Lowering, any_over}

-- the work slice has a height over its limit: those of the expressions come first, then those of the statements
unfoldable pub tall_in : List ℕ → Counts → Bool
tall_in w c = any_over 64 (take c.expressions (drop 0 w)) || any_over 32 (take c.statements (drop c.expressions w))

unfoldable pub lowering_admission : List ℕ → Counts → ℕ → ℕ → Result Unit Cause
lowering_admission w c f room =
    cond (not (ltb f c.functions)) (Err NoSuchFunction)
    (cond (tall_in w c) (Err HeightOverLimit) (cond (ltb room 65535) (Err OutputTooShort) (Ok tt)))

abbrev pub lowering_or : Result Unit Cause → Lowering → Lowering
lowering_or (Ok x) r = r
lowering_or (Err cause) r = refused cause 0
