-- The section of list entries by itself.
use Rattle.std.specs.Prelude.{ℕ, zero, suc, ◌+◌, cond, List, get_or, eqb}
use Rattle.rl_spec.specs.declared.Cause.TheVariants.{BytesEnd, WrongKind}
use Rattle.rl_spec.specs.Answers.{Step, goes_on, refused}
use Rattle.rl_spec.specs.Bytes.{past}

unfoldable pub lists_from : List ℕ → ℕ → ℕ → Step
lists_from s zero at = goes_on at 0
lists_from s (suc n) at =
    cond (past s at 1) (refused BytesEnd at)
    (cond (eqb (get_or s at 0) 3) (cond (past s (at + 1) 2) (refused BytesEnd (at + 1)) (lists_from s n (at + 1 + 2))) (refused WrongKind at))
