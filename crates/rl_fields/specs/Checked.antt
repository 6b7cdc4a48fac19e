-- A record checked by the rows of a table. By the schema's table this is `record_at`.
use Rattle.std.specs.Prelude.{ℕ, ◌+◌, cond, List, get_or}
use Rattle.rl_spec.specs.declared.Counts.{Counts}
use Rattle.rl_spec.specs.declared.Cause.TheVariants.{BytesEnd, WrongKind}
use Rattle.rl_spec.specs.declared.Section.{Section}
use Rattle.rl_spec.specs.Answers.{Step, refused}
use Rattle.rl_spec.specs.Bytes.{past}
use Rattle.rl_spec.specs.Schema.{in_section}
use Rattle.rl_spec.specs.Fields.{fields_from, height_step}
use Rattle.rl_schema.specs.Codes.{codes}

unfoldable pub record_by : List ℕ → List ℕ → List ℕ → List ℕ → Counts → Section → ℕ → Step
record_by rows s w p seen own at =
    cond (past s at 1) (refused BytesEnd at)
    (cond (in_section own (get_or s at 0))
    (height_step own at (fields_from s w p seen own (codes (get_or rows (get_or s at 0) 0)) (at + 1) 0)) (refused WrongKind at))
