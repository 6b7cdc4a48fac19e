-- By the schema's table, a record is checked as the definition has it.
-- Assumes nothing.
use Rattle.std.proofs.Common.{ℕ, List, get_or, ◌≡◌, refl}
use Rattle.rl_spec.specs.declared.Counts.{Counts}
use Rattle.rl_spec.specs.declared.Section.{Section}
use Rattle.rl_spec.specs.Fields.{record_at}
use Rattle.rl_schema.specs.Codes.{table}
use Rattle.rl_schema.proofs.Rows.{row_codes}
use Rattle.rl_fields.specs.Checked.{record_by}

pub record_by_table : (rows s w p : List ℕ) (seen : Counts) (own : Section) (at : ℕ) → rows ≡ table → record_by rows s w p seen own at ≡ record_at s w p seen own at
unfolding record_by record_at
record_by_table rows s w p seen own at e = rw (row_codes rows (get_or s at 0) (get_or rows (get_or s at 0) 0) e refl) refl
