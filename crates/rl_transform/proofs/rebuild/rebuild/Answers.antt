use mathlib.Core.Path.{◌∙◌}
use Rattle.rl_schema.proofs.Rows.{row_codes}
use Rattle.rl_context.proofs.Copying.{kind_in}
use Rattle.rl_transform.proofs.Rebuilding.{makes_rebuilt}
use Rattle.rl_transform.proofs.rebuild.rebuild.Goals as goal

pub returns : goal.returns
returns c = λ w r h j k.
    makes_rebuilt _ _ _ _ _ _ h
    c.statement_start-start.ensures
    (c.kind_at-number.ensures ∙ kind_in _ _) _
    (row_codes _ _ _ r c.row_of-row.ensures) _
    c.fields_of-words.ensures.value
    c.fields_of-words.ensures.result_value _ _ _ _ j k _ _
    c.put.ensures
    c.put-2.ensures _ _ _
    (c.new_statement.ensures _ 0 w
    (row_codes _ _ _ r c.row_of-row.ensures))
