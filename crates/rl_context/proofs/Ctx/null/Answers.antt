use Rattle.rl_encode.specs.Words.{word_fields}
use Rattle.rl_context.proofs.Rows.{row_null, fields_null}
use Rattle.rl_context.proofs.Ctx.null.Goals as goal

pub returns : goal.returns
unfolding word_fields
returns c im k w = c.expr.ensures im k w _ row_null fields_null
