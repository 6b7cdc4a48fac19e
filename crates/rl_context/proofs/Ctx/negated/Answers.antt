use Rattle.rl_encode.specs.Words.{word_fields}
use Rattle.rl_spec.specs.Schema.{sort_of}
use Rattle.rl_context.proofs.Rows.{row_unary, fields_unary}
use Rattle.rl_context.proofs.Ctx.negated.Goals as goal

pub returns : goal.returns
unfolding word_fields sort_of
returns c im k w = c.expr.ensures im k w _ row_unary fields_unary
