use Rattle.rl_encode.specs.Words.{word_fields}
use Rattle.rl_spec.specs.Schema.{sort_of}
use Rattle.rl_context.proofs.Rows.{row_err, fields_err}
use Rattle.rl_context.proofs.NodesMade.{err_does}
use Rattle.rl_context.proofs.Ctx.err_lit.Goals as goal

pub returns : goal.returns
unfolding word_fields sort_of
returns c im k w = err_does _ (c.expr.ensures im k w _ row_err fields_err)
