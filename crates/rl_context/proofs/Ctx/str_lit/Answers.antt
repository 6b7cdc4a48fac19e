use Rattle.rl_encode.specs.Words.{word_fields}
use Rattle.rl_spec.specs.Schema.{sort_of}
use Rattle.rl_context.proofs.Rows.{row_string, fields_string}
use Rattle.rl_context.proofs.NodesMade.{str_does}
use Rattle.rl_context.proofs.Ctx.str_lit.Goals as goal

pub returns : goal.returns
unfolding word_fields sort_of
returns c im k w = str_does _ (c.new_text-text.ensures im k w) (c.expr.ensures im k w _ row_string fields_string)
