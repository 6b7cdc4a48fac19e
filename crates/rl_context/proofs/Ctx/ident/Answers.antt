use Rattle.rl_encode.specs.Words.{word_fields}
use Rattle.rl_spec.specs.Schema.{sort_of}
use Rattle.rl_context.proofs.Rows.{row_identifier, fields_identifier}
use Rattle.rl_context.proofs.NodesMade.{ident_does}
use Rattle.rl_context.proofs.Ctx.ident.Goals as goal

pub returns : goal.returns
unfolding word_fields sort_of
returns c im k w = ident_does _ (c.new_text-text.ensures im k w) (c.expr.ensures im k w _ row_identifier fields_identifier)
