use Rattle.rl_encode.specs.Words.{word_fields}
use Rattle.rl_spec.specs.Schema.{sort_of}
use Rattle.rl_context.proofs.Rows.{row_call, fields_call}
use Rattle.rl_context.proofs.NodesMade.{call_does}
use Rattle.rl_context.proofs.Ctx.res_call.Goals as goal

pub returns : goal.returns
unfolding word_fields sort_of
returns c im k = call_does _ _ c.res_path-path.result.made c.list_of-args.result.made _ _ (c.res_path-path.ensures im k) (c.list_of-args.ensures im k) c.list_word.ensures c.list_word-2.ensures (c.expr.ensures im k _ _ row_call fields_call)
