use Rattle.rl_context.proofs.WrapLaws.{skip_err_does}
use Rattle.rl_context.proofs.Ctx.skip_err.Goals as goal

pub returns : goal.returns
returns c im = skip_err_does _ (c.ident-node.ensures im 0 _) (c.is_err_call-check.ensures im 0) (c.return_of-last.ensures im _) (c.only_if-skip.ensures im) (c.push.ensures _)
