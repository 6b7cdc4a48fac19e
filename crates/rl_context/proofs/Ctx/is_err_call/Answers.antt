use Rattle.rl_context.proofs.NodesMade.{is_err_does}
use Rattle.rl_context.proofs.Ctx.is_err_call.Goals as goal

pub returns : goal.returns
returns c im k = is_err_does _ (c.res_call.ensures im k)
