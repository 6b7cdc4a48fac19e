use Rattle.rl_context.proofs.NodesMade.{unwrap_does}
use Rattle.rl_context.proofs.Ctx.unwrap_call.Goals as goal

pub returns : goal.returns
returns c im k = unwrap_does _ (c.res_call.ensures im k)
