use Rattle.rl_context.proofs.NodesMade.{list_of_does}
use Rattle.rl_context.proofs.Ctx.list_of.Goals as goal

pub returns : goal.returns
returns c im k = list_of_does _ (c.push-ctx.ensures _) c.new_list.ensures
