use Rattle.rl_context.proofs.NodesMade.{path_does}
use Rattle.rl_context.proofs.Ctx.res_path.Goals as goal

pub returns : goal.returns
returns c im k = path_does _ (c.push_text-std.ensures im k) (c.push_text-res.ensures im k) (c.push_text-last.ensures im k) c.new_list.ensures
