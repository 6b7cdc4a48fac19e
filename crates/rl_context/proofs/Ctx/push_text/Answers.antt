use Rattle.rl_context.proofs.Composed.{does_push}
use Rattle.rl_context.proofs.Ctx.push_text.Goals as goal

pub returns : goal.returns
returns c im k = does_push (c.new_text-text.ensures im k _) (c.push.ensures _)
