use Rattle.rl_context.proofs.RefinementLaws.{refined_does}
use Rattle.rl_context.proofs.Ctx.refined.Goals as goal

pub returns : goal.returns
returns c im p = let m = c.refine_predicate-pred.ensures im p _ in refined_does _ _ _ _ _ _ m (c.str_lit-msg.ensures im 0 _) (c.predicate_copy-copy.ensures im _ m.leaf m.row) (c.guarded-s.ensures im) (c.push.ensures _)
