use Rattle.rl_context.proofs.GuardLaws.{guarded_does}
use Rattle.rl_context.proofs.Ctx.guarded.Goals as goal

pub returns : goal.returns
returns c im = guarded_does _ _ (c.negated-neg.ensures im 0 _) (c.violation-s.ensures im) (c.only_if.ensures im)
