use Rattle.rl_context.proofs.RefinementLaws.{unrefined_done, refinement_done}
use Rattle.rl_context.proofs.Ctx.refinement_guard.Goals as goal

pub returns-in-None : goal.returns-in-None
returns-in-None c im p h = unrefined_done _ _ _ _ _ (c.function.ensures p) (c.param-param.ensures p) im _ c.in-None.is

pub returns-in-Some : goal.returns-in-Some
returns-in-Some c im p h =
    refinement_done _ _ _ _ _ (c.function.ensures p) (c.param-param.ensures p) _ _ _ _ _ c.in-Some.is h (c.default_text-size.ensures.by_index p) (c.default_text-size.ensures.by_index_2 p) c.part-text.ensures
    (c.refined.ensures im p)
