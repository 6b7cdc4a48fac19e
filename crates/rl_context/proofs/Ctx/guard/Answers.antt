use Rattle.rl_context.proofs.GuardLaws.{guard_does}
use Rattle.rl_context.proofs.Ctx.guard.Goals as goal

pub returns : goal.returns
returns c q h = guard_does _ _ (c.deep_clone_expr-copy.ensures q h) (c.guarded.ensures _)
