use Rattle.rl_context.proofs.GuardLaws.{clause_does}
use Rattle.rl_context.proofs.Ctx.clause_guard.Goals as goal

pub returns : goal.returns
returns c q h = clause_does c.args.default.now c.args.clause (c.msg_expr-msg.ensures _ 0 _) (c.guard.ensures q h)
