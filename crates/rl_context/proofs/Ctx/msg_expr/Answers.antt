use Rattle.rl_context.proofs.GuardLaws.{message_own}
use Rattle.rl_context.proofs.Ctx.msg_expr.Goals as goal

pub returns-in-Some : goal.returns-in-Some
returns-in-Some c im k w = message_own c.args.clause _ _ c.in-Some.is
