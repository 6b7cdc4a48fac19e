use Rattle.std.proofs.Common.{rules}
use Rattle.rl_context.proofs.NodesMade.{expr_does}
use Rattle.rl_context.proofs.Ctx.expr.Goals as goal

pub returns : goal.returns
returns c im k w cs e f = expr_does _ _ cs (search rules) f (c.new_expression.ensures im k w e)
