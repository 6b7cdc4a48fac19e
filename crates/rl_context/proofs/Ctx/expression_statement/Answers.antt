use Rattle.rl_context.proofs.Rows.{row_expression}
use Rattle.rl_context.proofs.StatementsMade.{expression_does}
use Rattle.rl_context.proofs.Ctx.expression_statement.Goals as goal

pub returns : goal.returns
returns c im k w = expression_does _ (c.new_statement.ensures im k w row_expression)
