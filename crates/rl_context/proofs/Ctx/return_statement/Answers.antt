use Rattle.rl_context.proofs.Rows.{row_return}
use Rattle.rl_context.proofs.StatementsMade.{return_does}
use Rattle.rl_context.proofs.Ctx.return_statement.Goals as goal

pub returns : goal.returns
returns c im k w = return_does _ (c.new_statement.ensures im k w row_return)
