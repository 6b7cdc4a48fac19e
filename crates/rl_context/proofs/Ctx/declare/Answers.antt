use Rattle.rl_context.proofs.Rows.{row_declaration}
use Rattle.rl_context.proofs.StatementsMade.{declare_does}
use Rattle.rl_context.proofs.Ctx.declare.Goals as goal

pub returns : goal.returns
returns c im k w = declare_does _ _ (c.new_text-text.ensures im k w) (c.new_statement.ensures im k w row_declaration)
