use Rattle.rl_context.proofs.StatementsMade.{return_of_does}
use Rattle.rl_context.proofs.Ctx.return_of.Goals as goal

pub returns : goal.returns
returns c im w = return_of_does _ (c.ident-node.ensures im 0 w) (c.return_statement.ensures im 0 w)
