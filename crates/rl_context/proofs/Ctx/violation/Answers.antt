use Rattle.rl_context.proofs.StatementsMade.{violation_returns, violation_aborts}
use Rattle.rl_context.proofs.Ctx.violation.Goals as goal

pub returns-then-ctx : goal.returns-then-ctx
returns-then-ctx c im = violation_returns _ (c.err_lit-err.ensures im 0 _) c.if-ctx.true (c.return_statement.ensures im 0 _)

pub returns : goal.returns
returns c im = violation_aborts _ (c.err_lit-err.ensures im 0 _) c.if-ctx.false (c.unwrap_call-abort.ensures im 0) (c.expression_statement.ensures im 0 _)
