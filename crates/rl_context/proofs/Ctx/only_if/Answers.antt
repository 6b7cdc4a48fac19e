use Rattle.rl_context.proofs.Rows.{row_branch, row_conditional}
use Rattle.rl_context.proofs.StatementsMade.{only_if_does}
use Rattle.rl_context.proofs.Ctx.only_if.Goals as goal

pub returns : goal.returns
returns c im = only_if_does _ _ c.list_of-body.result.made _ _ (c.list_of-body.ensures im 0) c.list_word.ensures c.optional_word-other.ensures (c.new_statement-branch.ensures im 0 _ row_branch) (c.new_statement.ensures im 0 _ row_conditional)
