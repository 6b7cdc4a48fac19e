use Rattle.rl_statements.proofs.ViewLaws.{branch_late, branch_view}
use Rattle.rl_statements.proofs.views.branch_at.Goals as goal

pub returns-then-limit-b : goal.returns-then-limit-b
returns-then-limit-b c = branch_late _ _ _ _ _ c.if-limit-b.true

pub returns : goal.returns
returns c = branch_view _ _ _ _ _ _ _ c.if-limit-b.false c.statement.ensures c.branch_of.ensures
