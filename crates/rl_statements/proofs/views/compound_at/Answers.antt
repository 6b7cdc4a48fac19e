use Rattle.rl_statements.proofs.ViewLaws.{compound_view}
use Rattle.rl_statements.proofs.views.compound_at.Goals as goal

pub returns : goal.returns
returns c = compound_view _ _ _ _ _ _ c.statement.ensures c.compound_of.ensures
