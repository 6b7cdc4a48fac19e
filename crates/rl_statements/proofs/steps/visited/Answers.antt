use Rattle.rl_statements.proofs.StepLaws.{visit_spent, visit_node}
use Rattle.rl_statements.proofs.steps.visited.Goals as goal

pub returns-then-left-eq0 : goal.returns-then-left-eq0
returns-then-left-eq0 c = λ bound fs env. visit_spent _ bound fs env _ _ _ _ c.if-left-eq0.true c.over.ensures

pub returns : goal.returns
returns c = λ bound fs env. visit_node _ bound fs env _ _ _ _ c.if-left-eq0.false c.entered.ensures.enters c.entered.ensures.enters_room
