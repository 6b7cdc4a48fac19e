use Rattle.rl_statements.proofs.StepLaws.{push_room}
use Rattle.rl_statements.proofs.steps.pushed.Goals as goal

pub returns-then-push : goal.returns-then-push
returns-then-push c = λ bound env. push_room _ bound _ env _ _ _ _ _ _ _ c.push.ensures.has_room c.push.ensures.frames c.if-push.true _ c.visited.ensures
