use Rattle.rl_statements.proofs.StepLaws.{give_frame}
use Rattle.rl_statements.proofs.steps.given.Goals as goal

pub returns-in-Some : goal.returns-in-Some
returns-in-Some c = λ bound n env. give_frame _ bound env n c.args.v _ _ _ _ c.pop.ensures.value c.pop.ensures.rest _ c.in-Some.is (c.resumed.ensures.by_index c.args.image.starts.now) (c.resumed.ensures.resumes_room _)
