use Rattle.rl_statements.proofs.LatestLaws.{now_length}
use Rattle.rl_statements.proofs.env.Env.len.Goals as goal

pub returns : goal.returns
returns c = now_length _ _ _ _ _ c.self.view_is
