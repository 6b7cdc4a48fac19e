use Rattle.rl_statements.proofs.LatestLaws.{now_left}
use Rattle.rl_statements.proofs.env.Env.leave.Goals as goal

pub returns : goal.returns
returns c = now_left _ _ _ _ _ c.self.view_is c.args.len _ c.min-self-inside.ensures
