use Rattle.std.proofs.Common.{rules}
use Rattle.rl_statements.proofs.LatestLaws.{now_full, now_room, now_pushed}
use Rattle.rl_statements.proofs.stack.Stack.push.Goals as goal

pub returns-then-self-eq69-clause-has_room : goal.returns-then-self-eq69-clause-has_room
returns-then-self-eq69-clause-has_room c = now_full _ _ _ _ _ c.self.view_is 69 c.if-self-eq69.true

pub returns-clause-has_room : goal.returns-clause-has_room
returns-clause-has_room c = now_room _ _ _ _ _ c.self.view_is 69 c.self.invariant c.if-self-eq69.false

pub returns-clause-frames : goal.returns-clause-frames
returns-clause-frames c = now_pushed _ _ _ _ _ c.self.view_is c.args.frame (search rules)
