use Rattle.std.proofs.Common.{ap, sym, drop, ◌∙◌}
use Rattle.rl_statements.specs.Frames.{newest}
use Rattle.rl_statements.proofs.LatestLaws.{now_none, now_some}
use Rattle.rl_statements.proofs.stack.Stack.pop.Goals as goal

pub returns-then-self-eq0-clause-value : goal.returns-then-self-eq0-clause-value
returns-then-self-eq0-clause-value c = sym (ap newest (now_none _ _ _ _ _ c.self.view_is c.if-self-eq0.true))

pub returns-then-self-eq0-clause-rest : goal.returns-then-self-eq0-clause-rest
returns-then-self-eq0-clause-rest c = now_none _ _ _ _ _ c.self.view_is c.if-self-eq0.true ∙ sym (ap (drop 1) (now_none _ _ _ _ _ c.self.view_is c.if-self-eq0.true))

pub returns-clause-value : goal.returns-clause-value
returns-clause-value c = sym (ap newest (now_some _ _ _ _ _ c.self.view_is c.if-self-eq0.false))

pub returns-clause-rest : goal.returns-clause-rest
returns-clause-rest c = sym (ap (drop 1) (now_some _ _ _ _ _ c.self.view_is c.if-self-eq0.false))
