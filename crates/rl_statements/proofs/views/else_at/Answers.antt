use Rattle.rl_statements.proofs.ViewLaws.{no_other, other_late, else_view}
use Rattle.std.proofs.Common.{rules}
use Rattle.rl_statements.proofs.views.else_at.Goals as goal

ruleset laws = (no_other, other_late, else_view)

pub returns-in_err-s : goal.returns-in_err-s
returns-in_err-s c = search (laws, rules)

pub returns-then-limit-s : goal.returns-then-limit-s
returns-then-limit-s c = other_late _ _ _ _ _ _ c.in_ok-s.was c.if-limit-s.true

pub returns : goal.returns
returns c = else_view _ _ _ _ _ _ _ _ c.in_ok-s.was c.if-limit-s.false c.statement.ensures c.else_of.ensures
