use Rattle.rl_text_out.proofs.Laws.{after_none, with_none, after_some, with_some}
use Rattle.std.proofs.Common.{rules}
use Rattle.rl_text_out.proofs.put_text.Goals as goal

ruleset laws = (after_none, with_none, after_some, with_some)

pub returns-then-out-at-clause-value : goal.returns-then-out-at-clause-value
returns-then-out-at-clause-value c = search (laws, rules)

pub returns-then-out-at-clause-out_after : goal.returns-then-out-at-clause-out_after
returns-then-out-at-clause-out_after c = search (laws, rules)

pub returns-clause-value : goal.returns-clause-value
returns-clause-value c = search (laws, rules)

pub returns-clause-out_after : goal.returns-clause-out_after
returns-clause-out_after c = search (laws, rules)
