use Rattle.rl_text_out.proofs.Laws.{after_number, with_number}
use Rattle.std.proofs.Common.{rules}
use Rattle.rl_text_out.proofs.put_number.Goals as goal

ruleset laws = (after_number, with_number)

pub returns-clause-value : goal.returns-clause-value
returns-clause-value c = search (laws, rules)

pub returns-clause-out_after : goal.returns-clause-out_after
returns-clause-out_after c = search (laws, rules)
