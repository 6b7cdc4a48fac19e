use Rattle.std.proofs.Common.{rules}
use Rattle.rl_statements.proofs.SlotLaws.{store_none, store_some}
use Rattle.rl_statements.proofs.env.Env.store.Goals as goal

ruleset laws = (store_none, store_some)

pub returns-in_default-clause-value : goal.returns-in_default-clause-value
returns-in_default-clause-value c = search (laws, rules)

pub returns-clause-value : goal.returns-clause-value
returns-clause-value c = search (laws, rules)
