use Rattle.std.proofs.Common.{rules}
use Rattle.rl_records.proofs.ContractLaws.{clause_none, clause_is}
use Rattle.std.proofs.Common.{rules}
use Rattle.rl_records.proofs.ImageRef.clause.Goals as goal

ruleset laws = (clause_none, clause_is)

pub returns-then-self-i : goal.returns-then-self-i
returns-then-self-i c = search (laws, rules)

pub returns : goal.returns
returns c = search (laws, rules)
