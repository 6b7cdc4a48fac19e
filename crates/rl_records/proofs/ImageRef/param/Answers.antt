use Rattle.std.proofs.Common.{rules}
use Rattle.rl_records.proofs.ContractLaws.{param_none, param_is}
use Rattle.std.proofs.Common.{rules}
use Rattle.rl_records.proofs.ImageRef.param.Goals as goal

ruleset laws = (param_none, param_is)

pub returns-then-self-i : goal.returns-then-self-i
returns-then-self-i c = search (laws, rules)

pub returns : goal.returns
returns c = search (laws, rules)
