use Rattle.std.proofs.Common.{rules}
use Rattle.rl_records.proofs.ContractLaws.{function_none, function_is}
use Rattle.std.proofs.Common.{rules}
use Rattle.rl_records.proofs.ImageRef.function.Goals as goal

ruleset laws = (function_none, function_is)

pub returns-then-self-i : goal.returns-then-self-i
returns-then-self-i c = search (laws, rules)

pub returns : goal.returns
returns c = search (laws, rules)
