use Rattle.std.proofs.Common.{rules}
use Rattle.rl_records.proofs.ContractLaws.{call_none, call_is}
use Rattle.std.proofs.Common.{rules}
use Rattle.rl_records.proofs.ImageRef.call.Goals as goal

ruleset laws = (call_none, call_is)

pub returns-then-self-i : goal.returns-then-self-i
returns-then-self-i c = search (laws, rules)

pub returns : goal.returns
returns c = search (laws, rules)
