use Rattle.rl_resolver.proofs.Finishing.{lowered_body, lowered_same}
use Rattle.std.proofs.Common.{rules}
use Rattle.rl_resolver.proofs.lowering.put_lowered.Goals as goal

ruleset laws = (lowered_body, lowered_same)

pub returns-then-has_contracts : goal.returns-then-has_contracts
returns-then-has_contracts c = search (laws, rules)

pub returns : goal.returns
returns c = search (laws, rules)
