use Rattle.rl_prover.proofs.CalleeLaws.{callee_other, callee_named}
use Rattle.std.proofs.Common.{rules}
use Rattle.rl_prover.proofs.callee.is_callee.Goals as goal

ruleset laws = (callee_other, callee_named)

pub returns-then-get_or : goal.returns-then-get_or
returns-then-get_or c = search (laws, rules)

pub returns : goal.returns
returns c = search (laws, rules)
