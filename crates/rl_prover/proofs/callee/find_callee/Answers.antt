use Rattle.rl_prover.proofs.CalleeLaws.{seeks_start, seeks_end, seeks_found, seeks_on}
use Rattle.std.proofs.Common.{rules}
use Rattle.rl_prover.proofs.callee.find_callee.Goals as goal

ruleset laws = (seeks_start, seeks_end, seeks_found, seeks_on)

pub returns-then-is_callee : goal.returns-then-is_callee
returns-then-is_callee c = search (laws, rules)

pub loop-n-preserved : goal.loop-n-preserved
loop-n-preserved c = search (laws, rules)

pub returns : goal.returns
returns c = search (laws, rules)
