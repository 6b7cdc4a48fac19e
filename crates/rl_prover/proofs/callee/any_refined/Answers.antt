use Rattle.rl_prover.proofs.CalleeLaws.{looks_start, looks_end, looks_found, looks_on}
use Rattle.std.proofs.Common.{rules}
use Rattle.rl_prover.proofs.callee.any_refined.Goals as goal

ruleset laws = (looks_start, looks_end, looks_found, looks_on)

pub returns-then-is_some : goal.returns-then-is_some
returns-then-is_some c = search (laws, rules)

pub loop-i-preserved : goal.loop-i-preserved
loop-i-preserved c = search (laws, rules)

pub returns : goal.returns
returns c = search (laws, rules)
