use Rattle.rl_checker.proofs.ProveLaws.{each_start, each_end, each_bound, each_next}
use Rattle.std.proofs.Common.{rules}
use Rattle.rl_checker.proofs.proving.prove_each.Goals as goal

ruleset laws = (each_start, each_end, each_bound, each_next)

pub loop-call-preserved : goal.loop-call-preserved
loop-call-preserved c = search (laws, rules)

pub returns-clause-proves_each : goal.returns-clause-proves_each
returns-clause-proves_each c = search (laws, rules)
