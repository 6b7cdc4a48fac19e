use Rattle.rl_prover.proofs.PassLaws.{pass_start, pass_end, pass_next}
use Rattle.std.proofs.Common.{rules}
use Rattle.rl_prover.proofs.bindings.bind_arguments.Goals as goal

ruleset laws = (pass_start, pass_end, pass_next)

pub loop-i-preserved : goal.loop-i-preserved
loop-i-preserved c = search (laws, rules)

pub returns : goal.returns
returns c = search (laws, rules)
