use Rattle.rl_prover.proofs.SecondLaws.{requiring_start, requiring_end, requiring_next}
use Rattle.std.proofs.Common.{rules}
use Rattle.rl_prover.proofs.violations.report_requires.Goals as goal

ruleset laws = (requiring_start, requiring_end, requiring_next)

pub loop-i-preserved : goal.loop-i-preserved
loop-i-preserved c = search (laws, rules)

pub returns-clause-reports_requires : goal.returns-clause-reports_requires
returns-clause-reports_requires c = search (laws, rules)
