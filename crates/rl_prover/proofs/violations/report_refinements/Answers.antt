use Rattle.rl_prover.proofs.SecondLaws.{refining_start, refining_end, refining_next}
use Rattle.std.proofs.Common.{rules}
use Rattle.rl_prover.proofs.violations.report_refinements.Goals as goal

ruleset laws = (refining_start, refining_end, refining_next)

pub loop-i-preserved : goal.loop-i-preserved
loop-i-preserved c = search (laws, rules)

pub returns-clause-reports_refinements : goal.returns-clause-reports_refinements
returns-clause-reports_refinements c = search (laws, rules)
