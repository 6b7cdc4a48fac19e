use Rattle.rl_prover.proofs.ReportLaws.{report_yes, report_no}
use Rattle.std.proofs.Common.{rules}
use Rattle.rl_prover.proofs.reports.report_if.Goals as goal

ruleset laws = (report_yes, report_no)

pub returns-then-failed-clause-reports : goal.returns-then-failed-clause-reports
returns-then-failed-clause-reports c = search (laws, rules)

pub returns-clause-reports : goal.returns-clause-reports
returns-clause-reports c = search (laws, rules)
