use Rattle.rl_pages.proofs.AddedLaws.{adds_as}
use Rattle.rl_pages.proofs.ReportLaws.{buffered, report_short}
use Rattle.rl_pages.proofs.lines.put_report.Goals as goal

pub returns-clause-adds : goal.returns-clause-adds
returns-clause-adds c = let short = report_short _ _ c.args.call.proved _ c.requires.number_lt_count in
    adds_as _ _ _ _ _ _ (buffered _ _ _ _ short (c.put_report_line-n.ensures.value, c.put_report_line-n.ensures.out_after) c.part.ensures) c.put_behind.ensures.adds
