use Rattle.rl_lines.proofs.CallLaws.{own_lines, own_entries}
use Rattle.rl_pages.proofs.LinesLaws.{adds_own, own_count}
use Rattle.rl_pages.proofs.lines.put_call.Goals as goal

pub invariant_of-reported : goal.invariant_of-reported
invariant_of-reported c =
    record {
      known = c.args.opened.known;
      proved = own_lines _ _ _ c.lines_with-lines.ensures.value;
      reported = own_entries _ _ _ c.lines_with-lines.ensures.value _ c.lines_with-lines.ensures.reports_after;
    }

pub returns-clause-adds : goal.returns-clause-adds
returns-clause-adds c = adds_own _ _ _ c.lines_with-lines.ensures.value _ _ _ _ c.put_reports-end.ensures.adds

pub returns-clause-lines_value : goal.returns-clause-lines_value
returns-clause-lines_value c = own_count _ _ _ c.lines_with-lines.ensures.value
