use Rattle.rl_lines.proofs.CallLaws.{own_lines, own_entries}
use Rattle.rl_report.proofs.print.print_calls.Goals as goal

pub invariant_of-reported : goal.invariant_of-reported
invariant_of-reported g c =
    record {
      known = c.args.opened.known;
      proved = own_lines _ _ _ c.lines_with-lines.ensures.value;
      reported = own_entries _ _ _ c.lines_with-lines.ensures.value _ c.lines_with-lines.ensures.reports_after;
    }
