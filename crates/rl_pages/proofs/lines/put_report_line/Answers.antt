use Rattle.rl_lines.proofs.LineLaws.{number_low}
use Rattle.rl_lines.proofs.OpenLaws.{number_by, list_by, bound_by}
use Rattle.rl_pages.proofs.ReportLaws.{puts_report}
use Rattle.std.proofs.Common.{rules}
use Rattle.rl_pages.proofs.lines.put_report_line.Goals as goal

pub violation_at-violation-requires : goal.violation_at-violation-requires
violation_at-violation-requires c = bound_by c.args.call.known (λ known. number_low _ _ _ known _ c.args.call.proved _ c.args.call.reported _ c.requires.number_lt_count)

pub returns-clause-value : goal.returns-clause-value
returns-clause-value c = number_by c.args.call.known (λ known. (puts_report _ _ _ known _ c.args.call.proved _ c.args.call.reported _ c.requires.number_lt_count _ c.violation_at-violation.ensures _ _ _ _ _ _ _
    c.default_text-n.ensures.by_index
    c.default_text-n.ensures.by_index_2
    (search rules)
    c.part.ensures
    c.message-text.ensures
    c.call-record.ensures
    c.text-callee.ensures
    _ _ _
    (c.put_page_line.ensures.value, c.put_page_line.ensures.out_after)).0)

pub returns-clause-out_after : goal.returns-clause-out_after
returns-clause-out_after c = list_by c.args.call.known (λ known. (puts_report _ _ _ known _ c.args.call.proved _ c.args.call.reported _ c.requires.number_lt_count _ c.violation_at-violation.ensures _ _ _ _ _ _ _
    c.default_text-n.ensures.by_index
    c.default_text-n.ensures.by_index_2
    (search rules)
    c.part.ensures
    c.message-text.ensures
    c.call-record.ensures
    c.text-callee.ensures
    _ _ _
    (c.put_page_line.ensures.value, c.put_page_line.ensures.out_after)).1)
