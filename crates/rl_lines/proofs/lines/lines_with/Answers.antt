use mathlib.Core.Path.{◌≡◌, ◌∙◌}
use lib.ListN.{length}
use Rattle.rl_lines.proofs.CallLaws.{call_entries_lem, call_lines_lem}
use Rattle.rl_lines.proofs.OpenLaws.{list_by, lines_by}
use Rattle.std.proofs.Common.{rules}
use Rattle.rl_lines.proofs.lines.lines_with.Goals as goal

pub returns-clause-value : goal.returns-clause-value
returns-clause-value c = let size : length c.args.reports.now ≡ 2048 = search rules in
    let n = length c.args.reports.now in
    lines_by c.args.opened.known (λ known. call_lines_lem _ _ _ known c.args.opened.classes.now c.args.opened.named _ c.args.names.now c.requires.in_bounds n _ _ _ (c.fill.ensures.after (λ y e. e)) c.prove_call-end.ensures.proves_call _ c.call-record.ensures c.find_callee.result c.find_callee.ensures _ c.unwrap_or-function.ensures)

pub returns-clause-reports_after : goal.returns-clause-reports_after
returns-clause-reports_after c = let size : length c.args.reports.now ≡ 2048 = search rules in
    let n = length c.args.reports.now in
    list_by c.args.opened.known (λ known. call_entries_lem _ _ _ known c.args.opened.classes.now c.args.opened.named _ c.args.names.now c.requires.in_bounds n _ _ _ (c.fill.ensures.after (λ y e. e)) c.prove_call-end.ensures.proves_call
    (c.prove_call-end.auto.reports ∙ c.fill.auto.self ∙ size))
