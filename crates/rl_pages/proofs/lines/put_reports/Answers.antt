use Prim.Native.Nat.{◌≤◌, ◌<◌}
use native.Mathlib.Omega.{arith}
use Rattle.rl_lines.proofs.OpenLaws.{bound_by}
use Rattle.rl_pages.proofs.ReportLaws.{few_lines, report_there, no_more}
use Rattle.rl_pages.proofs.LinesLaws.{adds_no_lines, adds_report, adds_reports}
use Rattle.std.proofs.Common.{rules}
use Rattle.rl_pages.proofs.lines.put_reports.Goals as goal

pub loop-number-init : goal.loop-number-init
loop-number-init c = (search rules, adds_no_lines _ _)

pub put_report-place-requires-clause-at_bound : goal.put_report-place-requires-clause-at_bound
put_report-place-requires-clause-at_bound c =
    let few : c.args.call.lines.count ≤ 512 = bound_by c.args.call.known (λ known. few_lines _ _ c.args.call.proved known.whole) in
    let less : c.loop-number.number < c.args.call.lines.count = search rules in
    omega (arith, c.loop-number.invariant.0, few, c.requires.at_bound)

pub loop-number-preserved : goal.loop-number-preserved
loop-number-preserved c = let less : c.loop-number.number < c.args.call.lines.count = search rules in
    let there = report_there _ _ c.args.call.proved _ less in (
      omega (arith, c.put_report-place.ensures.upper_bound, c.loop-number.invariant.0),
      adds_report _ _ _ there _ _ _ _ _ _ c.loop-number.invariant.1 c.put_report-place.ensures.adds,
    )

pub returns-clause-adds : goal.returns-clause-adds
returns-clause-adds c =
    let all : c.args.call.lines.count ≤ c.loop-number.number = search rules in
    adds_reports _ _ _ (no_more _ _ c.args.call.proved _ all) _ _ _ _ c.loop-number.invariant.1

pub returns-clause-upper_bound : goal.returns-clause-upper_bound
returns-clause-upper_bound c =
    let few : c.args.call.lines.count ≤ 512 = bound_by c.args.call.known (λ known. few_lines _ _ c.args.call.proved known.whole) in
    omega (arith, c.loop-number.invariant.0, few)
