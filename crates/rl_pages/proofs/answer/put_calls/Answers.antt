use mathlib.Core.Path.{◌≡◌}
use Prim.Native.Nat.{◌≤◌}
use native.Mathlib.Omega.{arith}
use Rattle.rl_lines.proofs.OpenLaws.{bound_by}
use Rattle.rl_pages.proofs.LinesLaws.{few_calls, few_of_call, no_count, adds_no_call, adds_call, count_more}
use Rattle.std.proofs.Common.{rules}
use Rattle.rl_pages.proofs.answer.put_calls.Goals as goal

pub loop-call-init : goal.loop-call-init
loop-call-init c = (search rules, search rules, no_count _, adds_no_call _ _ _)

pub overflow_add-lines : goal.overflow_add-lines
overflow_add-lines c =
    let few : c.args.opened.image.counts.calls ≤ 256 = bound_by c.args.opened.known (few_calls _ _ _) in
    let more : c.put_call-placed.result.lines ≤ 512 = bound_by c.args.opened.known (λ known. few_of_call _ _ _ known _ _ c.put_call-placed.ensures.lines_value) in
    omega (arith, c.loop-call.invariant.1, few, more)

pub loop-call-preserved : goal.loop-call-preserved
loop-call-preserved c =
    let more : c.put_call-placed.result.lines ≤ 512 = bound_by c.args.opened.known (λ known. few_of_call _ _ _ known _ _ c.put_call-placed.ensures.lines_value) in (
      omega (arith, c.put_call-placed.ensures.at_bound_2, c.loop-call.invariant.0),
      omega (arith, more, c.loop-call.invariant.1),
      count_more _ _ _ _ c.loop-call.invariant.2 c.put_call-placed.ensures.lines_value,
      adds_call _ _ _ _ _ _ _ _ c.loop-call.invariant.3 c.put_call-placed.ensures.adds,
    )

pub returns-clause-at_bound : goal.returns-clause-at_bound
returns-clause-at_bound c =
    let few : c.args.opened.image.counts.calls ≤ 256 = bound_by c.args.opened.known (few_calls _ _ _) in
    let same : c.loop-call.call ≡ c.args.opened.image.counts.calls = search rules in
    omega (arith, c.loop-call.invariant.0, few)
