use Rattle.std.proofs.Common.{ap, ◌∙◌, ◌+◌, rules}
use native.Mathlib.Omega.{arith}
use Rattle.rl_spec.specs.Records.{param_at}
use Rattle.rl_records.specs.Found.{found_with}
use Rattle.rl_runner.proofs.BoundLaws.{bound_one, bound_all}
use Rattle.rl_runner.proofs.bound.bind_all.Goals as goal

pub loop-i-preserved : goal.loop-i-preserved
loop-i-preserved c =
    bound_one c.args.image.bytes.now c.args.image.counts c.args.params c.args.arguments _ _ c.loop-i.i c.param-param.result _ c.loop-i.invariant
    (omega (arith, c.loop-i-test.true, c.min-i-end.ensures)) (search rules)
    (λ p. c.param-param.ensures p ∙ ap (λ k. param_at (found_with c.args.image p) (k + c.from-in-loop-i.result)) c.from.ensures ∙ ap (λ k. param_at (found_with c.args.image p) (c.args.params.first + k)) c.from-in-loop-i.ensures)
    c.bind.ensures.has_room (search rules)

pub returns : goal.returns
returns c = bound_all c.args.image.bytes.now c.args.image.counts c.args.params c.args.arguments c.loop-i.env c.loop-i.i c.loop-i.invariant (omega (arith, c.loop-i-test.false, c.loop-i.auto.i-end, c.min-i-end.ensures))
