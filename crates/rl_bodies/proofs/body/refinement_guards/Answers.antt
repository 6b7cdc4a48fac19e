use Rattle.std.proofs.Common.{◌≤◌, ◌<◌, refl, subst, arith, rules}
use Rattle.rl_bodies.proofs.Pushing.{guards_more, guards_all}
use Rattle.rl_bodies.proofs.body.refinement_guards.Goals as goal

pub loop-i-preserved : goal.loop-i-preserved
loop-i-preserved c = (
  search rules,
  (
    search rules,
    (
      search rules,
      λ im p h e.
          guards_more _ _ _ _ _ e refl _ _ (c.loop-i.invariant.1.1.1 im p h e) _
          (subst (λ f. c.loop-i.i < f.params.count) (c.function.ensures p) c.loop-i-test.true)
          (c.refinement_guard-ctx.ensures im p (omega (arith, h, c.loop-i.invariant.0))),
    ),
  ),
)

pub returns : goal.returns
returns c = λ im p h e.
    guards_all _ _ _ _ _ e refl _ _ (c.loop-i.invariant.1.1.1 im p h e)
    (subst (λ f. f.params.count ≤ c.loop-i.i) (c.function.ensures p) c.loop-i-test.false)
