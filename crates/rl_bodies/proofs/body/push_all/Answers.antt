use Rattle.std.proofs.Common.{refl, rules}
use Rattle.rl_bodies.proofs.Pushing.{first_none, first_more, first_all}
use Rattle.rl_bodies.proofs.body.push_all.Goals as goal

pub loop-n-init : goal.loop-n-init
loop-n-init c = (refl, λ im s. first_none _ _ _)

pub loop-n-preserved : goal.loop-n-preserved
loop-n-preserved c = (
  search rules,
  λ im s. first_more _ _ _ _ _ (c.loop-n.invariant.1 im s) _ _ c.loop-n-test.true refl (c.push-ctx.ensures s),
)

pub returns : goal.returns
returns c = λ im s. first_all _ _ _ _ _ (c.loop-n.invariant.1 im s) c.loop-n-test.false
