use Rattle.std.proofs.Common.{refl, arith, rules}
use Rattle.rl_bodies.proofs.Pushing.{entered_none, entered_more, entered_all}
use Rattle.rl_bodies.proofs.body.push_entries.Goals as goal

pub loop-i-init : goal.loop-i-init
loop-i-init c = (refl, λ im p s. entered_none _ _ _ _ _ _)

pub loop-i-preserved : goal.loop-i-preserved
loop-i-preserved c = (
  search rules,
  λ im p s. entered_more _ _ _ _ _ _ _ _ (c.loop-i.invariant.1 im p s) _ _ (c.entry-n.ensures p) (c.push-ctx.ensures s),
)

pub returns : goal.returns
returns c = λ im p s. entered_all _ _ _ _ _ _ _ _ (c.loop-i.invariant.1 im p s) (omega arith) c.loop-i-test.false
