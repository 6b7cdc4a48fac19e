use Rattle.rl_bodies.proofs.NewBody.{rest_plain, rest_ensured}
use Rattle.rl_bodies.proofs.body.rest.Goals as goal

pub returns-then-walk-eq0 : goal.returns-then-walk-eq0
returns-then-walk-eq0 c r fit = rest_plain _ _ _ _ _ c.if-walk-eq0.true (c.push_entries.ensures _ _ _)

pub returns : goal.returns
returns c r fit = rest_ensured _ _ _ _ _ c.if-walk-eq0.false (c.ensured_body.ensures r fit)
