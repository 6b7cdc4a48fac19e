use Rattle.std.proofs.Common.{refl, arith, rules}
use Rattle.rl_bodies.proofs.Ensured.{plain_done, bare_done}
use Rattle.rl_bodies.proofs.body.ensured_body.Goals as goal

pub returns-in-Some : goal.returns-in-Some
returns-in-Some c r fit =
    bare_done _ _ _ _ _ _ r fit _ _ _ _ (search rules) _ _ _ _ _ refl refl (c.transform_returns-done.ensures r (omega arith)) _ c.min-count.ensures _ _ _ _ _
    (c.last_bare-bare.ensures fit) c.in-Some.is c.saturating_sub.ensures (c.wrap_return-wrapped.ensures r.rows_are r.conditions) (c.push_all.ensures _ _)

pub returns-in-None : goal.returns-in-None
returns-in-None c r fit =
    plain_done _ _ _ _ _ _ r fit _ _ _ _ (search rules) _ _ _ _ _ refl refl (c.transform_returns-done.ensures r (omega arith)) _ c.min-count.ensures _ _
    (c.last_bare-bare.ensures fit) c.in-None.is (c.push_all-in-None.ensures _ _)
