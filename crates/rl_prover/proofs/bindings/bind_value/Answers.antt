use Rattle.rl_prover.proofs.BindLaws.{bind_some}
use Rattle.std.proofs.Common.{rules}
use Rattle.rl_prover.proofs.bindings.bind_value.Goals as goal

pub returns-clause-binds : goal.returns-clause-binds
returns-clause-binds c = bind_some _ _ _ _ _ _ (search rules) c.lookup.result _ _ c.lookup.ensures c.forget_for.ensures c.bind_name.ensures.names_after c.bind_name.ensures.v_value
