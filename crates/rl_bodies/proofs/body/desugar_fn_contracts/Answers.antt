use mathlib.Core.Path.{refl}
use native.Mathlib.Omega.{arith}
use Rattle.rl_spec.specs.Tree.{ascii}
use Rattle.rl_bodies.proofs.NewBody.{required_inside, ready, body_inside, desugared}
use Rattle.rl_bodies.proofs.body.desugar_fn_contracts.Goals as goal

pub returns : goal.returns
unfolding ascii
returns c rows there long well fresh = desugared _ _ _ _ _ fresh _ _ c.function-f.result c.function-f.ensures _ _ _
    (c.refinement_guards-refined.ensures _ _ (omega (arith, long)) refl)
    (c.clause_guards-required.ensures rows (required_inside _ _ _ _ there well _ c.function-f.ensures))
    (c.rest.ensures (ready _ _ _ _ there well _ c.function-f.ensures _ rows) (body_inside _ _ _ _ there well _ c.function-f.ensures))
