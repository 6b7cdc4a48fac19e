use mathlib.Core.Path.{refl}
use Rattle.rl_bodies.proofs.NewBody.{body_done}
use Rattle.rl_bodies.proofs.body.new_body.Goals as goal

pub returns : goal.returns
returns c rows there long well fresh = body_done _ _ _ _ _ _ _ _ _ refl (c.desugar_fn_contracts-done.ensures rows there long well fresh) c.new_list.ensures
