use Rattle.rl_context.proofs.WrapLaws.{wrap_does}
use Rattle.rl_spec.specs.Tree.{ascii}
use Rattle.rl_context.proofs.Ctx.wrap_as.Goals as goal

pub returns : goal.returns
unfolding ascii
returns c q h = wrap_does _ _ _ _ (c.declare-dec.ensures _ 1 _) (c.push-declared.ensures _) (c.skip_of-skipped.ensures _) (c.inner_of-inner.ensures _) (c.declare-ret.ensures _ 0 _) (c.push-named.ensures _) (c.clause_guards-guarded.ensures q h) (c.return_of-last.ensures _ _) (c.push.ensures _)
