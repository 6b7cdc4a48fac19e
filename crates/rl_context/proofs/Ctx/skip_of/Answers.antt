use Rattle.rl_context.proofs.WrapLaws.{skip_some, skip_none}
use Rattle.rl_context.proofs.Ctx.skip_of.Goals as goal

pub returns-then-is_result : goal.returns-then-is_result
returns-then-is_result c im = skip_some _ _ c.if-is_result.true (c.skip_err.ensures im)

pub returns : goal.returns
returns c im = skip_none _ _ c.if-is_result.false
