use Rattle.rl_context.proofs.WrapLaws.{inner_unwrapped, inner_plain}
use Rattle.rl_context.proofs.Ctx.inner_of.Goals as goal

pub returns-then-is_result : goal.returns-then-is_result
returns-then-is_result c im = inner_unwrapped _ _ (c.ident-node.ensures im 0 _) c.if-is_result.true (c.unwrap_call.ensures im 0)

pub returns : goal.returns
returns c im = inner_plain _ _ (c.ident-node.ensures im 0 _) c.if-is_result.false
