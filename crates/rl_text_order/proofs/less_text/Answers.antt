use Rattle.std.proofs.Common.{arith}
use Rattle.rl_text_order.proofs.Laws.{less_word_apart, less_word_more}
use Rattle.rl_text_order.proofs.less_text.Goals as goal

pub returns-then-x-y : goal.returns-then-x-y
returns-then-x-y c = less_word_apart _ _ _ _ _ _ (omega arith) (omega arith) c.u64_be_at-x.ensures c.u64_be_at-y.ensures c.loop-i.invariant.1 c.if-x-y.true

pub loop-i-preserved : goal.loop-i-preserved
loop-i-preserved c = (omega arith, less_word_more _ _ _ _ _ _ (omega arith) (omega arith) c.u64_be_at-x.ensures c.u64_be_at-y.ensures c.loop-i.invariant.1 c.if-x-y.false)
