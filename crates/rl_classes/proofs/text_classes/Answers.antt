use Rattle.rl_classes.proofs.Laws.{classed_more, classed_end, classed_tell}
use Rattle.rl_classes.proofs.text_classes.Goals as goal

pub loop-t-preserved : goal.loop-t-preserved
loop-t-preserved c = classed_more _ _ _ _ _ _ _ c.loop-t.invariant c.loop-t-test.true _ _ c.find-place.ensures _ _ c.put.ensures c.put-in-loop-t.ensures

pub returns-clause-by_index : goal.returns-clause-by_index
returns-clause-by_index c = classed_end _ _ _ _ _ _ _ c.loop-t.invariant c.loop-t-test.false _ (c.fill.ensures.after (λ y e. e))

pub returns-clause-by_index_2 : goal.returns-clause-by_index_2
returns-clause-by_index_2 c = classed_tell _ _ _ _ _ _ _ c.loop-t.invariant c.loop-t-test.false _ (c.fill.ensures.after (λ y e. e))
