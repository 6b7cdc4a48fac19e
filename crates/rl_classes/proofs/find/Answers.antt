use Rattle.rl_classes.proofs.Laws.{find_empty, find_start, find_past, find_same, find_more, find_end}
use Rattle.std.proofs.Common.{rules}
use Rattle.rl_classes.proofs.find.Goals as goal

ruleset laws = (find_empty, find_start, find_past, find_same, find_more, find_end)

pub returns-then-is_empty : goal.returns-then-is_empty
returns-then-is_empty c = search (laws, rules)

pub loop-u-init : goal.loop-u-init
loop-u-init c = find_start _ _ _ _ _ c.text-text.ensures _ c.is_empty.ensures c.if-is_empty.false

pub loop-u-preserved-then-get_or-link : goal.loop-u-preserved-then-get_or-link
loop-u-preserved-then-get_or-link c = find_past _ _ _ _ _ _ c.loop-u.invariant c.loop-u-test.true _ c.get_or.ensures c.if-get_or-link.true

pub returns-then-is_same : goal.returns-then-is_same
returns-then-is_same c = search (laws, rules)

pub loop-u-preserved : goal.loop-u-preserved
loop-u-preserved c = find_more _ _ _ _ _ _ c.loop-u.invariant c.loop-u-test.true _ _ c.text-text.ensures c.text-other.ensures _ c.is_same.ensures c.if-is_same.false _ c.get_or.ensures c.if-get_or-link.false _ c.next_link-link.ensures

pub returns : goal.returns
returns c = search (laws, rules)
