use Rattle.std.proofs.Common.{rules}
use Rattle.rl_context.proofs.Waits.{entering_none, entering_room, entering_next, entering_all}
use Rattle.rl_context.proofs.put_entries.Goals as goal

ruleset laws = (entering_none, entering_room, entering_next, entering_all)

pub loop-i-init : goal.loop-i-init
loop-i-init c = search (laws, rules)

pub loop-i-preserved : goal.loop-i-preserved
loop-i-preserved c = entering_next _ _ _ _ _ _ _ c.loop-i.invariant _ c.loop-i-test.true c.type_inv.waiting c.put_number.ensures
