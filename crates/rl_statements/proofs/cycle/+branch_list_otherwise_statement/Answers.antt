use mathlib.Core.Path.{sym, ◌∙◌}
use Rattle.rl_statements.proofs.ListLaws.{stands_on, goes_lower, stands_compound}
use Rattle.rl_statements.proofs.TurnLaws.{list_begins, turns_spent, turns_again}
use Rattle.rl_statements.proofs.cycle.+branch_list_otherwise_statement.Goals as goal

pub list-loop-state-init : goal.list-loop-state-init
list-loop-state-init t c = list_begins _ _ _ _ _ _ _ c.new-frames.ensures c.len-base.ensures c.first_state-state.ensures.begins_list c.first_state-state.ensures.room c.requires.low

pub list-returns-then-left-eq0 : goal.list-returns-then-left-eq0
list-returns-then-left-eq0 t c = turns_spent _ _ _ _ _ _ _ _ _ _ c.loop-state.invariant _ c.in-Ends.is _ c.leave.ensures (sym c.turn_after.ensures ∙ c.in_default.is) c.if-left-eq0.true

pub list-loop-state-preserved : goal.list-loop-state-preserved
list-loop-state-preserved t c = turns_again _ _ _ _ _ _ _ _ _ _ c.loop-state.invariant _ c.in-Ends.is _ c.leave.ensures (sym c.turn_after.ensures ∙ c.in_default.is) _ _ c.if-left-eq0.false c.clear.ensures c.condition_first-state.ensures.means c.condition_first-state.ensures.room c.requires.low

pub list-loop-state-preserved-in-Compound : goal.list-loop-state-preserved-in-Compound
list-loop-state-preserved-in-Compound t c = stands_compound _ _ _ _ _ _ _ _ _ _ _ c.loop-state.invariant _ c.in-Compound.is _ c.statement-ran.ensures _ c.followed-state.ensures.follows c.followed-state.ensures.room

pub list-loop-state-preserved-in-Visit : goal.list-loop-state-preserved-in-Visit
list-loop-state-preserved-in-Visit t c = stands_on _ _ _ _ _ _ _ _ _ _ _ c.loop-state.invariant _ _ _ _ _ c.in-Visit.is (c.visited-state.ensures _ _ _)

pub list-loop-state-smaller-in-Visit : goal.list-loop-state-smaller-in-Visit
list-loop-state-smaller-in-Visit t c = goes_lower _ _ _ _ _ _ _ _ _ _ _ c.loop-state.invariant _ _ _ _ _ c.in-Visit.is (c.visited-state.ensures _ _ _)

pub list-loop-state-preserved-in-Push : goal.list-loop-state-preserved-in-Push
list-loop-state-preserved-in-Push t c = stands_on _ _ _ _ _ _ _ _ _ _ _ c.loop-state.invariant _ _ _ _ _ c.in-Push.is (c.pushed-state.ensures _ _)

pub list-loop-state-smaller-in-Push : goal.list-loop-state-smaller-in-Push
list-loop-state-smaller-in-Push t c = goes_lower _ _ _ _ _ _ _ _ _ _ _ c.loop-state.invariant _ _ _ _ _ c.in-Push.is (c.pushed-state.ensures _ _)

pub list-loop-state-preserved-in-Look : goal.list-loop-state-preserved-in-Look
list-loop-state-preserved-in-Look t c = stands_on _ _ _ _ _ _ _ _ _ _ _ c.loop-state.invariant _ _ _ _ _ c.in-Look.is (c.looked-state.ensures _ c.requires.same _ _ _)

pub list-loop-state-smaller-in-Look : goal.list-loop-state-smaller-in-Look
list-loop-state-smaller-in-Look t c = goes_lower _ _ _ _ _ _ _ _ _ _ _ c.loop-state.invariant _ _ _ _ _ c.in-Look.is (c.looked-state.ensures _ c.requires.same _ _ _)

pub list-loop-state-preserved-in-Store : goal.list-loop-state-preserved-in-Store
list-loop-state-preserved-in-Store t c = stands_on _ _ _ _ _ _ _ _ _ _ _ c.loop-state.invariant _ _ _ _ _ c.in-Store.is (c.stored-state.ensures _ c.requires.same _ _ _)

pub list-loop-state-smaller-in-Store : goal.list-loop-state-smaller-in-Store
list-loop-state-smaller-in-Store t c = goes_lower _ _ _ _ _ _ _ _ _ _ _ c.loop-state.invariant _ _ _ _ _ c.in-Store.is (c.stored-state.ensures _ c.requires.same _ _ _)

pub list-loop-state-preserved-in-Bind : goal.list-loop-state-preserved-in-Bind
list-loop-state-preserved-in-Bind t c = stands_on _ _ _ _ _ _ _ _ _ _ _ c.loop-state.invariant _ _ _ _ _ c.in-Bind.is (c.declared-state.ensures _ _ _ _)

pub list-loop-state-smaller-in-Bind : goal.list-loop-state-smaller-in-Bind
list-loop-state-smaller-in-Bind t c = goes_lower _ _ _ _ _ _ _ _ _ _ _ c.loop-state.invariant _ _ _ _ _ c.in-Bind.is (c.declared-state.ensures _ _ _ _)

pub list-loop-state-preserved-in-Give : goal.list-loop-state-preserved-in-Give
list-loop-state-preserved-in-Give t c = stands_on _ _ _ _ _ _ _ _ _ _ _ c.loop-state.invariant _ _ _ _ _ c.in-Give.is (c.given-state.ensures _ _ _)

pub list-loop-state-smaller-in-Give : goal.list-loop-state-smaller-in-Give
list-loop-state-smaller-in-Give t c = goes_lower _ _ _ _ _ _ _ _ _ _ _ c.loop-state.invariant _ _ _ _ _ c.in-Give.is (c.given-state.ensures _ _ _)
