use Prim.Native.Nat.{◌+◌, ◌*◌}
use lib.ListN.{length}
use Rattle.rl_records.specs.Found.{found}
use Rattle.rl_statements.specs.Steps.{fuel}
use Rattle.rl_statements.proofs.TurnLaws.{Listing}
use Rattle.rl_statements.proofs.cycle.+branch_list_otherwise_statement.Given as goal

abbrev pub decreases-branch : goal.decreases-branch
decreases-branch l = l.limit * 4 + 1

abbrev pub decreases-list : goal.decreases-list
decreases-list l = l.block.bound * 4

abbrev pub decreases-otherwise : goal.decreases-otherwise
decreases-otherwise l = l.limit * 4 + 2

abbrev pub decreases-statement : goal.decreases-statement
decreases-statement l = l.s * 4 + 3

abbrev pub invariant-list-loop-state : goal.invariant-list-loop-state
invariant-list-loop-state l = Listing (found l.image) l.block l.initial.left l.initial.env l.env l.left l.base l.done l.frames l.state

abbrev pub decreases-list-loop-state : goal.decreases-list-loop-state
decreases-list-loop-state l = fuel l.left (length l.frames) l.state
