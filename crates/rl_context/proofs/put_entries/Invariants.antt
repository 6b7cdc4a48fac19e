use Rattle.rl_context.proofs.Waits.{Entering}
use Rattle.rl_context.proofs.put_entries.Given as goal

abbrev pub invariant-loop-i : goal.invariant-loop-i
invariant-loop-i l = Entering l.initial.scratch l.waiting l.at l.first l.count l.scratch l.i
