use Rattle.rl_encode.proofs.Laws.{Putting}
use Rattle.rl_encode.proofs.put_number.Given as goal

abbrev pub invariant-loop-i : goal.invariant-loop-i
invariant-loop-i l = Putting l.initial.out l.at l.n l.width l.i l.rest l.out
