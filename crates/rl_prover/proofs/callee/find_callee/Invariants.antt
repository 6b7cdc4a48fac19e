use Rattle.rl_prover.proofs.CalleeLaws.{Seeks}
use Rattle.rl_prover.proofs.callee.find_callee.Given as goal

abbrev pub invariant-loop-n : goal.invariant-loop-n
invariant-loop-n l = Seeks l.image.bytes.now l.image.counts l.classes l.name l.image.counts.functions l.n
