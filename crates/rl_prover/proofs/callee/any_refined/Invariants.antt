use Rattle.rl_prover.proofs.CalleeLaws.{Looks}
use Rattle.rl_prover.proofs.callee.any_refined.Given as goal

abbrev pub invariant-loop-i : goal.invariant-loop-i
invariant-loop-i l = Looks l.image.bytes.now l.image.counts l.first l.fn.params.count l.i
