use Rattle.rl_runner.proofs.BoundLaws.{Bound}
use Rattle.rl_runner.proofs.bound.bind_all.Given as goal

abbrev pub invariant-loop-i : goal.invariant-loop-i
invariant-loop-i l = Bound l.image.bytes.now l.image.counts l.params l.arguments l.env l.i
