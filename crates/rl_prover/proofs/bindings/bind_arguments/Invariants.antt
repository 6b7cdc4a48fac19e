use Rattle.rl_prover.proofs.PassLaws.{Pass}
use Rattle.rl_prover.proofs.bindings.bind_arguments.Given as goal

abbrev pub invariant-loop-i : goal.invariant-loop-i
invariant-loop-i l = Pass l.image.bytes.now l.image.starts.now l.image.counts l.classes l.params l.args l.initial.words l.initial.memory l.i-end l.words l.memory l.count l.i
