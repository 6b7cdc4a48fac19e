use Rattle.rl_classes.proofs.Laws.{Searched}
use Rattle.rl_classes.proofs.find.Given as goal

abbrev pub invariant-loop-u : goal.invariant-loop-u
invariant-loop-u l = Searched l.image.bytes.now l.image.counts l.links l.t l.u l.link
