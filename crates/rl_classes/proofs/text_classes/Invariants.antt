use Rattle.rl_classes.proofs.Laws.{Classed}
use Rattle.rl_classes.proofs.text_classes.Given as goal

abbrev pub invariant-loop-t : goal.invariant-loop-t
invariant-loop-t l = Classed l.image.bytes.now l.image.counts l.initial.links l.initial.classes l.links l.classes l.t
