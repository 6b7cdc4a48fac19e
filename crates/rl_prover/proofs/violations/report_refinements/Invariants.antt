use Rattle.rl_prover.proofs.SecondLaws.{Refining}
use Rattle.rl_prover.proofs.violations.report_refinements.Given as goal

abbrev pub invariant-loop-i : goal.invariant-loop-i
invariant-loop-i l = Refining l.image.bytes.now l.image.starts.now l.image.counts l.names.classes.now l.names.words.now l.names.count l.site.call l.site.span l.params l.args l.initial.memory l.initial.reports l.start l.i-end l.memory l.reports l.at l.i
