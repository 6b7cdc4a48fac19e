use Rattle.rl_prover.proofs.SecondLaws.{Requiring}
use Rattle.rl_prover.proofs.violations.report_requires.Given as goal

abbrev pub invariant-loop-i : goal.invariant-loop-i
invariant-loop-i l = Requiring l.image.bytes.now l.image.starts.now l.image.counts l.names.classes.now l.names.words.now l.names.count l.site.call l.site.span l.clauses l.initial.memory l.initial.reports l.start l.memory l.reports l.at l.i
