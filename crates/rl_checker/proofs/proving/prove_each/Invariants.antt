use Rattle.rl_records.specs.Found.{found}
use Rattle.rl_checker.proofs.ProveLaws.{Each}
use Rattle.rl_checker.proofs.proving.prove_each.Given as goal

abbrev pub invariant-loop-call : goal.invariant-loop-call
invariant-loop-call l = Each (found l.image) l.classes l.initial.names l.initial.memory l.initial.reports l.first l.end l.names l.memory l.reports l.at l.call
