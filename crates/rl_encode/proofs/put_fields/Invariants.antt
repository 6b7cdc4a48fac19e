use Rattle.rl_encode.proofs.Records.{Recording}
use Rattle.rl_encode.proofs.put_fields.Given as goal

abbrev pub invariant-loop-rest : goal.invariant-loop-rest
invariant-loop-rest l = Recording l.initial.out l.at l.row l.words l.out l.rest l.place l.j

abbrev pub decreases-loop-rest : goal.decreases-loop-rest
decreases-loop-rest l = l.rest
