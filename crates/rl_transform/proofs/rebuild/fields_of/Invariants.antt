use Prim.Native.Nat.{◌+◌}
use Rattle.rl_transform.proofs.Rebuilding.{Reading}
use Rattle.rl_transform.proofs.rebuild.fields_of.Given as goal

abbrev pub invariant-loop-rest : goal.invariant-loop-rest
invariant-loop-rest l = Reading l.image l.row (l.start + 1) l.words l.rest l.place l.j

abbrev pub decreases-loop-rest : goal.decreases-loop-rest
decreases-loop-rest l = l.rest
