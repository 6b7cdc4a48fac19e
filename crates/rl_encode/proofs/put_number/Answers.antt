use Rattle.std.proofs.Common.{arith}
use Rattle.rl_encode.proofs.Laws.{putting_all}
use Rattle.rl_encode.proofs.put_number.Goals as goal

pub returns : goal.returns
returns c = putting_all _ _ _ _ _ _ _ c.loop-i.invariant (omega arith) (omega arith)
