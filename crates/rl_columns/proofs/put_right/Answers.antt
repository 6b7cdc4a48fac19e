use Prim.Native.Nat.{ℕ}
use lib.ListN.{length-replicate}
use Rattle.rl_columns.proofs.LineLaws.{puts_right}
use Rattle.rl_columns.proofs.put_right.Goals as goal

pub returns-clause-at : goal.returns-clause-at
returns-clause-at c = (puts_right _ _ _ _ _ _ _ (length-replicate {A = ℕ} 20 0) (c.put_number-count.ensures.value, c.put_number-count.ensures.out_after) c.min-shown.ensures c.part.ensures _ _ _ _ _ _
    (c.put_from_left.ensures.at, c.put_from_left.ensures.bytes)
    (c.put_from_left-2.ensures.at, c.put_from_left-2.ensures.bytes)).0

pub returns-clause-bytes : goal.returns-clause-bytes
returns-clause-bytes c = (puts_right _ _ _ _ _ _ _ (length-replicate {A = ℕ} 20 0) (c.put_number-count.ensures.value, c.put_number-count.ensures.out_after) c.min-shown.ensures c.part.ensures _ _ _ _ _ _
    (c.put_from_left.ensures.at, c.put_from_left.ensures.bytes)
    (c.put_from_left-2.ensures.at, c.put_from_left-2.ensures.bytes)).1
