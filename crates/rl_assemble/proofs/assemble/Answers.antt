use Rattle.std.proofs.Common.{arith, refl, rules}
use Rattle.rl_assemble.proofs.Laws.{image_long, bytes_long, all_put}
use Rattle.rl_assemble.proofs.assemble.Goals.{then-sources-gt65535-via-then-sources-gt65535, then-sources-gt65535-via-else-sources-gt65535+then-new_length-gt65535}
use Rattle.rl_assemble.proofs.assemble.Goals as goal

pub returns-then-sources-gt65535 : goal.returns-then-sources-gt65535
returns-then-sources-gt65535 c =
    elim c.then-sources-gt65535.branch [
      | then-sources-gt65535-via-then-sources-gt65535 w ↦ image_long _ _ _ _ _ _ _ _ (omega arith)
      | then-sources-gt65535-via-else-sources-gt65535+then-new_length-gt65535 w ↦ bytes_long _ _ _ _ _ _ _ _ _ w.new_length.ensures (omega arith)
    ]

pub returns : goal.returns
returns c = all_put _ _ _ _ _ _ _ _ c.new_length.ensures (omega arith) _ _ refl c.put_image.ensures.puts _ (search rules)
