use Rattle.rl_assemble.proofs.Puts.{puts_then}
use Rattle.rl_assemble.specs.Pieces.{new_trees}
use Rattle.rl_assemble.proofs.Sources.put_trees.Goals as goal

pub returns-clause-puts : goal.returns-clause-puts
unfolding new_trees
returns-clause-puts c =
    puts_then (rw c.saturating_sub.ensures at c.put_both.ensures.puts) (rw c.saturating_sub-2.ensures at c.put_both-2.ensures.puts)
