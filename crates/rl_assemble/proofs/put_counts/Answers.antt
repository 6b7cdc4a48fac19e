use Rattle.rl_assemble.proofs.Puts.{puts_then}
use Rattle.rl_assemble.specs.Pieces.{new_counts}
use Rattle.rl_assemble.proofs.put_counts.Goals as goal

pub returns-clause-puts : goal.returns-clause-puts
unfolding new_counts
returns-clause-puts c =
    puts_then (puts_then (puts_then (puts_then c.put_two.ensures.puts c.put_two-2.ensures.puts) c.put_two-3.ensures.puts) c.put_two-4.ensures.puts)
    c.put_two-5.ensures.puts
