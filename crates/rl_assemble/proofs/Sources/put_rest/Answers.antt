use Rattle.rl_assemble.proofs.Puts.{puts_then}
use Rattle.rl_assemble.specs.Pieces.{new_rest}
use Rattle.rl_assemble.proofs.Sources.put_rest.Goals as goal

pub returns-clause-puts : goal.returns-clause-puts
unfolding new_rest
returns-clause-puts c =
    puts_then (puts_then (puts_then (rw c.saturating_sub.ensures at c.put_part.ensures.puts) c.put_two.ensures.puts) c.put_two-2.ensures.puts)
    c.put_part-2.ensures.puts
