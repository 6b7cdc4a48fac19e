use Rattle.rl_assemble.proofs.Puts.{puts_then}
use Rattle.rl_assemble.specs.Pieces.{new_header}
use Rattle.rl_assemble.proofs.Sources.put_header.Goals as goal

pub returns-clause-puts : goal.returns-clause-puts
unfolding new_header
returns-clause-puts c = puts_then (puts_then c.put_part.ensures.puts c.put_counts.ensures.puts) c.put_part-2.ensures.puts
