use Rattle.rl_assemble.proofs.Puts.{puts_then}
use Rattle.rl_assemble.proofs.Sources.put_both.Goals as goal

pub returns-clause-puts : goal.returns-clause-puts
returns-clause-puts c = puts_then c.put_part.ensures.puts c.put_part-2.ensures.puts
