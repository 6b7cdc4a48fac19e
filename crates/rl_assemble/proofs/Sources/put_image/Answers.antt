use Rattle.rl_assemble.proofs.Puts.{puts_then}
use Rattle.rl_assemble.specs.Pieces.{new_bytes}
use Rattle.rl_assemble.proofs.Sources.put_image.Goals as goal

pub returns-clause-puts : goal.returns-clause-puts
unfolding new_bytes
returns-clause-puts c =
    puts_then
    (puts_then (puts_then (puts_then (puts_then c.put_header.ensures.puts c.put_bytes.ensures.puts) c.put_texts.ensures.puts) c.put_lists.ensures.puts)
    (rw (c.expressions_at.ensures, c.statements_at-statements.ensures, c.parameters_at-parameters.ensures) at c.put_trees.ensures.puts))
    (rw (c.parameters_at-parameters.ensures, c.body_at.ensures.value) at c.put_rest.ensures.puts)
