use Rattle.rl_spec.specs.Tree.{ascii}
use Rattle.rl_message.proofs.DefaultLaws.{puts_quoted}
use Rattle.rl_message.proofs.defaults.put_quoted.Goals as goal

pub returns-clause-bytes : goal.returns-clause-bytes
unfolding ascii
returns-clause-bytes c = (puts_quoted _ _ _ _ _ _ _ _ _ (c.text.ensures.at, c.text.ensures.bytes) (c.text-2.ensures.at, c.text-2.ensures.bytes) (c.text-3.ensures.at, c.text-3.ensures.bytes)).1

pub returns-clause-at : goal.returns-clause-at
unfolding ascii
returns-clause-at c = (puts_quoted _ _ _ _ _ _ _ _ _ (c.text.ensures.at, c.text.ensures.bytes) (c.text-2.ensures.at, c.text-2.ensures.bytes) (c.text-3.ensures.at, c.text-3.ensures.bytes)).0
