use Rattle.rl_spec.specs.Tree.{ascii}
use Rattle.rl_spec.specs.Message.{opening}
use Rattle.rl_line.proofs.LineLaws.{puts_message}
use Rattle.std.proofs.Common.{rules}
use Rattle.rl_line.proofs.put_message.Goals as goal

pub returns : goal.returns
unfolding opening ascii
returns c = let whole = puts_message _ _ _ _ _ _ _ (c.text.ensures.at, c.text.ensures.bytes) (c.text-2.ensures.at, c.text-2.ensures.bytes) in record { same_reference = search rules; bytes = whole.1; at = whole.0 }
