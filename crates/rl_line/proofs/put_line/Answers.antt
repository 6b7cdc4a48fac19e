use Rattle.rl_spec.specs.Tree.{ascii}
use Rattle.rl_line.proofs.LineLaws.{puts_line}
use Rattle.std.proofs.Common.{rules}
use Rattle.rl_line.proofs.put_line.Goals as goal

pub returns : goal.returns
unfolding ascii
returns c = let whole = puts_line _ _ _ _ _ _ _ _ _ _ _ _ _ _ _ _ (c.number.ensures.at, c.number.ensures.bytes) (c.text.ensures.at, c.text.ensures.bytes) (c.number-2.ensures.at, c.number-2.ensures.bytes) (c.text-2.ensures.at, c.text-2.ensures.bytes) (c.put_message.ensures.at, c.put_message.ensures.bytes) (c.text-3.ensures.at, c.text-3.ensures.bytes) in record { value = whole.0; out_after = search (whole.1, rules) }
