use Rattle.rl_spec.specs.Tree.{ascii}
use Rattle.rl_spec.specs.Message.{integer_text}
use Rattle.rl_text_out.proofs.Joined.{Puts}
use Rattle.rl_message.proofs.DefaultLaws.{puts_minus, puts_plain}
use Rattle.rl_message.proofs.defaults.put_integer.Goals as goal
use Rattle.rl_message.proofs.defaults.put_integer.Goals.{then-x-lt0, else-x-lt0}

puts : (c : goal.After-number) → Puts c.args.out.now.bytes.now c.args.out.now.at (integer_text c.args.x) c.number.new.self.bytes.now c.number.new.self.at
unfolding ascii
puts c =
    elim c.if-x-lt0.branch [
      | then-x-lt0 b ↦ puts_minus c.args.x c.ranges.x _ c.unsigned_abs.ensures.value c.args.out.now _ _ _ (c.number.ensures.at, c.number.ensures.bytes) b.if-x-lt0.true _ b.out-is (b.text.ensures.at, b.text.ensures.bytes)
      | else-x-lt0 b ↦ puts_plain c.args.x c.ranges.x _ c.unsigned_abs.ensures.value c.args.out.now _ _ _ (c.number.ensures.at, c.number.ensures.bytes) b.if-x-lt0.false b.out-is
    ]

pub returns-clause-bytes : goal.returns-clause-bytes
returns-clause-bytes c = (puts c).1

pub returns-clause-at : goal.returns-clause-at
returns-clause-at c = (puts c).0
