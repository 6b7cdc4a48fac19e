use Rattle.rl_spec.specs.Tree.{ascii}
use Rattle.rl_message.proofs.DefaultLaws.{PutsRefinement, puts_refinement}
use Rattle.rl_message.proofs.defaults.put_refinement.Goals as goal

puts : (c : goal.After-put_operand) →
    PutsRefinement c.args.image.bytes.now c.args.image.counts c.args.out.now.bytes.now c.args.out.now.at c.args.name c.args.refinement c.put_operand.new.out.bytes.now c.put_operand.new.out.at
unfolding ascii
puts c =
    puts_refinement _ _ _ _ _ c.args.refinement _ _ _ _ _ _ _ _ _ _ _ _ _ _
    c.text-2.ensures
    (c.text.ensures.at, c.text.ensures.bytes)
    (c.text-3.ensures.at, c.text-3.ensures.bytes)
    (c.text-4.ensures.at, c.text-4.ensures.bytes)
    c.refine_op_str.ensures
    (c.text-5.ensures.at, c.text-5.ensures.bytes)
    (c.text-6.ensures.at, c.text-6.ensures.bytes)
    (c.put_operand.ensures.at, c.put_operand.ensures.bytes)

pub returns-clause-bytes : goal.returns-clause-bytes
returns-clause-bytes c = (puts c).1

pub returns-clause-at : goal.returns-clause-at
returns-clause-at c = (puts c).0
