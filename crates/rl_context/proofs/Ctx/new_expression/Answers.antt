use Rattle.std.proofs.Common.{refl, arith, rules}
use Rattle.rl_context.proofs.Appends.{expression_full, expression_less, expression_short, expression_many}
use Rattle.rl_context.proofs.Making.{expression_made}
use Rattle.rl_context.proofs.Sizes.{record_room, record_ends}
use Rattle.rl_context.proofs.Ctx.new_expression.Goals as goal
use Rattle.rl_context.proofs.Ctx.new_expression.Goals.{then-self-via-then-self, then-self-via-else-self+then-used-gt-SCRATCH, then-self-via-else-self+else-used-gt-SCRATCH+then-scratch-used, then-self-via-else-self+else-used-gt-SCRATCH+else-scratch-used+then-passes}

ruleset laws = (expression_full, expression_less, expression_short, expression_many, expression_made, record_room)

pub put_record-next-requires : goal.put_record-next-requires
put_record-next-requires c = search (laws, rules)

pub overflow_cast-self : goal.overflow_cast-self
overflow_cast-self c = omega (arith, record_ends c.args.kind.number c.args.kind.row c.args.words.now 38912 c.args.self.expression_bytes _ c.if-used-gt-SCRATCH.false c.put_record-next.ensures.value)

pub returns-then-self : goal.returns-then-self
returns-then-self c im k w e =
    elim c.then-self.branch [
      | then-self-via-then-self b ↦ expression_full _ _ _ _ _ _ _ _ refl b.if-self.true
      | then-self-via-else-self+then-used-gt-SCRATCH b ↦ expression_less _ _ _ _ _ _ _ _ refl b.if-used-gt-SCRATCH.true
      | then-self-via-else-self+else-used-gt-SCRATCH+then-scratch-used b ↦ expression_short _ _ _ _ _ _ _ _ refl b.if-scratch-used.true
      | then-self-via-else-self+else-used-gt-SCRATCH+else-scratch-used+then-passes b ↦ expression_many _ _ _ _ _ _ _ _ refl _ b.passes.ensures b.if-passes.true
    ]

pub returns : goal.returns
returns c = search (laws, rules)
