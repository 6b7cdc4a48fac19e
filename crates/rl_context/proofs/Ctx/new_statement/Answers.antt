use Rattle.std.proofs.Common.{refl, arith, rules}
use Rattle.rl_context.proofs.Appends.{statement_full, statement_less, statement_short, statement_many}
use Rattle.rl_context.proofs.Making.{statement_made}
use Rattle.rl_context.proofs.Sizes.{record_room, record_ends}
use Rattle.rl_context.proofs.Ctx.new_statement.Goals as goal
use Rattle.rl_context.proofs.Ctx.new_statement.Goals.{then-self-via-then-self, then-self-via-else-self+then-used-gt-SCRATCH, then-self-via-else-self+else-used-gt-SCRATCH+then-scratch-used, then-self-via-else-self+else-used-gt-SCRATCH+else-scratch-used+then-passes}

ruleset laws = (statement_full, statement_less, statement_short, statement_many, statement_made, record_room)

pub put_record-next-requires : goal.put_record-next-requires
put_record-next-requires c = search (laws, rules)

pub overflow_cast-self : goal.overflow_cast-self
overflow_cast-self c = omega (arith, record_ends c.args.kind.number c.args.kind.row c.args.words.now 137216 c.args.self.statement_bytes _ c.if-used-gt-SCRATCH.false c.put_record-next.ensures.value)

pub returns-then-self : goal.returns-then-self
returns-then-self c im k w e =
    elim c.then-self.branch [
      | then-self-via-then-self b ↦ statement_full _ _ _ _ _ _ _ _ refl _ b.if-self.true
      | then-self-via-else-self+then-used-gt-SCRATCH b ↦ statement_less _ _ _ _ _ _ _ _ refl _ b.if-used-gt-SCRATCH.true
      | then-self-via-else-self+else-used-gt-SCRATCH+then-scratch-used b ↦ statement_short _ _ _ _ _ _ _ _ refl _ b.if-scratch-used.true
      | then-self-via-else-self+else-used-gt-SCRATCH+else-scratch-used+then-passes b ↦ statement_many _ _ _ _ _ _ _ _ refl _ _ b.passes.ensures b.if-passes.true
    ]

pub returns : goal.returns
returns c = search (laws, rules)
