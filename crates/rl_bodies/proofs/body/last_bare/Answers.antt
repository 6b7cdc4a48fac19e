use Rattle.rl_records.specs.Found.{found}
use Rattle.rl_bodies.proofs.Lasts.{nothing_last, other_last, bare_last}
use Rattle.rl_bodies.proofs.body.last_bare.Goals as goal

pub returns-then-body-eq0 : goal.returns-then-body-eq0
returns-then-body-eq0 c fit = nothing_last (found c.args.image) c.args.body c.if-body-eq0.true

pub returns-then-kind-ne-EXPRESSION : goal.returns-then-kind-ne-EXPRESSION
returns-then-kind-ne-EXPRESSION c fit =
    other_last _ _ _ c.args.body fit c.if-body-eq0.false _ _ (c.entry-last.ensures _) c.statement_start-start.ensures _ c.kind_at-kind.ensures
    c.if-kind-ne-EXPRESSION.true

pub returns : goal.returns
returns c fit =
    bare_last _ _ _ c.args.body fit c.if-body-eq0.false _ _ (c.entry-last.ensures _) c.statement_start-start.ensures _ c.kind_at-kind.ensures _
    c.if-kind-ne-EXPRESSION.false c.u16_at.ensures
