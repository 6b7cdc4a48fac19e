use Rattle.rl_resolver.proofs.Contracts.{has_requires, has_ensures, has_refined}
use Rattle.rl_resolver.proofs.lowering.has_contracts.Goals as goal
use Rattle.rl_resolver.proofs.lowering.has_contracts.Goals.{then-f-ne0-via-then-f-ne0, then-f-ne0-via-else-f-ne0+then-f-ne0-2}

pub returns-then-f-ne0 : goal.returns-then-f-ne0
returns-then-f-ne0 c =
    elim c.then-f-ne0.branch [
      | then-f-ne0-via-then-f-ne0 w ↦ has_requires _ _ _ _ c.function-f.ensures w.if-f-ne0.true
      | then-f-ne0-via-else-f-ne0+then-f-ne0-2 w ↦ has_ensures _ _ _ _ c.function-f.ensures w.if-f-ne0.false w.if-f-ne0-2.true
    ]

pub returns : goal.returns
returns c = has_refined _ _ _ _ c.function-f.ensures c.if-f-ne0.false c.if-f-ne0-2.false _ c.any_refined.ensures
