use Rattle.std.proofs.Common.{refl, rules}
use Rattle.rl_context.proofs.Temporaries.{temp_full, temp_many, temp_taken}
use Rattle.rl_context.proofs.Ctx.take_temp.Goals as goal
use Rattle.rl_context.proofs.Ctx.take_temp.Goals.{then-self-via-then-self, then-self-via-else-self+then-n-gt-MOST_STATEMENTS}

ruleset laws = (temp_full, temp_many, temp_taken)

pub returns-then-self : goal.returns-then-self
returns-then-self c im s w =
    elim c.then-self.branch [
      | then-self-via-then-self b ↦ temp_full _ _ _ _ _ refl b.if-self.true
      | then-self-via-else-self+then-n-gt-MOST_STATEMENTS b ↦ temp_many _ _ _ _ _ refl b.if-n-gt-MOST_STATEMENTS.true
    ]

pub returns : goal.returns
returns c = search (laws, rules)
