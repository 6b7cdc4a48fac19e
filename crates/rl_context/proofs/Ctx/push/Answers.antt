use Rattle.std.proofs.Common.{refl, rules}
use Rattle.rl_context.proofs.Waits.{push_full, push_many, push_made}
use Rattle.rl_context.proofs.Ctx.push.Goals as goal
use Rattle.rl_context.proofs.Ctx.push.Goals.{then-self-via-then-self, then-self-via-else-self+then-end-ge-MOST_LISTS}

ruleset laws = (push_full, push_many, push_made)

pub returns-then-self : goal.returns-then-self
returns-then-self c s =
    elim c.then-self.branch [
      | then-self-via-then-self b ↦ push_full _ _ _ _ _ refl b.if-self.true
      | then-self-via-else-self+then-end-ge-MOST_LISTS b ↦ push_many _ _ _ _ _ refl b.if-end-ge-MOST_LISTS.true
    ]

pub returns : goal.returns
returns c = search (laws, rules)
