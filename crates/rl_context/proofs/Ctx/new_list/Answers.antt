use Rattle.std.proofs.Common.{refl, rules}
use Rattle.rl_context.proofs.Listing.{list_full, list_order, list_short, list_waiting, list_many, list_made}
use Rattle.rl_context.proofs.Ctx.new_list.Goals as goal
use Rattle.rl_context.proofs.Ctx.new_list.Goals.{then-self-via-then-self, then-self-via-else-self+then-end-first, then-self-via-else-self+else-end-first+then-scratch-lt-SCRATCH, then-self-via-else-self+else-end-first+else-scratch-lt-SCRATCH+then-waiting-end, then-self-via-else-self+else-end-first+else-scratch-lt-SCRATCH+else-waiting-end+then-passes}

ruleset laws = (list_full, list_order, list_short, list_waiting, list_many, list_made)

pub returns-then-self : goal.returns-then-self
returns-then-self c =
    elim c.then-self.branch [
      | then-self-via-then-self b ↦ list_full _ _ _ _ _ _ refl b.if-self.true
      | then-self-via-else-self+then-end-first b ↦ list_order _ _ _ _ _ _ refl b.if-end-first.true
      | then-self-via-else-self+else-end-first+then-scratch-lt-SCRATCH b ↦ list_short _ _ _ _ _ _ refl b.if-scratch-lt-SCRATCH.true
      | then-self-via-else-self+else-end-first+else-scratch-lt-SCRATCH+then-waiting-end b ↦ list_waiting _ _ _ _ _ _ refl b.if-waiting-end.true
      | then-self-via-else-self+else-end-first+else-scratch-lt-SCRATCH+else-waiting-end+then-passes b ↦ list_many _ _ _ _ _ _ refl _ b.passes.ensures b.if-passes.true
    ]

pub returns : goal.returns
returns c = search (laws, rules)
