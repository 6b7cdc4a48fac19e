use Rattle.std.proofs.Common.{refl, rules}
use Rattle.rl_context.proofs.Appends.{text_full, text_short, text_bytes_lem, text_texts}
use Rattle.rl_context.proofs.TextMade.{text_made}
use Rattle.rl_context.proofs.Ctx.new_text.Goals as goal
use Rattle.rl_context.proofs.Ctx.new_text.Goals.{then-self-via-then-self, then-self-via-else-self+then-scratch-lt-SCRATCH, then-self-via-else-self+else-scratch-lt-SCRATCH+then-passes, then-self-via-else-self+else-scratch-lt-SCRATCH+else-passes+then-passes-2}

ruleset laws = (text_full, text_short, text_bytes_lem, text_texts, text_made)

pub returns-then-self : goal.returns-then-self
returns-then-self c im k w =
    elim c.then-self.branch [
      | then-self-via-then-self b ↦ text_full _ _ _ _ _ _ _ _ refl b.if-self.true
      | then-self-via-else-self+then-scratch-lt-SCRATCH b ↦ text_short _ _ _ _ _ _ _ _ refl b.if-scratch-lt-SCRATCH.true
      | then-self-via-else-self+else-scratch-lt-SCRATCH+then-passes b ↦ text_bytes_lem _ _ _ _ _ _ _ _ refl _ b.passes.ensures b.if-passes.true
      | then-self-via-else-self+else-scratch-lt-SCRATCH+else-passes+then-passes-2 b ↦ text_texts _ _ _ _ _ _ _ _ refl _ b.passes-else-passes.ensures b.if-passes-2.true
    ]

pub returns : goal.returns
returns c = search (laws, rules)
