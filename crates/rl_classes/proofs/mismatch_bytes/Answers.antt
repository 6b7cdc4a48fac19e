use Rattle.rl_classes.proofs.Links.{mismatch_short, mismatch_apart, mismatch_more, mismatch_done}
use Rattle.std.proofs.Common.{rules, ◌∙◌}
use Rattle.rl_classes.proofs.mismatch_bytes.Goals as goal
use Rattle.rl_classes.proofs.mismatch_bytes.Goals.{then-b-i-via-then-b-i, then-b-i-via-else-b-i+then-a-i}

ruleset laws = (mismatch_more)

pub returns-then-b-i : goal.returns-then-b-i
returns-then-b-i c =
    elim c.then-b-i.branch [
      | then-b-i-via-then-b-i w ↦ mismatch_short _ _ _ _ c.loop-i.invariant c.loop-i-test.true w.if-b-i.true
      | then-b-i-via-else-b-i+then-a-i w ↦ mismatch_apart _ _ _ _ c.loop-i.invariant c.loop-i-test.true w.if-b-i.false w.if-a-i.true
    ]

pub loop-i-preserved : goal.loop-i-preserved
loop-i-preserved c = search (laws, rules)

pub returns : goal.returns
returns c = c.max.ensures ∙ mismatch_done _ _ _ c.loop-i.i c.loop-i.invariant c.loop-i-test.false c.loop-i.auto.i-end
