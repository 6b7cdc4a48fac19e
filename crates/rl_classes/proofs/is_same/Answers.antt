use Rattle.rl_classes.proofs.Links.{same_early, same_late, same_prefix}
use Rattle.std.proofs.Common.{rules}
use Rattle.rl_classes.proofs.is_same.Goals as goal
use Rattle.rl_classes.proofs.is_same.Goals.{then-to-a-via-then-to-a, then-to-a-via-else-to-a+then-to-b}

ruleset laws = (same_prefix)

pub returns-then-to-a : goal.returns-then-to-a
returns-then-to-a c =
    elim c.then-to-a.branch [
      | then-to-a-via-then-to-a w ↦ same_early _ _ _ _ c.requires w.if-to-a.true
      | then-to-a-via-else-to-a+then-to-b w ↦ same_late _ _ _ _ c.requires w.if-to-b.true
    ]

pub returns : goal.returns
returns c = search (laws, rules)
