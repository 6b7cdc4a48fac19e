use Prim.Native.Nat.{◌+◌, ◌*◌, ◌≤◌}
use mathlib.Core.Path.{◌≡◌}
use lib.ListN.{length}
use Rattle.rl_records.specs.Found.{found}
use Rattle.rl_spec.specs.Lower.{transform_arm}
use Rattle.rl_context.specs.Does.{at}
use Rattle.rl_context.specs.Guards.{clauses_in}
use Rattle.rl_transform.specs.Transforms.{walk_below, ready, arms_in}
use Rattle.rl_transform.proofs.Loops.{Flat, Each}
use Rattle.rl_transform.proofs.cycle.+transform.Given as goal

abbrev pub decreases-transform_arms : goal.decreases-transform_arms
decreases-transform_arms l = l.limit * 6 + 3

abbrev pub decreases-transform_below : goal.decreases-transform_below
decreases-transform_below l = l.limit * 6

abbrev pub decreases-transform_body : goal.decreases-transform_body
decreases-transform_body l = l.limit * 6 + 2

abbrev pub decreases-transform_branch : goal.decreases-transform_branch
decreases-transform_branch l = l.limit * 6 + 3

abbrev pub decreases-transform_conditional : goal.decreases-transform_conditional
decreases-transform_conditional l = l.id * 6 + 4

abbrev pub decreases-transform_match : goal.decreases-transform_match
decreases-transform_match l = l.id * 6 + 4

abbrev pub decreases-transform_returns : goal.decreases-transform_returns
decreases-transform_returns l = l.limit * 6 + 1

abbrev pub decreases-transform_statement : goal.decreases-transform_statement
decreases-transform_statement l = l.id * 6 + 5

abbrev pub invariant-transform_arms-loop-i : goal.invariant-transform_arms-loop-i
invariant-transform_arms-loop-i l = (length l.scratch ≡ length l.initial.scratch) × ((length l.waiting ≡ length l.initial.waiting) ×
    (ready l.walk → l.limit ≤ l.walk.image.counts.statements → arms_in l.walk l.list → Each (found l.walk.image) (transform_arm (walk_below (clauses_in (found l.walk.image) l.walk.ensured) l.limit)) l.list.first l.list.count (at l.initial.ctx l.initial.scratch l.initial.waiting) (at l.ctx l.scratch l.waiting) l.i))

abbrev pub invariant-transform_returns-loop-i : goal.invariant-transform_returns-loop-i
invariant-transform_returns-loop-i l = (length l.scratch ≡ length l.initial.scratch) × ((length l.waiting ≡ length l.initial.waiting) ×
    (ready l.walk → l.limit ≤ l.walk.image.counts.statements → Flat (found l.walk.image) (walk_below (clauses_in (found l.walk.image) l.walk.ensured) l.limit) l.list.first l.list.count (at l.initial.ctx l.initial.scratch l.initial.waiting) (at l.ctx l.scratch l.waiting) l.i))
