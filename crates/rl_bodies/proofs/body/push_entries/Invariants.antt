use Rattle.std.proofs.Common.{ℕ, ◌≡◌, List, length}
use Rattle.rl_spec.specs.Image.{Image}
use Rattle.rl_context.specs.Does.{at}
use Rattle.rl_bodies.proofs.Pushing.{Entered}
use Rattle.rl_bodies.proofs.body.push_entries.Given as goal

abbrev pub invariant-loop-i : goal.invariant-loop-i
invariant-loop-i l = (length l.waiting ≡ length l.initial.waiting) ×
    ((im : Image) (p s : List ℕ) → Entered l.image.bytes.now p l.image.counts l.list im (at l.initial.ctx s l.initial.waiting) (at l.ctx s l.waiting) l.i)
