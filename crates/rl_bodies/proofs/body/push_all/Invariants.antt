use Rattle.std.proofs.Common.{ℕ, ◌≡◌, List, length}
use Rattle.rl_spec.specs.Image.{Image}
use Rattle.rl_context.specs.Does.{at}
use Rattle.rl_bodies.proofs.Pushing.{First}
use Rattle.rl_bodies.proofs.body.push_all.Given as goal

abbrev pub invariant-loop-n : goal.invariant-loop-n
invariant-loop-n l = (length l.waiting ≡ length l.initial.waiting) ×
    ((im : Image) (s : List ℕ) → First l.numbers im (at l.initial.ctx s l.initial.waiting) (at l.ctx s l.waiting) l.n-index)
