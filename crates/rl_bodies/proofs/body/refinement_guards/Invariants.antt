use Rattle.std.proofs.Common.{ℕ, ◌≡◌, ◌≤◌, List, length}
use Rattle.rl_spec.specs.Image.{Image}
use Rattle.rl_records.specs.Found.{found_with}
use Rattle.rl_spec.specs.Records.{function_at}
use Rattle.rl_context.specs.Does.{at}
use Rattle.rl_bodies.proofs.Pushing.{Guarded}
use Rattle.rl_bodies.proofs.body.refinement_guards.Given as goal

abbrev pub invariant-loop-i : goal.invariant-loop-i
invariant-loop-i l = (length l.text ≡ length l.initial.text) × ((length l.scratch ≡ length l.initial.scratch) × ((length l.waiting ≡ length l.initial.waiting) ×
    ((im : Image) (p : List ℕ) → 16385 ≤ length l.initial.text → im ≡ found_with l.image p → Guarded im (function_at (found_with l.image p) l.function).params (at l.initial.ctx l.initial.scratch l.initial.waiting) (at l.ctx l.scratch l.waiting) l.i)))
