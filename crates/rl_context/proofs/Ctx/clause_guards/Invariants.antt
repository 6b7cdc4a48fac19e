use Rattle.rl_context.proofs.GuardLaws.{Guarding}
use Rattle.rl_context.specs.Does.{at}
use Rattle.rl_records.specs.Found.{found}
use Rattle.rl_context.proofs.Ctx.clause_guards.Given as goal

abbrev pub invariant-loop-i : goal.invariant-loop-i
invariant-loop-i l = Guarding (found l.image) l.default l.clauses l.rows l.image.counts.expressions (at l.initial.next l.initial.scratch l.initial.waiting) l.i (at l.next l.scratch l.waiting)
