use native.Mathlib.Omega.{arith}
use Rattle.std.proofs.Common.{ap, ◌∙◌, ◌+◌}
use Rattle.rl_spec.specs.Image.{entry_of}
use Rattle.rl_records.specs.Found.{found}
use Rattle.rl_statements.proofs.StepLaws.{start_over, start_spent, start_next, is_last, not_last}
use Rattle.rl_statements.proofs.steps.next.Goals.{then-block, else-block}
use Rattle.rl_statements.proofs.steps.next.Goals as goal

pub returns-then-count-done : goal.returns-then-count-done
returns-then-count-done c = start_over (found c.args.image) c.args.block c.args.done.now _ _ (omega (arith, c.from-count.ensures, c.if-count-done.true))

pub returns-then-left-eq0 : goal.returns-then-left-eq0
returns-then-left-eq0 c = start_spent (found c.args.image) c.args.block c.args.done.now _ _ _ (omega (arith, c.from-count.ensures, c.if-count-done.false)) c.if-left-eq0.true c.over.ensures

pub returns : goal.returns
returns c =
    start_next (found c.args.image) c.args.block c.args.done.now _ _ c.if-block.begun _ _ _ (omega (arith, c.from-count.ensures, c.if-count-done.false)) c.if-left-eq0.false
    (elim c.if-block.branch [
      | then-block w ↦ is_last _ _ _ _ _ w.if-block.true w.begun-is c.from-count.ensures
      | else-block w ↦ not_last _ _ _ 0 _ w.if-block.false w.begun-is
    ])
    (c.entry-s.ensures c.args.image.starts.now ∙ ap (λ k. entry_of (found c.args.image) (k + c.args.done.now)) c.from.ensures) c.clear.ensures c.begun.ensures.begins c.begun.ensures.room
