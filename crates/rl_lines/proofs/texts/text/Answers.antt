use mathlib.Core.Path.{refl}
use Rattle.rl_lines.proofs.AnswerLaws.{text_unread_work, text_missing_work, text_found, text_found_work}
use Rattle.rl_lines.proofs.texts.text.Goals as goal

pub returns-in_err-counts-clause-work_after : goal.returns-in_err-counts-clause-work_after
returns-in_err-counts-clause-work_after c = text_unread_work _ _ _ c.in_err-counts.ensures.value _ _ _ refl _ c.read_starts.ensures.work_after

pub returns-then-counts-number-clause-work_after : goal.returns-then-counts-number-clause-work_after
returns-then-counts-number-clause-work_after c =
    text_missing_work _ _ _ c.in_ok-counts.ensures.value _ _ _ refl c.if-counts-number.true _ _ c.read_starts.auto.work (c.fill.ensures.after (λ y e. e))

pub returns-clause-value : goal.returns-clause-value
returns-clause-value c = text_found _ _ _ c.in_ok-counts.ensures.value _ _ _ refl c.if-counts-number.false _ c.text_part.ensures

pub returns-clause-work_after : goal.returns-clause-work_after
returns-clause-work_after c =
    text_found_work _ _ _ c.in_ok-counts.ensures.value _ _ _ refl c.if-counts-number.false _ c.text_part.ensures _ c.read_starts.ensures.work_after
