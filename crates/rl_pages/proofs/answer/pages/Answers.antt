use mathlib.Core.Path.{refl}
use Rattle.rl_pages.proofs.AnswerLaws.{unread_out, unread_work, put_answer, put_out, put_work}
use Rattle.std.proofs.Common.{rules}
use Rattle.rl_pages.proofs.answer.pages.Goals as goal

pub returns-in_err-counts-clause-pages_after : goal.returns-in_err-counts-clause-pages_after
returns-in_err-counts-clause-pages_after c = unread_out _ _ _ _ c.in_err-counts.ensures.value _ _ refl _ (c.fill.ensures.after (λ y e. e))

pub returns-in_err-counts-clause-work_after : goal.returns-in_err-counts-clause-work_after
returns-in_err-counts-clause-work_after c = unread_work _ _ _ _ c.in_err-counts.ensures.value _ _ refl _ c.open.ensures.work_after

pub returns-clause-value : goal.returns-clause-value
returns-clause-value c = put_answer _ _ _ _ c.in_ok-counts.ensures.value _ _ refl _ (c.fill.ensures.after (λ y e. e)) _ _ c.put_pages-at.ensures.adds (search rules) _ c.answer_at.ensures.value

pub returns-clause-pages_after : goal.returns-clause-pages_after
returns-clause-pages_after c = put_out _ _ _ _ c.in_ok-counts.ensures.value _ _ refl _ (c.fill.ensures.after (λ y e. e)) _ _ c.put_pages-at.ensures.adds (search rules) _ c.answer_at.ensures.pages_after

pub returns-clause-work_after : goal.returns-clause-work_after
returns-clause-work_after c = put_work _ _ _ _ c.in_ok-counts.ensures.value _ _ refl _ (c.fill.ensures.after (λ y e. e)) _ _ c.put_pages-at.ensures.adds (search rules) _ _ c.open.ensures.work_after c.open.auto.work c.answer_at.ensures.work_after
