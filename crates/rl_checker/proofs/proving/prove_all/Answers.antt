use lib.ListN.{length}
use Rattle.rl_checker.proofs.AnswerLaws.{all_unread, all_unread_slice, all_unread_work, all_found, all_found_slice, all_found_work}
use Rattle.std.proofs.Common.{rules}
use Rattle.rl_checker.proofs.proving.prove_all.Goals as goal

ruleset laws = (all_unread, all_unread_slice, all_unread_work)

pub returns-in_err-counts-clause-value : goal.returns-in_err-counts-clause-value
returns-in_err-counts-clause-value c = search (laws, rules)

pub returns-in_err-counts-clause-reports_after : goal.returns-in_err-counts-clause-reports_after
returns-in_err-counts-clause-reports_after c = search (laws, rules)

pub returns-in_err-counts-clause-work_after : goal.returns-in_err-counts-clause-work_after
returns-in_err-counts-clause-work_after c = search (laws, rules)

pub returns-clause-value : goal.returns-clause-value
returns-clause-value c = all_found c.args.image.now (length c.args.work.now) (length c.args.reports.now) _ c.read_starts.ensures.value _ (c.fill.ensures.after (λ y e. e)) c.in_ok-counts.field-0.arena c.in_ok-counts.field-0.counts c.in_ok-counts.was c.type_inv.image _ c.read_starts.ensures.starts_after _ c.min.ensures _ _ c.prove_calls-at.ensures.proves_calls c.prove_calls-at.auto.reports _ c.fitted.ensures.value

pub returns-clause-reports_after : goal.returns-clause-reports_after
returns-clause-reports_after c = all_found_slice c.args.image.now (length c.args.work.now) (length c.args.reports.now) _ c.read_starts.ensures.value _ (c.fill.ensures.after (λ y e. e)) c.in_ok-counts.field-0.arena c.in_ok-counts.field-0.counts c.in_ok-counts.was c.type_inv.image _ c.read_starts.ensures.starts_after _ c.min.ensures _ _ c.prove_calls-at.ensures.proves_calls c.prove_calls-at.auto.reports _ c.fitted.ensures.reports_after

pub returns-clause-work_after : goal.returns-clause-work_after
returns-clause-work_after c = all_found_work c.args.image.now (length c.args.work.now) (length c.args.reports.now) _ c.read_starts.ensures.value _ (c.fill.ensures.after (λ y e. e)) c.in_ok-counts.field-0.arena c.in_ok-counts.field-0.counts c.in_ok-counts.was c.type_inv.image _ c.read_starts.ensures.starts_after _ c.min.ensures _ _ c.prove_calls-at.ensures.proves_calls c.prove_calls-at.auto.reports _ _ c.read_starts.ensures.work_after c.read_starts.auto.work c.fitted.ensures.work_after
