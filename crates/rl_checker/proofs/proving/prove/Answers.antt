use lib.ListN.{length}
use Rattle.rl_checker.proofs.AnswerLaws.{prove_unread, prove_unread_slice, prove_unread_work, prove_missing, prove_missing_slice, prove_missing_work, prove_found, prove_found_slice, prove_found_work}
use Rattle.std.proofs.Common.{rules}
use Rattle.rl_checker.proofs.proving.prove.Goals as goal

ruleset laws = (prove_unread, prove_unread_slice, prove_unread_work)

pub returns-in_err-counts-clause-value : goal.returns-in_err-counts-clause-value
returns-in_err-counts-clause-value c = search (laws, rules)

pub returns-in_err-counts-clause-reports_after : goal.returns-in_err-counts-clause-reports_after
returns-in_err-counts-clause-reports_after c = search (laws, rules)

pub returns-in_err-counts-clause-work_after : goal.returns-in_err-counts-clause-work_after
returns-in_err-counts-clause-work_after c = search (laws, rules)

pub returns-then-counts-call-clause-value : goal.returns-then-counts-call-clause-value
returns-then-counts-call-clause-value c = prove_missing c.args.image.now (length c.args.work.now) (length c.args.reports.now) _ c.read_starts.ensures.value _ (c.fill.ensures.after (λ y e. e)) c.in_ok-counts.field-0.arena c.in_ok-counts.field-0.counts c.in_ok-counts.was c.args.call c.if-counts-call.true _ c.into.ensures

pub returns-then-counts-call-clause-reports_after : goal.returns-then-counts-call-clause-reports_after
returns-then-counts-call-clause-reports_after c = prove_missing_slice c.args.image.now (length c.args.work.now) (length c.args.reports.now) _ c.read_starts.ensures.value _ (c.fill.ensures.after (λ y e. e)) c.in_ok-counts.field-0.arena c.in_ok-counts.field-0.counts c.in_ok-counts.was c.args.call c.if-counts-call.true

pub returns-then-counts-call-clause-work_after : goal.returns-then-counts-call-clause-work_after
returns-then-counts-call-clause-work_after c = prove_missing_work c.args.image.now (length c.args.work.now) (length c.args.reports.now) _ c.read_starts.ensures.value _ (c.fill.ensures.after (λ y e. e)) c.in_ok-counts.field-0.arena c.in_ok-counts.field-0.counts c.in_ok-counts.was c.args.call c.if-counts-call.true c.read_starts.new.work _ c.read_starts.auto.work (c.fill-then-counts-call.ensures.after (λ y e. e))

pub returns-clause-value : goal.returns-clause-value
returns-clause-value c = prove_found c.args.image.now (length c.args.work.now) (length c.args.reports.now) _ c.read_starts.ensures.value _ (c.fill.ensures.after (λ y e. e)) c.in_ok-counts.field-0.arena c.in_ok-counts.field-0.counts c.in_ok-counts.was c.type_inv.image _ c.read_starts.ensures.starts_after c.args.call c.if-counts-call.false _ _ c.prove_calls-at.ensures.proves_calls c.prove_calls-at.auto.reports _ c.fitted.ensures.value

pub returns-clause-reports_after : goal.returns-clause-reports_after
returns-clause-reports_after c = prove_found_slice c.args.image.now (length c.args.work.now) (length c.args.reports.now) _ c.read_starts.ensures.value _ (c.fill.ensures.after (λ y e. e)) c.in_ok-counts.field-0.arena c.in_ok-counts.field-0.counts c.in_ok-counts.was c.type_inv.image _ c.read_starts.ensures.starts_after c.args.call c.if-counts-call.false _ _ c.prove_calls-at.ensures.proves_calls c.prove_calls-at.auto.reports _ c.fitted.ensures.reports_after

pub returns-clause-work_after : goal.returns-clause-work_after
returns-clause-work_after c = prove_found_work c.args.image.now (length c.args.work.now) (length c.args.reports.now) _ c.read_starts.ensures.value _ (c.fill.ensures.after (λ y e. e)) c.in_ok-counts.field-0.arena c.in_ok-counts.field-0.counts c.in_ok-counts.was c.type_inv.image _ c.read_starts.ensures.starts_after c.args.call c.if-counts-call.false _ _ c.prove_calls-at.ensures.proves_calls c.prove_calls-at.auto.reports _ _ c.read_starts.ensures.work_after c.read_starts.auto.work c.fitted.ensures.work_after
