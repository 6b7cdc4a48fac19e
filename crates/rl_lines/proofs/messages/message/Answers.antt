use mathlib.Core.Path.{◌≡◌, refl}
use lib.ListN.{length}
use Rattle.std.proofs.Common.{rules}
use Rattle.rl_lines.proofs.AnswerLaws.{message_unread_out, message_unread_work, message_missing_out, message_missing_work, message_found, message_found_out, message_found_work}
use Rattle.rl_lines.proofs.messages.message.Goals as goal

pub returns-in_err-counts-clause-out_after : goal.returns-in_err-counts-clause-out_after
returns-in_err-counts-clause-out_after c = let size : length c.args.out.now ≡ 65535 = search rules in
    message_unread_out _ _ _ c.in_err-counts.ensures.value _ _ _ _ refl _ _ size (c.fill.ensures.after (λ y e. e))

pub returns-in_err-counts-clause-work_after : goal.returns-in_err-counts-clause-work_after
returns-in_err-counts-clause-work_after c = message_unread_work _ _ _ c.in_err-counts.ensures.value _ _ _ _ refl _ c.open.ensures.work_after

pub returns-then-counts-call-clause-out_after : goal.returns-then-counts-call-clause-out_after
returns-then-counts-call-clause-out_after c = let size : length c.args.out.now ≡ 65535 = search rules in
    message_missing_out _ _ _ c.in_ok-counts.ensures.value _ _ _ _ refl c.if-counts-call.true _ _ size (c.fill.ensures.after (λ y e. e))

pub returns-then-counts-call-clause-work_after : goal.returns-then-counts-call-clause-work_after
returns-then-counts-call-clause-work_after c =
    message_missing_work _ _ _ c.in_ok-counts.ensures.value _ _ _ _ refl c.if-counts-call.true c.open.new.work _ c.open.auto.work (c.fill-then-counts-call.ensures.after (λ y e. e))

pub returns-clause-value : goal.returns-clause-value
returns-clause-value c = message_found _ _ _ c.in_ok-counts.ensures.value _ _ _ _ refl c.if-counts-call.false _ c.message_in-n.ensures.value

pub returns-clause-out_after : goal.returns-clause-out_after
returns-clause-out_after c =
    message_found_out _ _ _ c.in_ok-counts.ensures.value _ _ _ _ refl c.if-counts-call.false _ c.message_in-n.ensures.value _ c.message_in-n.ensures.out_after

pub returns-clause-work_after : goal.returns-clause-work_after
returns-clause-work_after c =
    message_found_work _ _ _ c.in_ok-counts.ensures.value _ _ _ _ refl c.if-counts-call.false _ c.message_in-n.ensures.value _ c.open.ensures.work_after
