use lib.ListN.{length}
use Rattle.std.proofs.Common.{rules}
use Rattle.rl_resolver.proofs.Answers.{unread, source_there, lowering_refused, lowering_made}
use Rattle.rl_resolver.proofs.lowering.lower.Goals as goal

pub returns-in_err-read : goal.returns-in_err-read
returns-in_err-read c =
    let whole = unread _ _ _ (length c.args.out.now) _ (c.fill.ensures.after (λ y e. e)) _ c.read_starts.ensures.value _ c.in_err-read.was _ c.read_starts.ensures.work_after in
    record { value = search (whole.0, rules); out_after = whole.1.0; work_after = whole.1.1 }

pub lower_read-requires : goal.lower_read-requires
lower_read-requires c =
    source_there _ _ c.args.function (length c.args.out.now) _ (c.fill.ensures.after (λ y e. e)) _ c.read_starts.ensures.value
    c.in_ok-read.read.arena c.in_ok-read.read.counts c.in_ok-read.was c.type_inv.image _ c.read_starts.ensures.work_after _ c.read_starts.ensures.starts_after

pub returns-in-Ok : goal.returns-in-Ok
returns-in-Ok c =
    let whole = lowering_made _ _ _ (length c.args.out.now) _ (c.fill.ensures.after (λ y e. e)) _ c.read_starts.ensures.value
    c.in_ok-read.read.arena c.in_ok-read.read.counts c.in_ok-read.was c.type_inv.image _ c.read_starts.ensures.work_after _ c.read_starts.ensures.starts_after
    _ _ c.lower_read.ensures _ c.in-Ok.is _ c.read_starts.ensures.work_after in
    record { value = whole.0; out_after = whole.1.0; work_after = whole.1.1 }

pub returns-in-Err : goal.returns-in-Err
returns-in-Err c =
    let whole = lowering_refused _ _ _ (length c.args.out.now) _ (c.fill.ensures.after (λ y e. e)) _ c.read_starts.ensures.value
    c.in_ok-read.read.arena c.in_ok-read.read.counts c.in_ok-read.was c.type_inv.image _ c.read_starts.ensures.work_after _ c.read_starts.ensures.starts_after
    _ _ c.lower_read.ensures _ c.in-Err.is _ _ c.read_starts.auto.work (c.fill-in-Err.ensures.after (λ y e. e)) in
    record { value = whole.0; out_after = whole.1.0; work_after = whole.1.1 }
