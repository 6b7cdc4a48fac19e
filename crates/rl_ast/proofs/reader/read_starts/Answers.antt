use Rattle.std.proofs.Common.{◌∙◌}
use native.Mathlib.Omega.{arith}
use Rattle.rl_ast.proofs.ReadLaws.{cleared, read_long, read_short, read_stop, read_good}
use Rattle.rl_ast.proofs.reader.read_starts.Goals as goal

pub returns-then-image-gt-LONGEST : goal.returns-then-image-gt-LONGEST
returns-then-image-gt-LONGEST c =
    let p = read_long _ _ c.if-image-gt-LONGEST.true _ _ (c.fill.ensures.after (λ y e. e)) (cleared c.args.starts.now _ _ (c.fill-2.ensures.after (λ y e. e)) c.told-starts) in
    record { value = rw c.into.ensures p.0; work_after = p.1.0; starts_after = p.1.1 }

pub returns-then-work-lt-SHORTEST_WORK : goal.returns-then-work-lt-SHORTEST_WORK
returns-then-work-lt-SHORTEST_WORK c =
    let p = read_short _ _ c.if-image-gt-LONGEST.false (omega (arith, c.fill.auto.self)) _ _ (c.fill.ensures.after (λ y e. e)) (cleared c.args.starts.now _ _ (c.fill-2.ensures.after (λ y e. e)) c.told-starts) in
    record { value = rw c.into-then-work-lt-SHORTEST_WORK.ensures p.0; work_after = p.1.0; starts_after = p.1.1 }

pub returns-in-Err : goal.returns-in-Err
returns-in-Err c =
    let p =
    read_stop _ _ c.if-image-gt-LONGEST.false (omega (arith, c.fill.auto.self)) _ _ _ _ _ (c.fill.ensures.after (λ y e. e))
    (cleared c.args.starts.now _ _ (c.fill-2.ensures.after (λ y e. e)) c.told-starts) c.content.ensures _ c.in-Err.is _ _
    (cleared c.content.new.heights _ _ (c.fill-in-Err.ensures.after (λ y e. e)) (c.content.auto.heights ∙ c.fill.auto.self))
    (cleared c.content.new.starts _ _ (c.fill-in-Err-2.ensures.after (λ y e. e)) (c.content.auto.starts ∙ c.fill-2.auto.self ∙ c.told-starts)) in
    record { value = p.0; work_after = p.1.0; starts_after = p.1.1 }

pub returns : goal.returns
returns c =
    let p =
    read_good _ _ c.if-image-gt-LONGEST.false (omega (arith, c.fill.auto.self)) _ _ _ _ _ (c.fill.ensures.after (λ y e. e))
    (cleared c.args.starts.now _ _ (c.fill-2.ensures.after (λ y e. e)) c.told-starts) c.content.ensures _ c.in_default.is
    _ c.u32_at.ensures _ c.header_counts.ensures in
    record { value = p.0; work_after = p.1.0; starts_after = p.1.1 }
