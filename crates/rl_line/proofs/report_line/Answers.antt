use Rattle.rl_line.proofs.LineLaws.{puts_report}
use Rattle.rl_line.proofs.report_line.Goals as goal

pub returns : goal.returns
returns c = let whole = puts_report _ _ _ _ _ _ _ _ _ _ _ _ _ (c.default_text-n.ensures.by_index, c.default_text-n.ensures.by_index_2) c.part.ensures c.message-text.ensures _ _ (c.put_line.ensures.value, c.put_line.ensures.out_after) in
    record { value = whole.0; out_after = whole.1.0; room_after = whole.1.1 }
