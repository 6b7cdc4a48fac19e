use Rattle.rl_line.proofs.LineLaws.{puts_told}
use Rattle.std.proofs.Common.{rules}
use Rattle.rl_line.proofs.report_message.Goals as goal

pub returns : goal.returns
returns c = let whole = puts_told _ _ _ _ _ _ _ _ _ _ _ _ _ (c.default_text-n.ensures.by_index, c.default_text-n.ensures.by_index_2) c.part.ensures c.message-text.ensures (c.put_message.ensures.at, c.put_message.ensures.bytes) in
    record { value = whole.0; out_after = λ h. search (whole.1.0 h, rules); room_after = whole.1.1 }
