use Rattle.std.proofs.Common.{rules}
use Rattle.rl_columns.proofs.LineLaws.{puts_blank}
use Rattle.rl_columns.proofs.put_blank_line.Goals as goal

pub returns-clause-value : goal.returns-clause-value
returns-clause-value c = (puts_blank _ _ _ _ _
    (c.put_from_left.ensures.at, c.put_from_left.ensures.bytes)
    (c.text.ensures.at, c.text.ensures.bytes)).0

pub returns-clause-out_after : goal.returns-clause-out_after
returns-clause-out_after c =
    let whole = (puts_blank _ _ _ _ _
    (c.put_from_left.ensures.at, c.put_from_left.ensures.bytes)
    (c.text.ensures.at, c.text.ensures.bytes)).1 in
    search (whole, rules)
