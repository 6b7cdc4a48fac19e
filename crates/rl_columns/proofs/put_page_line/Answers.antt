use Rattle.std.proofs.Common.{rules}
use Rattle.rl_columns.proofs.LineLaws.{puts_place, puts_line}
use Rattle.rl_columns.proofs.put_page_line.Goals as goal

pub returns-clause-value : goal.returns-clause-value
returns-clause-value c = (puts_line _ _ _ _ _ _ _ _ _ _ _ _ _ _ _
    (puts_place _ _ _ _ _ _ _ _ _ _ _
    (c.put_right.ensures.at, c.put_right.ensures.bytes)
    (c.text.ensures.at, c.text.ensures.bytes)
    (c.put_right-2.ensures.at, c.put_right-2.ensures.bytes)
    (c.text-2.ensures.at, c.text-2.ensures.bytes))
    (c.put_from_left.ensures.at, c.put_from_left.ensures.bytes)
    (c.text-3.ensures.at, c.text-3.ensures.bytes)
    (c.put_from_left-2.ensures.at, c.put_from_left-2.ensures.bytes)
    (c.text-4.ensures.at, c.text-4.ensures.bytes)).0

pub returns-clause-out_after : goal.returns-clause-out_after
returns-clause-out_after c =
    let whole = (puts_line _ _ _ _ _ _ _ _ _ _ _ _ _ _ _
    (puts_place _ _ _ _ _ _ _ _ _ _ _
    (c.put_right.ensures.at, c.put_right.ensures.bytes)
    (c.text.ensures.at, c.text.ensures.bytes)
    (c.put_right-2.ensures.at, c.put_right-2.ensures.bytes)
    (c.text-2.ensures.at, c.text-2.ensures.bytes))
    (c.put_from_left.ensures.at, c.put_from_left.ensures.bytes)
    (c.text-3.ensures.at, c.text-3.ensures.bytes)
    (c.put_from_left-2.ensures.at, c.put_from_left-2.ensures.bytes)
    (c.text-4.ensures.at, c.text-4.ensures.bytes)).1 in
    search (whole, rules)
