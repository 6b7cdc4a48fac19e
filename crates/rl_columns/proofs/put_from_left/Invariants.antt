use Rattle.std.proofs.Common.{◌≡◌, ◌≤◌, length}
use Rattle.rl_columns.proofs.ColumnLaws.{RestAfter, RestWith}
use Rattle.rl_columns.proofs.put_from_left.Given as goal

abbrev pub invariant-loop : goal.invariant-loop
invariant-loop l = (l.i ≤ length l.text) × (l.out.bytes.ghost_name ≡ l.initial.out.bytes.ghost_name)
    × RestAfter l.initial.out.bytes.now l.initial.out.at l.text l.columns l.out.bytes.now l.out.at l.i l.counter
    × RestWith l.initial.out.bytes.now l.initial.out.at l.text l.columns l.out.bytes.now l.out.at l.i l.counter
