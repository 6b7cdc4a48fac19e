use Rattle.std.proofs.Common.{◌≡◌, ◌-◌}
use Rattle.rl_ast.specs.Lists.{lists_from}
use Rattle.rl_ast.proofs.reader.list_records.Given as goal

abbrev pub invariant-loop : goal.invariant-loop
invariant-loop l = lists_from l.image (l.count - l.counter) l.at ≡ lists_from l.image l.count l.start
