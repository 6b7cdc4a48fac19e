use Rattle.std.proofs.Common.{◌≡◌, ◌+◌, ◌-◌}
use Rattle.rl_spec.specs.Fields.{entries_from}
use Rattle.rl_fields.specs.Scopes.{in_scope}
use Rattle.rl_fields.proofs.Scope.entries.Given as goal

abbrev pub invariant-loop-i : goal.invariant-loop-i
invariant-loop-i l = in_scope l.self entries_from l.list.count l.list.first l.fn.left l.fn.right l.tall ≡ in_scope l.self entries_from (l.list.count - l.i) (l.list.first + l.i) l.here l.other l.most
