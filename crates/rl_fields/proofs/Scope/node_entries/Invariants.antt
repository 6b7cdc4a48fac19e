use Rattle.std.proofs.Common.{◌≡◌, ◌+◌, ◌-◌}
use Rattle.rl_spec.specs.declared.Target.TheVariants.{Expression}
use Rattle.rl_spec.specs.Fields.{entries_from}
use Rattle.rl_fields.specs.Scopes.{in_scope}
use Rattle.rl_fields.proofs.Scope.node_entries.Given as goal

abbrev pub invariant-loop-i : goal.invariant-loop-i
invariant-loop-i l = in_scope l.self entries_from l.fn.list.count l.fn.list.first Expression Expression l.tall ≡ in_scope l.self entries_from (l.fn.list.count - l.i) (l.fn.list.first + l.i) Expression Expression l.most
