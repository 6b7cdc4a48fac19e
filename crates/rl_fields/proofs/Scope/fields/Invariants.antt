use Rattle.std.proofs.Common.{◌≡◌, ◌<◌, ◌^◌}
use Rattle.rl_spec.specs.Schema.{fields_of}
use Rattle.rl_spec.specs.Fields.{fields_from}
use Rattle.rl_schema.specs.Codes.{codes}
use Rattle.rl_fields.specs.Scopes.{in_scope}
use Rattle.rl_fields.proofs.Scope.fields.Given as goal

abbrev pub invariant-loop-rest : goal.invariant-loop-rest
invariant-loop-rest l = (l.rest < 2 ^ 64) × (in_scope l.self fields_from (fields_of l.kind) l.start 0 ≡ in_scope l.self fields_from (codes l.rest) l.at l.tall)

abbrev pub decreases-loop-rest : goal.decreases-loop-rest
decreases-loop-rest l = l.rest
