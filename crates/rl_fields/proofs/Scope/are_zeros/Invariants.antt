use Rattle.std.proofs.Common.{◌≡◌, ◌+◌, ◌-◌}
use Rattle.rl_spec.specs.Fields.{zeros}
use Rattle.rl_fields.proofs.Scope.are_zeros.Given as goal

abbrev pub invariant-loop-i : goal.invariant-loop-i
invariant-loop-i l = zeros l.self.image.now (l.at + l.i) (l.n - l.i) ≡ zeros l.self.image.now l.at l.n
