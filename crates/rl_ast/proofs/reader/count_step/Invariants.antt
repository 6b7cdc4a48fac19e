use Rattle.std.proofs.Common.{◌≡◌, drop}
use Rattle.rl_spec.specs.Read.{counts_from}
use Rattle.rl_ast.proofs.reader.count_step.Given as goal

abbrev pub invariant-loop-most : goal.invariant-loop-most
invariant-loop-most l = counts_from l.image (drop l.most-index l.limits) l.at ≡ counts_from l.image l.limits 5
