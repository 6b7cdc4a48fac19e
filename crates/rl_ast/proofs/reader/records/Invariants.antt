use Rattle.std.proofs.Common.{◌≡◌, ◌-◌}
use Rattle.rl_spec.specs.Schema.{count_of}
use Rattle.rl_spec.specs.Read.{records_from}
use Rattle.rl_ast.proofs.reader.records.Given as goal

abbrev pub invariant-loop-i : goal.invariant-loop-i
invariant-loop-i l = records_from l.image l.counts l.own (count_of l.counts l.own - l.i) l.i l.at l.heights l.starts ≡ records_from l.image l.counts l.own (count_of l.counts l.own) 0 l.start l.initial.heights l.initial.starts
