use Rattle.std.proofs.Common.{◌≡◌, drop}
use Rattle.rl_spec.specs.Read.{sections_from}
use Rattle.rl_ast.proofs.reader.all_sections.Given as goal

abbrev pub invariant-loop-own : goal.invariant-loop-own
invariant-loop-own l = sections_from l.image l.counts (drop l.own-index l.sections) l.at l.heights l.starts ≡ sections_from l.image l.counts l.sections l.start l.initial.heights l.initial.starts
