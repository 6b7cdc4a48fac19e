use native.Mathlib.Omega.{arith}
use mathlib.Core.Path.{refl}
use Rattle.rl_transform.proofs.Rebuilding.{reading_none, reading_index, reading_place, reading_more, reading_all}
use Rattle.std.proofs.Common.{rules}
use Rattle.rl_transform.proofs.rebuild.fields_of.Goals as goal

ruleset laws = (reading_index, reading_place, reading_more, reading_all)

pub loop-rest-init : goal.loop-rest-init
loop-rest-init c = reading_none _ _ _ _ (search rules) (omega arith) refl

pub loop-rest-preserved : goal.loop-rest-preserved
loop-rest-preserved c = search (laws, rules)

pub returns-clause-result_value : goal.returns-clause-result_value
returns-clause-result_value c = search (laws, rules)
