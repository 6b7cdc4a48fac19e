use Rattle.rl_arena.proofs.Laws.{spot_more, spot_near}
use Rattle.std.proofs.Common.{rules}
use Rattle.rl_arena.proofs.field_spot.Goals as goal

ruleset laws = (spot_more, spot_near)

pub loop-preserved : goal.loop-preserved
loop-preserved c = search (laws, rules)
