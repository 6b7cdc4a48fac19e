use Rattle.rl_encode.proofs.Records.{recording_none, recording_all, recording_end, recording_room, recording_more}
use Rattle.std.proofs.Common.{rules}
use Rattle.rl_encode.proofs.put_fields.Goals as goal

ruleset laws = (recording_none, recording_all, recording_end, recording_room, recording_more)

pub loop-rest-init : goal.loop-rest-init
loop-rest-init c = search (laws, rules)

pub put_number-requires : goal.put_number-requires
put_number-requires c = recording_room _ _ _ _ _ _ _ _ c.loop-rest.invariant (search rules) _ _ c.sort_of.ensures c.width_of-width.ensures

pub loop-rest-preserved : goal.loop-rest-preserved
loop-rest-preserved c = recording_more _ _ _ _ _ _ _ _ c.loop-rest.invariant (search rules) _ _ c.sort_of.ensures c.width_of-width.ensures _ _
    c.get_or.ensures c.put_number.ensures

pub returns-clause-value : goal.returns-clause-value
returns-clause-value c = search (laws, rules)

pub returns-clause-out_after : goal.returns-clause-out_after
returns-clause-out_after c = search (laws, rules)
