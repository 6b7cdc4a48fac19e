use Rattle.std.proofs.Common.{◌≡◌}
use Rattle.rl_statements.specs.Slots.{slot_in}
use Rattle.rl_statements.proofs.env.slot_of.Given as goal

abbrev pub invariant-loop-p : goal.invariant-loop-p
invariant-loop-p l = slot_in l.classes l.slots l.name l.p ≡ slot_in l.classes l.slots l.name l.len
