use Rattle.std.proofs.Common.{rules}
use Rattle.rl_statements.proofs.SlotLaws.{look_none, look_some}
use Rattle.rl_statements.proofs.env.Env.look.Goals as goal

ruleset laws = (look_none, look_some)

pub returns-in_err-at : goal.returns-in_err-at
returns-in_err-at c = search (laws, rules)

pub returns : goal.returns
returns c = λ bytes same. look_some _ _ _ c.self.view_is _ _ _ c.slot_of.ensures.value bytes same _ c.in_ok-at.was _ c.value.ensures
