use Rattle.rl_message.proofs.OwnLaws.{a_message_lem}
use Rattle.rl_message.proofs.own.own_string.Goals as goal

pub returns : goal.returns
returns c = a_message_lem _ _ _ c.in_ok-node.was _ _ c.form.ensures c.string_in.ensures
