use Rattle.rl_lines.proofs.CallLaws.{own_lines, own_entries, own_length, own_message}
use Rattle.rl_lines.proofs.messages.message_in.Goals as goal

pub invariant_of-reported : goal.invariant_of-reported
invariant_of-reported c =
    record {
      known = c.args.opened.known;
      proved = own_lines _ _ _ c.lines_of-lines.ensures.value;
      reported = own_entries _ _ _ c.lines_of-lines.ensures.value _ c.lines_of-lines.ensures.reports_after;
    }

pub returns-clause-value : goal.returns-clause-value
returns-clause-value c = own_length _ _ _ c.lines_of-lines.ensures.value _ 65535 _ c.put_message.ensures.value

pub returns-clause-out_after : goal.returns-clause-out_after
returns-clause-out_after c = own_message _ _ _ c.lines_of-lines.ensures.value _ _ _ c.put_message.ensures.out_after
