use Rattle.std.proofs.lemmas.List.Edits.{paste_none, paste_more}
use Rattle.std.proofs.Common.{rules}
use Rattle.rl_text_out.proofs.copy.Goals as goal

ruleset laws = (paste_none, paste_more)

pub loop-i-preserved : goal.loop-i-preserved
loop-i-preserved c = search (laws, rules)
