use Rattle.std.proofs.Common.{rules}
use Rattle.rl_text.proofs.Laws.{text_laws}
use Rattle.rl_text.proofs.is_utf8.Goals as goal

pub loop-i-preserved : goal.loop-i-preserved
loop-i-preserved c = search (text_laws, rules)
