use Rattle.rl_classes.proofs.Links.{mismatch_word}
use Rattle.std.proofs.Common.{rules}
use Rattle.rl_classes.proofs.mismatch.Goals as goal

ruleset laws = (mismatch_word)

pub loop-i-preserved : goal.loop-i-preserved
loop-i-preserved c = search (laws, rules)
