use Rattle.rl_checker.proofs.FoldLaws.{fold_alone}
use Rattle.std.proofs.Common.{rules}
use Rattle.rl_checker.proofs.folding.fold_node.Goals as goal

ruleset laws = (fold_alone)

pub returns : goal.returns
returns c = search (laws, rules)
