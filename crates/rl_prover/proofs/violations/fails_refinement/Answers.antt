use Rattle.rl_prover.proofs.VerdictLaws.{fails_unrefined, fails_refined}
use Rattle.std.proofs.Common.{rules}
use Rattle.rl_prover.proofs.violations.fails_refinement.Goals as goal

ruleset laws = (fails_unrefined, fails_refined)

pub returns-in_default : goal.returns-in_default
returns-in_default c = search (laws, rules)

pub returns : goal.returns
returns c = fails_refined c.args.image.bytes.now c.args.image.starts.now c.args.image.counts c.args.names.classes.now c.args.names.words.now c.args.names.count c.args.memory.now c.args.refinement c.args.arg _ _ c.const_eval-actual.result c.refine_bound.result _ _
    c.in-Some.is c.const_eval-actual.ensures c.refine_bound.ensures c.is_refuted.ensures
