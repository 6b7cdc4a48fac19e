use Rattle.rl_runner.proofs.EndLaws.{function_ran}
use Rattle.rl_runner.proofs.running.run_function.Goals as goal

pub returns : goal.returns
returns c = function_ran c.args.image.bytes.now c.args.image.starts.now c.args.image.counts c.requires.narrow _ _ _ _ _ _ _ c.function-f.ensures c.requires.count_bound c.requires.count_value c.bind_all.ensures c.list-ran.ensures c.outcome_after.ensures
