use Rattle.std.proofs.Common.{rules}
use Rattle.rl_records.specs.Found.{found}
use Rattle.rl_resolver.proofs.Answers.{function_there, room_there}
use Rattle.rl_resolver.proofs.lowering.lower_read.Goals as goal

pub overflow_cast-function : goal.overflow_cast-function
overflow_cast-function c = search (function_there _ _ _ _ (found c.args.image) _ c.admit_lowering.ensures c.in_ok-admit_lowering.was, rules)

pub put_lowered-requires-clause-function_lt_functions : goal.put_lowered-requires-clause-function_lt_functions
put_lowered-requires-clause-function_lt_functions c = function_there _ _ _ _ (found c.args.image) _ c.admit_lowering.ensures c.in_ok-admit_lowering.was

pub put_lowered-requires-clause-in_bounds : goal.put_lowered-requires-clause-in_bounds
put_lowered-requires-clause-in_bounds c = room_there _ _ _ _ (found c.args.image) _ c.admit_lowering.ensures c.in_ok-admit_lowering.was
