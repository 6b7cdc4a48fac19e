use mathlib.Core.Path.{sym, ap, ◌∙◌}
use mathlib.Core.List.{[]}
use Rattle.std.proofs.Common.{Err, rules}
use Rattle.rl_spec.specs.Runner.{run_of}
use Rattle.rl_runner.proofs.EndLaws.{entry_small}
use Rattle.rl_runner.proofs.RunLaws.{admitted_function, run_unread_work, run_refused, run_refused_work, run_admitted, run_admitted_work, run_count, run_same, run_low, run_texts}
use Rattle.rl_runner.proofs.running.run.Goals as goal

pub overflow_cast-function : goal.overflow_cast-function
overflow_cast-function c = search (admitted_function _ _ _ _ _ (sym (c.admit_run.ensures []) ∙ c.in_default.is), rules)

pub run_function-requires-clause-low : goal.run_function-requires-clause-low
run_function-requires-clause-low c = run_low _ _ _ _ _ _ c.read_starts.ensures.value _ _ c.in_ok-accepted.was _ c.read_starts.ensures.starts_after _ c.admit_run.ensures c.type_inv.image

pub run_function-requires-clause-narrow : goal.run_function-requires-clause-narrow
run_function-requires-clause-narrow c = entry_small _ _ _ c.type_inv.image

pub run_function-requires-clause-texts_bound : goal.run_function-requires-clause-texts_bound
run_function-requires-clause-texts_bound c = run_texts _ _ _ _ _ _ c.read_starts.ensures.value _ _ c.in_ok-accepted.was _ c.read_starts.ensures.starts_after _ c.admit_run.ensures c.type_inv.image

pub run_function-requires-clause-count_bound : goal.run_function-requires-clause-count_bound
run_function-requires-clause-count_bound c = run_count _ _ _ _ _ _ c.read_starts.ensures.value _ _ c.in_ok-accepted.was _ c.read_starts.ensures.starts_after _ c.admit_run.ensures c.in_default.is

pub run_function-requires-clause-count_value : goal.run_function-requires-clause-count_value
run_function-requires-clause-count_value c = run_same _ _ _ _ _ _ c.read_starts.ensures.value _ _ c.in_ok-accepted.was _ c.read_starts.ensures.starts_after _ c.admit_run.ensures c.in_default.is

pub returns-in_err-accepted-clause-value : goal.returns-in_err-accepted-clause-value
unfolding run_of
returns-in_err-accepted-clause-value c = search rules

pub returns-in_err-accepted-clause-work_after : goal.returns-in_err-accepted-clause-work_after
returns-in_err-accepted-clause-work_after c = run_unread_work _ _ _ _ _ _ c.read_starts.ensures.value _ _ c.in_err-accepted.was _ c.read_starts.ensures.work_after

pub returns-in-Err-clause-value : goal.returns-in-Err-clause-value
returns-in-Err-clause-value c = ap Err c.into.ensures ∙ run_refused _ _ _ _ _ _ c.read_starts.ensures.value _ _ c.in_ok-accepted.was _ c.read_starts.ensures.starts_after _ c.admit_run.ensures _ c.in-Err.is

pub returns-in-Err-clause-work_after : goal.returns-in-Err-clause-work_after
returns-in-Err-clause-work_after c = run_refused_work _ _ _ _ _ _ c.read_starts.ensures.value _ _ c.in_ok-accepted.was _ c.read_starts.ensures.starts_after _ c.admit_run.ensures _ c.in-Err.is _ _ c.read_starts.auto.work (c.fill.ensures.after (λ y e. e))

pub returns-clause-value : goal.returns-clause-value
returns-clause-value c = run_admitted _ _ _ _ _ _ c.read_starts.ensures.value _ _ c.in_ok-accepted.was _ c.read_starts.ensures.starts_after _ c.admit_run.ensures c.in_default.is _ c.run_function.ensures

pub returns-clause-work_after : goal.returns-clause-work_after
returns-clause-work_after c = run_admitted_work _ _ _ _ _ _ c.read_starts.ensures.value _ _ c.in_ok-accepted.was _ c.read_starts.ensures.starts_after _ c.admit_run.ensures c.in_default.is _ c.run_function.ensures _ c.read_starts.ensures.work_after
