-- In a well-formed image the conditions of a function's clauses are there.
-- Assumes nothing.
use Rattle.std.proofs.Common.{ℕ, ◌+◌, ◌<◌, ◌≤◌, arith}
use Rattle.rl_spec.specs.declared.Interval.{Interval}
use Rattle.rl_spec.specs.declared.Section.TheVariants.{Expressions, Clauses, Functions}
use Rattle.rl_spec.specs.Image.{Image, size_of, WellFormed}
use Rattle.rl_spec.specs.Records.{clause_at, function_at}
use Rattle.rl_images.specs.Images.FunctionFields.{clause_fits, function_fits}
use Rattle.rl_context.specs.Guards.{ConditionsIn}

module _ (im : Image) (wf : WellFormed im) where
  condition_in : (i : ℕ) → i < size_of im Clauses → (clause_at im i).condition < size_of im Expressions
  unfolding clause_at
  condition_in i p = (clause_fits im wf i p).0

  pub conditions_in : (clauses : Interval) → clauses.first + clauses.count ≤ size_of im Clauses → ConditionsIn im clauses (size_of im Expressions)
  conditions_in clauses h i l = condition_in (clauses.first + i) (omega (arith, h, l))

  module _ (f : ℕ) (p : f < size_of im Functions) where
    pub required_in : ConditionsIn im (function_at im f).required (size_of im Expressions)
    unfolding function_at
    required_in = conditions_in (function_at im f).required (function_fits im wf f p).required

    pub ensured_in_lem : ConditionsIn im (function_at im f).ensured (size_of im Expressions)
    unfolding function_at
    ensured_in_lem = conditions_in (function_at im f).ensured (function_fits im wf f p).ensured
