-- What the records of parameters, clauses, functions and calls say.
use Rattle.std.specs.Prelude.{ℕ, ◌%◌, cond, ◌==◌, None}
use Rattle.rl_spec.specs.declared.Section.TheVariants.{Parameters, Clauses, Functions, Calls}
use Rattle.rl_spec.specs.declared.RefineOp.{RefineOp}
use Rattle.rl_spec.specs.declared.RefineOp.TheVariants.{Gt, Ge, Lt, Le, Eq, Ne}
use Rattle.rl_spec.specs.declared.RefineOperand.{RefineOperand}
use Rattle.rl_spec.specs.declared.RefineOperand.TheVariants.{Integer, Str, Bool, Param as Named}
use Rattle.rl_spec.specs.Answers.{ParamRefinement, refined}
use Rattle.rl_spec.specs.declared.Param.{Param}
use Rattle.rl_spec.specs.declared.Clause.{Clause}
use Rattle.rl_spec.specs.declared.Function.{Function}
use Rattle.rl_spec.specs.declared.Call.{Call}
use Rattle.rl_spec.specs.Image.{Rec, Image, record_of, field_of}
use Rattle.rl_spec.specs.Ranges.{interval, optional}
use Rattle.rl_spec.specs.Tree.{signed, number}

-- 1 Gt, 2 Ge, 3 Lt, 4 Le, 5 Eq, 6 Ne
abbrev pub refine_op : ℕ → RefineOp
refine_op n =
    cond (n == 1) Gt (cond (n == 2) Ge (cond (n == 3) Lt (cond (n == 4) Le (cond (n == 5) Eq Ne))))

-- by its sort: 1 Integer, 2 Str, 3 Bool, 4 Param; a text is in the first two bytes
abbrev pub refine_operand : ℕ → ℕ → RefineOperand
refine_operand sort x =
    cond (sort == 1) (Integer (signed 64 x)) (cond (sort == 2) (Str (x % 65536)) (cond (sort == 3) (Bool (x == 1)) (Named (x % 65536))))

abbrev pub refinement_by : ℕ → ℕ → ℕ → ParamRefinement
refinement_by refinement sort x = cond (refinement == 0) None (refined (refine_op refinement) (refine_operand sort x))

-- name, type, refinement, operand's sort, operand
abbrev pub param_by : Rec → Param
param_by r = record { name = number r 0; refinement = refinement_by (number r 2) (number r 3) (number r 4) }

-- condition, message or none
abbrev pub clause_by : Rec → Clause
clause_by r = record { condition = number r 0; message = optional (field_of r 1) }

-- name, span, parameters, result flag, body, requires, ensures
abbrev pub function_by : Rec → Function
function_by r =
    record {
      name = number r 0;
      span = number r 1;
      params = interval (field_of r 2);
      result = (number r 3 == 1);
      body = interval (field_of r 4);
      required = interval (field_of r 5);
      ensured = interval (field_of r 6);
    }

-- callee, span, arguments
abbrev pub call_by : Rec → Call
call_by r = record { callee = number r 0; span = number r 1; args = interval (field_of r 2) }

-- those of an image
unfoldable pub param_at : Image → ℕ → Param
param_at im i = param_by (record_of im Parameters i)

unfoldable pub clause_at : Image → ℕ → Clause
clause_at im i = clause_by (record_of im Clauses i)

unfoldable pub function_at : Image → ℕ → Function
function_at im i = function_by (record_of im Functions i)

unfoldable pub call_at : Image → ℕ → Call
call_at im i = call_by (record_of im Calls i)
