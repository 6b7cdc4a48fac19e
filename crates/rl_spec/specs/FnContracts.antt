-- The contracts of a function, under the names of rl-ast's statements.rs, and the callee of a call. T is the type of texts.
use Rattle.std.specs.Prelude.{ℕ, zero, suc, Bool, true, false, cond, not, ◌&&◌, ◌||◌, List, [], ◌∷◌, map, ℤ, None, Some}
use Rattle.std.proofs.Math.Option.{Option, none, some}
use Rattle.rl_spec.specs.declared.Section.TheVariants.{Functions}
use Rattle.rl_spec.specs.declared.RefineOperand as operand
use Rattle.rl_spec.specs.declared.RefineOperand.TheVariants.{Integer, Str, Bool as Truth, Param as Named}
use Rattle.rl_spec.specs.Answers as declared
use Rattle.rl_spec.specs.Image.{Image, size_of, entry_of, text_of}
use Rattle.rl_spec.specs.Values.{RefineOp, same_text}
use Rattle.rl_spec.specs.Folded.{op_of}
use Rattle.rl_spec.specs.Tree.{Expr, expr_tree, optional_tree}
use Rattle.rl_spec.specs.Ranges.{numbers_in}
use Rattle.rl_spec.specs.Records.{param_at, clause_at, function_at, call_at}

pub data RefineOperand (T : Type 0) : Type 0 where
  integer : ℤ → RefineOperand T
  str : T → RefineOperand T
  bool : Bool → RefineOperand T
  param : T → RefineOperand T

pub record ParamRefinement (T : Type 0) : Type 0 where
  pub op : RefineOp
  pub operand : RefineOperand T

pub record Param (T : Type 0) : Type 0 where
  pub name : T
  pub refinement : Option (ParamRefinement T)

pub record ContractClause (T : Type 0) : Type 0 where
  pub condition : Expr T
  pub message : Option (Expr T)

pub record FnContracts (T : Type 0) : Type 0 where
  pub params : List (Param T)
  pub requires : List (ContractClause T)

-- ---- those of an image

abbrev pub operand_of : operand.RefineOperand → RefineOperand ℕ
operand_of (Integer x) = integer x
operand_of (Str t) = str t
operand_of (Truth b) = bool b
operand_of (Named t) = param t

abbrev pub refinement_of : declared.ParamRefinement → Option (ParamRefinement ℕ)
refinement_of None = none
refinement_of (Some r) = some (record { op = op_of r.op; operand = operand_of r.operand })

unfoldable pub param_of : Image → ℕ → Param ℕ
param_of im i = record { name = (param_at im i).name; refinement = refinement_of (param_at im i).refinement }

unfoldable pub clause_of : Image → ℕ → ContractClause ℕ
clause_of im i =
    record {
      condition = expr_tree im (clause_at im i).condition;
      message = optional_tree im (clause_at im i).message;
    }

unfoldable pub contracts_of : Image → ℕ → FnContracts ℕ
contracts_of im f =
    record {
      params = map (param_of im) (numbers_in (function_at im f).params);
      requires = map (clause_of im) (numbers_in (function_at im f).required);
    }

-- ---- the callee of a call

abbrev pub is_some : {A : Type 0} → Option A → Bool
is_some none = false
is_some (some a) = true

unfoldable pub any_refined : {T : Type 0} → List (Param T) → Bool
any_refined [] = false
any_refined (p ∷ ps) = is_some p.refinement || any_refined ps

abbrev pub is_empty : {A : Type 0} → List A → Bool
is_empty [] = true
is_empty (a ∷ l) = false

-- `record_fn_contracts` skips a function without requires and without a refinement
abbrev pub record_fn_contracts : {T : Type 0} → FnContracts T → Bool
record_fn_contracts f = not (is_empty f.requires) || any_refined f.params

unfoldable pub is_callee : Image → List ℕ → ℕ → Bool
is_callee im name f = same_text (text_of im (function_at im f).name) name && record_fn_contracts (contracts_of im f)

-- the last of the first n functions of that name that has requires or a refinement
unfoldable pub callee_among : Image → List ℕ → ℕ → Option ℕ
callee_among im name zero = none
callee_among im name (suc n) = cond (is_callee im name n) (some n) (callee_among im name n)

unfoldable pub callee_of : Image → ℕ → Option ℕ
callee_of im call = callee_among im (text_of im (call_at im call).callee) (size_of im Functions)

unfoldable pub arguments_of : Image → ℕ → List (Expr ℕ)
arguments_of im call = map (λ k. expr_tree im (entry_of im k)) (numbers_in (call_at im call).args)
