-- The text of a report, as rl-checker's contracts.rs makes it.
use Rattle.std.specs.Prelude.{ℕ, zero, suc, ◌+◌, ◌/◌, ◌%◌, Bool, true, false, cond, List, [], ◌∷◌, ◌++◌, ℤ, pos, negsuc, nat_lt}
use Rattle.std.proofs.Math.Option.{Option, none, some, map}
use Rattle.rl_spec.specs.declared.Clause.{Clause}
use Rattle.rl_spec.specs.declared.Violation.{Violation}
use Rattle.rl_spec.specs.declared.Violation.TheVariants.{Refinement, Requires}
use Rattle.rl_spec.specs.Image.{Image, text_of}
use Rattle.rl_spec.specs.Values as value
use Rattle.rl_spec.specs.Values.{ConstVal, RefineOp, gt, ge, lt, le, eq, ne}
use Rattle.rl_spec.specs.Tree.{Expr, null, literal, identifier, unary, binary, grouping, assign, ok_literal, err_literal, is_err, result_unwrap, other, ascii, optional_tree}
use Rattle.rl_spec.specs.Records.{clause_at, function_at}
use Rattle.rl_spec.specs.Mapped.{Text, map_param}
use Rattle.rl_spec.specs.FnContracts.{RefineOperand, integer, str, bool, param, ParamRefinement, Param, param_of, callee_of}

-- ---- decimal digits; a number of 64 bits has at most 20

unfoldable pub decimal_by : ℕ → ℕ → List ℕ
decimal_by zero n = []
decimal_by (suc k) n = cond (nat_lt n 10) ((48 + n) ∷ []) (decimal_by k (n / 10) ++ ((48 + n % 10) ∷ []))

unfoldable pub decimal : ℕ → List ℕ
decimal n = decimal_by 20 n

abbrev pub integer_text : ℤ → List ℕ
integer_text (pos n) = decimal n
integer_text (negsuc n) = ascii "-" ++ decimal (suc n)

-- ---- a refinement

abbrev pub refine_op_str : RefineOp → List ℕ
refine_op_str gt = ascii ">"
refine_op_str ge = ascii ">="
refine_op_str lt = ascii "<"
refine_op_str le = ascii "<="
refine_op_str eq = ascii "=="
refine_op_str ne = ascii "!="

abbrev pub bool_text : Bool → List ℕ
bool_text true = ascii "true"
bool_text false = ascii "false"

-- a text stands in quotes as it is
abbrev pub operand_str : RefineOperand Text → Text
operand_str (integer x) = integer_text x
operand_str (str t) = ascii "\"" ++ t ++ ascii "\""
operand_str (bool b) = bool_text b
operand_str (param t) = t

abbrev pub refinement_text : Text → Option (ParamRefinement Text) → Text
refinement_text name none = []
refinement_text name (some r) =
    ascii "refinement failed: " ++ name ++ ascii " " ++ refine_op_str r.op ++ ascii " " ++ operand_str r.operand

abbrev pub param_text : Param Text → Text
param_text p = refinement_text p.name p.refinement

-- ---- clause_message: the clause's own text, where its message is a String

abbrev pub string_of : {T : Type 0} → Option (ConstVal T) → Option T
string_of none = none
string_of (some (value.int x)) = none
string_of (some (value.float x)) = none
string_of (some (value.str t)) = some t
string_of (some (value.bool x)) = none

abbrev pub string_in : {T : Type 0} → Expr T → Option T
string_in null = none
string_in (literal v) = string_of v
string_in (identifier t) = none
string_in (unary op e) = none
string_in (binary l op r) = none
string_in (grouping e) = none
string_in (assign t e) = none
string_in (ok_literal e) = none
string_in (err_literal e) = none
string_in (is_err e) = none
string_in (result_unwrap e) = none
string_in other = none

abbrev pub own_string : {T : Type 0} → Option (Expr T) → Option T
own_string none = none
own_string (some e) = string_in e

abbrev pub or_default : Option Text → Text → Text
or_default none text = text
or_default (some t) text = t

abbrev pub clause_message : Image → Clause → Text → Text
clause_message im clause default = or_default (map (text_of im) (own_string (optional_tree im clause.message))) default

-- ---- a report of a function's contracts

abbrev pub default_text : Image → ℕ → Violation → Text
default_text im f (Refinement n) = param_text (map_param (text_of im) (param_of im ((function_at im f).params.first + n)))
default_text im f (Requires n) = ascii "requires violated"

-- a refinement has no text of its own
abbrev pub message_with : Image → ℕ → Violation → Text → Text
message_with im f (Refinement n) default = default
message_with im f (Requires n) default = clause_message im (clause_at im ((function_at im f).required.first + n)) default

unfoldable pub message_by : Image → ℕ → Violation → Text
message_by im f v = message_with im f v (default_text im f v)

unfoldable pub opening : List ℕ
opening = ascii "contract violation (proven at compile time): "

-- THE MESSAGE of a report of a call
abbrev pub message_for : Image → Option ℕ → Violation → List ℕ
message_for im none v = []
message_for im (some f) v = opening ++ message_by im f v

unfoldable pub message_of : Image → ℕ → Violation → List ℕ
message_of im call v = message_for im (callee_of im call) v
