-- Another account of the texts: f of each text of a value, a tree, an item or contracts. With `text_of im` the texts are bytes.
use Rattle.std.specs.Prelude.{ℕ, List, map}
use Rattle.std.proofs.Math.Option
use Rattle.rl_spec.specs.Values as value
use Rattle.rl_spec.specs.Values.{ConstVal}
use Rattle.rl_spec.specs.Tree.{Expr, null, literal, identifier, unary, binary, grouping, assign, ok_literal, err_literal, is_err, result_unwrap, other}
use Rattle.rl_spec.specs.Statement.{Stmt, declaration, expression, return, return_alone, conditional, while, loop, break, continue, other_statement, Body, nil, ◌▸◌, Branch, branch, Else, no_else, else_branch, else_conditional, Item, a_statement, a_branch}
use Rattle.rl_spec.specs.FnContracts.{RefineOperand, integer, str, bool, param, ParamRefinement, Param, ContractClause, FnContracts}
use Rattle.rl_spec.specs.Run.{Plain, nothing, folded, Value, plain, ok, err, Outcome, returned, stopped, fault, spent}

-- a text as its bytes
abbrev pub Text : Type 0
Text = List ℕ

module _ {A B : Type 0} (f : A → B) where
  abbrev pub map_const : ConstVal A → ConstVal B
  map_const (value.int x) = value.int x
  map_const (value.float x) = value.float x
  map_const (value.str t) = value.str (f t)
  map_const (value.bool b) = value.bool b

  abbrev pub map_plain : Plain A → Plain B
  map_plain nothing = nothing
  map_plain (folded v) = folded (map_const v)

  abbrev pub map_value : Value A → Value B
  map_value (plain p) = plain (map_plain p)
  map_value (ok p) = ok (map_plain p)
  map_value (err p) = err (map_plain p)

  abbrev pub map_outcome : Outcome A → Outcome B
  map_outcome (returned v) = returned (map_value v)
  map_outcome (stopped p) = stopped (map_plain p)
  map_outcome (fault k) = fault k
  map_outcome spent = spent

  unfoldable pub map_expr : Expr A → Expr B
  map_expr null = null
  map_expr (literal v) = literal (Option.map map_const v)
  map_expr (identifier x) = identifier (f x)
  map_expr (unary op e) = unary op (map_expr e)
  map_expr (binary l op r) = binary (map_expr l) op (map_expr r)
  map_expr (grouping e) = grouping (map_expr e)
  map_expr (assign x e) = assign (f x) (map_expr e)
  map_expr (ok_literal e) = ok_literal (map_expr e)
  map_expr (err_literal e) = err_literal (map_expr e)
  map_expr (is_err e) = is_err (map_expr e)
  map_expr (result_unwrap e) = result_unwrap (map_expr e)
  map_expr other = other

  unfoldable mutual
    pub map_stmt : Stmt A → Stmt B
    map_stmt (declaration x e) = declaration (f x) (map_expr e)
    map_stmt (expression e) = expression (map_expr e)
    map_stmt (return e) = return (map_expr e)
    map_stmt return_alone = return_alone
    map_stmt (conditional b e) = conditional (map_branch b) (map_else e)
    map_stmt (while e b) = while (map_expr e) (map_body b)
    map_stmt (loop b) = loop (map_body b)
    map_stmt break = break
    map_stmt continue = continue
    map_stmt other_statement = other_statement

    pub map_body : Body A → Body B
    map_body nil = nil
    map_body (s ▸ b) = map_stmt s ▸ map_body b

    pub map_branch : Branch A → Branch B
    map_branch (branch c b) = branch (Option.map map_expr c) (map_body b)

    pub map_else : Else A → Else B
    map_else no_else = no_else
    map_else (else_branch b) = else_branch (map_branch b)
    map_else (else_conditional b e) = else_conditional (map_branch b) (map_else e)

  abbrev pub map_item : Item A → Item B
  map_item (a_statement s) = a_statement (map_stmt s)
  map_item (a_branch b) = a_branch (map_branch b)

  abbrev pub map_operand : RefineOperand A → RefineOperand B
  map_operand (integer x) = integer x
  map_operand (str t) = str (f t)
  map_operand (bool b) = bool b
  map_operand (param t) = param (f t)

  abbrev pub map_refinement : ParamRefinement A → ParamRefinement B
  map_refinement r = record { op = r.op; operand = map_operand r.operand }

  abbrev pub map_param : Param A → Param B
  map_param p = record { name = f p.name; refinement = Option.map map_refinement p.refinement }

  abbrev pub map_clause : ContractClause A → ContractClause B
  map_clause c = record { condition = map_expr c.condition; message = Option.map map_expr c.message }

  abbrev pub map_contracts : FnContracts A → FnContracts B
  map_contracts c = record { params = map map_param c.params; requires = map map_clause c.requires }
