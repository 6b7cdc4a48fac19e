-- Each step of lowering adds to the image.
-- Assumes nothing.
use Rattle.std.specs.Prelude.{ℕ, zero, suc, Bool, not, ◌&&◌, ◌||◌, eqb, ltb, None, Some}
use mathlib.Core.List.{List, [], ◌∷◌, ◌++◌}
use Rattle.std.proofs.Math.Option.{Option, none, some}
use Rattle.rl_spec.specs.declared.Section.TheVariants.{Expressions, Statements}
use Rattle.rl_spec.specs.declared.Sort.{Sort}
use Rattle.rl_spec.specs.declared.Sort.TheVariants.{Raw, Byte, Scalar, Part, One, Maybe, Many, Range, OperandSort, Operand}
use Rattle.rl_spec.specs.declared.Target.{Target}
use Rattle.rl_spec.specs.Answers.{Optional}
use Rattle.rl_spec.specs.declared.Clause.{Clause}
use Rattle.rl_spec.specs.Schema.{sort_of, fields_of}
use Rattle.rl_spec.specs.Image.{Field, num, Rec, Image, record_of, field_of, first}
use Rattle.rl_spec.specs.Tree.{ascii, number, below, descend_by, descend}
use Rattle.rl_spec.specs.Ranges.{optional}
use Rattle.rl_spec.specs.FnContracts.{RefineOperand, integer, str, bool, param, ParamRefinement, Param, is_empty}
use Rattle.rl_spec.specs.Message.{decimal}
use Rattle.rl_spec.specs.Make.{Make, made, new_stmt, entries_of}
use Rattle.rl_spec.specs.Lower.{expr, ident, str_lit, err_lit, res_call, msg_expr_by, msg_expr, is_node, clone_entries, clone_field, clone_fields, is_lambda, clone_record, deep_clone_expr, violation, only_if, guard, clause_guard, declare, return_of, skip_err, wrap_as, wrap_return, operand_expr, refine_predicate, transform_list, transform_branch_by, transform_branch, transform_else, transform_arm_by, transform_arm, conditional, match, loop, only, transform_statement_by, transform_statement, refinement_guard, last_of, wrap_trailing, ensured_body, desugar_fn_contracts, new_body}
use Rattle.rl_images.specs.Lowering.Adds.{Adds, adds_give, adds_bind, adds_here, adds_flag, adds_temp, adds_cond, adds_append, adds_text, adds_list, adds_stmt, adds_each, adds_flat}

-- ---- nodes and statements

pub adds_expr : (kind : ℕ) (fields : List Field) → Adds (expr kind fields)
unfolding expr
adds_expr kind fields = record { tracks = λ c e. (adds_append Expressions tt (made kind (num c.span ∷ fields) ∷ [])).tracks c e }

pub adds_new : (kind : ℕ) (fields : List Field) → Adds (new_stmt kind fields)
adds_new kind fields = record { tracks = λ c e. (adds_stmt kind c.span fields).tracks c e }

pub adds_ident : (name : List ℕ) → Adds (ident name)
unfolding ident
adds_ident name = adds_bind (adds_text name) (λ t. adds_expr 30 _)

pub adds_str : (s : List ℕ) → Adds (str_lit s)
unfolding str_lit
adds_str s = adds_bind (adds_text s) (λ t. adds_expr 25 _)

pub adds_err : (msg : ℕ) → Adds (err_lit msg)
unfolding err_lit
adds_err msg = adds_expr 50 _

pub adds_call : (name : List ℕ) (x : ℕ) → Adds (res_call name x)
unfolding res_call
adds_call name x =
    adds_bind (adds_each adds_text _) (λ ts. adds_bind (adds_list ts) (λ path. adds_bind (adds_list _) (λ args. adds_expr 41 _)))

adds_msg_by : (message : Optional) (default : List ℕ) → Adds (msg_expr_by message default)
adds_msg_by None default = adds_str default
adds_msg_by (Some n) default = adds_give n

pub adds_msg : (clause : Clause) (default : List ℕ) → Adds (msg_expr clause default)
adds_msg clause = adds_msg_by clause.message

pub adds_violation : (msg : ℕ) → Adds (violation msg)
unfolding violation
adds_violation msg =
    adds_bind (adds_err msg)
    (λ err.
    adds_bind adds_flag (λ is_result. adds_cond is_result (adds_new 66 _) (adds_bind (adds_call _ err) (λ abort. adds_new 65 _))))

pub adds_only_if : (condition s : ℕ) → Adds (only_if condition s)
unfolding only_if
adds_only_if condition s = adds_bind (adds_list _) (λ body. adds_bind (adds_new 69 _) (λ branch. adds_new 68 _))

pub adds_declare : (name : List ℕ) (value : ℕ) → Adds (declare name value)
unfolding declare
adds_declare name value = adds_bind (adds_text name) (λ t. adds_new 64 _)

pub adds_return : (temp : List ℕ) → Adds (return_of temp)
unfolding return_of
adds_return temp = adds_bind (adds_ident temp) (λ n. adds_new 66 _)

-- ---- copies

adds_descend : {A : Type 0} {d : ℕ → Make A} {step : ℕ → (ℕ → Make A) → Make A} → ((i : ℕ) → Adds (d i)) →
    ((i : ℕ) (walk : ℕ → Make A) → ((j : ℕ) → Adds (walk j)) → Adds (step i walk)) → (i : ℕ) → Adds (descend d step i)
unfolding descend_by descend
adds_descend {A} {d} {step} g h i = go (suc i) i
  where
    go : (fuel i : ℕ) → Adds (descend_by d step fuel i)
    go zero i = g i
    go (suc fuel) i = h i (below i d (descend_by d step fuel)) (λ j. adds_cond (ltb j i) (go fuel j) (g j))

module _ (clone : ℕ → Make ℕ) (h : (j : ℕ) → Adds (clone j)) where
  pub adds_entries : (l r : Target) (ns : List ℕ) → Adds (clone_entries clone l r ns)
  unfolding clone_entries
  adds_entries l r [] = adds_give []
  adds_entries l r (n ∷ ns) =
      adds_bind (adds_cond (is_node l) (h n) (adds_give n)) (λ m. adds_bind (adds_entries r l ns) (λ ms. adds_give (m ∷ ms)))

  pub adds_field : (o : Sort) (f : Field) → Adds (clone_field clone o f)
  adds_field (Raw n) f = adds_give f
  adds_field (Byte low high) f = adds_give f
  adds_field Scalar f = adds_give f
  adds_field Part f = adds_give f
  adds_field (One t) f = adds_cond (is_node t) (adds_bind (h (first f)) (λ n. adds_give (num n))) (adds_give f)
  adds_field (Maybe t) f = adds_give f
  adds_field (Many l r n) f =
      adds_cond (is_node l || is_node r) (adds_bind adds_here (λ im. adds_bind (adds_entries l r (entries_of im f)) adds_list))
      (adds_give f)
  adds_field (Range o) f = adds_give f
  adds_field OperandSort f = adds_give f
  adds_field Operand f = adds_give f

  pub adds_fields : (cs : List ℕ) (fs : List Field) → Adds (clone_fields clone cs fs)
  unfolding clone_fields
  adds_fields [] fs = adds_give []
  adds_fields (c ∷ cs) [] = adds_give []
  adds_fields (c ∷ cs) (f ∷ fs) = adds_bind (adds_field (sort_of c) f) (λ g. adds_bind (adds_fields cs fs) (λ gs. adds_give (g ∷ gs)))

  adds_record : (id : ℕ) (r : Rec) → Adds (clone_record clone id r)
  adds_record id r =
      adds_cond (is_lambda r.kind) (adds_give id)
      (adds_bind (adds_fields (fields_of r.kind) r.fields) (λ fs. adds_append Expressions tt (made r.kind fs ∷ [])))

pub adds_clone : (id : ℕ) → Adds (deep_clone_expr id)
unfolding deep_clone_expr
adds_clone id = adds_descend adds_give (λ i clone h. adds_bind adds_here (λ im. adds_record clone h i (record_of im Expressions i))) id

-- ---- guards and wrapped returns

pub adds_guard : (pred msg : ℕ) → Adds (guard pred msg)
unfolding guard
adds_guard pred msg =
    adds_bind (adds_clone pred)
    (λ copy. adds_bind (adds_expr 33 _) (λ neg. adds_bind (adds_violation msg) (λ s. adds_only_if neg s)))

pub adds_clause : (default : List ℕ) (clause : Clause) → Adds (clause_guard default clause)
adds_clause default clause = adds_bind (adds_msg clause default) (λ msg. adds_guard clause.condition msg)

pub adds_skip : (temp : List ℕ) → Adds (skip_err temp)
adds_skip temp =
    adds_bind (adds_ident temp)
    (λ n. adds_bind (adds_call _ n) (λ check. adds_bind (adds_return temp) (λ s. adds_bind (adds_only_if check s) (λ skip. adds_give _))))

pub adds_wrap_as : (temp : List ℕ) (is_result : Bool) (value : ℕ) (ensures : List Clause) → Adds (wrap_as temp is_result value ensures)
unfolding wrap_as
adds_wrap_as temp is_result value ensures =
    adds_bind (adds_declare temp value)
    (λ dec.
    adds_bind (adds_cond is_result (adds_skip temp) (adds_give []))
    (λ skip.
    adds_bind (adds_ident temp)
    (λ n.
    adds_bind (adds_cond is_result (adds_call _ n) (adds_give n))
    (λ inner.
    adds_bind (adds_declare _ inner)
    (λ ret. adds_bind (adds_each (adds_clause _) ensures) (λ guards. adds_bind (adds_return temp) (λ s. adds_give _)))))))

pub adds_wrap : (value : ℕ) (ensures : List Clause) → Adds (wrap_return value ensures)
unfolding wrap_return
adds_wrap value ensures = adds_bind adds_temp (λ n. adds_bind adds_flag (λ is_result. adds_wrap_as (ascii "__ensure_ret_" ++ decimal n) is_result value ensures))

pub adds_operand : (im : Image) (o : RefineOperand ℕ) → Adds (operand_expr im o)
adds_operand im (integer v) = adds_expr 17 _
adds_operand im (str s) = adds_str _
adds_operand im (bool b) = adds_expr 26 _
adds_operand im (param p) = adds_ident _

pub adds_predicate : (im : Image) (name : ℕ) (refinement : ParamRefinement ℕ) → Adds (refine_predicate im name refinement)
unfolding refine_predicate
adds_predicate im name refinement =
    adds_bind (adds_operand im refinement.operand) (λ right. adds_bind (adds_ident _) (λ left. adds_expr 32 _))

pub adds_refinement : (im : Image) (name : ℕ) (refinement : Option (ParamRefinement ℕ)) → Adds (refinement_guard im name refinement)
adds_refinement im name none = adds_give []
adds_refinement im name (some refinement) =
    adds_bind (adds_predicate im name refinement) (λ pred. adds_bind (adds_str _) (λ msg. adds_bind (adds_guard pred msg) (λ s. adds_give _)))

-- ---- the returns of a body

module _ (walk : ℕ → Make (List ℕ)) (h : (s : ℕ) → Adds (walk s)) where
  pub adds_body : (list : Field) → Adds (transform_list walk list)
  adds_body list = adds_bind adds_here (λ im. adds_bind (adds_flat h (entries_of im list)) adds_list)

  pub adds_branch_by : (s : ℕ) (r : Rec) → Adds (transform_branch_by walk s r)
  adds_branch_by s r =
      adds_cond (eqb r.kind 69) (adds_bind (adds_body (field_of r 2)) (λ body. adds_stmt 69 (number r 0) _)) (adds_give s)

  pub adds_branch : (s : ℕ) → Adds (transform_branch walk s)
  unfolding transform_branch
  adds_branch s = adds_bind adds_here (λ im. adds_branch_by s (record_of im Statements s))

  pub adds_else : (s : Optional) → Adds (transform_else walk s)
  adds_else None = adds_give None
  adds_else (Some s) = adds_bind (adds_branch s) (λ n. adds_give (Some n))

  pub adds_arm_by : (r : Rec) → Adds (transform_arm_by walk r)
  adds_arm_by r = adds_bind (adds_body (field_of r 2)) (λ body. adds_stmt 76 (number r 0) _)

  pub adds_arm : (s : ℕ) → Adds (transform_arm walk s)
  unfolding transform_arm
  adds_arm s = adds_bind adds_here (λ im. adds_arm_by (record_of im Statements s))

  pub adds_conditional : (r : Rec) → Adds (conditional walk r)
  adds_conditional r =
      adds_bind (adds_branch (number r 1)) (λ branch. adds_bind (adds_else (optional (field_of r 2))) (λ other. adds_stmt 68 (number r 0) _))

  pub adds_match : (r : Rec) → Adds (match walk r)
  adds_match r =
      adds_bind adds_here
      (λ im. adds_bind (adds_each adds_arm (entries_of im (field_of r 2))) (λ ss. adds_bind (adds_list ss) (λ arms. adds_stmt 75 (number r 0) _)))

  pub adds_loop : (r : Rec) (kept : List Field) (list : Field) → Adds (loop walk r kept list)
  adds_loop r kept list = adds_bind (adds_body list) (λ body. adds_stmt r.kind (number r 0) _)

  pub adds_only : {m : Make ℕ} → Adds m → Adds (only walk m)
  adds_only p = adds_bind p (λ s. adds_give (s ∷ []))

  pub adds_statement_by : (ensures : List Clause) (s : ℕ) (r : Rec) → Adds (transform_statement_by walk ensures s r)
  adds_statement_by ensures s r =
      adds_cond (eqb r.kind 66) (adds_wrap (number r 1) ensures)
      (adds_cond (eqb r.kind 67) (adds_bind (adds_expr 16 []) (λ null. adds_wrap null ensures))
      (adds_cond (eqb r.kind 68) (adds_only (adds_conditional r))
      (adds_cond (eqb r.kind 70) (adds_only (adds_loop r (field_of r 1 ∷ []) (field_of r 2)))
      (adds_cond (eqb r.kind 71) (adds_only (adds_loop r [] (field_of r 1)))
      (adds_cond (eqb r.kind 72) (adds_only (adds_loop r (field_of r 1 ∷ field_of r 2 ∷ field_of r 3 ∷ []) (field_of r 4)))
      (adds_cond (eqb r.kind 73) (adds_only (adds_loop r (field_of r 1 ∷ field_of r 2 ∷ []) (field_of r 3)))
      (adds_cond (eqb r.kind 74) (adds_only (adds_loop r (field_of r 1 ∷ field_of r 2 ∷ []) (field_of r 3)))
      (adds_cond (eqb r.kind 75) (adds_only (adds_match r)) (adds_give (s ∷ []))))))))))

pub adds_statement : (ensures : List Clause) (s : ℕ) → Adds (transform_statement ensures s)
unfolding transform_statement
adds_statement ensures s =
    adds_descend (λ i. adds_give (i ∷ [])) (λ i walk h. adds_bind adds_here (λ im. adds_statement_by walk h ensures i (record_of im Statements i))) s

pub adds_trailing : (ensures : List Clause) (body : List ℕ) → Adds (wrap_trailing ensures body)
unfolding wrap_trailing
adds_trailing ensures body =
    adds_bind adds_here
    (λ im.
    adds_cond (not (is_empty body) && eqb (last_of im body).kind 65) (adds_bind (adds_wrap _ ensures) (λ seq. adds_give _)) (adds_give body))

pub adds_ensured : (ensures : List Clause) (body : List ℕ) → Adds (ensured_body ensures body)
adds_ensured ensures body = adds_bind (adds_flat (adds_statement ensures) body) (adds_trailing ensures)

pub adds_desugar : (params : List (Param ℕ)) (body : List ℕ) (requires ensures : List Clause) → Adds (desugar_fn_contracts params body requires ensures)
unfolding desugar_fn_contracts
adds_desugar params body requires ensures =
    adds_bind adds_here
    (λ im.
    adds_bind (adds_flat (λ p. adds_refinement im p.name p.refinement) params)
    (λ refined.
    adds_bind (adds_each (adds_clause _) requires)
    (λ required. adds_bind (adds_cond (is_empty ensures) (adds_give body) (adds_ensured ensures body)) (λ rest. adds_give _))))

pub adds_new_body : (im : Image) (f : ℕ) → Adds (new_body im f)
unfolding new_body
adds_new_body im f = adds_bind (adds_desugar _ _ _ _) (λ ss. adds_list ss)
