-- Lowering on records: rl-resolver's contracts.rs, function by function. What is made is appended to the image, in the order in which
-- the Rust makes it; a statement is made when the Rust has finished it, after all that stands inside it.
use Rattle.std.specs.Prelude.{ℕ, ◌-◌, Bool, true, false, cond, not, ◌&&◌, ◌||◌, List, [], ◌∷◌, ◌++◌, map, length, take, ◌==◌, nat_lt, slice_index, slice_set, None, Some}
use Rattle.std.proofs.Math.Option.{Option, none, some}
use Rattle.rl_spec.specs.declared.Section.TheVariants.{Expressions, Statements, Functions}
use Rattle.rl_spec.specs.declared.Target.{Target}
use Rattle.rl_spec.specs.declared.Target.TheVariants.{Text, Expression, Statement, Branch, ElseBranch, Arm}
use Rattle.rl_spec.specs.declared.Sort.{Sort}
use Rattle.rl_spec.specs.declared.Sort.TheVariants.{Raw, Byte, Scalar, Part, One, Maybe, Many, Range, OperandSort, Operand}
use Rattle.rl_spec.specs.Answers.{Optional}
use Rattle.rl_spec.specs.declared.Clause.{Clause}
use Rattle.rl_spec.specs.Schema.{sort_of, fields_of}
use Rattle.rl_spec.specs.Image.{Field, num, Rec, Image, records_of, record_of, field_of, first, entry_of, text_of, encode}
use Rattle.rl_spec.specs.Values.{RefineOp, gt, ge, lt, le, eq, ne}
use Rattle.rl_spec.specs.Tree.{ascii, number, descend}
use Rattle.rl_spec.specs.Words.{bits64}
use Rattle.rl_spec.specs.Records.{clause_at, function_at}
use Rattle.rl_spec.specs.Ranges.{optional, optional_field, numbers_in}
use Rattle.rl_spec.specs.FnContracts.{RefineOperand, integer, str, bool, param, ParamRefinement, Param, param_of, any_refined, is_empty}
use Rattle.rl_spec.specs.Mapped.{map_refinement}
use Rattle.rl_spec.specs.Message.{decimal, refinement_text}
use Rattle.rl_spec.specs.Make.{Context, Make, ◌>>=◌, give, image_so_far, result_flag, take_temp, each, flat_map, with_records, append, made, new_text, new_list, stmt, new_stmt, entries_of}

-- ---- Ctx: expr to msg_expr. The texts of a new record come before it, those of a path before its list.

unfoldable pub expr : ℕ → List Field → Make ℕ
expr kind fields ctx = append Expressions (made kind (num ctx.span ∷ fields) ∷ []) ctx

unfoldable pub ident : List ℕ → Make ℕ
ident name = do
  t ← new_text name
  expr 30 (num t ∷ [])

unfoldable pub str_lit : List ℕ → Make ℕ
str_lit s = do
  t ← new_text s
  expr 25 (num t ∷ [])

unfoldable pub err_lit : ℕ → Make ℕ
err_lit msg = expr 50 (num msg ∷ [])

-- `std::res::NAME(x)`
unfoldable pub res_call : List ℕ → ℕ → Make ℕ
res_call name x = do
  ts ← each new_text (ascii "std" ∷ ascii "res" ∷ name ∷ [])
  path ← new_list ts
  args ← new_list (x ∷ [])
  expr 41 (path ∷ args ∷ [])

abbrev pub unwrap_call : ℕ → Make ℕ
unwrap_call = res_call (ascii "result_unwrap")

abbrev pub is_err_call : ℕ → Make ℕ
is_err_call = res_call (ascii "is_err")

-- a clause's own message is shared, not copied
abbrev pub msg_expr_by : Optional → List ℕ → Make ℕ
msg_expr_by None default = str_lit default
msg_expr_by (Some n) default = give n

abbrev pub msg_expr : Clause → List ℕ → Make ℕ
msg_expr clause default = msg_expr_by clause.message default

-- ---- deep_clone_expr: the children field by field, then the node with its kind, its span and what else it has. No kind has a node
-- behind a list of nodes, so the list comes after all the children.

abbrev pub is_node : Target → Bool
is_node Text = false
is_node Expression = true
is_node Statement = false
is_node Branch = false
is_node ElseBranch = false
is_node Arm = false

-- the entries of a list, by turns a left and a right; a text is kept
unfoldable pub clone_entries : (ℕ → Make ℕ) → Target → Target → List ℕ → Make (List ℕ)
clone_entries clone l r [] = give []
clone_entries clone l r (n ∷ ns) = do
  m ← cond (is_node l) (clone n) (give n)
  ms ← clone_entries clone r l ns
  give (m ∷ ms)

-- a path and a method, lists of texts, are kept. Only statements and clauses have a node or none.
abbrev pub clone_field : (ℕ → Make ℕ) → Sort → Field → Make Field
clone_field clone (Raw n) f = give f
clone_field clone (Byte low high) f = give f
clone_field clone Scalar f = give f
clone_field clone Part f = give f
clone_field clone (One t) f = cond (is_node t) (clone (first f) >>= λ n. give (num n)) (give f)
clone_field clone (Maybe t) f = give f
clone_field clone (Many l r n) f =
    cond (is_node l || is_node r) (image_so_far >>= λ im. clone_entries clone l r (entries_of im f) >>= new_list) (give f)
clone_field clone (Range o) f = give f
clone_field clone OperandSort f = give f
clone_field clone Operand f = give f

unfoldable pub clone_fields : (ℕ → Make ℕ) → List ℕ → List Field → Make (List Field)
clone_fields clone [] fs = give []
clone_fields clone (c ∷ cs) [] = give []
clone_fields clone (c ∷ cs) (f ∷ fs) = do
  g ← clone_field clone (sort_of c) f
  gs ← clone_fields clone cs fs
  give (g ∷ gs)

-- the id of a Lambda or a ResolvedLambda is returned
abbrev pub is_lambda : ℕ → Bool
is_lambda kind = kind == 56 || kind == 57

abbrev pub clone_record : (ℕ → Make ℕ) → ℕ → Rec → Make ℕ
clone_record clone id r =
    cond (is_lambda r.kind) (give id)
    (clone_fields clone (fields_of r.kind) r.fields >>= λ fs. append Expressions (made r.kind fs ∷ []))

unfoldable pub deep_clone_expr : ℕ → Make ℕ
deep_clone_expr = descend give (λ id clone. image_so_far >>= λ im. clone_record clone id (record_of im Expressions id))

-- ---- Ctx: violation to refine_predicate

unfoldable pub violation : ℕ → Make ℕ
violation msg = do
  err ← err_lit msg
  is_result ← result_flag
  cond is_result (new_stmt 66 (num err ∷ [])) (unwrap_call err >>= λ abort. new_stmt 65 (num abort ∷ []))

-- `if (condition) { s }`: the list, the branch with needs_scope false, the conditional
unfoldable pub only_if : ℕ → ℕ → Make ℕ
only_if condition s = do
  body ← new_list (s ∷ [])
  branch ← new_stmt 69 (num condition ∷ body ∷ num 0 ∷ [])
  new_stmt 68 (num branch ∷ optional_field None ∷ [])

-- operator 5 is Bang
unfoldable pub guard : ℕ → ℕ → Make ℕ
guard pred msg = do
  copy ← deep_clone_expr pred
  neg ← expr 33 (num 5 ∷ num copy ∷ [])
  s ← violation msg
  only_if neg s

abbrev pub clause_guard : List ℕ → Clause → Make ℕ
clause_guard default clause = do
  msg ← msg_expr clause default
  guard clause.condition msg

-- `dec name = value`, of the type Infer
unfoldable pub declare : List ℕ → ℕ → Make ℕ
declare name value = do
  t ← new_text name
  new_stmt 64 (num t ∷ num 0 ∷ num value ∷ num 0 ∷ [])

unfoldable pub return_of : List ℕ → Make ℕ
return_of temp = do
  n ← ident temp
  new_stmt 66 (num n ∷ [])

-- of a result function: `if (std::res::is_err(temp)) { return temp }`
abbrev pub skip_err : List ℕ → Make (List ℕ)
skip_err temp = do
  n ← ident temp
  check ← is_err_call n
  s ← return_of temp
  skip ← only_if check s
  give (skip ∷ [])

-- under the temporary's name
unfoldable pub wrap_as : List ℕ → Bool → ℕ → List Clause → Make (List ℕ)
wrap_as temp is_result value ensures = do
  dec ← declare temp value
  skip ← cond is_result (skip_err temp) (give [])
  n ← ident temp
  inner ← cond is_result (unwrap_call n) (give n)
  ret ← declare (ascii "ret") inner
  guards ← each (clause_guard (ascii "ensures violated")) ensures
  s ← return_of temp
  give (dec ∷ skip ++ ret ∷ guards ++ s ∷ [])

unfoldable pub wrap_return : ℕ → List Clause → Make (List ℕ)
wrap_return value ensures = do
  n ← take_temp
  is_result ← result_flag
  wrap_as (ascii "__ensure_ret_" ++ decimal n) is_result value ensures

-- Greater, GreaterEqual, Less, LessEqual, Compare, BangEqual
abbrev pub token_of : RefineOp → ℕ
token_of gt = 10
token_of ge = 11
token_of lt = 8
token_of le = 9
token_of eq = 6
token_of ne = 7

abbrev pub operand_expr : Image → RefineOperand ℕ → Make ℕ
operand_expr im (integer v) = expr 17 (num (bits64 v) ∷ [])
operand_expr im (str s) = str_lit (text_of im s)
operand_expr im (bool b) = expr 26 (num (cond b 1 0) ∷ [])
operand_expr im (param p) = ident (text_of im p)

-- the right operand is made first
unfoldable pub refine_predicate : Image → ℕ → ParamRefinement ℕ → Make ℕ
refine_predicate im name refinement = do
  right ← operand_expr im refinement.operand
  left ← ident (text_of im name)
  expr 32 (num left ∷ num (token_of refinement.op) ∷ num right ∷ [])

-- ---- transform_returns, transform_branch, transform_statement: `walk` transforms the statements before the one at hand. What is
-- rebuilt keeps its span, its texts, its nodes and its inner statement.

module _ (walk : ℕ → Make (List ℕ)) where
  abbrev pub transform_returns : List ℕ → Make (List ℕ)
  transform_returns stmts = flat_map walk stmts

  -- a record's list, as a new list
  abbrev pub transform_list : Field → Make Field
  transform_list list = do
    im ← image_so_far
    ss ← transform_returns (entries_of im list)
    new_list ss

  -- a 68 as an else branch passes untouched; needs_scope is false
  abbrev pub transform_branch_by : ℕ → Rec → Make ℕ
  transform_branch_by s r =
      cond (r.kind == 69)
      (transform_list (field_of r 2) >>= λ body. stmt 69 (number r 0) (field_of r 1 ∷ body ∷ num 0 ∷ [])) (give s)

  unfoldable pub transform_branch : ℕ → Make ℕ
  transform_branch s = image_so_far >>= λ im. transform_branch_by s (record_of im Statements s)

  abbrev pub transform_else : Optional → Make Optional
  transform_else None = give None
  transform_else (Some s) = transform_branch s >>= λ n. give (Some n)

  -- an arm is finished before the next one is begun
  abbrev pub transform_arm_by : Rec → Make ℕ
  transform_arm_by r = transform_list (field_of r 2) >>= λ body. stmt 76 (number r 0) (field_of r 1 ∷ body ∷ [])

  unfoldable pub transform_arm : ℕ → Make ℕ
  transform_arm s = image_so_far >>= λ im. transform_arm_by (record_of im Statements s)

  abbrev pub conditional : Rec → Make ℕ
  conditional r = do
    branch ← transform_branch (number r 1)
    other ← transform_else (optional (field_of r 2))
    stmt 68 (number r 0) (num branch ∷ optional_field other ∷ [])

  abbrev pub match : Rec → Make ℕ
  match r = do
    im ← image_so_far
    ss ← each transform_arm (entries_of im (field_of r 2))
    arms ← new_list ss
    stmt 75 (number r 0) (field_of r 1 ∷ arms ∷ [])

  -- a loop: its fields before its list, which is the last, are kept
  abbrev pub loop : Rec → List Field → Field → Make ℕ
  loop r kept list = do
    body ← transform_list list
    stmt r.kind (number r 0) (kept ++ body ∷ [])

  abbrev pub only : Make ℕ → Make (List ℕ)
  only m = m >>= λ s. give (s ∷ [])

  abbrev pub transform_statement_by : List Clause → ℕ → Rec → Make (List ℕ)
  transform_statement_by ensures s r =
      cond (r.kind == 66) (wrap_return (number r 1) ensures)
      (cond (r.kind == 67) (expr 16 [] >>= λ null. wrap_return null ensures)
      (cond (r.kind == 68) (only (conditional r))
      (cond (r.kind == 70) (only (loop r (field_of r 1 ∷ []) (field_of r 2)))
      (cond (r.kind == 71) (only (loop r [] (field_of r 1)))
      (cond (r.kind == 72) (only (loop r (field_of r 1 ∷ field_of r 2 ∷ field_of r 3 ∷ []) (field_of r 4)))
      (cond (r.kind == 73) (only (loop r (field_of r 1 ∷ field_of r 2 ∷ []) (field_of r 3)))
      (cond (r.kind == 74) (only (loop r (field_of r 1 ∷ field_of r 2 ∷ []) (field_of r 3)))
      (cond (r.kind == 75) (only (match r)) (give (s ∷ []))))))))))

unfoldable pub transform_statement : List Clause → ℕ → Make (List ℕ)
transform_statement ensures =
    descend (λ s. give (s ∷ [])) (λ s walk. image_so_far >>= λ im. transform_statement_by walk ensures s (record_of im Statements s))

-- ---- desugar_fn_contracts

abbrev pub refinement_guard : Image → ℕ → Option (ParamRefinement ℕ) → Make (List ℕ)
refinement_guard im name none = give []
refinement_guard im name (some refinement) = do
  pred ← refine_predicate im name refinement
  msg ← str_lit (refinement_text (text_of im name) (some (map_refinement (text_of im) refinement)))
  s ← guard pred msg
  give (s ∷ [])

-- the last statement of a body
abbrev pub last_of : Image → List ℕ → Rec
last_of im body = record_of im Statements (slice_index body (length body - 1))

-- a bare last expression is wrapped after the returns before it, and comes ahead of the other statements
unfoldable pub wrap_trailing : List Clause → List ℕ → Make (List ℕ)
wrap_trailing ensures body = do
  im ← image_so_far
  cond (not (is_empty body) && (last_of im body).kind == 65)
      (wrap_return (number (last_of im body) 1) ensures >>= λ seq. give (seq ++ take (length body - 1) body))
      (give body)

abbrev pub ensured_body : List Clause → List ℕ → Make (List ℕ)
ensured_body ensures body = do
  ss ← transform_returns (transform_statement ensures) body
  wrap_trailing ensures ss

unfoldable pub desugar_fn_contracts : List (Param ℕ) → List ℕ → List Clause → List Clause → Make (List ℕ)
desugar_fn_contracts params body requires ensures = do
  im ← image_so_far
  refined ← flat_map (λ p. refinement_guard im p.name p.refinement) params
  required ← each (clause_guard (ascii "requires violated")) requires
  rest ← cond (is_empty ensures) (give body) (ensured_body ensures body)
  give (refined ++ required ++ rest)

-- ---- THE LOWERED IMAGE

abbrev pub params_in : Image → ℕ → List (Param ℕ)
params_in im f = map (param_of im) (numbers_in (function_at im f).params)

abbrev pub requires_in : Image → ℕ → List Clause
requires_in im f = map (clause_at im) (numbers_in (function_at im f).required)

abbrev pub ensures_in : Image → ℕ → List Clause
ensures_in im f = map (clause_at im) (numbers_in (function_at im f).ensured)

abbrev pub body_in : Image → ℕ → List ℕ
body_in im f = map (entry_of im) (numbers_in (function_at im f).body)

unfoldable pub has_contracts : Image → ℕ → Bool
has_contracts im f = not (is_empty (requires_in im f)) || not (is_empty (ensures_in im f)) || any_refined (params_in im f)

-- the new body list comes last
unfoldable pub new_body : Image → ℕ → Make Field
new_body im f = do
  ss ← desugar_fn_contracts (params_in im f) (body_in im f) (requires_in im f) (ensures_in im f)
  new_list ss

-- with limits, or without
abbrev pub start_by : Bool → Image → ℕ → Context
start_by limited im f =
    record { image = im; span = (function_at im f).span; is_result = (function_at im f).result; temp_counter = 0; limited = limited }

abbrev pub start : Image → ℕ → Context
start = start_by true

-- the body is field 4 of a function
abbrev pub bodied : Rec → Field → Rec
bodied r list = made r.kind (slice_set r.fields 4 list)

abbrev pub with_body : Image → ℕ → Field → Image
with_body im f list = with_records im Functions (slice_set (records_of im Functions) f (bodied (record_of im Functions f) list))

-- the sixth limit, of the image's bytes, is tested on the finished image: nothing that is made takes bytes away
unfoldable pub fitting : Bool → Image → Option Image
fitting limited im = cond (limited && nat_lt 65535 (length (encode im))) none (some im)

abbrev pub finished : Bool → ℕ → Option (Field × Context) → Option Image
finished limited f none = none
finished limited f (some r) = fitting limited (with_body r.1.image f r.0)

-- of an accepted image and one of its functions
unfoldable pub lowered_by : Bool → Image → ℕ → Option Image
lowered_by limited im f = cond (has_contracts im f) (finished limited f (new_body im f (start_by limited im f))) (some im)

-- none is refusal 14
abbrev pub lowered : Image → ℕ → Option Image
lowered = lowered_by true

-- what it would be if there were no limits: there always is one
abbrev pub unlimited : Image → ℕ → Option Image
unlimited = lowered_by false
