-- The names, calls and guards that are made stand for those of the trees.
-- Assumes nothing.
use Rattle.std.specs.Prelude.{◌≡◌, ℕ, ◌<◌, Bool, true, false, cond, List, [], ◌∷◌, ◌++◌, refl, None, Some}
use Rattle.std.proofs.Common.{subst, arith}
use Rattle.std.proofs.Math.Option.{some}
use Rattle.rl_spec.specs.declared.Section.TheVariants.{Statements}
use Rattle.rl_spec.specs.Answers.{Optional}
use Rattle.rl_spec.specs.declared.Clause.{Clause}
use Rattle.rl_spec.specs.Image.{num, Image, size_of}
use Rattle.rl_spec.specs.Values.{same_text}
use Rattle.rl_spec.specs.Tree.{Expr, identifier, err_literal, is_err, result_unwrap, ascii}
use Rattle.rl_spec.specs.Statement.{Stmt, return, Body, nil, ◌▸◌, Item, a_statement}
use Rattle.rl_spec.specs.Ranges.{optional, optional_field}
use Rattle.rl_spec.specs.Mapped.{Text}
use Rattle.rl_spec.specs.Functions.{said}
use Rattle.rl_spec.specs.Reading.{Check}
use Rattle.rl_spec.specs.Make.{Context, ◌>>=◌, each, new_text, new_stmt}
use Rattle.rl_spec.specs.Lower.{ident, str_lit, err_lit, res_call, unwrap_call, is_err_call, msg_expr_by, violation, only_if, guard, clause_guard}
use Rattle.rl_theorems.specs.Lowering.LowerTrees as tree
use Rattle.rl_theorems.specs.Lowering.LowerTrees.{◌⧺◌}
use Rattle.rl_images.specs.Lowering.Grows.{Grows, size_grows}
use Rattle.rl_images.specs.Lowering.GrowsTo.{◌⊕◌, GrowsTo, ◌▷◌, ◌▹◌, given}
use Rattle.rl_laws.specs.Optionals.{an_index, optional_is}
use Rattle.rl_theorems.specs.Trees.Denotes.{AllSay, none_say, also_says, call_tree, IsExpr, stands, a_string, an_identifier, a_unary, a_call, an_err, no_args, an_arg, IsLine, stands_line, IsCondition, a_condition, an_expression, a_return, a_conditional, an_arm, without_else, Rows, no_rows, a_row, keep, keep_says, keep_all, keep_holds, keep_line, keep_rows}
use Rattle.rl_theorems.specs.Lowering.MadeTrees.{Turned, expr_ok, stmt_ok, text_ok, list_ok}
use Rattle.rl_theorems.specs.Lowering.Copied.{inside_of, copy_ok}

small_of : {im : Image} {n : ℕ} {e : Expr Text} → IsExpr im n e → n < 65535
small_of (stands k fs h d) = h.small

-- a condition as a field has it
held_condition : {im : Image} {n : ℕ} {e : Expr Text} → IsExpr im n e → IsCondition im (optional (num n)) (some e)
held_condition h = rw (optional_is (an_index (small_of h))) (a_condition h)

-- ---- statements of an image in a row

abbrev pub Lines : Image → List ℕ → Body Text → Type 0
Lines im ns b = Rows im (size_of im Statements) ns b

pub line_inside : {im : Image} {n : ℕ} {x : Item Text} → IsLine im n x → n < size_of im Statements
line_inside (stands_line k fs h d) = h.inside

pub a_line : {im : Image} {n : ℕ} {s : Stmt Text} {ns : List ℕ} {b : Body Text} → IsLine im n (a_statement s) → Lines im ns b →
    Lines im (n ∷ ns) (s ▸ b)
a_line h hs = a_row (line_inside h) h refl hs

pub keep_lines : {im im' : Image} {ns : List ℕ} {b : Body Text} → Grows im im' → Lines im ns b → Lines im' ns b
keep_lines g h = keep_rows g (λ n l. omega (arith, size_grows g Statements)) h

pub both_lines : {im : Image} {i : ℕ} {ns ms : List ℕ} {a b : Body Text} → Rows im i ns a → Rows im i ms b → Rows im i (ns ++ ms) (a ⧺ b)
unfolding ◌⧺◌
both_lines no_rows k = k
both_lines (a_row l h q hs) k = a_row l h q (both_lines hs k)

-- ---- names and calls

pub ident_ok : (name : Text) (ctx : Context) → GrowsTo ctx (λ n c. IsExpr c.image n (identifier name)) (ident name ctx)
unfolding ident
ident_ok name ctx = text_ok name ctx ▷ λ t c₁ k₁ h. expr_ok 30 (num t ∷ []) c₁ ▹ λ n c₂ k₂ f. f _ (an_identifier refl h)

pub string_ok : (s : Text) (ctx : Context) → GrowsTo ctx (λ n c. IsExpr c.image n (said s)) (str_lit s ctx)
unfolding str_lit
string_ok s ctx = text_ok s ctx ▷ λ t c₁ k₁ h. expr_ok 25 (num t ∷ []) c₁ ▹ λ n c₂ k₂ f. f _ (a_string refl h)

err_ok : (msg : ℕ) (ctx : Context) → GrowsTo ctx (Turned err_literal ctx msg) (err_lit msg ctx)
unfolding err_lit
err_ok msg ctx = expr_ok 50 (num msg ∷ []) ctx ▹ λ n c k f m h. f _ (an_err refl (inside_of h) h)

texts_ok : (xs : List Text) (ctx : Context) → GrowsTo ctx (λ ts c. AllSay c.image ts xs) (each new_text xs ctx)
unfolding each
texts_ok [] ctx = given none_say
texts_ok (x ∷ xs) ctx = text_ok x ctx ▷ λ t c₁ k₁ h₁. texts_ok xs c₁ ▷ λ ts c₂ k₂ h₂. given (also_says (keep_says k₂.image h₁) h₂)

call_ok : (name : Text) (x : ℕ) (ctx : Context) →
    GrowsTo ctx (Turned (λ e. call_tree (ascii "std" ∷ ascii "res" ∷ name ∷ []) (e ∷ [])) ctx x) (res_call name x ctx)
unfolding res_call
call_ok name x ctx =
    texts_ok (ascii "std" ∷ ascii "res" ∷ name ∷ []) ctx ▷ λ ts c₁ k₁ h₁. list_ok ts c₁ ▷ λ path c₂ k₂ h₂.
    list_ok (x ∷ []) c₂ ▷ λ args c₃ k₃ h₃.
    expr_ok 41 (path ∷ args ∷ []) c₃ ▹ λ n c₄ k₄ f e h.
    let h' = keep (k₁ ⊕ k₂ ⊕ k₃).image h in
    f _ (a_call refl (keep_holds k₃.image h₂) (keep_all (k₂ ⊕ k₃).image h₁) h₃ (an_arg (inside_of h') h' no_args) refl)

is_err_lem : (e : Expr Text) → call_tree (ascii "std" ∷ ascii "res" ∷ ascii "is_err" ∷ []) (e ∷ []) ≡ is_err e
unfolding ascii same_text
is_err_lem e = refl

unwraps : (e : Expr Text) → call_tree (ascii "std" ∷ ascii "res" ∷ ascii "result_unwrap" ∷ []) (e ∷ []) ≡ result_unwrap e
unfolding ascii same_text
unwraps e = refl

pub is_err_ok_lem : (x : ℕ) (ctx : Context) → GrowsTo ctx (Turned is_err ctx x) (is_err_call x ctx)
is_err_ok_lem x ctx = call_ok (ascii "is_err") x ctx ▹ λ n c k f e h. subst (IsExpr c.image n) (is_err_lem e) (f e h)

pub unwrap_ok : (x : ℕ) (ctx : Context) → GrowsTo ctx (Turned result_unwrap ctx x) (unwrap_call x ctx)
unwrap_ok x ctx = call_ok (ascii "result_unwrap") x ctx ▹ λ n c k f e h. subst (IsExpr c.image n) (unwraps e) (f e h)

-- ---- guards

pub return_ok : (x : ℕ) (ctx : Context) → GrowsTo ctx (λ n c. (e : Expr Text) → IsExpr ctx.image x e →
    IsLine c.image n (a_statement (return e))) (new_stmt 66 (num x ∷ []) ctx)
return_ok x ctx = stmt_ok 66 ctx.span (num x ∷ []) ctx ▹ λ n c k f e h. f _ (a_return refl h)

-- under the flag as it is
violation_by : (r : Bool) (err : ℕ) (ctx : Context) →
    GrowsTo ctx (λ n c. (m : Expr Text) → IsExpr ctx.image err (err_literal m) → IsLine c.image n (a_statement (tree.violation r m)))
    (cond r (new_stmt 66 (num err ∷ [])) (unwrap_call err >>= λ abort. new_stmt 65 (num abort ∷ [])) ctx)
violation_by true err ctx = return_ok err ctx ▹ λ n c k f m h. f (err_literal m) h
violation_by false err ctx =
    unwrap_ok err ctx ▷ λ abort c₁ k₁ h₁. stmt_ok 65 c₁.span (num abort ∷ []) c₁ ▹ λ n c₂ k₂ f m h. f _ (an_expression refl (h₁ _ h))

violation_ok : (msg : ℕ) (ctx : Context) →
    GrowsTo ctx (λ n c. (m : Expr Text) → IsExpr ctx.image msg m → IsLine c.image n (a_statement (tree.violation ctx.is_result m)))
    (violation msg ctx)
unfolding violation
violation_ok msg ctx =
    err_ok msg ctx ▷ λ err c₁ k₁ h₁. violation_by c₁.is_result err c₁ ▹ λ n c₂ k₂ h₂ m h. rw (← k₁.is_result) (h₂ m (h₁ m h))

pub only_ok : (condition s : ℕ) (ctx : Context) →
    GrowsTo ctx (λ n c. (e : Expr Text) (b : Stmt Text) → IsExpr ctx.image condition e → IsLine ctx.image s (a_statement b) →
    IsLine c.image n (a_statement (tree.only_if e b)))
    (only_if condition s ctx)
unfolding only_if
only_ok condition s ctx =
    list_ok (s ∷ []) ctx ▷ λ body c₁ k₁ h₁. stmt_ok 69 c₁.span (num condition ∷ body ∷ num 0 ∷ []) c₁ ▷ λ branch c₂ k₂ h₂.
    stmt_ok 68 c₂.span (num branch ∷ optional_field None ∷ []) c₂ ▹ λ n c₃ k₃ f e b h k.
    let a = h₂ _ (an_arm refl (held_condition (keep k₁.image h)) h₁ (a_line (keep_line k₁.image k) no_rows)) in
    f _ (a_conditional refl (line_inside a) a without_else)

pub guard_ok : (pred msg : ℕ) (ctx : Context) →
    GrowsTo ctx (λ n c. (k : Check Text) → IsExpr ctx.image pred k.condition → IsExpr ctx.image msg k.message →
    IsLine c.image n (a_statement (tree.guard ctx.is_result k))) (guard pred msg ctx)
unfolding guard
guard_ok pred msg ctx =
    copy_ok pred ctx ▷ λ copy c₁ k₁ h₁. expr_ok 33 (num 5 ∷ num copy ∷ []) c₁ ▷ λ neg c₂ k₂ h₂. violation_ok msg c₂ ▷ λ s c₃ k₃ h₃.
    only_ok neg s c₃ ▹ λ n c₄ k₄ f k h m.
    let p = h₁ k.condition h in
    let v = rw (k₁ ⊕ k₂).is_result at (h₃ k.message (keep (k₁ ⊕ k₂).image m)) in
    f _ _ (keep k₃.image (h₂ _ (a_unary refl (inside_of p) p))) v

-- ---- clauses that stand for checks

-- a message of its own, or the one that is said without it
pub data IsMessage (im : Image) (default : Text) : Optional → Expr Text → Type 0 where
  no_message : IsMessage im default None (said default)
  a_message : {n : ℕ} {e : Expr Text} → IsExpr im n e → IsMessage im default (Some n) e

pub data Checks (im : Image) (default : Text) : List Clause → List (Check Text) → Type 0 where
  no_checks : Checks im default [] []
  a_check : {c : Clause} {cs : List Clause} {k : Check Text} {ks : List (Check Text)} → IsExpr im c.condition k.condition →
      IsMessage im default c.message k.message → Checks im default cs ks → Checks im default (c ∷ cs) (k ∷ ks)

keep_message : {im im' : Image} {default : Text} {o : Optional} {e : Expr Text} → Grows im im' → IsMessage im default o e →
    IsMessage im' default o e
keep_message g no_message = no_message
keep_message g (a_message h) = a_message (keep g h)

pub keep_checks : {im im' : Image} {default : Text} {cs : List Clause} {ks : List (Check Text)} → Grows im im' →
    Checks im default cs ks → Checks im' default cs ks
keep_checks g no_checks = no_checks
keep_checks g (a_check h m hs) = a_check (keep g h) (keep_message g m) (keep_checks g hs)

said_message : {im im' : Image} {default : Text} {j : ℕ} {e : Expr Text} → IsExpr im' j (said default) → IsMessage im default None e →
    IsExpr im' j e
said_message h no_message = h

own_message : {im : Image} {default : Text} {n : ℕ} {e : Expr Text} → IsMessage im default (Some n) e → IsExpr im n e
own_message (a_message x) = x

message_ok : (o : Optional) (default : Text) (ctx : Context) →
    GrowsTo ctx (λ n c. (m : Expr Text) → IsMessage ctx.image default o m → IsExpr c.image n m) (msg_expr_by o default ctx)
message_ok None default ctx = string_ok default ctx ▹ λ n c k h m d. said_message h d
message_ok (Some n) default ctx = given λ m d. own_message d

clause_ok : (default : Text) (clause : Clause) (ctx : Context) →
    GrowsTo ctx (λ n c. (k : Check Text) → IsExpr ctx.image clause.condition k.condition →
    IsMessage ctx.image default clause.message k.message →
    IsLine c.image n (a_statement (tree.guard ctx.is_result k))) (clause_guard default clause ctx)
clause_ok default clause ctx =
    message_ok clause.message default ctx ▷ λ msg c₁ k₁ h₁. guard_ok clause.condition msg c₁ ▹ λ n c₂ k₂ h₂ k h m.
    rw k₁.is_result at (h₂ k (keep k₁.image h) (h₁ k.message m))

abbrev GuardsTo : Bool → Image → Text → List Clause → Image → List ℕ → Type 0
GuardsTo r im default cs im' ns = (ks : List (Check Text)) → Checks im default cs ks → Lines im' ns (tree.guards r ks nil)

no_guards : (r : Bool) (im im' : Image) (default : Text) → GuardsTo r im default [] im' []
unfolding tree.guards
no_guards r im im' default ks no_checks = no_rows

more_guards : (r : Bool) {im im' : Image} {default : Text} {clause : Clause} {cs : List Clause} {n : ℕ} {ns : List ℕ} →
    ((k : Check Text) → IsExpr im clause.condition k.condition → IsMessage im default clause.message k.message →
    IsLine im' n (a_statement (tree.guard r k))) →
    GuardsTo r im default cs im' ns → GuardsTo r im default (clause ∷ cs) im' (n ∷ ns)
unfolding tree.guards
more_guards r h hs ks (a_check {k = k} {ks = rest} x m xs) = a_line (h k x m) (hs rest xs)

pub guards_ok : (default : Text) (cs : List Clause) (ctx : Context) →
    GrowsTo ctx (λ ns c. GuardsTo ctx.is_result ctx.image default cs c.image ns) (each (clause_guard default) cs ctx)
unfolding each
guards_ok default [] ctx = given (no_guards ctx.is_result ctx.image ctx.image default)
guards_ok default (clause ∷ cs) ctx =
    clause_ok default clause ctx ▷ λ n c₁ k₁ h₁. guards_ok default cs c₁ ▷ λ ns c₂ k₂ h₂.
    given (more_guards ctx.is_result (λ k x m. keep_line k₂.image (h₁ k x m))
    (λ ks d. rw k₁.is_result at (h₂ ks (keep_checks k₁.image d))))
