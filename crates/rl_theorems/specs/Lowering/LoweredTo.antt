-- Demand 3, first half, on trees, whatever the temporaries are called: a body is lowered to another where each return that is checked is
-- wrapped under some reserved name. On records the names are numbered through the bodies of forms that trees do not show, too.
-- Assumes nothing.
use Rattle.std.specs.Prelude.{◌≡◌, ℕ, Bool, true, List, [], ◌∷◌}
use Rattle.std.proofs.Math.Path.{refl, ap, subst}
use Rattle.std.proofs.Common.{sym, ◌∙◌}
use Rattle.std.proofs.Math.Option.{Option, none}
use Rattle.rl_spec.specs.Tree.{Expr, null, ascii}
use Rattle.rl_spec.specs.Statement.{Stmt, declaration, expression, return, return_alone, conditional, while, loop, break, continue, other_statement, Body, nil, ◌▸◌, Branch, branch, Else, no_else, else_branch, else_conditional}
use Rattle.rl_spec.specs.Mapped.{Text}
use Rattle.rl_spec.specs.Run.{Value, Result, got, ended, ending, Run, and_then, ◌>>=◌, ◌>>◌, give, tick, scoped}
use Rattle.rl_spec.specs.Reading.{Check, Function, plainly, checked, mode_of, bare, only_returned, with_return, body_under, onward, followed, followed_top, repeat, loop_turn, when, bind_all, checks, taken, while_turn, stmt, branch_or, or_else, top, run_function, reading}
use Rattle.rl_theorems.specs.Lowering.LowerTrees.{◌⧺◌, guards, reserved, ret_name, wrap_as, temporary, transform_stmt, transform_body, transform_branch, transform_else}
use Rattle.rl_theorems.specs.Lowering.LowerGuard.{own, top_cons, guards_top}
use Rattle.rl_theorems.specs.Lowering.LowerFrame.{begins, CleanChecks}
use Rattle.rl_theorems.specs.Lowering.LowerWrap.{wrap_is, wrap_null}
use Rattle.rl_theorems.specs.Lowering.LowerBodies.{run, st, whole, NoBare, Some, NoBareLast, append_nil, one, run_append, top_append, top_some, wrap_no_bare, temporary_reserved}

-- ---- the relation

module _ (r : Bool) (cs : List (Check Text)) where
  mutual
    -- a statement is lowered to these
    pub data StmtTo : Stmt Text → Body Text → Type 0 where
      declaration_to : {x : Text} {e : Expr Text} → StmtTo (declaration x e) (declaration x e ▸ nil)
      expression_to : {e : Expr Text} → StmtTo (expression e) (expression e ▸ nil)
      return_to : {e : Expr Text} {a : Body Text} (t : Text) → begins reserved t ≡ true → a ≡ wrap_as r cs t e → StmtTo (return e) a
      return_alone_to : {a : Body Text} (t : Text) → begins reserved t ≡ true → a ≡ wrap_as r cs t null → StmtTo return_alone a
      conditional_to : {b b' : Branch Text} {e e' : Else Text} → BranchTo b b' → ElseTo e e' → StmtTo (conditional b e) (conditional b' e' ▸ nil)
      while_to : {e : Expr Text} {b b' : Body Text} → BodyTo b b' → StmtTo (while e b) (while e b' ▸ nil)
      loop_to : {b b' : Body Text} → BodyTo b b' → StmtTo (loop b) (loop b' ▸ nil)
      break_to : StmtTo break (break ▸ nil)
      continue_to : StmtTo continue (continue ▸ nil)
      other_to : StmtTo other_statement (other_statement ▸ nil)

    pub data BodyTo : Body Text → Body Text → Type 0 where
      nil_to : BodyTo nil nil
      cons_to : {s : Stmt Text} {a b b' c : Body Text} → StmtTo s a → BodyTo b b' → c ≡ a ⧺ b' → BodyTo (s ▸ b) c

    pub data BranchTo : Branch Text → Branch Text → Type 0 where
      branch_to : {c : Option (Expr Text)} {b b' : Body Text} → BodyTo b b' → BranchTo (branch c b) (branch c b')

    -- a conditional that is an else branch is left alone
    pub data ElseTo : Else Text → Else Text → Type 0 where
      no_else_to : ElseTo no_else no_else
      else_branch_to : {b b' : Branch Text} → BranchTo b b' → ElseTo (else_branch b) (else_branch b')
      else_conditional_to : {b : Branch Text} {e : Else Text} → ElseTo (else_conditional b e) (else_conditional b e)

  -- ---- the transform is one of these

  mutual
    unfolding transform_stmt

    pub stmt_to : (s : Stmt Text) (n : ℕ) → StmtTo s (transform_stmt r cs n s).0
    stmt_to (declaration x e) n = declaration_to
    stmt_to (expression e) n = expression_to
    stmt_to (return e) n = return_to (temporary n) (temporary_reserved n) refl
    stmt_to return_alone n = return_alone_to (temporary n) (temporary_reserved n) refl
    stmt_to (conditional b e) n = conditional_to (branch_to_lem b n) (else_to e (transform_branch r cs n b).1)
    stmt_to (while e b) n = while_to (body_to b n)
    stmt_to (loop b) n = loop_to (body_to b n)
    stmt_to break n = break_to
    stmt_to continue n = continue_to
    stmt_to other_statement n = other_to

    pub body_to : (b : Body Text) (n : ℕ) → BodyTo b (transform_body r cs n b).0
    body_to nil n = nil_to
    body_to (s ▸ b) n = cons_to (stmt_to s n) (body_to b (transform_stmt r cs n s).1) refl

    branch_to_lem : (b : Branch Text) (n : ℕ) → BranchTo b (transform_branch r cs n b).0
    branch_to_lem (branch c b) n = branch_to (body_to b n)

    else_to : (e : Else Text) (n : ℕ) → ElseTo e (transform_else r cs n e).0
    else_to no_else n = no_else_to
    else_to (else_branch b) n = else_branch_to (branch_to_lem b n)
    else_to (else_conditional b e) n = else_conditional_to

  -- ---- what a statement is lowered to is no bare expression where it is none, and is something

  pub no_bare_to : {s : Stmt Text} {a : Body Text} → StmtTo s a → bare s ≡ none → NoBare a
  no_bare_to declaration_to h = (refl, tt)
  no_bare_to expression_to h = (h, tt)
  no_bare_to (return_to {e = e} t p q) h = subst NoBare (sym q) (wrap_no_bare r cs t e)
  no_bare_to (return_alone_to t p q) h = subst NoBare (sym q) (wrap_no_bare r cs t null)
  no_bare_to (conditional_to p q) h = (refl, tt)
  no_bare_to (while_to p) h = (refl, tt)
  no_bare_to (loop_to p) h = (refl, tt)
  no_bare_to break_to h = (refl, tt)
  no_bare_to continue_to h = (refl, tt)
  no_bare_to other_to h = (refl, tt)

  pub something_to : {s : Stmt Text} {a : Body Text} → StmtTo s a → (b : Body Text) → Some (a ⧺ b)
  unfolding ◌⧺◌
  something_to declaration_to b = tt
  something_to expression_to b = tt
  something_to (return_to {e = e} t p q) b = subst (λ a. Some (a ⧺ b)) (sym q) tt
  something_to (return_alone_to t p q) b = subst (λ a. Some (a ⧺ b)) (sym q) tt
  something_to (conditional_to p q) b = tt
  something_to (while_to p) b = tt
  something_to (loop_to p) b = tt
  something_to break_to b = tt
  something_to continue_to b = tt
  something_to other_to b = tt

  -- ---- what a body is lowered to runs as the body does where its returns are checked

  module _ (clean : CleanChecks cs) where
    mutual
      unfolding stmt

      pub stmt_runs : {s : Stmt Text} {a : Body Text} → StmtTo s a → run plainly a ≡ st (checked ret_name r cs) s
      stmt_runs (declaration_to {x = x} {e = e}) = one plainly (declaration x e)
      stmt_runs (expression_to {e = e}) = one plainly (expression e)
      stmt_runs (return_to {e = e} t h q) = ap (run plainly) q ∙ wrap_is cs clean t h r e
      stmt_runs (return_alone_to t h q) = ap (run plainly) q ∙ wrap_null cs clean t h r
      stmt_runs (conditional_to {b' = b'} {e' = e'} p q) = one plainly (conditional b' e') ∙ (λ i. tick >> branch_runs p i (else_runs q i))
      stmt_runs (while_to {e = e} {b' = b'} p) = one plainly (while e b') ∙ (λ i. tick >> repeat (while_turn own e (body_runs p i)))
      stmt_runs (loop_to {b' = b'} p) = one plainly (loop b') ∙ (λ i. tick >> repeat (loop_turn (body_runs p i)))
      stmt_runs break_to = one plainly break
      stmt_runs continue_to = one plainly continue
      stmt_runs other_to = one plainly other_statement

      pub body_runs : {b b' : Body Text} → BodyTo b b' → run plainly b' ≡ run (checked ret_name r cs) b
      body_runs nil_to = refl
      body_runs (cons_to {a = a} {b' = b'} p q e) =
          ap (run plainly) e ∙ run_append plainly a b' ∙ (λ i. stmt_runs p i >>= λ f. followed f (body_runs q i))

      branch_runs : {b b' : Branch Text} → BranchTo b b' → branch_or own plainly b' ≡ branch_or own (checked ret_name r cs) b
      branch_runs (branch_to {c = c} p) = λ i other. taken own c >>= λ t. when t (scoped (body_runs p i)) other

      else_runs : {e e' : Else Text} → ElseTo e e' → or_else own plainly e' ≡ or_else own (checked ret_name r cs) e
      else_runs no_else_to = refl
      else_runs (else_branch_to p) = λ i. branch_runs p i (give onward)
      else_runs else_conditional_to = refl

    -- ---- the top

    -- what follows a statement that is no bare expression
    next : {s : Stmt Text} {a b b' c : Body Text} → StmtTo s a → bare s ≡ none → BodyTo b b' → whole plainly b' ≡ whole (checked ret_name r cs) b → c ≡ a ⧺ b' →
        whole plainly c ≡ whole (checked ret_name r cs) (s ▸ b)
    next {s} {a} {b} {b'} p h ps ih e =
        ap (whole plainly) e
        ∙ top_append plainly a b' (no_bare_to p h)
        ∙ (λ i. stmt_runs p i >>= λ f. followed_top f (ih i))
        ∙ sym (top_cons (checked ret_name r cs) s b h)

    pub body_top : {b b' : Body Text} → BodyTo b b' → whole plainly b' ≡ whole (checked ret_name r cs) b
    unfolding top stmt ◌⧺◌
    body_top nil_to = refl
    body_top (cons_to (expression_to {e = e}) nil_to q) = ap (whole plainly) q
    body_top (cons_to (expression_to {e = e}) (cons_to {b' = b''} {c = c} p ps q) q') =
        ap (whole plainly) q'
        ∙ top_some plainly (expression e) c (subst Some (sym q) (something_to p b''))
        ∙ (λ i. st plainly (expression e) >>= λ f. followed_top f (body_top (cons_to p ps q) i))
    body_top (cons_to (declaration_to {x = x} {e = e}) ps q) = next (declaration_to {x = x} {e = e}) refl ps (body_top ps) q
    body_top (cons_to (return_to t h p) ps q) = next (return_to t h p) refl ps (body_top ps) q
    body_top (cons_to (return_alone_to t h p) ps q) = next (return_alone_to t h p) refl ps (body_top ps) q
    body_top (cons_to (conditional_to p p') ps q) = next (conditional_to p p') refl ps (body_top ps) q
    body_top (cons_to (while_to p) ps q) = next (while_to p) refl ps (body_top ps) q
    body_top (cons_to (loop_to p) ps q) = next (loop_to p) refl ps (body_top ps) q
    body_top (cons_to break_to ps q) = next break_to refl ps (body_top ps) q
    body_top (cons_to continue_to ps q) = next continue_to refl ps (body_top ps) q
    body_top (cons_to other_to ps q) = next other_to refl ps (body_top ps) q

-- ---- functions

-- a body under these ensures is lowered to another; where something is ensured, a bare last expression is the only statement
pub data EnsuredTo (r : Bool) : List (Check Text) → Body Text → Body Text → Type 0 where
  as_is : {b b' : Body Text} → b' ≡ b → EnsuredTo r [] b b'
  wrapped : {c : Check Text} {cs : List (Check Text)} {b b' : Body Text} → NoBareLast b → BodyTo r (c ∷ cs) b b' → EnsuredTo r (c ∷ cs) b b'
  only_wrapped : {c : Check Text} {cs : List (Check Text)} {e : Expr Text} {b' : Body Text} (t : Text) → begins reserved t ≡ true →
      b' ≡ wrap_as r (c ∷ cs) t e → EnsuredTo r (c ∷ cs) (expression e ▸ nil) b'

with_return_lem : (b : Body Text) → NoBareLast b → with_return b ≡ b
with_return_lem nil h = refl
with_return_lem (s ▸ nil) h = ap (only_returned s) h
with_return_lem (s ▸ (t ▸ b)) h = refl

pub ensured_top : {r : Bool} {cs : List (Check Text)} {b b' : Body Text} → CleanChecks cs → EnsuredTo r cs b b' →
    whole plainly b' ≡ whole (mode_of ret_name r cs) (body_under cs b)
ensured_top clean (as_is q) = ap (whole plainly) q
ensured_top {r} clean (wrapped {c = c} {cs = cs} {b = b} h p) =
    body_top r (c ∷ cs) clean p ∙ ap (whole (checked ret_name r (c ∷ cs))) (sym (with_return_lem b h))
ensured_top {r} clean (only_wrapped {c = c} {cs = cs} {e = e} t h q) =
    body_top r (c ∷ cs) clean (cons_to (return_to t h refl) nil_to (q ∙ sym (append_nil (wrap_as r (c ∷ cs) t e))))

-- a function is lowered to another: its entry checks as guards, and its body so
pub record LoweredTo (f g : Function Text) : Type 0 where
  pub name : g.name ≡ f.name
  pub params : g.params ≡ f.params
  pub rest : Body Text
  pub ensured : EnsuredTo f.is_result f.ensures f.body rest
  pub body : g.body ≡ guards f.is_result f.entry rest

regroup : (x : Result Text (Unit {0})) (k : Run Text (Unit {0})) (l : Run Text (Value Text)) →
    and_then x (λ _. k >> l) ≡ and_then (and_then x (λ _. k)) (λ _. l)
regroup (got a env n) k l = refl
regroup (ended o n) k l = refl

-- THEOREM: the plain run of what a function is lowered to is the function's contract reading
pub lowered_to_runs : (f g : Function Text) (vs : List (Value Text)) (budget : ℕ) → CleanChecks f.ensures → LoweredTo f g →
    run_function (λ t. t) g vs budget ≡ reading (λ t. t) (ascii "ret") f vs budget
unfolding run_function reading
lowered_to_runs f g vs budget clean to =
    (λ i. ending ((bind_all (to.params i) vs >> runs i) [] budget))
    ∙ (λ i. ending (regroup (bind_all f.params vs [] budget) (checks own f.is_result f.entry) end i))
  where
    end : Run Text (Value Text)
    end = whole (mode_of ret_name f.is_result f.ensures) (body_under f.ensures f.body)

    runs : whole plainly g.body ≡ (checks own f.is_result f.entry >> end)
    runs =
        ap (whole plainly) to.body
        ∙ guards_top f.is_result f.entry to.rest
        ∙ (λ i. checks own f.is_result f.entry >> ensured_top clean to.ensured i)
