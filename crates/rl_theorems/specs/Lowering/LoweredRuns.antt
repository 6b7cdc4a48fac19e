-- DEMAND 3, FIRST HALF, on trees: the plain run of a lowered function is its contract reading. Outcome, with its value, message or
-- number, and steps used are equal.
-- Assumes nothing.
use Rattle.std.specs.Prelude.{◌≡◌, ℕ, Bool, List, [], ◌∷◌}
use Rattle.std.proofs.Math.Path.{refl, ap}
use Rattle.std.proofs.Common.{sym, ◌∙◌, subst}
use Rattle.std.proofs.Math.Option.{none}
use Rattle.rl_spec.specs.Tree.{ascii}
use Rattle.rl_spec.specs.Statement.{Stmt, declaration, expression, return, return_alone, conditional, while, loop, break, continue, other_statement, Body, nil, ◌▸◌}
use Rattle.rl_spec.specs.Mapped.{Text}
use Rattle.rl_spec.specs.Run.{Value}
use Rattle.rl_spec.specs.Reading.{Check, Function, run_function, reading}
use Rattle.rl_theorems.specs.Lowering.LowerTrees.{◌⧺◌, temporary, wrap_return, transform_stmt, transform_body, trailing, without_last, wrap_trailing, ensured, lowered}
use Rattle.rl_theorems.specs.Lowering.LowerFrame.{CleanChecks}
use Rattle.rl_theorems.specs.Lowering.LowerBodies.{NoBareLast, Ensured, append_nil, trailing_no_bare, trailing_append, temporary_reserved}
use Rattle.rl_theorems.specs.Lowering.LoweredTo.{BodyTo, stmt_to, body_to, no_bare_to, something_to, EnsuredTo, as_is, wrapped, only_wrapped, LoweredTo, lowered_to_runs}

-- ---- the premises: no name in what is ensured begins with `__ensure_ret_`, whether it is looked up or assigned; and, where something is
-- ensured, a bare last expression is the only statement

pub record Premises (f : Function Text) : Type 0 where
  pub ensures : CleanChecks f.ensures
  pub last : Ensured f.ensures f.body

-- ---- the lowered function is one that the function is lowered to

module _ (r : Bool) (c : Check Text) (cs : List (Check Text)) where
  abbrev all : List (Check Text)
  all = c ∷ cs

  abbrev after : ℕ → Stmt Text → ℕ
  after n s = (transform_stmt r all n s).1

  nothing_trails : (b : Body Text) (n : ℕ) → NoBareLast b → trailing (transform_body r all n b).0 ≡ none
  unfolding transform_stmt trailing
  nothing_trails nil n h = refl
  nothing_trails (s ▸ nil) n h =
      ap trailing (append_nil (transform_stmt r all n s).0)
      ∙ trailing_no_bare (transform_stmt r all n s).0 (no_bare_to r all (stmt_to r all s n) h)
  nothing_trails (s ▸ (t ▸ b)) n h =
      trailing_append (transform_stmt r all n s).0 (transform_body r all (after n s) (t ▸ b)).0
      (something_to r all (stmt_to r all t (after n s)) (transform_body r all (after (after n s) t) b).0)
      ∙ nothing_trails (t ▸ b) (after n s) h

  none_last : (b : Body Text) → NoBareLast b → EnsuredTo r all b (ensured r all b)
  none_last b h =
      wrapped h
      (subst (λ o. BodyTo r all b (wrap_trailing r all (transform_body r all 0 b).1 (transform_body r all 0 b).0 o))
      (sym (nothing_trails b 0 h)) (body_to r all b 0))

  only : (s : Stmt Text) → EnsuredTo r all (s ▸ nil) (ensured r all (s ▸ nil))
  unfolding transform_stmt trailing without_last ◌⧺◌
  only (declaration x e) = none_last (declaration x e ▸ nil) refl
  only (expression e) = only_wrapped (temporary 0) (temporary_reserved 0) (append_nil (wrap_return r all 0 e))
  only (return e) = none_last (return e ▸ nil) refl
  only return_alone = none_last (return_alone ▸ nil) refl
  only (conditional b e) = none_last (conditional b e ▸ nil) refl
  only (while e b) = none_last (while e b ▸ nil) refl
  only (loop b) = none_last (loop b ▸ nil) refl
  only break = none_last (break ▸ nil) refl
  only continue = none_last (continue ▸ nil) refl
  only other_statement = none_last (other_statement ▸ nil) refl

ensured_to : (r : Bool) (cs : List (Check Text)) (b : Body Text) → Ensured cs b → EnsuredTo r cs b (ensured r cs b)
ensured_to r [] b h = as_is refl
ensured_to r (c ∷ cs) nil h = none_last r c cs nil tt
ensured_to r (c ∷ cs) (s ▸ nil) h = only r c cs s
ensured_to r (c ∷ cs) (s ▸ (t ▸ b)) h = none_last r c cs (s ▸ (t ▸ b)) h

pub lowered_to : (f : Function Text) → Ensured f.ensures f.body → LoweredTo f (lowered f)
unfolding lowered
lowered_to f h =
    record {
      name = refl;
      params = refl;
      rest = ensured f.is_result f.ensures f.body;
      ensured = ensured_to f.is_result f.ensures f.body h;
      body = refl;
    }

-- ---- the theorem

-- under the premises that the proof uses
pub lowered_reads : (f : Function Text) (vs : List (Value Text)) (budget : ℕ) → CleanChecks f.ensures → Ensured f.ensures f.body →
    run_function (λ t. t) (lowered f) vs budget ≡ reading (λ t. t) (ascii "ret") f vs budget
lowered_reads f vs budget clean last = lowered_to_runs f (lowered f) vs budget clean (lowered_to f last)

-- THEOREM
pub lowered_runs : (f : Function Text) (vs : List (Value Text)) (budget : ℕ) → Premises f →
    run_function (λ t. t) (lowered f) vs budget ≡ reading (λ t. t) (ascii "ret") f vs budget
lowered_runs f vs budget p = lowered_reads f vs budget p.ensures p.last
