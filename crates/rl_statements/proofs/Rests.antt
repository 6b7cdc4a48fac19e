-- What is left of a list, and runs without a budget. Assumes nothing.
use Prim.Native.Nat.{ℕ, suc, ◌+◌, ◌-◌, ◌<◌, ◌≤◌}
use mathlib.Core.Path.{◌≡◌, refl, ap, ◌∙◌, sym}
use mathlib.Core.Bool.{Bool, true, false, ◌&&◌}
use mathlib.Core.List.{List, map}
use native.Mathlib.Omega.{arith}
use lib.Dec.{eqb}
use borrow.Author.Tests.{eqb-true, eqb-false}
use Rattle.rl_spec.specs.declared.Interval.{Interval}
use Rattle.rl_spec.specs.Image.{Image, entry_of, text_of}
use Rattle.rl_spec.specs.Tree.{Expr, null, literal, identifier, unary, binary, grouping, assign, ok_literal, err_literal, is_err, result_unwrap, other}
use Rattle.rl_spec.specs.Statement.{Stmt, declaration, expression, return, return_alone, conditional, while, loop, break, continue, other_statement, Body, nil, ◌▸◌, as_statement, body_from}
use Rattle.rl_spec.specs.Ranges.{up_from}
use Rattle.rl_spec.specs.Run.{Env, spent, Result, got, ended, and_then, leaving, eval}
use Rattle.rl_spec.specs.Reading as reading
use Rattle.rl_spec.specs.Reading.{plainly, followed, stmt, body}
use Rattle.rl_machine.specs.Machine.{flows, item_under, last_as, body_run, begun_run, after}
use Rattle.rl_statements.specs.Lists.{last_returned, body_left, list_left}

-- ---- without a budget

pub eval_spent : (bytes : ℕ → List ℕ) (e : Expr ℕ) (env : Env ℕ) → eval bytes e env 0 ≡ ended spent 0
unfolding eval
eval_spent bytes null env = refl
eval_spent bytes (literal v) env = refl
eval_spent bytes (identifier x) env = refl
eval_spent bytes (unary op e) env = refl
eval_spent bytes (binary l op r) env = refl
eval_spent bytes (grouping e) env = refl
eval_spent bytes (assign x e) env = refl
eval_spent bytes (ok_literal e) env = refl
eval_spent bytes (err_literal e) env = refl
eval_spent bytes (is_err e) env = refl
eval_spent bytes (result_unwrap e) env = refl
eval_spent bytes other env = refl

stmt_spent : (bytes : ℕ → List ℕ) (s : Stmt ℕ) (env : Env ℕ) → stmt bytes plainly s env 0 ≡ ended spent 0
unfolding stmt
stmt_spent bytes (declaration x e) env = refl
stmt_spent bytes (expression e) env = refl
stmt_spent bytes (return e) env = refl
stmt_spent bytes return_alone env = refl
stmt_spent bytes (conditional b e) env = refl
stmt_spent bytes (while e b) env = refl
stmt_spent bytes (loop b) env = refl
stmt_spent bytes break env = refl
stmt_spent bytes continue env = refl
stmt_spent bytes other_statement env = refl

-- ---- the first statement of a body

pub first_spent : (im : Image) (base : ℕ) (s : Stmt ℕ) (b : Body ℕ) (env : Env ℕ) → leaving base (body_run im (s ▸ b) env 0) ≡ ended spent 0
unfolding body
first_spent im base s b env = rw (stmt_spent (text_of im) s env) refl

parts : (im : Image) (base : ℕ) (b : Body ℕ) (r : Result ℕ reading.Flow) →
    leaving base (flows (and_then r (λ f. followed f (body (text_of im) plainly b)))) ≡ and_then (flows r) (after im base b)
parts im base b (got reading.onward env n) = refl
parts im base b (got reading.breaks env n) = refl
parts im base b (got reading.continues env n) = refl
parts im base b (ended o n) = refl

pub first_begun : (im : Image) (base : ℕ) (s : Stmt ℕ) (b : Body ℕ) (env : Env ℕ) (n : ℕ) →
    leaving base (body_run im (s ▸ b) env (suc n)) ≡ and_then (begun_run im s env n) (after im base b)
unfolding body
first_begun im base s b env n = parts im base b (stmt (text_of im) plainly s env (suc n))

-- ---- what is left

module _ (im : Image) (bound : ℕ) (list : Interval) where
  abbrev entry : ℕ → Stmt ℕ
  entry k = as_statement (item_under im bound (entry_of im k))

  abbrev from : ℕ → ℕ → Body ℕ
  from k n = body_from (map (λ j. item_under im bound (entry_of im j)) (up_from k n))

  same_from : (k j m n : ℕ) → k ≡ j → m ≡ n → from k m ≡ from j n
  same_from k j m n e d = ap (λ x. from x m) e ∙ ap (from j) d

  from_suc : (k n : ℕ) → from k (suc n) ≡ entry k ▸ from (k + 1) n
  unfolding up_from
  from_suc k n = refl

  from_zero : (k : ℕ) → from k 0 ≡ nil
  unfolding up_from
  from_zero k = refl

  left_none : (done : ℕ) → list.count ≤ done → body_left im bound list done ≡ nil
  left_none done h = same_from (list.first + done) (list.first + done) (list.count - done) 0 refl (omega (arith, h)) ∙ from_zero (list.first + done)

  left_some : (done : ℕ) → done < list.count → body_left im bound list done ≡ entry (list.first + done) ▸ body_left im bound list (done + 1)
  left_some done h =
      same_from (list.first + done) (list.first + done) (list.count - done) (suc (list.count - (done + 1))) refl (omega (arith, h))
      ∙ from_suc (list.first + done) (list.count - (done + 1))
      ∙ ap (λ b. entry (list.first + done) ▸ b) (same_from (list.first + done + 1) (list.first + (done + 1)) (list.count - (done + 1)) (list.count - (done + 1)) (omega arith) refl)

  pub none_left : (o : Bool) (done : ℕ) → list.count ≤ done → list_left im bound o list done ≡ nil
  none_left true done h = ap last_returned (left_none done h)
  none_left false done h = left_none done h

  -- at the top the last statement is begun as such
  last_or : (done : ℕ) → done < list.count → (b : Bool) → eqb (done + 1) list.count ≡ b →
      last_returned (entry (list.first + done) ▸ body_left im bound list (done + 1))
      ≡ last_as b (entry (list.first + done)) ▸ last_returned (body_left im bound list (done + 1))
  last_or done h true d = rw (left_none (done + 1) (omega (arith, eqb-true (done + 1) list.count d))) refl
  last_or done h false d = rw (left_some (done + 1) (omega (arith, h, eqb-false (done + 1) list.count d))) refl

  pub some_left : (o last : Bool) (done : ℕ) → done < list.count → last ≡ (o && eqb (done + 1) list.count) →
      list_left im bound o list done ≡ last_as last (entry (list.first + done)) ▸ list_left im bound o list (done + 1)
  some_left true last done h e =
      ap last_returned (left_some done h)
      ∙ last_or done h last (sym e)
  some_left false last done h e =
      left_some done h ∙ ap (λ l. last_as l (entry (list.first + done)) ▸ body_left im bound list (done + 1)) (sym e)
