-- The run of a function by the run of its body's list. Assumes nothing.
use Prim.Native.Nat.{ℕ, zero, suc, ◌+◌, ◌-◌, ◌<◌, ◌≤◌}
use mathlib.Core.Path.{◌≡◌, refl, ap, ◌∙◌, sym, subst}
use mathlib.Core.Bool.{true, false}
use mathlib.Core.List.{List, [], ◌∷◌, map}
use native.Mathlib.Omega.{arith}
use lib.ListN.{length, get_or}
use mir.Syntax.{w8}
use mir.Val.{Fits}
use Rattle.rl_spec.specs.declared.Arguments.{Arguments}
use Rattle.rl_spec.specs.declared.ConstVal.{ConstVal}
use Rattle.rl_spec.specs.declared.ConstVal.TheVariants.{Int, Float, Str, Bool as Truth}
use Rattle.rl_spec.specs.declared.Counts.{Counts}
use Rattle.rl_spec.specs.declared.Interval.{Interval}
use Rattle.std.specs.Prelude.{None}
use Rattle.rl_spec.specs.Answers.{ran}
use Rattle.rl_spec.specs.declared.Outcome.{Outcome}
use Rattle.rl_spec.specs.declared.Outcome.TheVariants.{Returned, Stopped, Fault, Spent}
use Rattle.rl_spec.specs.declared.Plain.{Plain}
use Rattle.rl_spec.specs.declared.Plain.TheVariants.{Null, Const}
use Rattle.rl_spec.specs.declared.Function.{Function}
use Rattle.rl_spec.specs.declared.Value.{Value}
use Rattle.rl_spec.specs.declared.Value.TheVariants.{Plain as Bare}
use Rattle.rl_spec.specs.declared.Value.TheVariants as val
use Rattle.rl_spec.specs.Bytes.{u16_at}
use Rattle.rl_spec.specs.Image.{Image, entry_of, text_of}
use Rattle.rl_spec.specs.Found.{image_found}
use Rattle.rl_spec.specs.Folded.{const_of, as_const}
use Rattle.rl_spec.specs.Records.{function_at}
use Rattle.rl_spec.specs.Ranges.{up_from}
use Rattle.rl_spec.specs.Tree.{Expr}
use Rattle.rl_spec.specs.Statement.{Stmt, declaration, expression, return, return_alone, conditional, while, loop, break, continue, other_statement, Body, nil, ◌▸◌, Item, a_statement, body_from, item_tree, body_tree}
use Rattle.rl_spec.specs.Run as run
use Rattle.rl_spec.specs.Run.{Env, Result, got, ended, and_then, leaving, eval}
use Rattle.rl_spec.specs.Reading as reading
use Rattle.rl_spec.specs.Reading.{plainly, stmt, body, top, followed, followed_top, bind_all, run_function}
use Rattle.rl_spec.specs.Functions.{plain_function}
use Rattle.rl_spec.specs.Runner.{plain_of, value_of, as_plain, as_value, as_outcome, given, values_of, ran_of, ran_in}
use Rattle.rl_laws.specs.Tests.{by_ltb}
use Rattle.rl_laws.specs.Found.{entry_found, entry_missing}
use Rattle.rl_laws.specs.Descend.{under_earlier}
use Rattle.rl_machine.specs.declared.types.Flow.{Flow}
use Rattle.rl_machine.specs.declared.types.Flow.TheVariants.{Onward, Breaks, Continues, Skipped, Over}
use Rattle.rl_machine.specs.Machine.{outcome_of, result_of, flows, item_under, as_return, body_run}
use Rattle.rl_statements.specs.declared.types.Ran.{Ran}
use Rattle.rl_statements.specs.Lists.{last_returned, body_left, list_run, Runs}
use Rattle.rl_runner.specs.Bound.{param_names, BindsAll}
use Rattle.rl_runner.specs.Ends.{outcome_after}

-- the outcome and the steps used
abbrev finish : ℕ → Result ℕ (run.Value ℕ) → run.Outcome ℕ × ℕ
finish budget r = run.used budget (run.ending r)

-- ---- the declared types and the definitions' say the same

same_const : (v : ConstVal) → as_const (const_of v) ≡ v
same_const (Int x) = refl
same_const (Float x) = refl
same_const (Str t) = refl
same_const (Truth b) = refl

same_plain : (p : Plain) → as_plain (plain_of p) ≡ p
same_plain Null = refl
same_plain (Const v) = ap Const (same_const v)

same_value : (v : Value) → as_value (value_of v) ≡ v
same_value (Bare p) = ap Bare (same_plain p)
same_value (val.Ok p) = ap val.Ok (same_plain p)
same_value (val.Err p) = ap val.Err (same_plain p)

same_outcome : (o : Outcome) → as_outcome (outcome_of o) ≡ o
same_outcome (Returned v) = ap Returned (same_value v)
same_outcome (Stopped p) = ap Stopped (same_plain p)
same_outcome (Fault k) = refl
same_outcome Spent = refl

-- ---- how a body's end ends the run

module _ (budget : ℕ) where
  abbrev by_flow : Flow → run.Outcome ℕ
  by_flow f = outcome_of (outcome_after f)

  abbrev end_of : Result ℕ Flow → run.Outcome ℕ × ℕ
  end_of (got f env n) = (by_flow f, budget - n)
  end_of (ended o n) = (o, budget - n)

  end_left : (k : ℕ) (r : Result ℕ Flow) → end_of (leaving k r) ≡ end_of r
  end_left k (got f env n) = refl
  end_left k (ended o n) = refl

  end_result : (f : Flow) (env : Env ℕ) (n : ℕ) → end_of (result_of f env n) ≡ (by_flow f, budget - n)
  end_result Onward env n = refl
  end_result Breaks env n = refl
  end_result Continues env n = refl
  end_result Skipped env n = refl
  end_result (Over o) env n = refl

  module _ (bytes : ℕ → List ℕ) where
    -- a last bare expression gives the value
    last_value : (r : Result ℕ (run.Value ℕ)) →
        finish budget r ≡ end_of (flows (and_then (and_then r (λ v. run.halt (run.returned v))) (λ f. followed f (body bytes plainly nil))))
    last_value (got v env n) = refl
    last_value (ended o n) = refl

    last_expression : (e : Expr ℕ) (env : Env ℕ) (n : ℕ) →
        finish budget (top bytes plainly (expression e ▸ nil) env n) ≡ end_of (flows (body bytes plainly (return e ▸ nil) env n))
    unfolding top body stmt
    last_expression e env zero = refl
    last_expression e env (suc n) = last_value (eval bytes e env n)

    abbrev nothing : run.Run ℕ (run.Value ℕ)
    nothing = run.give (run.plain run.nothing)

    last_flow : (r : Result ℕ reading.Flow) →
        finish budget (and_then r (λ f. followed_top f nothing)) ≡ end_of (flows (and_then r (λ f. followed f (body bytes plainly nil))))
    unfolding body
    last_flow (got reading.onward env n) = refl
    last_flow (got reading.breaks env n) = refl
    last_flow (got reading.continues env n) = refl
    last_flow (ended o n) = refl

    last_one : (s : Stmt ℕ) (env : Env ℕ) (n : ℕ) →
        finish budget (top bytes plainly (s ▸ nil) env n) ≡ end_of (flows (body bytes plainly (as_return s ▸ nil) env n))
    unfolding top body
    last_one (declaration x e) env n = last_flow (stmt bytes plainly (declaration x e) env n)
    last_one (expression e) env n = last_expression e env n
    last_one (return e) env n = last_flow (stmt bytes plainly (return e) env n)
    last_one return_alone env n = last_flow (stmt bytes plainly return_alone env n)
    last_one (conditional b e) env n = last_flow (stmt bytes plainly (conditional b e) env n)
    last_one (while e b) env n = last_flow (stmt bytes plainly (while e b) env n)
    last_one (loop b) env n = last_flow (stmt bytes plainly (loop b) env n)
    last_one break env n = last_flow (stmt bytes plainly break env n)
    last_one continue env n = last_flow (stmt bytes plainly continue env n)
    last_one other_statement env n = last_flow (stmt bytes plainly other_statement env n)

    -- a statement, and then the rest
    first_flow : (b c : Body ℕ) → ((env : Env ℕ) (n : ℕ) → finish budget (top bytes plainly b env n) ≡ end_of (flows (body bytes plainly c env n)))
        → (r : Result ℕ reading.Flow)
        → finish budget (and_then r (λ f. followed_top f (top bytes plainly b))) ≡ end_of (flows (and_then r (λ f. followed f (body bytes plainly c))))
    first_flow b c h (got reading.onward env n) = h env n
    first_flow b c h (got reading.breaks env n) = refl
    first_flow b c h (got reading.continues env n) = refl
    first_flow b c h (ended o n) = refl

    top_ends : (b : Body ℕ) (env : Env ℕ) (n : ℕ) →
        finish budget (top bytes plainly b env n) ≡ end_of (flows (body bytes plainly (last_returned b) env n))
    unfolding top body
    top_ends nil env n = refl
    top_ends (s ▸ nil) env n = last_one s env n
    top_ends (s ▸ (t ▸ b)) env n = first_flow (t ▸ b) (last_returned (t ▸ b)) (top_ends (t ▸ b)) (stmt bytes plainly s env n)

-- ---- the list of a body is its tree

small : (s : List ℕ) → ((i : ℕ) → Fits w8 (get_or s i 0)) → (at : ℕ) → u16_at s at < 65536
unfolding u16_at
small s h at = omega (arith, (h at).fits, (h (at + 1)).fits)

pub entry_small : (s p : List ℕ) (c : Counts) → ((i : ℕ) → Fits w8 (get_or s i 0)) → (k : ℕ) → entry_of (image_found s p c) k < 65536
entry_small s p c h k =
    by_ltb k c.lists
    (λ l. subst (λ (x : ℕ). x < 65536) (sym (entry_found s p c k l)) (small s h _))
    (λ l. subst (λ (x : ℕ). x < 65536) (sym (entry_missing s p c k l)) (omega arith))

same_map : (f g : ℕ → Item ℕ) → ((k : ℕ) → f k ≡ g k) → (l : List ℕ) → map f l ≡ map g l
same_map f g h [] = refl
same_map f g h (k ∷ l) = ap (λ x. x ∷ map f l) (h k) ∙ ap (λ y. g k ∷ y) (same_map f g h l)

whole_body : (im : Image) → ((k : ℕ) → entry_of im k < 65536) → (list : Interval) → body_left im 65536 list 0 ≡ body_tree im list
whole_body im h list =
    ap (λ k. body_from (map under (up_from k (list.count - 0)))) (first_is list.first)
    ∙ ap (λ n. body_from (map under (up_from list.first n))) (count_is list.count)
    ∙ ap body_from (same_map under (λ k. item_tree im (entry_of im k)) (λ k. under_earlier (λ _. a_statement other_statement) (item_tree im) 65536 (entry_of im k) (h k)) (up_from list.first list.count))
  where
    under : ℕ → Item ℕ
    under k = item_under im 65536 (entry_of im k)

    first_is : (n : ℕ) → n + 0 ≡ n
    first_is n = omega arith

    count_is : (n : ℕ) → n - 0 ≡ n
    count_is n = omega arith

-- ---- the function

module _ (s p : List ℕ) (c : Counts) (narrow : (k : ℕ) → entry_of (image_found s p c) k < 65536) where
  abbrev im : Image
  im = image_found s p c

  body_ran : (list : Interval) (e : Env ℕ) (budget : ℕ) (r : Ran) → Runs (list_run im 65536 true false None list) e budget r
      → finish budget (top (text_of im) plainly (body_tree im list) e budget)
      ≡ (outcome_of (outcome_after r.flow), budget - r.left)
  body_ran list e budget r h =
      top_ends budget (text_of im) (body_tree im list) e budget
      ∙ ap (λ b. end_of budget (body_run im (last_returned b) e budget)) (sym (whole_body im narrow list))
      ∙ sym (end_left budget (length e) (body_run im (last_returned (body_left im 65536 list 0)) e budget))
      ∙ ap (end_of budget) (sym h.does)
      ∙ end_result budget r.flow r.env r.left

  pub function_ran : (f : ℕ) (x : Function) (args : Arguments) (budget : ℕ) (e : Env ℕ) (r : Ran) (o : Outcome)
      → ((q : List ℕ) → x ≡ function_at (image_found s q c) f) → args.count ≤ 16 → args.count ≡ (function_at im f).params.count
      → ((q : List ℕ) → args.count ≤ 16 → x.params.count ≤ args.count → BindsAll (image_found s q c) x.params args e)
      → Runs (list_run im 65536 true false None x.body) e budget r → o ≡ outcome_after r.flow
      → ran o (budget - r.left) ≡ ran_in im f (given args) budget
  unfolding ran_in run_function plain_function
  function_ran f x args budget e r o k l m b h d =
      ap (λ z. ran z (budget - r.left)) (d ∙ sym (same_outcome (outcome_after r.flow)))
      ∙ sym
      (ap (λ z. ran_of (finish budget (and_then (bind_all (param_names im z.params) (values_of (given args)) [] budget) (λ _. top (text_of im) plainly (body_tree im z.body))))) (sym (k p))
      ∙ ap (λ z. ran_of (finish budget (and_then z (λ _. top (text_of im) plainly (body_tree im x.body))))) (b p l (omega (arith, m, ap (λ z. z.params.count) (k p))) budget)
      ∙ ap ran_of (body_ran x.body e budget r h))
