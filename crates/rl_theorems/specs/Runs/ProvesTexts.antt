-- Proving commutes with another account of the texts that keeps their bytes: a call with mapped contracts and arguments has the reports
-- that it had.
-- Assumes nothing.
use Rattle.std.specs.Prelude.{◌≡◌, ℕ, ◌+◌, true, false, ◌||◌, List, [], ◌∷◌, ◌++◌, map}
use Rattle.std.proofs.Math.Path.{refl, ap, ap₂}
use Rattle.std.proofs.Common.{◌∙◌}
use Rattle.std.proofs.Math.Option
use Rattle.std.proofs.Math.Option.{Option, none, some}
use Rattle.rl_spec.specs.declared.Violation.TheVariants.{Refinement, Requires}
use Rattle.rl_spec.specs.Values as value
use Rattle.rl_spec.specs.Values.{ConstVal, RefineOp}
use Rattle.rl_spec.specs.Tree.{Expr}
use Rattle.rl_spec.specs.Fold.{Binding, const_eval}
use Rattle.rl_spec.specs.FnContracts.{RefineOperand, integer, str, bool, param, ParamRefinement, Param, ContractClause, FnContracts, is_some, any_refined}
use Rattle.rl_spec.specs.Prove.{bound, is_no, is_false, report, bind_arguments, refine_bound, refutes, fails_at, failed_refinements, failed_requires, prove_call}
use Rattle.rl_spec.specs.Mapped.{map_expr, map_operand, map_refinement, map_param, map_clause, map_contracts}
use Rattle.rl_theorems.specs.Runs.Texts.{map_maybe, compare_same}
use Rattle.rl_theorems.specs.Runs.FoldsTexts.{map_names, lookup_same, const_same}

module _ {A B : Type 0} (f : A → B) where
  bound_same : (x : A) (v : Option (ConstVal A)) (env : List (Binding A)) → bound (f x) (map_maybe f v) (map_names f env) ≡ map_names f (bound x v env)
  bound_same x none env = refl
  bound_same x (some v) env = refl

  false_same : (v : Option (ConstVal A)) → is_false (map_maybe f v) ≡ is_false v
  false_same none = refl
  false_same (some (value.int x)) = refl
  false_same (some (value.float x)) = refl
  false_same (some (value.str x)) = refl
  false_same (some (value.bool true)) = refl
  false_same (some (value.bool false)) = refl

  -- whether there are contracts
  some_same : (r : Option (ParamRefinement A)) → is_some (Option.map (map_refinement f) r) ≡ is_some r
  some_same none = refl
  some_same (some r) = refl

  pub any_same : (ps : List (Param A)) → any_refined (map (map_param f) ps) ≡ any_refined ps
  unfolding any_refined
  any_same [] = refl
  any_same (p ∷ ps) = ap₂ ◌||◌ (some_same p.refinement) (any_same ps)

module _ {A B : Type 0} (f : A → B) (bytesA : A → List ℕ) (bytesB : B → List ℕ) (keeps : (t : A) → bytesB (f t) ≡ bytesA t) where
  bind_same : (env : List (Binding A)) (ps : List (Param A)) (args : List (Expr A)) →
      bind_arguments bytesB (map_names f env) (map (map_param f) ps) (map (map_expr f) args) ≡ map_names f (bind_arguments bytesA env ps args)
  unfolding bind_arguments
  bind_same env [] args = refl
  bind_same env (p ∷ ps) [] = refl
  bind_same env (p ∷ ps) (a ∷ args) =
      ap (λ e. bind_arguments bytesB e (map (map_param f) ps) (map (map_expr f) args))
      (ap (λ v. bound (f p.name) v (map_names f env)) (const_same f bytesA bytesB keeps env a) ∙ bound_same f p.name (const_eval bytesA env a) env)
      ∙ bind_same (bound p.name (const_eval bytesA env a) env) ps args

  refine_same : (env : List (Binding A)) (x : RefineOperand A) → refine_bound bytesB (map_names f env) (map_operand f x) ≡ map_maybe f (refine_bound bytesA env x)
  unfolding refine_bound
  refine_same env (integer x) = refl
  refine_same env (str x) = refl
  refine_same env (bool x) = refl
  refine_same env (param x) = lookup_same f bytesA bytesB keeps env x

  refutes_same : (op : RefineOp) (x y : Option (ConstVal A)) → refutes bytesB op (map_maybe f x) (map_maybe f y) ≡ refutes bytesA op x y
  unfolding refutes
  refutes_same op none y = refl
  refutes_same op (some x) none = refl
  refutes_same op (some x) (some y) = ap is_no (compare_same f bytesA bytesB keeps op x y)

  fails_same : (env : List (Binding A)) (r : Option (ParamRefinement A)) (e : Expr A) →
      fails_at bytesB (map_names f env) (Option.map (map_refinement f) r) (map_expr f e) ≡ fails_at bytesA env r e
  unfolding fails_at
  fails_same env none e = refl
  fails_same env (some r) e =
      ap₂ (refutes bytesB r.op) (const_same f bytesA bytesB keeps env e) (refine_same env r.operand)
      ∙ refutes_same r.op (const_eval bytesA env e) (refine_bound bytesA env r.operand)

  refinements_same : (env : List (Binding A)) (n : ℕ) (ps : List (Param A)) (args : List (Expr A)) →
      failed_refinements bytesB (map_names f env) n (map (map_param f) ps) (map (map_expr f) args) ≡ failed_refinements bytesA env n ps args
  unfolding failed_refinements
  refinements_same env n [] args = refl
  refinements_same env n (p ∷ ps) [] = refl
  refinements_same env n (p ∷ ps) (a ∷ args) =
      ap₂ (λ c vs. report c (Refinement n) vs) (fails_same env p.refinement a) (refinements_same env (n + 1) ps args)

  requires_same : (env : List (Binding A)) (n : ℕ) (cs : List (ContractClause A)) →
      failed_requires bytesB (map_names f env) n (map (map_clause f) cs) ≡ failed_requires bytesA env n cs
  unfolding failed_requires
  requires_same env n [] = refl
  requires_same env n (c ∷ cs) =
      ap₂ (λ x vs. report x (Requires n) vs)
      (ap is_false (const_same f bytesA bytesB keeps env c.condition) ∙ false_same f (const_eval bytesA env c.condition))
      (requires_same env (n + 1) cs)

  -- PROVING A CALL WITH MAPPED CONTRACTS
  pub prove_mapped : (c : FnContracts A) (args : List (Expr A)) → prove_call bytesB (map_contracts f c) (map (map_expr f) args) ≡ prove_call bytesA c args
  unfolding prove_call
  prove_mapped c args =
      ap (λ e. failed_refinements bytesB e 0 (map (map_param f) c.params) (map (map_expr f) args) ++ failed_requires bytesB e 0 (map (map_clause f) c.requires))
      (bind_same [] c.params args)
      ∙ ap₂ ◌++◌ (refinements_same (bind_arguments bytesA [] c.params args) 0 c.params args)
      (requires_same (bind_arguments bytesA [] c.params args) 0 c.requires)
