-- A report of a call is an entry check that folds to false under the names that the call's arguments give.
use Rattle.std.specs.Prelude.{◌≡◌, ℕ, ◌+◌, Bool, true, false, List, [], ◌∷◌, ◌++◌, map}
use Rattle.std.proofs.Math.Path.{refl, ap, ap₂}
use Rattle.std.proofs.Common.{◌∙◌}
use Rattle.std.proofs.lemmas.Bool.{false≢true}
use Rattle.std.proofs.Math.Option
use Rattle.std.proofs.Math.Option.{Option, none, some}
use Rattle.rl_spec.specs.declared.Violation.{Violation}
use Rattle.rl_spec.specs.declared.Violation.TheVariants.{Refinement, Requires}
use Rattle.rl_spec.specs.Values as value
use Rattle.rl_spec.specs.Values.{ConstVal, RefineOp, gt, ge, lt, le, eq, ne, compare_values}
use Rattle.rl_spec.specs.Fold.{Binding, boolean, binary_value, binary_folded, lookup, const_eval}
use Rattle.rl_spec.specs.Tree.{Expr}
use Rattle.rl_spec.specs.FnContracts.{RefineOperand, integer, str, bool, param, ParamRefinement, Param, ContractClause}
use Rattle.rl_spec.specs.Prove.{is_no, is_false, report, refine_bound, refutes, fails_at, failed_refinements, failed_requires}
use Rattle.rl_spec.specs.Mapped.{Text, map_operand, map_refinement, map_param, map_clause}
use Rattle.rl_spec.specs.Functions.{operator_of, operand_node, refinement_check, check_first, refinement_checks, clause_check}
use Rattle.rl_spec.specs.Reading.{Check}
use Rattle.rl_theorems.specs.Runs.Texts.{same, map_maybe}
use Rattle.rl_theorems.specs.Runs.FoldsTexts.{map_names, lookup_same, binary_folds, const_same}
use Rattle.rl_theorems.specs.Trees.NamesIn.{names_mapped}
use Rattle.rl_theorems.specs.DemandThree.FoldsChecks.{NoAssign, Fails, here, there}

-- ---- reports

abbrev pub NonEmpty : {A : Type 0} → List A → Type 0
NonEmpty [] = ⊥
NonEmpty (a ∷ l) = Unit {0}

pub either : {A C : Type 0} (l k : List A) → (NonEmpty l → C) → (NonEmpty k → C) → NonEmpty (l ++ k) → C
either [] k p q h = q h
either (a ∷ l) k p q h = p tt

reported : {C : Type 0} (b : Bool) (v : Violation) (vs : List Violation) → (b ≡ true → C) → (NonEmpty vs → C) → NonEmpty (report b v vs) → C
reported true v vs p q h = p refl
reported false v vs p q h = q h

no_verdict : {T : Type 0} (o : Option Bool) → is_no o ≡ true → boolean {T = T} o ≡ some (value.bool false)
no_verdict none e = absurd (false≢true e)
no_verdict (some true) e = absurd (false≢true e)
no_verdict (some false) e = refl

pub false_value : {T : Type 0} (o : Option (ConstVal T)) → is_false o ≡ true → o ≡ some (value.bool false)
false_value none e = absurd (false≢true e)
false_value (some (value.int x)) e = absurd (false≢true e)
false_value (some (value.float x)) e = absurd (false≢true e)
false_value (some (value.str x)) e = absurd (false≢true e)
false_value (some (value.bool true)) e = absurd (false≢true e)
false_value (some (value.bool false)) e = refl

-- ---- refinements

module _ {T : Type 0} (bytes : T → List ℕ) where
  operator_value : (op : RefineOp) (x y : ConstVal T) → binary_value bytes (operator_of op) x y ≡ boolean (compare_values bytes op x y)
  unfolding binary_value
  operator_value gt x y = refl
  operator_value ge x y = refl
  operator_value lt x y = refl
  operator_value le x y = refl
  operator_value eq x y = refl
  operator_value ne x y = refl

  -- what a value provably fails folds to false
  pub refuted : (op : RefineOp) (o q : Option (ConstVal T)) → refutes bytes op o q ≡ true → binary_folded bytes (operator_of op) o q ≡ some (value.bool false)
  unfolding refutes binary_folded
  refuted op none q e = absurd (false≢true e)
  refuted op (some x) none e = absurd (false≢true e)
  refuted op (some x) (some y) e = operator_value op x y ∙ no_verdict (compare_values bytes op x y) e

  refuted_is : (op : RefineOp) (o q l : Option (ConstVal T)) → ((u : ConstVal T) → o ≡ some u → l ≡ some u) → refutes bytes op o q ≡ true → l ≡ o
  unfolding refutes
  refuted_is op none q l h e = absurd (false≢true e)
  refuted_is op (some x) q l h e = h x refl

  -- each parameter's name has the value that its argument folds to
  abbrev pub Paired : List (Binding T) → List (Param T) → List (Expr T) → Type 0
  Paired names [] args = Unit {0}
  Paired names (p ∷ ps) [] = Unit {0}
  Paired names (p ∷ ps) (a ∷ args) =
      ((u : ConstVal T) → const_eval bytes names a ≡ some u → lookup bytes names p.name ≡ some u) × Paired names ps args

abbrev pub AllOf : {A : Type 0} → (A → Type 0) → List A → Type 0
AllOf P [] = Unit {0}
AllOf P (a ∷ l) = P a × AllOf P l

-- no assignment in any condition
abbrev pub Clean : {T : Type 0} → List (ContractClause T) → Type 0
Clean cs = AllOf (λ c. NoAssign c.condition) cs

-- f gives the bytes of a text
module _ (f : ℕ → Text) (names : List (Binding ℕ)) where
  operand_folds : (x : RefineOperand ℕ) → const_eval same (map_names f names) (operand_node (map_operand f x)) ≡ map_maybe f (refine_bound f names x)
  unfolding const_eval refine_bound
  operand_folds (integer x) = refl
  operand_folds (str x) = refl
  operand_folds (bool x) = refl
  operand_folds (param x) = lookup_same f f same (λ t. refl) names x

  operand_clean : (x : RefineOperand ℕ) → NoAssign (operand_node (map_operand f x))
  operand_clean (integer x) = tt
  operand_clean (str x) = tt
  operand_clean (bool x) = tt
  operand_clean (param x) = tt

  -- A REFINEMENT THAT A NAME'S VALUE FAILS IS A CHECK THAT FOLDS TO FALSE
  pub refinement_folds : (name : ℕ) (r : ParamRefinement ℕ) → refutes f r.op (lookup f names name) (refine_bound f names r.operand) ≡ true →
      const_eval same (map_names f names) (refinement_check (f name) (map_refinement f r)).condition ≡ some (value.bool false)
  unfolding const_eval
  refinement_folds name r e =
      ap₂ (binary_folded same (operator_of r.op)) (lookup_same f f same (λ t. refl) names name) (operand_folds r.operand)
      ∙ (binary_folds f f same (λ t. refl) (operator_of r.op) (lookup f names name) (refine_bound f names r.operand)
      ∙ ap (map_maybe f) (refuted f r.op (lookup f names name) (refine_bound f names r.operand) e))

  first_fails : (name : ℕ) (q : Option (ParamRefinement ℕ)) (a : Expr ℕ) (v : Violation) (vs : List Violation) (rest : List (Check Text)) →
      ((u : ConstVal ℕ) → const_eval f names a ≡ some u → lookup f names name ≡ some u) →
      (NonEmpty vs → Fails same (map_names f names) rest) → NonEmpty (report (fails_at f names q a) v vs) →
      Fails same (map_names f names) (check_first (f name) (Option.map (map_refinement f) q) rest)
  unfolding fails_at
  first_fails name none a v vs rest h back z = back z
  first_fails name (some r) a v vs rest h back z =
      let bound : Option (ConstVal ℕ) = refine_bound f names r.operand in
      reported (refutes f r.op (const_eval f names a) bound) v vs
      (λ e. here (refinement_folds name r (ap (λ l. refutes f r.op l bound) (refuted_is f r.op (const_eval f names a) bound (lookup f names name) h e) ∙ e)))
      (λ y. there {c = refinement_check (f name) (map_refinement f r)} (tt, operand_clean r.operand) (back y)) z

  pub refinements_fail : (n : ℕ) (ps : List (Param ℕ)) (args : List (Expr ℕ)) → Paired f names ps args →
      NonEmpty (failed_refinements f names n ps args) → Fails same (map_names f names) (refinement_checks (map (map_param f) ps))
  unfolding failed_refinements refinement_checks
  refinements_fail n [] args h z = absurd z
  refinements_fail n (p ∷ ps) [] h z = absurd z
  refinements_fail n (p ∷ ps) (a ∷ args) h z =
      first_fails p.name p.refinement a (Refinement n) (failed_refinements f names (n + 1) ps args) (refinement_checks (map (map_param f) ps)) h.0 (refinements_fail (n + 1) ps args h.1) z

  -- ---- requires

  pub requires_fail : (d : Text) (n : ℕ) (cs : List (ContractClause ℕ)) → Clean cs → NonEmpty (failed_requires f names n cs) →
      Fails same (map_names f names) (map (clause_check d) (map (map_clause f) cs))
  unfolding failed_requires
  requires_fail d n [] h z = absurd z
  requires_fail d n (c ∷ cs) h z =
      reported (is_false (const_eval f names c.condition)) (Requires n) (failed_requires f names (n + 1) cs)
      (λ e. here (const_same f f same (λ t. refl) names c.condition ∙ ap (map_maybe f) (false_value (const_eval f names c.condition) e)))
      (λ y. there (names_mapped f _ _ c.condition h.0) (requires_fail d (n + 1) cs h.1 y)) z

  -- ---- both

  ahead : {l : List (Check Text)} (k : List (Check Text)) → Fails same (map_names f names) l → Fails same (map_names f names) (l ++ k)
  ahead k (here e) = here e
  ahead k (there s z) = there s (ahead k z)

  behind_first : (name : ℕ) (q : Option (ParamRefinement ℕ)) (rest k : List (Check Text)) → Fails same (map_names f names) (rest ++ k) →
      Fails same (map_names f names) (check_first (f name) (Option.map (map_refinement f) q) rest ++ k)
  behind_first name none rest k z = z
  behind_first name (some r) rest k z = there {c = refinement_check (f name) (map_refinement f r)} (tt, operand_clean r.operand) z

  behind_refinements : (ps : List (Param ℕ)) (k : List (Check Text)) → Fails same (map_names f names) k → Fails same (map_names f names) (refinement_checks (map (map_param f) ps) ++ k)
  unfolding refinement_checks
  behind_refinements [] k z = z
  behind_refinements (p ∷ ps) k z = behind_first p.name p.refinement (refinement_checks (map (map_param f) ps)) k (behind_refinements ps k z)

  -- A REPORT IS AN ENTRY CHECK THAT FAILS
  pub entry_fails : (d : Text) (ps : List (Param ℕ)) (args : List (Expr ℕ)) (cs : List (ContractClause ℕ)) → Paired f names ps args → Clean cs →
      NonEmpty (failed_refinements f names 0 ps args ++ failed_requires f names 0 cs) →
      Fails same (map_names f names) (refinement_checks (map (map_param f) ps) ++ map (clause_check d) (map (map_clause f) cs))
  entry_fails d ps args cs h c z =
      either (failed_refinements f names 0 ps args) (failed_requires f names 0 cs)
      (λ y. ahead (map (clause_check d) (map (map_clause f) cs)) (refinements_fail 0 ps args h y))
      (λ y. behind_refinements ps (map (clause_check d) (map (map_clause f) cs)) (requires_fail d 0 cs c y)) z
