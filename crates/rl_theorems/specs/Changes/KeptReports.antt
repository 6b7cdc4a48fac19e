-- What was reported before is reported still, for the same call and check and in the same order, where the callee's parameter names are
-- distinct; and more can be.
-- Assumes nothing.
use Rattle.std.specs.Prelude.{◌≡◌, ℕ, ◌+◌, Bool, true, false, cond, List, [], ◌∷◌, map}
use Rattle.std.proofs.Math.Path.{refl, ap₂}
use Rattle.std.proofs.Common.{ap, sym, ◌∙◌}
use Rattle.std.proofs.lemmas.Bool.{false≢true}
use mathlib.Core.List.Sublist
use mathlib.Core.List.Sublistᴰ
use mathlib.Core.List.{Mem, Sublistᴰ, Sublist}
use Rattle.std.proofs.Math.Option.{Option, none, some}
use Rattle.rl_spec.specs.declared.Violation.{Violation}
use Rattle.rl_spec.specs.declared.Violation.TheVariants.{Refinement, Requires}
use Rattle.rl_spec.specs.Image.{Image, entry_of, text_of}
use Rattle.rl_spec.specs.Values as value
use Rattle.rl_spec.specs.Values.{ConstVal, RefineOp, same_text}
use Rattle.rl_spec.specs.Fold.{Binding, lookup, const_eval}
use Rattle.rl_spec.specs.Tree.{Expr, expr_tree}
use Rattle.rl_spec.specs.Ranges.{numbers_in}
use Rattle.rl_spec.specs.Records.{clause_at, function_at, call_at}
use Rattle.rl_spec.specs.FnContracts.{RefineOperand, integer, str, bool, param, ParamRefinement, Param, ContractClause, FnContracts, clause_of, contracts_of, callee_of, arguments_of}
use Rattle.rl_spec.specs.Prove.{bound, is_false, report, bind_arguments, refine_bound, refutes, fails_at, failed_refinements, failed_requires, prove_call, violations_by, violations_of}
use Rattle.rl_spec.specs.Mapped.{Text}
use Rattle.rl_theorems.specs.Lowering.LowerFrame.{same_eq}
use Rattle.rl_theorems.specs.DemandThree.Folds.{none≢some}
use Rattle.rl_theorems.specs.DemandThree.FoldsEntry.{false_value}
use Rattle.rl_theorems.specs.DemandThree.FoldsNames.{Distinct, Fresh, fresh_bound, fresh_none}
use Rattle.rl_theorems.specs.DemandThree.OverRecords.{distinct_from}
use Rattle.rl_theorems.specs.DemandThree.Demand.{DistinctNames}
use Rattle.rl_theorems.specs.Changes.SmallConstants.{before, texts_same, entry_same, clause_same, function_same, call_same, params_same, callee_same}
use Rattle.rl_theorems.specs.Changes.KeptFolds.{Kept, KeptNames, KeptFolds, tree_kept}

-- ---- verdicts and values

reported : (a b : Bool) → (a ≡ true → b ≡ true) → (v : Violation) {l m : List Violation} → Sublistᴰ l m → Sublistᴰ (report a v l) (report b v m)
reported true true h v w = Sublistᴰ.cons-cons refl w
reported true false h v w = absurd (false≢true (h refl))
reported false true h v w = Sublistᴰ.cons w
reported false false h v w = w

false_kept : (o p : Option (ConstVal ℕ)) → Kept o p → is_false o ≡ true → is_false p ≡ true
false_kept o p h e = ap is_false (h (value.bool false) (false_value o e))

both_kept : (w : ConstVal ℕ) (o p : Option (ConstVal ℕ)) → Kept o p → (b : Bool) → Kept (cond b (some w) o) (cond b (some w) p)
both_kept w o p h true v e = e
both_kept w o p h false v e = h v e

-- f gives the bytes of a text
module _ (f : ℕ → Text) where
  -- ---- the first pass

  lookup_bytes : (names : List (Binding ℕ)) (x y : ℕ) → f x ≡ f y → lookup f names x ≡ lookup f names y
  unfolding lookup
  lookup_bytes [] x y e = refl
  lookup_bytes (b ∷ names) x y e = λ i. cond (same_text (f b.name) (e i)) (some b.value) (lookup_bytes names x y e i)

  -- a new name hides none that had a value
  fresh_kept : (names names' : List (Binding ℕ)) (y : ℕ) (u : ConstVal ℕ) → lookup f names y ≡ none → KeptNames f names names' →
      (x : ℕ) (b : Bool) → same_text (f y) (f x) ≡ b → Kept (lookup f names x) (cond b (some u) (lookup f names' x))
  fresh_kept names names' y u fresh h x true s v e =
      absurd (none≢some (sym fresh ∙ lookup_bytes names y x (same_eq (f y) (f x) s) ∙ e))
  fresh_kept names names' y u fresh h x false s v e = h x v e

  bound_kept : (names names' : List (Binding ℕ)) (y : ℕ) (o p : Option (ConstVal ℕ)) → lookup f names y ≡ none → Kept o p →
      KeptNames f names names' → KeptNames f (bound y o names) (bound y p names')
  unfolding lookup
  bound_kept names names' y none none fresh k h x = h x
  bound_kept names names' y none (some u) fresh k h x = fresh_kept names names' y u fresh h x (same_text (f y) (f x)) refl
  bound_kept names names' y (some w) p fresh k h x =
      rw (k w refl) (both_kept w (lookup f names x) (lookup f names' x) (h x) (same_text (f y) (f x)))

  names_kept : (t u : ℕ → Expr ℕ) → ((k : ℕ) → KeptFolds f (t k) (u k)) → (names names' : List (Binding ℕ)) (ps : List (Param ℕ)) (ks : List ℕ) →
      Distinct f ps → Fresh f names ps → KeptNames f names names' →
      KeptNames f (bind_arguments f names ps (map t ks)) (bind_arguments f names' ps (map u ks))
  unfolding bind_arguments
  names_kept t u folds names names' [] ks d n h = h
  names_kept t u folds names names' (p ∷ ps) [] d n h = h
  names_kept t u folds names names' (p ∷ ps) (k ∷ ks) d n h =
      names_kept t u folds (bound p.name (const_eval f names (t k)) names) (bound p.name (const_eval f names' (u k)) names') ps ks d.1 (fresh_bound f p.name (const_eval f names (t k)) names ps d.0 n.1)
      (bound_kept names names' p.name (const_eval f names (t k)) (const_eval f names' (u k)) n.0 (folds k names names' h) h)

  -- ---- the second pass, and the requires

  refutes_kept : (op : RefineOp) (o p q r : Option (ConstVal ℕ)) → Kept o p → Kept q r → refutes f op o q ≡ true → refutes f op p r ≡ true
  unfolding refutes
  refutes_kept op none p q r h k e = absurd (false≢true e)
  refutes_kept op (some x) p none r h k e = absurd (false≢true e)
  refutes_kept op (some x) p (some y) r h k e = ap₂ (refutes f op) (h x refl) (k y refl) ∙ e

  module _ (names names' : List (Binding ℕ)) (h : KeptNames f names names') where
    operand_kept : (x : RefineOperand ℕ) → Kept (refine_bound f names x) (refine_bound f names' x)
    unfolding refine_bound
    operand_kept (integer x) v e = e
    operand_kept (str x) v e = e
    operand_kept (bool x) v e = e
    operand_kept (param x) v e = h x v e

    fails_kept : (r : Option (ParamRefinement ℕ)) (d e : Expr ℕ) → KeptFolds f d e → fails_at f names r d ≡ true → fails_at f names' r e ≡ true
    unfolding fails_at
    fails_kept none d e k q = q
    fails_kept (some r) d e k q =
        refutes_kept r.op (const_eval f names d) (const_eval f names' e) (refine_bound f names r.operand) (refine_bound f names' r.operand)
        (k names names' h) (operand_kept r.operand) q

    refinements_kept : (t u : ℕ → Expr ℕ) → ((k : ℕ) → KeptFolds f (t k) (u k)) → (n : ℕ) (ps : List (Param ℕ)) (ks : List ℕ) →
        Sublistᴰ (failed_refinements f names n ps (map t ks)) (failed_refinements f names' n ps (map u ks))
    unfolding failed_refinements
    refinements_kept t u folds n [] ks = Sublistᴰ.slnil
    refinements_kept t u folds n (p ∷ ps) [] = Sublistᴰ.slnil
    refinements_kept t u folds n (p ∷ ps) (k ∷ ks) =
        reported _ _ (fails_kept p.refinement (t k) (u k) (folds k)) (Refinement n) (refinements_kept t u folds (n + 1) ps ks)

    requires_kept : (c d : ℕ → ContractClause ℕ) → ((k : ℕ) → KeptFolds f (c k).condition (d k).condition) → (n : ℕ) (ks : List ℕ) →
        Sublistᴰ (failed_requires f names n (map c ks)) (failed_requires f names' n (map d ks))
    unfolding failed_requires
    requires_kept c d folds n [] = Sublistᴰ.slnil
    requires_kept c d folds n (k ∷ ks) =
        reported _ _ (false_kept _ _ (folds k names names' h)) (Requires n) (requires_kept c d folds (n + 1) ks)

  -- ---- both passes and the requires

  proves_kept : (t u : ℕ → Expr ℕ) → ((k : ℕ) → KeptFolds f (t k) (u k)) → (c d : ℕ → ContractClause ℕ) →
      ((k : ℕ) → KeptFolds f (c k).condition (d k).condition) → (ps : List (Param ℕ)) (js ks : List ℕ) → Distinct f ps →
      Sublistᴰ (prove_call f (record { params = ps; requires = map c js }) (map t ks)) (prove_call f (record { params = ps; requires = map d js }) (map u ks))
  unfolding prove_call
  proves_kept t u folds c d conditions ps js ks distinct =
      let h = names_kept t u folds [] [] ps ks distinct (fresh_none f ps) (λ x v e. e) in
      Sublistᴰ.append (refinements_kept _ _ h t u folds 0 ps ks) (requires_kept _ _ h c d conditions 0 js)

-- ---- the reports of a call

module _ (im : Image) where
  -- contracts and arguments with the trees of before
  abbrev contracts_were : ℕ → FnContracts ℕ
  contracts_were f =
      record { params = (contracts_of im f).params; requires = map (clause_of (before im)) (numbers_in (function_at im f).required) }

  abbrev arguments_were : ℕ → List (Expr ℕ)
  arguments_were call = map (λ k. expr_tree (before im) (entry_of im k)) (numbers_in (call_at im call).args)

  contracts_before : (f : ℕ) → contracts_of (before im) f ≡ contracts_were f
  unfolding contracts_of
  contracts_before f = λ i.
      record { params = params_same im f i; requires = map (clause_of (before im)) (numbers_in (function_same im f i).required) }

  arguments_before : (call : ℕ) → arguments_of (before im) call ≡ arguments_were call
  unfolding arguments_of
  arguments_before call = λ i. map (λ k. expr_tree (before im) (entry_same im k i)) (numbers_in (call_same im call i).args)

  condition_kept : (c : ℕ) → KeptFolds (text_of im) (clause_of (before im) c).condition (clause_of im c).condition
  unfolding clause_of
  condition_kept c = rw (clause_same im c) (tree_kept (text_of im) im (clause_at im c).condition)

  were_kept : (call f : ℕ) → DistinctNames im f →
      Sublistᴰ (prove_call (text_of im) (contracts_were f) (arguments_were call)) (prove_call (text_of im) (contracts_of im f) (arguments_of im call))
  unfolding contracts_of arguments_of
  were_kept call f distinct =
      proves_kept (text_of im) _ _ (λ k. tree_kept (text_of im) im (entry_of im k)) (clause_of (before im)) (clause_of im) condition_kept _
      (numbers_in (function_at im f).required) (numbers_in (call_at im call).args) (distinct_from im _ _ distinct)

  by_callee : (call : ℕ) (o : Option ℕ) → ((f : ℕ) → o ≡ some f → DistinctNames im f) → Sublistᴰ (violations_by (before im) call o) (violations_by im call o)
  by_callee call none h = Sublistᴰ.slnil
  by_callee call (some f) h = rw (texts_same im, contracts_before f, arguments_before call) (were_kept call f (h f refl))

  -- THEOREMS
  pub reports_kept : (call : ℕ) → ((f : ℕ) → callee_of im call ≡ some f → DistinctNames im f) → Sublist (violations_of (before im) call) (violations_of im call)
  unfolding violations_of
  reports_kept call h = ∣ rw (callee_same im call) (by_callee call (callee_of im call) h) ∣₁

  pub still_reported : (call : ℕ) → ((f : ℕ) → callee_of im call ≡ some f → DistinctNames im f) → (v : Violation) →
      Mem v (violations_of (before im) call) → Mem v (violations_of im call)
  still_reported call h v m = Sublist.subset (reports_kept call h) v m
