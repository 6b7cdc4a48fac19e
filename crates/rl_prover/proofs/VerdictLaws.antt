-- One law for each way out of the functions that test a refinement or a clause.
-- Assumes nothing.
use Prim.Native.Nat.{ℕ}
use mathlib.Core.Path.{◌≡◌, refl, sym, ap, ◌∙◌}
use mathlib.Core.Bool.{Bool, false}
use mathlib.Core.List.{List}
use mathlib.Core.Option.{Option}
use Rattle.rl_spec.specs.declared.Counts.{Counts}
use Rattle.rl_spec.specs.Answers.{Folded, refined, ParamRefinement}
use Rattle.std.specs.Prelude.{None}
use Rattle.rl_spec.specs.declared.RefineOp.{RefineOp}
use Rattle.rl_spec.specs.declared.RefineOperand.{RefineOperand}
use Rattle.rl_spec.specs.declared.RefineOperand.TheVariants.{Param as Named}
use Rattle.rl_spec.specs.Image.{Image, text_of}
use Rattle.rl_spec.specs.Values as value
use Rattle.rl_spec.specs.Values.{compare_values}
use Rattle.rl_spec.specs.Folded.{folded_of, op_of}
use Rattle.rl_spec.specs.Tree.{expr_tree}
use Rattle.rl_spec.specs.Fold.{Binding, lookup, const_eval}
use Rattle.rl_spec.specs.Found.{image_found}
use Rattle.rl_spec.specs.FnContracts.{operand_of}
use Rattle.rl_spec.specs.Prove.{is_false, refine_bound, refutes, fails_at}
use Rattle.rl_names.specs.Names.{lookup_in}
use Rattle.rl_names.proofs.Laws.{walk_is}
use Rattle.rl_fold.specs.Folding.{Names, Folds}
use Rattle.rl_fold.proofs.FoldLaws.{from_forth}
use Rattle.rl_prover.specs.Violations.{FailsRefinement, FailsClause}

-- ---- a comparison that says no

module _ (s : List ℕ) (c : Counts) (op : RefineOp) (a b : Folded) where
  abbrev Refuted : Bool → Type 0
  Refuted o = (p : List ℕ) → o ≡ refutes (text_of (image_found s p c)) (op_of op) (folded_of a) (folded_of b)

-- ---- what the value is compared with

module _ (cs w : List ℕ) (count : ℕ) (o : RefineOperand) where
  abbrev Bound : Option (value.ConstVal ℕ) → Type 0
  Bound v = (im : Image) (env : List (Binding ℕ)) → Names im env cs w count → v ≡ refine_bound (text_of im) env (operand_of o)

  pub bound_param : (t : ℕ) (v : Folded) → o ≡ Named t → v ≡ lookup_in cs w t count → Bound (folded_of v)
  unfolding refine_bound
  bound_param t v e f im env n = rw e (from_forth v (lookup (text_of im) env t) (f ∙ ap (lookup_in cs w t) (sym n.counted) ∙ walk_is (text_of im) cs w t env n.standing))

-- ---- a refinement, a clause

module _ (im : Image) (cs w : List ℕ) (count : ℕ) (m : List ℕ) where
  pub fails_unrefined : (q : ParamRefinement) (arg : ℕ) → q ≡ None → FailsRefinement im cs w count m q arg false m
  unfolding fails_at
  fails_unrefined q arg e env p = (rw e refl, p)

  fails_refined_at : (q : ParamRefinement) (arg : ℕ) (op : RefineOp) (x : RefineOperand) (v u : Folded) (r : Bool) (out : List ℕ) → q ≡ refined op x → Folds im cs w count arg m v out → Bound cs w count x (folded_of u) → r ≡ refutes (text_of im) (op_of op) (folded_of v) (folded_of u) → FailsRefinement im cs w count m q arg r out
  unfolding fails_at
  fails_refined_at q arg op x v u r out e f g h env p =
      let folded = f env p.names p.right in
      let actual : folded_of v ≡ const_eval (text_of im) env (expr_tree im arg) = from_forth v (const_eval (text_of im) env (expr_tree im arg)) folded.0 in
      (h ∙ rw (e, ← actual, ← g im env p.names) refl, record { names = p.names; right = folded.1 })

  pub fails_clause : (n : ℕ) (v : Folded) (r : Bool) (out : List ℕ) → Folds im cs w count n m v out → r ≡ is_false (folded_of v) → FailsClause im cs w count m n r out
  fails_clause n v r out f g env p =
      let folded = f env p.names p.right in
      let found : folded_of v ≡ const_eval (text_of im) env (expr_tree im n) = from_forth v (const_eval (text_of im) env (expr_tree im n)) folded.0 in
      (g ∙ ap is_false found, record { names = p.names; right = folded.1 })

module _ (s p : List ℕ) (c : Counts) (cs w : List ℕ) (count : ℕ) (m : List ℕ) where
  pub fails_refined : (q : ParamRefinement) (arg : ℕ) (op : RefineOp) (x : RefineOperand) (v u : Folded) (r : Bool) (out : List ℕ) → q ≡ refined op x → Folds (image_found s p c) cs w count arg m v out → Bound cs w count x (folded_of u) → Refuted s c op v u r → FailsRefinement (image_found s p c) cs w count m q arg r out
  fails_refined q arg op x v u r out e f g h = fails_refined_at (image_found s p c) cs w count m q arg op x v u r out e f g (h p)
