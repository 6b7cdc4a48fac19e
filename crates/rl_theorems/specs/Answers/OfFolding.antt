-- What folding answers: by the reader's table, then 15 and 16.
-- Assumes nothing.
use Rattle.std.specs.Prelude.{◌≡◌, ℕ, ◌↔◌, List, [], ◌++◌, ◌==◌, ◌≢◌, nat_lt, refl, Ok}
use Rattle.std.proofs.Math.Path.{sym}
use Rattle.std.proofs.Common.{ap, ◌∙◌, arith}
use borrow.Author.Tests.{ltb-true, ltb-false, eqb-true, eqb-false}
use Rattle.rl_spec.specs.declared.Id.{Id}
use Rattle.rl_spec.specs.declared.Cause.{Cause}
use Rattle.rl_spec.specs.declared.Section.TheVariants.{Expressions}
use Rattle.rl_spec.specs.Answers.{Folded, refused}
use Rattle.rl_spec.specs.Image.{text_of, image_of}
use Rattle.rl_spec.specs.Folded.{as_folded}
use Rattle.rl_spec.specs.Tree.{expr_tree}
use Rattle.rl_spec.specs.Fold.{const_eval, fold_by, fold_of}
use Rattle.rl_images.specs.Reading.Table.{Unmet, First, By, accepts, checks_not, refuses_exactly, accepts_exactly}
use Rattle.rl_images.specs.Reading.Rows.{read_rows}
use Rattle.rl_images.specs.Reading.Starts.{sizes_are_counts}
use Rattle.rl_theorems.specs.Answers.Tables.{fold_rows}
use Rattle.rl_theorems.specs.Answers.AfterReading.{after_reading, arena_of}
use Rattle.rl_laws.specs.AnswerLaws.{same_refusal}
use Rattle.rl_spec.specs.Answers.{FoldAnswer}

differ : {v : Folded} {q : Cause} {p : ℕ} → Ok v ≢ refused q p
differ e = let z : ◌≡◌ {A = ℕ} 0 1 = cc in omega arith

same : {v w : Folded} → ◌≡◌ {A = FoldAnswer} (Ok v) (Ok w) → v ≡ w
same e = cc

module _ (s : List ℕ) (k : ℕ) (id : Id) where
  -- the value of the node, under no names
  abbrev value : Folded
  value = as_folded (const_eval (text_of (image_of s)) [] (expr_tree (image_of s) id.node.0))

  -- THEOREM
  pub fold_by_lem : By refused (read_rows s k ++ fold_rows (image_of s) id) (Ok value) (fold_of s k id)
  unfolding fold_of
  fold_by_lem =
      after_reading s k (fold_rows (image_of s) id) (fold_by s id) (λ q n. refl) λ a c e.
      let arena = arena_of s k a c e in
      let size = sizes_are_counts s k a c e Expressions in
      checks_not (id.arena.0 == a.0) (λ d h. eqb-false _ _ d (h ∙ sym arena)) (λ d h. h (eqb-true _ _ d ∙ arena))
      (checks_not (nat_lt id.node.0 c.expressions) (λ d. omega (arith, size, ltb-false id.node.0 c.expressions d))
      (λ d h. omega (arith, size, ltb-true id.node.0 c.expressions d, h)) (accepts tt))

  -- THEOREMS: so
  pub fold_refuses : (q : Cause) (p : ℕ) → (fold_of s k id ≡ refused q p) ↔ First (read_rows s k ++ fold_rows (image_of s) id) q p
  fold_refuses = refuses_exactly (λ q q' p p' e. same_refusal e) (λ u q p. differ) fold_by_lem

  pub fold_accepts : (v : Folded) → (fold_of s k id ≡ Ok v) ↔ (Unmet (read_rows s k ++ fold_rows (image_of s) id) × (value ≡ v))
  fold_accepts v =
      let x = accepts_exactly (Ok v) (λ q p e. differ (sym e)) fold_by_lem in
      (λ e. ((x.0 e).0, same (x.0 e).1), λ y. x.1 (y.0, ap Ok y.1))
