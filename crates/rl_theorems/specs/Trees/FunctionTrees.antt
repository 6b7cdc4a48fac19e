-- What a function of a well-formed image leads to: its clauses and its body stand for something.
-- Assumes nothing.
use Rattle.std.specs.Prelude.{ℕ, zero, suc, ◌+◌, ◌<◌, ◌≤◌, map}
use Rattle.std.proofs.Math.Path.{refl}
use Rattle.std.proofs.Common.{sym, subst, arith}
use Rattle.std.proofs.Math.Option
use Rattle.rl_spec.specs.Answers.{Optional}
use Rattle.rl_spec.specs.declared.Section.TheVariants.{Expressions, Clauses, Functions}
use Rattle.rl_spec.specs.declared.Target.TheVariants.{Statement}
use Rattle.rl_spec.specs.Image.{Image, size_of, record_of, field_of, first, second, entry_of, text_of, Entries, WellFormed}
use Rattle.rl_spec.specs.Tree.{expr_tree, optional_tree}
use Rattle.rl_spec.specs.Statement.{Body, nil, ◌▸◌, body_tree, as_statement}
use Rattle.rl_spec.specs.Ranges.{interval, up_from}
use Rattle.rl_spec.specs.Records.{clause_at}
use Rattle.rl_spec.specs.FnContracts.{clause_of}
use Rattle.rl_spec.specs.Mapped.{Text, map_expr, map_body, map_clause}
use Rattle.rl_spec.specs.Functions.{message_or, clause_check}
use Rattle.rl_images.specs.Images.FunctionFields.{clause_fits, function_fits}
use Rattle.rl_laws.specs.Optionals.{IfSome, no_index, an_index, optional_says}
use Rattle.rl_theorems.specs.Trees.Denotes.{IsExpr, no_rows, a_row}
use Rattle.rl_theorems.specs.Trees.DenotedTrees.{tree_of, body_of}
use Rattle.rl_theorems.specs.Trees.DenotingExpressions.{expression_stands}
use Rattle.rl_theorems.specs.Trees.DenotingStatements.{statement_stands}
use Rattle.rl_theorems.specs.Lowering.Guarded.{Lines, IsMessage, no_message, a_message, Checks, no_checks, a_check}

module _ (im : Image) (wf : WellFormed im) where
  -- ---- an expression stands for its tree

  pub expression_is : (n : ℕ) → n < size_of im Expressions → IsExpr im n (map_expr (text_of im) (expr_tree im n))
  expression_is n h = let e = expression_stands im wf n h in subst (IsExpr im n) (sym (tree_of im e.1)) e.1

  -- ---- clauses

  message_is : {o : Optional} (default : Text) → IfSome (λ n. n < size_of im Expressions) o →
      IsMessage im default o (message_or default (Option.map (map_expr (text_of im)) (optional_tree im o)))
  message_is default no_index = no_message
  message_is default (an_index {n = n} h) = a_message (expression_is n h)

  pub clauses_check : (default : Text) (a n : ℕ) → a + n ≤ size_of im Clauses →
      Checks im default (map (clause_at im) (up_from a n)) (map (clause_check default) (map (map_clause (text_of im)) (map (clause_of im) (up_from a n))))
  unfolding up_from clause_at clause_of
  clauses_check default a zero h = no_checks
  clauses_check default a (suc n) h =
      let f = clause_fits im wf a (omega arith) in
      a_check (expression_is _ f.0) (message_is default (optional_says (field_of (record_of im Clauses a) 1) f.1))
      (clauses_check default (a + 1) n (omega arith))

  -- ---- its body

  rows_stand : (f n k : ℕ) → Entries im Functions f n k Statement Statement → (b : Body Text) × Lines im (map (entry_of im) (up_from k n)) b
  unfolding up_from
  rows_stand f zero k h = (nil, no_rows)
  rows_stand f (suc n) k h =
      let x = statement_stands im wf (entry_of im k) h.0.earlier in
      let r = rows_stand f n (k + 1) h.1 in
      (as_statement x.0 ▸ r.0, a_row h.0.earlier x.1 refl r.1)

  pub body_stands : (f : ℕ) → f < size_of im Functions → let list = field_of (record_of im Functions f) 4 in
      Lines im (map (entry_of im) (up_from (first list) (second list))) (map_body (text_of im) (body_tree im (interval list)))
  body_stands f h =
      let list = field_of (record_of im Functions f) 4 in
      let x = function_fits im wf f h in
      let b = rows_stand f (second list) (first list) x.entries in
      subst (Lines im (map (entry_of im) (up_from (first list) (second list))))
      (sym (body_of im list (record { inside = x.inside; is = refl }) b.1)) b.1
