-- Where one function is lowered, all others are as they were: parameters, clauses and bodies, texts by bytes.
-- Assumes nothing.
use Rattle.std.specs.Prelude.{◌≡◌, ℕ, zero, suc, ◌+◌, ◌<◌, ◌≤◌, ◌∷◌, map, ◌≢◌, slice_index_or}
use Rattle.std.proofs.Math.Path.{refl, ap, ap₂}
use Rattle.std.proofs.Common.{◌∙◌, arith, get_or-set_other}
use Rattle.std.proofs.Math.Option
use Rattle.std.proofs.Math.Option.{some}
use Rattle.rl_spec.specs.Answers.{Optional}
use Rattle.rl_spec.specs.declared.Function as declared
use Rattle.rl_spec.specs.declared.Section.TheVariants.{Expressions, Clauses, Functions}
use Rattle.rl_spec.specs.Image.{Field, Image, records_of, size_of, no_record, record_of, field_of, text_of, WellFormed}
use Rattle.rl_spec.specs.Tree.{expr_tree, optional_tree}
use Rattle.rl_spec.specs.Statement.{body_tree}
use Rattle.rl_spec.specs.Records.{clause_by, function_by, clause_at, function_at}
use Rattle.rl_spec.specs.Ranges.{interval, up_from, numbers_in}
use Rattle.rl_spec.specs.FnContracts.{param_of, clause_of, contracts_of}
use Rattle.rl_spec.specs.Mapped.{Text, map_expr, map_body, map_clause, map_contracts}
use Rattle.rl_spec.specs.Functions.{contracted, contract_function}
use Rattle.rl_spec.specs.Reading.{Function}
use Rattle.rl_spec.specs.Make.{Context}
use Rattle.rl_spec.specs.Lower.{start, lowered}
use Rattle.rl_images.specs.Lowering.Grows.{eight_sections, records_own, records_other}
use Rattle.rl_images.specs.Lowering.Gives.{given_is}
use Rattle.rl_images.specs.Lowering.GrowsTo.{Later}
use Rattle.rl_images.specs.Lowering.Adds.{adds_later}
use Rattle.rl_images.specs.Lowering.AddsLower.{adds_new_body}
use Rattle.rl_laws.specs.Optionals.{IfSome, no_index, an_index, optional_says}
use Rattle.rl_theorems.specs.Trees.Denotes.{keep_holds, keep}
use Rattle.rl_theorems.specs.Trees.DenotedTrees.{tree_of, body_of}
use Rattle.rl_theorems.specs.Lowering.Guarded.{keep_lines}
use Rattle.rl_theorems.specs.Trees.SameTrees.{expr_same, body_same}
use Rattle.rl_images.specs.Images.FunctionFields.{ClauseFits, clause_fits, function_fits}
use Rattle.rl_theorems.specs.Lowering.FinishedImage as finished
use Rattle.rl_theorems.specs.Trees.FunctionTrees.{expression_is, body_stands}
use Rattle.rl_images.specs.Lowering.Followed.{Lowering, untouched, rebuilt, lowering}

-- the function of a record
abbrev contract_of : Image → declared.Function → Function Text
contract_of im x =
    contracted (text_of im x.name) x.result
    (map_contracts (text_of im) (record { params = map (param_of im) (numbers_in x.params); requires = map (clause_of im) (numbers_in x.required) }))
    (map (map_clause (text_of im)) (map (clause_of im) (numbers_in x.ensured))) (map_body (text_of im) (body_tree im x.body))

-- ---- in the finished image

module _ (im : Image) (wf : WellFormed im) (f : ℕ) (c : Context) (later : Later (start im f) c) (list : Field) where
  abbrev end : Image
  end = finished.end im wf f c later list

  same_expr : (n : ℕ) → n < size_of im Expressions → map_expr (text_of end) (expr_tree end n) ≡ map_expr (text_of im) (expr_tree im n)
  same_expr n h = expr_same c.image _ n ∙ tree_of c.image (keep later.image (expression_is im wf n h))

  same_clause : (i : ℕ) → clause_at end i ≡ clause_at im i
  unfolding clause_at
  same_clause i =
      ap (λ l. clause_by (slice_index_or l i no_record)) (records_other c.image Functions Clauses _ (λ h. omega arith) ∙ later.image.clauses)

  -- ---- its clauses

  same_message : {o : Optional} → IfSome (λ n. n < size_of im Expressions) o →
      Option.map (map_expr (text_of end)) (optional_tree end o) ≡ Option.map (map_expr (text_of im)) (optional_tree im o)
  same_message no_index = refl
  same_message (an_index {n = n} h) = ap some (same_expr n h)

  same_clause_of : (i : ℕ) → i < size_of im Clauses → map_clause (text_of end) (clause_of end i) ≡ map_clause (text_of im) (clause_of im i)
  unfolding clause_of clause_at
  same_clause_of i h =
      let x : ClauseFits im (record_of im Clauses i) = clause_fits im wf i h in
      (λ j. record {
        condition = map_expr (text_of end) (expr_tree end (same_clause i j).condition);
        message = Option.map (map_expr (text_of end)) (optional_tree end (same_clause i j).message);
      })
      ∙ (λ j. record { condition = same_expr _ x.0 j; message = same_message (optional_says (field_of (record_of im Clauses i) 1) x.1) j })

  same_clauses : (a n : ℕ) → a + n ≤ size_of im Clauses →
      map (map_clause (text_of end)) (map (clause_of end) (up_from a n)) ≡ map (map_clause (text_of im)) (map (clause_of im) (up_from a n))
  unfolding up_from
  same_clauses a zero h = refl
  same_clauses a (suc n) h = ap₂ (λ x xs. x ∷ xs) (same_clause_of a (omega arith)) (same_clauses (a + 1) n (omega arith))

  -- ---- another function

  module _ (g : ℕ) (inside : g < size_of im Functions) (apart : g ≡ f → ⊥) where
    same_function : function_at end g ≡ function_at im g
    unfolding function_at
    same_function =
        ap (λ l. function_by (slice_index_or l g no_record)) (records_own c.image Functions _ (later.image.sections ∙ eight_sections im wf))
        ∙ ap function_by (get_or-set_other (records_of c.image Functions) f g _ no_record apart)
        ∙ ap (λ l. function_by (slice_index_or l g no_record)) later.image.functions

    same_body : map_body (text_of end) (body_tree end (function_at im g).body) ≡ map_body (text_of im) (body_tree im (function_at im g).body)
    unfolding function_at
    same_body =
        let l : Field = field_of (record_of im Functions g) 4 in
        let x = function_fits im wf g inside in
        body_same c.image _ (interval l)
        ∙ body_of c.image l (keep_holds later.image (record { inside = x.inside; is = refl })) (keep_lines later.image (body_stands im wf g inside))

    other_same : contract_function end g ≡ contract_function im g
    unfolding contract_function contracts_of function_at
    other_same =
        let x = function_fits im wf g inside in
        (λ j. contract_of end (same_function j))
        ∙ (λ j. contracted (finished.same_text im wf f c later list _ x.name j) (function_at im g).result
        (record { params = finished.same_params im wf f c later list _ _ x.params j; requires = same_clauses _ _ x.required j })
        (same_clauses _ _ x.ensured j) (same_body j))

-- THEOREM: each other function is as it was
pub others_same : (im im' : Image) (f : ℕ) → WellFormed im → lowered im f ≡ some im' →
    (g : ℕ) → g < size_of im Functions → (g ≢ f) → contract_function im' g ≡ contract_function im g
others_same im im' f wf e g inside apart = go (lowering im im' f e)
  where
    go : {x : Image} → Lowering im f x → contract_function x g ≡ contract_function im g
    go untouched = refl
    go (rebuilt {list = list} {c = c} d l) =
        other_same im wf f c (given_is (adds_later (adds_new_body im f) (start im f) (eight_sections im wf)) d) list g inside apart
