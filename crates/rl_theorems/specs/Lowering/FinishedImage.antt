-- The finished image: lowering's records, with one function's body list changed. Texts and parameters of the original are as they were.
-- Assumes nothing.
use Rattle.std.specs.Prelude.{◌≡◌, ℕ, zero, suc, ◌+◌, ◌<◌, ◌≤◌, ◌∷◌, map, slice_index_or}
use Rattle.std.proofs.Math.Path.{refl, ap, ap₂}
use Rattle.std.proofs.Common.{◌∙◌, arith}
use Rattle.std.proofs.Math.Option
use Rattle.std.proofs.Math.Option.{Option, none, some}
use Rattle.rl_spec.specs.declared.Section.TheVariants.{Texts, Parameters, Functions}
use Rattle.rl_spec.specs.Image.{Field, Image, size_of, no_record, text_of, WellFormed}
use Rattle.rl_spec.specs.Records.{param_by, param_at}
use Rattle.rl_spec.specs.Ranges.{up_from}
use Rattle.rl_spec.specs.FnContracts.{RefineOperand, integer, str, bool, param, ParamRefinement, refinement_of, param_of}
use Rattle.rl_spec.specs.Mapped.{map_operand, map_refinement, map_param}
use Rattle.rl_spec.specs.Make.{Context}
use Rattle.rl_spec.specs.Lower.{start, with_body}
use Rattle.rl_images.specs.Lowering.Grows.{records_other, text_kept}
use Rattle.rl_images.specs.Lowering.GrowsTo.{Later}
use Rattle.rl_theorems.specs.Trees.Denotes.{Says}
use Rattle.rl_theorems.specs.Trees.DenotingExpressions.{text_says}
use Rattle.rl_theorems.specs.Trees.SameTrees.{text_same}
use Rattle.rl_images.specs.Images.FunctionFields.{parameter_fits, name_inside}
use Rattle.rl_theorems.specs.Images.Refinements.{OperandSays, RefinementSays, refinement_says}

module _ (im : Image) (wf : WellFormed im) (f : ℕ) (c : Context) (later : Later (start im f) c) (list : Field) where
  abbrev pub end : Image
  end = with_body c.image f list

  pub same_text : (t : ℕ) → t < size_of im Texts → text_of end t ≡ text_of im t
  same_text t h =
      let s : Says im t (text_of im t) = text_says im wf t h in
      text_same c.image _ t ∙ text_kept later.image t s.inside s.part

  same_param : (i : ℕ) → param_at end i ≡ param_at im i
  unfolding param_at
  same_param i =
      ap (λ l. param_by (slice_index_or l i no_record)) (records_other c.image Functions Parameters _ (λ h. omega arith) ∙ later.image.parameters)

  -- ---- its parameters

  same_operand : (x : RefineOperand ℕ) → OperandSays im x → map_operand (text_of end) x ≡ map_operand (text_of im) x
  same_operand (integer x) h = refl
  same_operand (str t) h = ap str (same_text t h)
  same_operand (bool b) h = refl
  same_operand (param t) h = ap param (same_text t h)

  same_refinement : (o : Option (ParamRefinement ℕ)) → RefinementSays im o →
      Option.map (map_refinement (text_of end)) o ≡ Option.map (map_refinement (text_of im)) o
  same_refinement none h = refl
  same_refinement (some r) h = λ j. some (record { op = r.op; operand = same_operand r.operand h j })

  same_param_of : (i : ℕ) → param_of end i ≡ param_of im i
  unfolding param_of
  same_param_of i = λ j. record { name = (same_param i j).name; refinement = refinement_of (same_param i j).refinement }

  param_name : (i : ℕ) → i < size_of im Parameters → (param_of im i).name < size_of im Texts
  unfolding param_of
  param_name i h = name_inside im wf i h

  pub same_params : (a n : ℕ) → a + n ≤ size_of im Parameters →
      map (map_param (text_of end)) (map (param_of end) (up_from a n)) ≡ map (map_param (text_of im)) (map (param_of im) (up_from a n))
  unfolding up_from
  same_params a zero h = refl
  same_params a (suc n) h =
      ap₂ (λ x xs. x ∷ xs)
      (ap (map_param (text_of end)) (same_param_of a)
      ∙ (λ j. record { name = same_text (param_of im a).name (param_name a (omega arith)) j; refinement = same_refinement (param_of im a).refinement (refinement_says im a (parameter_fits im wf a (omega arith))) j }))
      (same_params (a + 1) n (omega arith))
