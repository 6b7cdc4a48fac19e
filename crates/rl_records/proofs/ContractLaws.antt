-- Laws for parameters, clauses, functions and calls.
-- Assumes nothing.
use Rattle.std.proofs.Common.{◌≡◌, ℕ, ◌+◌, ◌*◌, ◌%◌, ◌<◌, ◌≤◌, false, eqb, List, get_or, ℤ, refl, ap, to_z-of_z, w64, SFits, to_z, of_z, ne_eqb}
use Rattle.rl_spec.specs.declared.Counts.{Counts}
use Rattle.rl_spec.specs.declared.Section.TheVariants.{Parameters, Clauses, Functions, Calls}
use Rattle.rl_spec.specs.declared.RefineOp.{RefineOp}
use Rattle.rl_spec.specs.declared.RefineOp.TheVariants.{Gt, Ge, Lt, Le, Eq, Ne}
use Rattle.rl_spec.specs.declared.RefineOperand.{RefineOperand}
use Rattle.rl_spec.specs.declared.RefineOperand.TheVariants.{Integer, Str, Bool, Param as Named}
use Rattle.rl_spec.specs.Answers.{ParamRefinement, refined, Optional}
use Rattle.std.specs.Prelude.{None, Some}
use Rattle.rl_spec.specs.declared.Interval.{Interval}
use Rattle.rl_spec.specs.Bytes.{num_at, u16_at, u32_at}
use Rattle.rl_spec.specs.Schema.{sort_of, schema, fields_in, fields_of}
use Rattle.rl_spec.specs.Image.{num, pair, fields_at}
use Rattle.rl_spec.specs.Tree.{signed}
use Rattle.rl_spec.specs.Ranges.{interval, optional}
use Rattle.rl_spec.specs.Records.{refine_op, refine_operand, refinement_by, param_at, clause_at, function_at, call_at}
use Rattle.rl_spec.specs.Found.{calls_at, functions_at, clauses_at, parameters_at, record_as, record_found, image_found}
use Rattle.rl_laws.specs.Found.{record_found_lem, record_missing}
use Rattle.rl_bytes.proofs.Laws.{one, two, four}

-- ---- a refinement

module _ (n : ℕ) where
  pub op_gt : n ≡ 1 → Gt ≡ refine_op n
  op_gt e = rw e refl

  pub op_ge : n ≡ 2 → Ge ≡ refine_op n
  op_ge e = rw e refl

  pub op_lt : n ≡ 3 → Lt ≡ refine_op n
  op_lt e = rw e refl

  pub op_le : n ≡ 4 → Le ≡ refine_op n
  op_le e = rw e refl

  pub op_eq : n ≡ 5 → Eq ≡ refine_op n
  op_eq e = rw e refl

  pub op_ne : (n ≡ 1 → ⊥) → (n ≡ 2 → ⊥) → (n ≡ 3 → ⊥) → (n ≡ 4 → ⊥) → (n ≡ 5 → ⊥) → Ne ≡ refine_op n
  op_ne a b c d e = rw (ne_eqb n 1 a, ne_eqb n 2 b, ne_eqb n 3 c, ne_eqb n 4 d, ne_eqb n 5 e) refl

module _ (sort x : ℕ) where
  pub operand_integer : sort ≡ 1 → (v : ℤ) → v ≡ signed 64 x → SFits w64 v → Integer (to_z w64 (of_z w64 v)) ≡ refine_operand sort x
  operand_integer e v f h = rw (e, to_z-of_z h) (ap Integer f)

  pub operand_str_lem : sort ≡ 2 → Str (x % 65536) ≡ refine_operand sort x
  operand_str_lem e = rw e refl

  pub operand_bool : sort ≡ 3 → Bool (eqb x 1) ≡ refine_operand sort x
  operand_bool e = rw e refl

  pub operand_param : (sort ≡ 1 → ⊥) → (sort ≡ 2 → ⊥) → (sort ≡ 3 → ⊥) → Named (x % 65536) ≡ refine_operand sort x
  operand_param a b c = rw (ne_eqb sort 1 a, ne_eqb sort 2 b, ne_eqb sort 3 c) refl

module _ (n sort x : ℕ) where
  pub unrefined : n ≡ 0 → None ≡ refinement_by n sort x
  unrefined e = rw e refl

  pub with_refinement : (n ≡ 0 → ⊥) → (op : RefineOp) (operand : RefineOperand) → op ≡ refine_op n → operand ≡ refine_operand sort x → refined op operand ≡ refinement_by n sort x
  with_refinement h op operand e f = rw (ne_eqb n 0 h, e, f) refl

-- ---- the records

module _ (s : List ℕ) (c : Counts) (i : ℕ) where
  pub param_none : c.parameters ≤ i → (p : List ℕ) → record { name = 0; refinement = None } ≡ param_at (image_found s p c) i
  unfolding param_at
  param_none h p = rw (record_missing s p c Parameters i h) refl

  pub clause_none : c.clauses ≤ i → (p : List ℕ) → record { condition = 0; message = Some 0 } ≡ clause_at (image_found s p c) i
  unfolding clause_at
  clause_none h p = rw (record_missing s p c Clauses i h) refl

  pub call_none : c.calls ≤ i → (p : List ℕ) → record { callee = 0; span = 0; args = record { first = 0; count = 0 } } ≡ call_at (image_found s p c) i
  unfolding call_at
  call_none h p = rw (record_missing s p c Calls i h) refl

  module _ (at : ℕ) where
    pub param_is : i < c.parameters → at ≡ parameters_at s c → (name op sort x : ℕ) (r : ParamRefinement) → name ≡ u16_at s (at + i * 17 + 1) → op ≡ get_or s (at + i * 17 + 1 + 2 + 4) 0 → sort ≡ get_or s (at + i * 17 + 1 + 2 + 4 + 1) 0 → x ≡ num_at s (at + i * 17 + 1 + 2 + 4 + 1 + 1) 8 → r ≡ refinement_by op sort x → (p : List ℕ) → record { name = name; refinement = r } ≡ param_at (image_found s p c) i
    unfolding param_at record_found record_as fields_at fields_of fields_in schema sort_of
    param_is h b name op sort x r e f g k l p = rw (record_found_lem s p c Parameters i h, ← b, l, k, g, f, e) (simp (one, two))

    pub clause_is : i < c.clauses → at ≡ clauses_at s c → (condition : ℕ) (message : Optional) → condition ≡ u16_at s (at + i * 5 + 1) → message ≡ optional (num (u16_at s (at + i * 5 + 1 + 2))) → (p : List ℕ) → record { condition = condition; message = message } ≡ clause_at (image_found s p c) i
    unfolding clause_at record_found record_as fields_at fields_of fields_in schema sort_of
    clause_is h b condition message e f p = rw (record_found_lem s p c Clauses i h, ← b, f, e) (simp two)

    pub call_is : i < c.calls → at ≡ calls_at s c → (callee span : ℕ) (args : Interval) → callee ≡ u16_at s (at + i * 11 + 1) → span ≡ u32_at s (at + i * 11 + 1 + 2) → args ≡ interval (pair (u16_at s (at + i * 11 + 1 + 2 + 4)) (u16_at s (at + i * 11 + 1 + 2 + 4 + 2))) → (p : List ℕ) → record { callee = callee; span = span; args = args } ≡ call_at (image_found s p c) i
    unfolding call_at record_found record_as fields_at fields_of fields_in schema sort_of
    call_is h b callee span args e f g p = rw (record_found_lem s p c Calls i h, ← b, g, f, e) (simp (four, two s (at + i * 11 + 1)))

  -- ---- functions

  abbrev list : ℕ → Interval
  list at = interval (pair (u16_at s at) (u16_at s (at + 2)))

  pub function_none : c.functions ≤ i → (p : List ℕ) → record { name = 0; span = 0; params = record { first = 0; count = 0 }; result = false; body = record { first = 0; count = 0 }; required = record { first = 0; count = 0 }; ensured = record { first = 0; count = 0 } } ≡ function_at (image_found s p c) i
  unfolding function_at
  function_none h p = rw (record_missing s p c Functions i h) refl

  module _ (at name span flag : ℕ) (params body required ensured : Interval) where
    pub function_is : i < c.functions → at ≡ functions_at s c → name ≡ u16_at s (at + i * 24 + 1) → span ≡ u32_at s (at + i * 24 + 1 + 2) → params ≡ list (at + i * 24 + 1 + 2 + 4) → flag ≡ get_or s (at + i * 24 + 1 + 2 + 4 + 4) 0 → body ≡ list (at + i * 24 + 1 + 2 + 4 + 4 + 1) → required ≡ list (at + i * 24 + 1 + 2 + 4 + 4 + 1 + 4) → ensured ≡ list (at + i * 24 + 1 + 2 + 4 + 4 + 1 + 4 + 4) → (p : List ℕ) → record { name = name; span = span; params = params; result = eqb flag 1; body = body; required = required; ensured = ensured } ≡ function_at (image_found s p c) i
    unfolding function_at record_found record_as fields_at fields_of fields_in schema sort_of
    function_is h b e f g k l m n p = rw (record_found_lem s p c Functions i h, ← b, n, m, l, k, g, f, e) (simp (one, four, two s (at + i * 24 + 1)))
