-- What the fields of clauses, parameters and functions of a well-formed image lead to.
-- Assumes nothing.
use Rattle.std.specs.Prelude.{ℕ, ◌+◌, ◌^◌, ◌≤◌, ◌<◌, ◌≡◌, ◌⊎◌, List, map, length}
use Rattle.std.proofs.Math.Path.{refl}
use Rattle.std.proofs.Common.{sym, subst, arith}
use Rattle.std.proofs.Math.Logic.{inl, inr}
use Rattle.rl_spec.specs.declared.Section.TheVariants.{Texts, Lists, Expressions, Parameters, Clauses, Functions}
use Rattle.rl_spec.specs.declared.Target.TheVariants.{Statement}
use Rattle.rl_spec.specs.Schema.{schema, sort_of, fields_in, fields_of}
use Rattle.rl_spec.specs.Image.{Field, Rec, Image, size_of, record_of, field_of, first, second, Entries, OperandFits, SortFits, a_raw, a_byte, a_reference, an_option, a_list, a_range, a_sort, an_operand, FieldsFit, no_fields, ◌&◌, RecordFits, WellFormed}
use Rattle.rl_spec.specs.Tree.{number}
use Rattle.rl_spec.specs.Records.{param_at}
use Rattle.rl_spec.specs.Make.{made}
use Rattle.rl_images.specs.Images.SchemaSorts.{kind_range}

-- ---- clauses

abbrev pub ClauseFits : Image → Rec → Type 0
ClauseFits im r = (number r 0 < size_of im Expressions) × ((number r 1 ≡ 65535) ⊎ (number r 1 < size_of im Expressions))

module _ {im : Image} {i : ℕ} where
  clause_view : {fs : List Field} → FieldsFit im Clauses i 0 (map sort_of (fields_of 81)) fs → ClauseFits im (made 81 fs)
  unfolding fields_of fields_in schema sort_of
  clause_view (a_reference r & an_option (inl q) & no_fields) = (r.earlier, inl q)
  clause_view (a_reference r & an_option (inr s) & no_fields) = (r.earlier, inr s.earlier)

  pub clause_says : (r : Rec) → RecordFits im Clauses i r → ClauseFits im r
  clause_says r f =
      let q : r.kind ≡ 81 = omega (arith, kind_range Clauses r.kind f.kind) in
      clause_view (rw q at f.fields)

-- ---- parameters

pub record ParameterFits (im : Image) (r : Rec) : Type 0 where
  pub name : number r 0 < size_of im Texts
  pub sort : SortFits (number r 2) (number r 3)
  pub operand : OperandFits im (number r 3) (number r 4)

module _ {im : Image} {i : ℕ} where
  parameter_view : {fs : List Field} → FieldsFit im Parameters i 0 (map sort_of (fields_of 80)) fs → ParameterFits im (made 80 fs)
  unfolding fields_of fields_in schema sort_of
  parameter_view (a_reference r & a_raw w & a_byte l h & a_sort s & an_operand o & no_fields) = record { name = r.earlier; sort = s; operand = o }

  pub parameter_says : (r : Rec) → RecordFits im Parameters i r → ParameterFits im r
  parameter_says r f =
      let q : r.kind ≡ 80 = omega (arith, kind_range Parameters r.kind f.kind) in
      subst (λ k. ParameterFits im (made k r.fields)) (sym q) (parameter_view (rw q at f.fields))

-- ---- the function's record

pub record FunctionFits (im : Image) (f : ℕ) (r : Rec) : Type 0 where
  pub name : number r 0 < size_of im Texts
  pub span : number r 1 < 256 ^ 4
  pub params : first (field_of r 2) + second (field_of r 2) ≤ size_of im Parameters
  pub inside : first (field_of r 4) + second (field_of r 4) ≤ size_of im Lists
  pub entries : Entries im Functions f (second (field_of r 4)) (first (field_of r 4)) Statement Statement
  pub required : first (field_of r 5) + second (field_of r 5) ≤ size_of im Clauses
  pub ensured : first (field_of r 6) + second (field_of r 6) ≤ size_of im Clauses
  pub long : length r.fields ≡ 7

module _ {im : Image} {f : ℕ} where
  function_view : {fs : List Field} → FieldsFit im Functions f 0 (map sort_of (fields_of 82)) fs → FunctionFits im f (made 82 fs)
  unfolding fields_of fields_in schema sort_of
  function_view (a_reference t & a_raw w & a_range p & a_byte l h & a_list b m e & a_range r & a_range s & no_fields) =
      record { name = t.earlier; span = w; params = p; inside = b; entries = e; required = r; ensured = s; long = refl }

  pub function_says : (r : Rec) → RecordFits im Functions f r → FunctionFits im f r
  function_says r x =
      let q : r.kind ≡ 82 = omega (arith, kind_range Functions r.kind x.kind) in
      subst (λ k. FunctionFits im f (made k r.fields)) (sym q) (function_view (rw q at x.fields))

-- ---- those of a well-formed image

module _ (im : Image) (wf : WellFormed im) where
  pub clause_fits : (i : ℕ) → i < size_of im Clauses → ClauseFits im (record_of im Clauses i)
  clause_fits i h = clause_says (record_of im Clauses i) (wf.fits Clauses i h)

  pub parameter_fits : (i : ℕ) → i < size_of im Parameters → ParameterFits im (record_of im Parameters i)
  parameter_fits i h = parameter_says (record_of im Parameters i) (wf.fits Parameters i h)

  pub name_inside : (i : ℕ) → i < size_of im Parameters → (param_at im i).name < size_of im Texts
  unfolding param_at
  name_inside i h = (parameter_fits i h).name

  pub function_fits : (f : ℕ) → f < size_of im Functions → FunctionFits im f (record_of im Functions f)
  function_fits f h = function_says (record_of im Functions f) (wf.fits Functions f h)
