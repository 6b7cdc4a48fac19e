-- Arguments of a function are arguments of it in an image that keeps the texts and the functions' parameters, as one made by lowering
-- does: their texts are there and have the same bytes, and the parameters are as many.
-- Assumes nothing.
use Rattle.std.specs.Prelude.{◌≡◌, ℕ, ◌<◌, ◌≤◌, Bool, true, ◌&&◌, List, [], ◌∷◌, map, get_or, ◌≢◌, nat_lt, slice_index_or, slice_set}
use Rattle.std.proofs.Math.Path.{refl, ap₂}
use Rattle.std.proofs.Common.{ap, sym, ◌∙◌, subst, arith, length-set, ltb-true, lt-ltb}
use Rattle.std.proofs.Math.Seq.{get_or-set_same, get_or-set_other}
use Rattle.rl_laws.specs.Tests.{by_eqb}
use Rattle.rl_spec.specs.declared.Argument.{Argument}
use Rattle.rl_spec.specs.declared.ConstVal.{ConstVal}
use Rattle.rl_spec.specs.declared.ConstVal.TheVariants.{Int, Float, Str, Bool as Truth}
use Rattle.rl_spec.specs.declared.Counts.{Counts}
use Rattle.rl_spec.specs.declared.Plain.{Plain}
use Rattle.rl_spec.specs.declared.Plain.TheVariants.{Null, Const}
use Rattle.rl_spec.specs.declared.Section.TheVariants.{Texts, Functions}
use Rattle.rl_spec.specs.declared.Value.{Value}
use Rattle.rl_spec.specs.declared.Value.TheVariants.{Plain as Bare}
use Rattle.rl_spec.specs.declared.Value.TheVariants as val
use Rattle.rl_spec.specs.Image.{Rec, Image, no_field, no_record, records_of, size_of, record_of, text_of, WellFormed}
use Rattle.rl_spec.specs.Values as value
use Rattle.rl_spec.specs.Folded.{const_of}
use Rattle.rl_spec.specs.Records.{function_at}
use Rattle.rl_spec.specs.Run as run
use Rattle.rl_spec.specs.Mapped.{map_const, map_plain, map_value}
use Rattle.rl_spec.specs.Lower.{bodied}
use Rattle.rl_spec.specs.Runner.{plain_of, value_of, const_has, plain_has, value_has, all_have, values_of}
use Rattle.rl_images.specs.Lowering.Grows.{longer_length, text_stays}
use Rattle.rl_theorems.specs.Trees.DenotingExpressions.{text_says}
use Rattle.rl_images.specs.Lowering.Followed.{Followed}
use Rattle.rl_images.specs.Images.SchemaSorts.{and_left, and_right}

-- the texts are there as they were, and the functions with their parameters
pub record Keeps (im im' : Image) : Type 0 where
  pub more : size_of im Texts ≤ size_of im' Texts
  pub texts : (t : ℕ) → t < size_of im Texts → text_of im' t ≡ text_of im t
  pub functions : size_of im' Functions ≡ size_of im Functions
  pub params : (f : ℕ) → f < size_of im Functions → (function_at im' f).params ≡ (function_at im f).params

pub keeps_all : (im : Image) → Keeps im im
keeps_all im = record { more = omega arith; texts = λ t l. refl; functions = refl; params = λ f l. refl }

pub keeps_then : {a b c : Image} → Keeps a b → Keeps b c → Keeps a c
keeps_then p q =
    record {
      more = omega (arith, p.more, q.more);
      texts = λ t l. q.texts t (omega (arith, p.more)) ∙ p.texts t l;
      functions = q.functions ∙ p.functions;
      params = λ f l. q.params f (omega (arith, p.functions)) ∙ p.params f l;
    }

-- ---- lowering keeps them

module _ (im im' : Image) (f : ℕ) (wf : WellFormed im) (to : Followed im f im') where
  abbrev changed : Rec
  changed = bodied (record_of im Functions f) to.functions.0

  record_of_lem : (g : ℕ) → record_of im' Functions g ≡ slice_index_or (slice_set (records_of im Functions) f changed) g no_record
  record_of_lem g = ap (λ (rs : List Rec). get_or rs g no_record) to.functions.1

  own_params : f < size_of im Functions → (function_at im' f).params ≡ (function_at im f).params
  unfolding function_at
  own_params l =
      let r : Rec = record_of im Functions f in
      let d : record_of im' Functions f ≡ changed = record_of_lem f ∙ get_or-set_same (records_of im Functions) f changed no_record l in
      let p : get_or (slice_set r.fields 4 to.functions.0) 2 no_field ≡ get_or r.fields 2 no_field =
      get_or-set_other r.fields 4 2 to.functions.0 no_field (λ e. omega arith) in
      rw (d, p) refl

  other_params : (g : ℕ) → (g ≢ f) → (function_at im' g).params ≡ (function_at im g).params
  unfolding function_at
  other_params g n = rw (record_of_lem g, get_or-set_other (records_of im Functions) f g changed no_record n) refl

  pub followed_keeps : Keeps im im'
  followed_keeps =
      record {
        more = longer_length to.texts;
        texts = λ t l. text_stays im im' to.bytes to.texts t l (text_says im wf t l).part;
        functions = rw to.functions.1 (length-set (records_of im Functions) f changed);
        params = λ g l. by_eqb g f (λ e. subst (λ h. (function_at im' h).params ≡ (function_at im h).params) (sym e) (own_params (omega (arith, e)))) (other_params g);
      }

-- ---- the arguments' texts

module _ (im im' : Image) (to : Keeps im im') (c c' : Counts) (here : size_of im Texts ≡ c.texts) (there : size_of im' Texts ≡ c'.texts) where
  text_same : (t : ℕ) → nat_lt t c.texts ≡ true → text_of im' t ≡ text_of im t
  text_same t h = to.texts t (omega (arith, ltb-true t c.texts h))

  const_same : (v : ConstVal) → const_has c v ≡ true → map_const (text_of im') (const_of v) ≡ map_const (text_of im) (const_of v)
  const_same (Int x) h = refl
  const_same (Float x) h = refl
  const_same (Str t) h = ap value.str (text_same t h)
  const_same (Truth b) h = refl

  plain_same : (p : Plain) → plain_has c p ≡ true → map_plain (text_of im') (plain_of p) ≡ map_plain (text_of im) (plain_of p)
  plain_same Null h = refl
  plain_same (Const v) h = ap run.folded (const_same v h)

  value_same : (v : Value) → value_has c v ≡ true → map_value (text_of im') (value_of v) ≡ map_value (text_of im) (value_of v)
  value_same (Bare p) h = ap run.plain (plain_same p h)
  value_same (val.Ok p) h = ap run.ok (plain_same p h)
  value_same (val.Err p) h = ap run.err (plain_same p h)

  pub values_same : (vs : List Argument) → all_have c vs ≡ true →
      map (map_value (text_of im')) (values_of vs) ≡ map (map_value (text_of im)) (values_of vs)
  unfolding all_have
  values_same [] h = refl
  values_same (a ∷ vs) h =
      let has : Bool = value_has c a.value in
      let have : Bool = all_have c vs in
      ap₂ (λ x l. x ∷ l) (value_same a.value (and_left has have h)) (values_same vs (and_right has have h))

  -- and they are there
  const_has_lem : (v : ConstVal) → const_has c v ≡ true → const_has c' v ≡ true
  const_has_lem (Int x) h = refl
  const_has_lem (Float x) h = refl
  const_has_lem (Str t) h = lt-ltb t c'.texts (omega (arith, ltb-true t c.texts h, to.more))
  const_has_lem (Truth b) h = refl

  plain_has_lem : (p : Plain) → plain_has c p ≡ true → plain_has c' p ≡ true
  plain_has_lem Null h = refl
  plain_has_lem (Const v) h = const_has_lem v h

  value_has_lem : (v : Value) → value_has c v ≡ true → value_has c' v ≡ true
  value_has_lem (Bare p) h = plain_has_lem p h
  value_has_lem (val.Ok p) h = plain_has_lem p h
  value_has_lem (val.Err p) h = plain_has_lem p h

  pub values_have : (vs : List Argument) → all_have c vs ≡ true → all_have c' vs ≡ true
  unfolding all_have
  values_have [] h = refl
  values_have (a ∷ vs) h =
      let has : Bool = value_has c a.value in
      let have : Bool = all_have c vs in
      ap₂ ◌&&◌ (value_has_lem a.value (and_left has have h)) (values_have vs (and_right has have h))
