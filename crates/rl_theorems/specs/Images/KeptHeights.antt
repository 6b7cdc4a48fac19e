-- Where an image keeps what another has, heights stay; and the height of a record by the heights of those before it.
-- Assumes nothing.
use Rattle.std.specs.Prelude.{◌≡◌, ℕ, zero, suc, ◌+◌, ◌<◌, ◌≤◌, max, Bool, true, false, cond, ◌⊎◌, List, [], ◌∷◌, ◌++◌, map, length, ◌==◌, slice_index, slice_index_or}
use Rattle.std.proofs.Math.Path.{refl, ap, ap₂}
use Rattle.std.proofs.Common.{sym, ◌∙◌, inl, inr, arith}
use Rattle.std.proofs.Math.ListN.{get_or-eq_default}
use Rattle.std.proofs.Math.Seq.{get_or_at}
use Rattle.std.proofs.lemmas.Bool.{eqb-false}
use Rattle.rl_spec.specs.declared.Section.{Section}
use Rattle.rl_spec.specs.declared.Section.TheVariants.{Lists}
use Rattle.rl_spec.specs.declared.Target.{Target}
use Rattle.rl_spec.specs.declared.Sort.{Sort}
use Rattle.rl_spec.specs.declared.Sort.TheVariants.{Raw, Byte, Scalar, Part, One, Maybe, Many, Range, OperandSort, Operand}
use Rattle.rl_spec.specs.Schema.{sort_of, fields_of}
use Rattle.rl_spec.specs.Image.{Field, Rec, Image, records_of, size_of, no_record, record_of, first, second, entry_of, section_of, same_section, height_of, tallest_entry, tallest_in, tallest_child, heights_from, heights, Refers, Entries, FieldFits, a_raw, a_byte, a_scalar, a_part, a_reference, an_option, a_list, a_range, a_sort, an_operand, FieldsFit, no_fields, ◌&◌}
use Rattle.rl_laws.specs.Tests.{by_ltb}
use Rattle.rl_images.specs.Encoding.SectionLoop.{heights_kept}
use Rattle.rl_images.specs.Encoding.Encoded.{heights_all}
use Rattle.rl_images.specs.Images.Heights.{Next, next_at_lem}
use Rattle.rl_images.specs.Lowering.Grows.{grows_same}
use Rattle.rl_theorems.specs.Images.KeptFields.{Keeps, grows_keeps}

-- ---- heights: h and g agree on the first i

module _ {im im' : Image} (k : Keeps im im') (o : Section) (i : ℕ) (h g : List ℕ) (same : (n : ℕ) → n < i → slice_index g n ≡ slice_index h n) where
  pub height_kept : (t : Target) (n : ℕ) → Refers im o i t n → height_of im' o g t n ≡ height_of im o h t n
  height_kept t n r = go (same_section o (section_of t)) r.earlier
    where
      go : (b : Bool) → n < cond b i (size_of im (section_of t)) → cond b (slice_index g n) 0 ≡ cond b (slice_index h n) 0
      go true p = same n p
      go false p = refl

  entry_height : (n a : ℕ) (t u : Target) → a + n ≤ size_of im Lists → Entries im o i n a t u →
      tallest_entry im' o g n a t u ≡ tallest_entry im o h n a t u
  unfolding tallest_entry
  entry_height zero a t u q e = refl
  entry_height (suc n) a t u q e =
      let x : height_of im' o g t (entry_of im' a) ≡ height_of im o h t (entry_of im a) =
      ap (height_of im' o g t) (k.entries a (omega arith)) ∙ height_kept t (entry_of im a) e.0 in
      ap₂ max x (entry_height n (a + 1) u t (omega arith) e.1)

  maybe_height : (t : Target) (x : ℕ) → (b : Bool) → (x == 65535) ≡ b → (x ≡ 65535) ⊎ Refers im o i t x →
      cond b 0 (height_of im' o g t x) ≡ cond b 0 (height_of im o h t x)
  maybe_height t x true d e = refl
  maybe_height t x false d (inl e) = absurd (eqb-false x 65535 d e)
  maybe_height t x false d (inr r) = height_kept t x r

  pub tallest_in_lem : {b : ℕ} {s : Sort} {f : Field} → FieldFits im o i b s f → tallest_in im' o g s f ≡ tallest_in im o h s f
  tallest_in_lem (a_raw p) = refl
  tallest_in_lem (a_byte p q) = refl
  tallest_in_lem (a_scalar p) = refl
  tallest_in_lem (a_part p q) = refl
  tallest_in_lem (a_reference {t} {x} r) = height_kept t x r
  tallest_in_lem (an_option {t} {x} r) = maybe_height t x (x == 65535) refl r
  tallest_in_lem (a_list {l = t} {r = u} {a = a} {n = n} p e es) = entry_height n a t u p es
  tallest_in_lem (a_range p) = refl
  tallest_in_lem (a_sort p) = refl
  tallest_in_lem (an_operand p) = refl

  pub tallest_child_lem : {b : ℕ} {fs : List Field} (cs : List ℕ) → FieldsFit im o i b (map sort_of cs) fs →
      tallest_child im' o g cs fs ≡ tallest_child im o h cs fs
  unfolding tallest_child
  tallest_child_lem [] no_fields = refl
  tallest_child_lem (c ∷ cs) (e & es) = ap₂ max (tallest_in_lem e) (tallest_child_lem cs es)

-- ---- the heights of a section that has grown

heights_append : (im : Image) (o : Section) (rs qs : List Rec) (h : List ℕ) →
    heights_from im o (rs ++ qs) h ≡ heights_from im o qs (heights_from im o rs h)
unfolding heights_from
heights_append im o [] qs h = refl
heights_append im o (r ∷ rs) qs h = heights_append im o rs qs (h ++ (tallest_child im o h (fields_of r.kind) r.fields + 1) ∷ [])

abbrev pub AllFit : Image → Section → Type 0
AllFit im o = (i : ℕ) → i < size_of im o → FieldsFit im o i 0 (map sort_of (fields_of (record_of im o i).kind)) (record_of im o i).fields

module _ {im im' : Image} (k : Keeps im im') (o : Section) where
  same_heights : (rs : List Rec) (h : List ℕ) →
      ((j : ℕ) → j < length rs → (i : ℕ) × FieldsFit im o i 0 (map sort_of (fields_of (slice_index_or rs j no_record).kind)) (slice_index_or rs j no_record).fields) →
      heights_from im' o rs h ≡ heights_from im o rs h
  unfolding heights_from
  same_heights [] h fit = refl
  same_heights (r ∷ rs) h fit =
      let e = tallest_child_lem k o (fit 0 (omega arith)).0 h h (λ n p. refl) (fields_of r.kind) (fit 0 (omega arith)).1 in
      ap (λ (x : ℕ). heights_from im' o rs (h ++ (x + 1) ∷ [])) e
      ∙ same_heights rs (h ++ (tallest_child im o h (fields_of r.kind) r.fields + 1) ∷ []) (λ j p. fit (suc j) (omega arith))

  module _ (fit : AllFit im o) (rs : List Rec) (e : records_of im' o ≡ records_of im o ++ rs) where
    heights_grown : heights im' o ≡ heights_from im' o rs (heights im o)
    unfolding heights
    heights_grown =
        ap (λ (qs : List Rec). heights_from im' o qs []) e ∙ heights_append im' o (records_of im o) rs []
        ∙ ap (heights_from im' o rs) (same_heights (records_of im o) [] (λ j p. (j, fit j p)))

    pub height_stays : (n : ℕ) → n < size_of im o → slice_index (heights im' o) n ≡ slice_index (heights im o) n
    height_stays n p = rw heights_grown (heights_kept im' o rs (heights im o) n (rw heights_all p))

  module _ (fit : AllFit im o) (r : Rec) (e : records_of im' o ≡ records_of im o ++ r ∷ []) where
    -- the height of one new record
    pub height_new : FieldsFit im o (size_of im o) 0 (map sort_of (fields_of r.kind)) r.fields →
        slice_index (heights im' o) (size_of im o) ≡ tallest_child im o (heights im o) (fields_of r.kind) r.fields + 1
    unfolding heights_from
    height_new f =
        let h : List ℕ = heights im o in
        let x : ℕ = tallest_child im' o h (fields_of r.kind) r.fields + 1 in
        let d : x ≡ tallest_child im o h (fields_of r.kind) r.fields + 1 =
        ap (λ (n : ℕ). n + 1) (tallest_child_lem k o (size_of im o) h h (λ n p. refl) (fields_of r.kind) f) in
        ap (λ (l : List ℕ). slice_index l (size_of im o)) (heights_grown fit (r ∷ []) e) ∙ get_or_at h x [] 0 (size_of im o) (heights_all im o) ∙ d

-- the height of a record that is there
pub own_height : (im : Image) (o : Section) → AllFit im o → (i : ℕ) → i < size_of im o →
    slice_index (heights im o) i ≡ tallest_child im o (heights im o) (fields_of (record_of im o i).kind) (record_of im o i).fields + 1
own_height im o fit i p =
    let next : Next im o (heights im o) i (record_of im o i) = next_at_lem im o i p in
    let r : Rec = record_of im o i in
    let same : tallest_child im o (heights im o) (fields_of r.kind) r.fields ≡ tallest_child im o next.earlier (fields_of r.kind) r.fields =
    tallest_child_lem (grows_keeps grows_same) o i next.earlier (heights im o) next.same (fields_of r.kind) (fit i p) in
    next.here ∙ ap (λ (n : ℕ). n + 1) (sym same)

-- ---- sections that nothing refers to

abbrev pub Flat : Section → Type 0
Flat o = (t : Target) → same_section o (section_of t) ≡ false

module _ (im : Image) (o : Section) (flat : Flat o) (h : List ℕ) where
  flat_target : (t : Target) (n : ℕ) → height_of im o h t n ≡ 0
  flat_target t n = rw (flat t)

  flat_entries : (n a : ℕ) (t u : Target) → tallest_entry im o h n a t u ≡ 0
  unfolding tallest_entry
  flat_entries zero a t u = refl
  flat_entries (suc n) a t u = omega (arith, flat_target t (entry_of im a), flat_entries n (a + 1) u t)

  flat_maybe : (b : Bool) (t : Target) (n : ℕ) → cond b 0 (height_of im o h t n) ≡ 0
  flat_maybe true t n = refl
  flat_maybe false t n = flat_target t n

  flat_field : (s : Sort) (f : Field) → tallest_in im o h s f ≡ 0
  flat_field (Raw n) f = refl
  flat_field (Byte low high) f = refl
  flat_field Scalar f = refl
  flat_field Part f = refl
  flat_field (One t) f = flat_target t (first f)
  flat_field (Maybe t) f = flat_maybe (first f == 65535) t (first f)
  flat_field (Many t u n) f = flat_entries (second f) (first f) t u
  flat_field (Range q) f = refl
  flat_field OperandSort f = refl
  flat_field Operand f = refl

  flat_fields : (cs : List ℕ) (fs : List Field) → tallest_child im o h cs fs ≡ 0
  unfolding tallest_child
  flat_fields [] fs = refl
  flat_fields (c ∷ cs) [] = refl
  flat_fields (c ∷ cs) (f ∷ fs) = omega (arith, flat_field (sort_of c) f, flat_fields cs fs)

pub flat_height : (im : Image) (o : Section) → Flat o → (i : ℕ) → slice_index (heights im o) i ≤ 1
flat_height im o flat i =
    by_ltb i (size_of im o) (λ p.
    let next : Next im o (heights im o) i (record_of im o i) = next_at_lem im o i p in
    let r : Rec = record_of im o i in
    omega (arith, next.here, flat_fields im o flat next.earlier (fields_of r.kind) r.fields))
    (λ p. rw (get_or-eq_default (heights im o) 0 {n = i} (rw heights_all p)) (omega arith))
