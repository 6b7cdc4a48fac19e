-- The values of a well-formed record fit the bytes that its fields take, and the record is read back from its bytes.
-- Assumes nothing.
use Prim.Native.Nat.{ℕ, zero, suc, ◌+◌, ◌*◌, ◌^◌, ◌≤◌, ◌<◌}
use Rattle.std.specs.Prelude.{◌≡◌, Bool, true, false, cond, get_or}
use Rattle.std.proofs.Math.Path.{refl, ap}
use Rattle.std.proofs.Common.{◌∙◌, inl, inr, suc-mul, ltb-true}
use mathlib.Core.List.{List, [], ◌∷◌, ◌++◌, map}
use native.Mathlib.Omega.{arith}
use Rattle.std.proofs.Math.Nat.{zero-mul}
use Rattle.std.proofs.Math.ListN.{length, length-append}
use Rattle.rl_spec.specs.declared.Section.{Section}
use Rattle.rl_spec.specs.declared.Section.TheVariants.{Texts, Lists}
use Rattle.rl_spec.specs.declared.Target.{Target}
use Rattle.rl_spec.specs.declared.Sort.{Sort}
use Rattle.rl_spec.specs.Bytes.{u16_at}
use Rattle.rl_spec.specs.Schema.{sort_of, width_of, fields_of}
use Rattle.rl_spec.specs.Image.{Field, num, pair, Rec, Image, size_of, section_of, same_section, bytes_of, encode_field, encode_fields, encode_record, encode_records, is_pair, field_in, fields_at, widths_of, record_in, next_at, records_in, end_at, Refers, OperandFits, SortFits, FieldFits, a_raw, a_byte, a_scalar, a_part, a_reference, an_option, a_list, a_range, a_sort, an_operand, FieldsFit, no_fields, ◌&◌, RecordFits}
use Rattle.rl_images.specs.Reading.Utf8.{scalar_cases}
use Rattle.rl_images.specs.Encoding.BytesAt.{BytesAt, left, right, head, tail, moved, length_bytes, number, u16_number}
use Rattle.rl_images.specs.Images.SchemaSorts.{suits, is_narrow, all_suit, and_left, and_right, schema_suits}

-- what the limits say of the numbers that fields hold
pub record Bounded (im : Image) : Type 0 where
  pub bytes : length im.bytes ≤ 16384
  pub sizes : (o : Section) → size_of im o ≤ 4096

-- ---- a field

-- a field's numbers fit its bytes
abbrev pub Sized : Sort → Field → Type 0
Sized k (num x) = (is_pair k ≡ false) × (x < 256 ^ width_of k)
Sized k (pair a b) = (is_pair k ≡ true) × (width_of k ≡ 4) × (a < 65536) × (b < 65536)

pub width : (k : Sort) (f : Field) → Sized k f → length (encode_field k f) ≡ width_of k
width k (num x) z = length_bytes (width_of k) x
width k (pair a b) z = rw (length-append, length_bytes 2 a, length_bytes 2 b, z.1)

pub u16_stands : {s : List ℕ} {at : ℕ} (a : ℕ) → a < 65536 → BytesAt s at (bytes_of 2 a) → u16_at s at ≡ a
u16_stands {s} {at} a p st = u16_number s at ∙ number 2 a p st

module _ {s : List ℕ} {at : ℕ} where
  pub first_stands : (a b : ℕ) → a < 65536 → BytesAt s at (bytes_of 2 a ++ bytes_of 2 b) → u16_at s at ≡ a
  first_stands a b p st = u16_stands a p (left (bytes_of 2 a) (bytes_of 2 b) st)

  pub second_stands : (a b : ℕ) → b < 65536 → BytesAt s at (bytes_of 2 a ++ bytes_of 2 b) → u16_at s (at + 2) ≡ b
  second_stands a b p st = u16_stands b p (rw length_bytes at (right (bytes_of 2 a) (bytes_of 2 b) st))

  field_in_lem : (k : Sort) (f : Field) → Sized k f → BytesAt s at (encode_field k f) → field_in s k at ≡ f
  field_in_lem k (num x) z st = rw (z.0, number (width_of k) x z.1 st)
  field_in_lem k (pair a b) z st = rw (z.0, first_stands a b z.2 st, second_stands a b z.3 st)

module _ (im : Image) (bounded : Bounded im) (o : Section) (i : ℕ) (short : i ≤ 4096) where
  -- a reference is below 65,535, which stands for none
  small : (b : Bool) (n m : ℕ) → m ≤ 4096 → n < cond b i m → n < 65535
  small true n m q p = omega arith
  small false n m q p = omega arith

  pub reference_small : (t : Target) (n : ℕ) → Refers im o i t n → n < 65535
  reference_small t n r = small (same_section o (section_of t)) n (size_of im (section_of t)) (bounded.sizes (section_of t)) r.earlier

  operand_small : (b x : ℕ) → OperandFits im b x → x < 256 ^ 8
  operand_small zero x h = omega arith
  operand_small (suc zero) x h = h
  operand_small (suc (suc zero)) x h = omega (arith, bounded.sizes Texts)
  operand_small (suc (suc (suc zero))) x h = omega arith
  operand_small (suc (suc (suc (suc zero)))) x h = omega (arith, bounded.sizes Texts)
  operand_small (suc (suc (suc (suc (suc b))))) x h = absurd h

  sort_small : (b x : ℕ) → SortFits b x → x < 256 ^ 1
  sort_small zero x h = omega arith
  sort_small (suc b) x h = omega arith

  sized : {b : ℕ} {k : Sort} {f : Field} (narrow : Bool) → suits o narrow k ≡ true → FieldFits im o i b k f → Sized k f
  sized narrow u (a_raw p) = (refl, p)
  sized narrow u (a_byte {high = high} p q) = (refl, omega (arith, ltb-true high 256 u))
  sized narrow u (a_scalar {x} p) = (refl, scalar_cases x p (λ p. omega arith) (λ p q. omega arith))
  sized narrow u (a_part p e) = (refl, refl, omega (arith, bounded.bytes), omega (arith, bounded.bytes))
  sized narrow u (a_reference {t} {x} r) = (refl, omega (arith, reference_small t x r))
  sized narrow u (an_option (inl e)) = (refl, omega arith)
  sized narrow u (an_option {t} {x} (inr r)) = (refl, omega (arith, reference_small t x r))
  sized narrow u (a_list p e es) = (refl, refl, omega (arith, bounded.sizes Lists), omega (arith, bounded.sizes Lists))
  sized narrow u (a_range {q} p) = (refl, refl, omega (arith, bounded.sizes q), omega (arith, bounded.sizes q))
  sized {b} narrow u (a_sort {x} p) = (refl, sort_small b x p)
  sized {b} narrow u (an_operand {x} p) = (refl, operand_small b x p)

-- ---- the fields of a record

abbrev pub AllSized : List ℕ → List Field → Type 0
AllSized [] [] = Unit {0}
AllSized [] (f ∷ fs) = ⊥
AllSized (c ∷ cs) [] = ⊥
AllSized (c ∷ cs) (f ∷ fs) = Sized (sort_of c) f × AllSized cs fs

widths : (cs : List ℕ) (fs : List Field) → AllSized cs fs → length (encode_fields cs fs) ≡ widths_of cs
unfolding encode_fields widths_of
widths [] [] z = refl
widths [] (f ∷ fs) z = absurd z
widths (c ∷ cs) [] z = absurd z
widths (c ∷ cs) (f ∷ fs) z = rw (length-append, width (sort_of c) f z.0, widths cs fs z.1)

-- the bytes after the first field's stand after it
pub next_field : {s : List ℕ} {at : ℕ} (c : ℕ) (cs : List ℕ) (f : Field) (fs : List Field) → Sized (sort_of c) f → BytesAt s at (encode_fields (c ∷ cs) (f ∷ fs)) → BytesAt s (at + width_of (sort_of c)) (encode_fields cs fs)
unfolding encode_fields
next_field {s} {at} c cs f fs z st =
    moved (right (encode_field (sort_of c) f) (encode_fields cs fs) st) (at + width_of (sort_of c)) (ap (λ (n : ℕ). at + n) (width (sort_of c) f z))

pub fields_in_lem : {s : List ℕ} {at : ℕ} (cs : List ℕ) (fs : List Field) → AllSized cs fs → BytesAt s at (encode_fields cs fs) → fields_at s cs at ≡ fs
unfolding encode_fields fields_at
fields_in_lem [] [] z st = refl
fields_in_lem [] (f ∷ fs) z st = absurd z
fields_in_lem (c ∷ cs) [] z st = absurd z
fields_in_lem {at = at} (c ∷ cs) (f ∷ fs) z st =
    let e = field_in_lem (sort_of c) f z.0 (left (encode_field (sort_of c) f) (encode_fields cs fs) st) in
    rw (e, fields_in_lem {at = at + width_of (sort_of c)} cs fs z.1 (next_field c cs f fs z.0 st))

module _ (im : Image) (bounded : Bounded im) (o : Section) (i : ℕ) (short : i ≤ 4096) where
  pub all_sized : {b : ℕ} {fs : List Field} (narrow : Bool) (cs : List ℕ) → all_suit o narrow cs ≡ true → FieldsFit im o i b (map sort_of cs) fs → AllSized cs fs
  all_sized narrow [] u no_fields = tt
  all_sized narrow (c ∷ cs) u (h & hs) =
      let v : Bool = suits o narrow (sort_of c) in
      let r : Bool = all_suit o (is_narrow (sort_of c)) cs in
      (sized im bounded o i short narrow (and_left v r u) h, all_sized (is_narrow (sort_of c)) cs (and_right v r u) hs)

-- ---- records

abbrev pub SizedRecord : Rec → Type 0
SizedRecord r = AllSized (fields_of r.kind) r.fields

pub record_sized : (im : Image) → Bounded im → (o : Section) (i : ℕ) → i ≤ 4096 → (r : Rec) → RecordFits im o i r → SizedRecord r
record_sized im bounded o i short r fits =
    all_sized im bounded o i short false (fields_of r.kind) (schema_suits o r.kind fits.kind) fits.fields

pub length_record : (r : Rec) → SizedRecord r → length (encode_record r) ≡ suc (widths_of (fields_of r.kind))
unfolding encode_record
length_record r z = ap suc (widths (fields_of r.kind) r.fields z)

module _ {s : List ℕ} {at : ℕ} (r : Rec) (st : BytesAt s at (encode_record r)) where
  pub kind_stands : get_or s at 0 ≡ r.kind
  unfolding encode_record
  kind_stands = head st

  pub fields_stand : BytesAt s (at + 1) (encode_fields (fields_of r.kind) r.fields)
  unfolding encode_record
  fields_stand = tail st

  record_in_lem : SizedRecord r → record_in s at ≡ r
  unfolding record_in
  record_in_lem z = rw (kind_stands, fields_in_lem (fields_of r.kind) r.fields z fields_stand)

  pub next_at_lem : SizedRecord r → next_at s at ≡ at + length (encode_record r)
  unfolding next_at
  next_at_lem z = rw (kind_stands, length_record r z) (omega arith)

abbrev pub AllSizedRecords : List Rec → Type 0
AllSizedRecords [] = Unit {0}
AllSizedRecords (r ∷ rs) = SizedRecord r × AllSizedRecords rs

module _ {s : List ℕ} where
  pub records_in_lem : {at : ℕ} (rs : List Rec) → AllSizedRecords rs → BytesAt s at (encode_records rs) → records_in s (length rs) at ≡ rs
  unfolding records_in encode_records
  records_in_lem [] z st = refl
  records_in_lem {at} (r ∷ rs) z st =
      let here = left (encode_record r) (encode_records rs) st in
      rw (record_in_lem r here z.0, next_at_lem r here z.0, records_in_lem {at = at + length (encode_record r)} rs z.1 (right (encode_record r) (encode_records rs) st))

  pub end_at_lem : {at : ℕ} (rs : List Rec) → AllSizedRecords rs → BytesAt s at (encode_records rs) → end_at s (length rs) at ≡ at + length (encode_records rs)
  unfolding end_at encode_records
  end_at_lem [] z st = omega arith
  end_at_lem {at} (r ∷ rs) z st =
      let here = left (encode_record r) (encode_records rs) st in
      ap (end_at s (length rs)) (next_at_lem r here z.0) ∙ end_at_lem {at = at + length (encode_record r)} rs z.1 (right (encode_record r) (encode_records rs) st)
      ∙ rw length-append (omega arith)

-- records that are m bytes each: their length, and the k-th of them
module _ (m : ℕ) (d : Rec) where
  abbrev pub Alike : List Rec → Type 0
  Alike rs = (n : ℕ) → n < length rs → length (encode_record (get_or rs n d)) ≡ m

  pub length_records : (rs : List Rec) → Alike rs → length (encode_records rs) ≡ length rs * m
  unfolding encode_records
  length_records [] e = rw zero-mul
  length_records (r ∷ rs) e =
      let z : length (encode_record r) ≡ m = e 0 (omega arith) in
      rw (length-append, z, length_records rs (λ n p. e (suc n) (omega arith)), suc-mul) (omega arith)

  pub nth_stands : {s : List ℕ} {at : ℕ} (rs : List Rec) → Alike rs → BytesAt s at (encode_records rs) → (k : ℕ) → k < length rs → BytesAt s (at + k * m) (encode_record (get_or rs k d))
  unfolding encode_records
  nth_stands [] e st k p = absurd (omega arith)
  nth_stands {at = at} (r ∷ rs) e st zero p = moved (left (encode_record r) (encode_records rs) st) (at + 0 * m) (rw zero-mul (omega arith))
  nth_stands {at = at} (r ∷ rs) e st (suc k) p =
      let z : length (encode_record r) ≡ m = e 0 (omega arith) in
      let next = nth_stands {at = at + length (encode_record r)} rs (λ n p. e (suc n) (omega arith)) (right (encode_record r) (encode_records rs) st) k (omega arith) in
      moved next (at + suc k * m) (rw (z, suc-mul) (omega arith))
