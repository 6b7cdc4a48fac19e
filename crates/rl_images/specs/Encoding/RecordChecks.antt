-- The reader accepts the records of a well-formed section, and finds their heights.
-- Assumes nothing.
use Prim.Native.Nat.{ℕ, ◌+◌, ◌-◌, ◌≤◌, max}
use Rattle.std.specs.Prelude.{◌≡◌, Bool, true, length, get_or}
use Rattle.std.proofs.Math.Path.{refl}
use Rattle.std.proofs.Common.{◌∙◌}
use Rattle.std.proofs.Math.Bool.{false}
use Rattle.std.proofs.lemmas.Bool.{false≢true}
use mathlib.Core.List.{List, [], ◌∷◌, map}
use native.Mathlib.Omega.{arith}
use borrow.Author.Tests.{lt-ltb, eqb-true}
use Rattle.rl_spec.specs.declared.Counts.{Counts}
use Rattle.rl_spec.specs.declared.Section.{Section}
use Rattle.rl_spec.specs.declared.Sort.{Sort}
use Rattle.rl_spec.specs.Answers.{goes_on}
use Rattle.rl_spec.specs.Schema.{tallest, sort_of, width_of, fields_of}
use Rattle.rl_spec.specs.Fields.{field_at, fields_from, record_at}
use Rattle.rl_spec.specs.Image.{Field, num, pair, Rec, Image, first, encode_field, encode_fields, encode_record, widths_of, tallest_in, tallest_child, FieldsFit, no_fields, ◌&◌, RecordFits}
use Rattle.rl_images.specs.Encoding.BytesAt.{BytesAt, left, there, number, byte_number}
use Rattle.rl_images.specs.Images.SchemaSorts.{suits, is_narrow, all_suit, and_left, and_right, schema_suits}
use Rattle.rl_images.specs.Encoding.FieldWidths.{Bounded, Sized, AllSized, SizedRecord, width, next_field, record_sized, length_record, kind_stands, fields_stand}
use Rattle.rl_images.specs.Encoding.FieldChecks.{Ready, value_good}

-- the last byte of a field of one byte is its number
last_byte : {s : List ℕ} {at : ℕ} (k : Sort) (f : Field) → Sized k f → BytesAt s at (encode_field k f) → is_narrow k ≡ true → get_or s (at + width_of k - 1) 0 ≡ first f
last_byte {s} {at} k (num x) z st n =
    let e : width_of k ≡ 1 = eqb-true (width_of k) 1 n in
    let a : at + width_of k - 1 ≡ at = omega arith in
    rw (a, byte_number s at) (number 1 x (rw e at z.1) (rw e at st))
last_byte k (pair a b) z st n = absurd (omega (arith, eqb-true (width_of k) 1 n))

next : {a b x y : ℕ} → a ≡ b → x ≡ y → goes_on a x ≡ goes_on b y
next d e = cc

module _ (im : Image) (bounded : Bounded im) (s w p : List ℕ) (seen : Counts) (o : Section) (i : ℕ) (h : List ℕ) (short : i ≤ 4096) (ready : Ready im s w p seen o i h) where
  pub fields_good : {before : ℕ} {fs : List Field} (narrow : Bool) (at tall : ℕ) (cs : List ℕ) → all_suit o narrow cs ≡ true → (narrow ≡ true → get_or s (at - 1) 0 ≡ before) → FieldsFit im o i before (map sort_of cs) fs → AllSized cs fs → BytesAt s at (encode_fields cs fs) → fields_from s w p seen o cs at tall ≡ goes_on (at + widths_of cs) (max tall (tallest_child im o h cs fs))
  unfolding fields_from field_at encode_fields widths_of tallest_child
  fields_good narrow at tall [] u b no_fields z st = next (omega arith) (omega arith)
  fields_good narrow at tall (c ∷ cs) u b (◌&◌ {f = f} {fs = fs} d ds) z st =
      let k : Sort = sort_of c in
      let here = left (encode_field k f) (encode_fields cs fs) st in
      let e = value_good im bounded s w p seen o i h short ready narrow at tall (and_left (suits o narrow k) (all_suit o (is_narrow k) cs) u) b d z.0 here in
      rw (there here (width_of k) (width k f z.0), e)
      (fields_good (is_narrow k) (at + width_of k) (max tall (tallest_in im o h k f)) cs (and_right (suits o narrow k) (all_suit o (is_narrow k) cs) u)
      (last_byte k f z.0 here) ds z.1 (next_field c cs f fs z.0 st)
      ∙ next (omega arith) (omega arith))

  module _ (r : Rec) (fits : RecordFits im o i r) where
    pub record_good : (at : ℕ) → BytesAt s at (encode_record r) → tallest_child im o h (fields_of r.kind) r.fields + 1 ≤ tallest o → record_at s w p seen o at ≡ goes_on (at + length (encode_record r)) (tallest_child im o h (fields_of r.kind) r.fields + 1)
    unfolding record_at encode_record
    record_good at st q =
        let cs : List ℕ = fields_of r.kind in
        let most : ℕ = tallest_child im o h cs r.fields in
        let z : SizedRecord r = record_sized im bounded o i short r fits in
        let here = there (left (r.kind ∷ []) (encode_fields cs r.fields) st) 1 refl in
        let e = fields_good false (at + 1) 0 cs (schema_suits o r.kind fits.kind) (λ d. absurd (false≢true d)) fits.fields z (fields_stand r st) in
        let m : max 0 most ≡ most = omega arith in
        rw (here, kind_stands r st, fits.kind, e, m, lt-ltb most (tallest o) (omega arith)) (next (omega (arith, length_record r z)) refl)
