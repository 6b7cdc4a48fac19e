-- An accepted byte list is the encoding of the image that it stands for.
-- Each lemma has one form: what encodes a part, and then the bytes after it, are the bytes from the part on.
-- Assumes nothing.
use Prim.Native.Nat.{ℕ, zero, suc, ◌+◌, ◌*◌, ◌/◌, ◌%◌, ◌≤◌, ◌<◌}
use Rattle.std.specs.Prelude.{◌≡◌, Bool, true, false, cond, take}
use Rattle.std.proofs.Math.Path.{refl}
use Rattle.std.proofs.Common.{sym, ap, take-append-drop, length-take, length-drop, drop-drop}
use Rattle.std.proofs.lemmas.Bool.{false≢true}
use mathlib.Core.List.{List, [], ◌∷◌, ◌++◌, append_assoc, append-nil}
use native.Mathlib.Omega.{arith}
use Rattle.std.proofs.Math.Numerals.{add-one}
use Rattle.std.proofs.Math.ListN.{length, get_or, drop}
use Rattle.std.proofs.Math.Seq.{drop-cons, drop-length}
use Rattle.rl_spec.specs.declared.ArenaNo.{ArenaNo}
use Rattle.rl_spec.specs.declared.Counts.{Counts}
use Rattle.rl_spec.specs.Answers.{accepted}
use Rattle.rl_spec.specs.declared.Section.{Section}
use Rattle.rl_spec.specs.declared.Sort.{Sort}
use Rattle.rl_spec.specs.declared.Sort.TheVariants.{Raw, Byte, Scalar, Part, One, Maybe, Many, Range, OperandSort, Operand}
use Rattle.rl_spec.specs.Bytes.{num_at, u16_at}
use Rattle.rl_spec.specs.Schema.{text_bytes_at, sections, count_of, sort_of, width_of, fields_of}
use Rattle.rl_spec.specs.Read.{counts_of, answer_of}
use Rattle.rl_spec.specs.Image.{num, pair, bytes_of, encode_field, encode_fields, encode_record, encode_records, encode_sections, encode_counts, encode, is_pair, field_in, fields_at, widths_of, record_in, next_at, records_in, end_at, sections_in, image_of, AllBytes}
use Rattle.rl_images.specs.Reading.Rows.{last_at, sections_at}
use Rattle.rl_images.specs.Reading.ReadOutcome.{Reads, accepted_reads}
use Rattle.rl_images.specs.Encoding.BytesAt.{u16_number, u32_number}

-- ---- where records and sections end is not before they start

pub end_after : (s : List ℕ) (n at : ℕ) → at ≤ end_at s n at
unfolding end_at next_at
end_after s zero at = omega arith
end_after s (suc n) at = omega (arith, end_after s n (at + 1 + widths_of (fields_of (get_or s at 0))))

pub last_after : (s : List ℕ) (c : Counts) (os : List Section) (at : ℕ) → at ≤ last_at s c os at
unfolding last_at
last_after s c [] at = omega arith
last_after s c (o ∷ os) at = omega (arith, end_after s (count_of c o) at, last_after s c os (end_at s (count_of c o) at))

pub records_length : (s : List ℕ) (n at : ℕ) → length (records_in s n at) ≡ n
unfolding records_in
records_length s zero at = refl
records_length s (suc n) at = ap suc (records_length s n (next_at s at))

-- ---- numbers

pub byte_below : (s : List ℕ) → AllBytes s → (at : ℕ) → get_or s at 0 < 256
byte_below [] h at = omega arith
byte_below (b ∷ s) h zero = h.0
byte_below (b ∷ s) h (suc at) = byte_below s h.1 at

-- a field of two numbers has four bytes
pub pair_width : (o : Sort) → is_pair o ≡ true → width_of o ≡ 4
pair_width (Raw n) e = absurd (false≢true e)
pair_width (Byte low high) e = absurd (false≢true e)
pair_width Scalar e = refl
pair_width Part e = refl
pair_width (One t) e = absurd (false≢true e)
pair_width (Maybe t) e = absurd (false≢true e)
pair_width (Many l r n) e = refl
pair_width (Range o) e = refl
pair_width OperandSort e = absurd (false≢true e)
pair_width Operand e = absurd (false≢true e)

-- the counts of sections stand one after another, from a place on
abbrev pub CountsAt : List ℕ → Counts → List Section → ℕ → Type 0
CountsAt s c [] x = Unit {0}
CountsAt s c (o ∷ os) x = (count_of c o ≡ u16_at s x) × CountsAt s c os (x + 2)

pub header_counts : (s : List ℕ) → CountsAt s (counts_of s) sections 7
unfolding counts_of sections
header_counts s = (refl, (refl, (refl, (refl, (refl, (refl, (refl, (refl, tt))))))))

-- ---- from numbers to the sections

module _ (s : List ℕ) (bytes : AllBytes s) where
  number_bytes : (n at : ℕ) → at + n ≤ length s → bytes_of n (num_at s at n) ++ drop (at + n) s ≡ drop at s
  unfolding bytes_of num_at
  number_bytes zero at h = let e : at + 0 ≡ at = omega arith in rw e refl
  number_bytes (suc n) at h =
      let b : get_or s at 0 < 256 = byte_below s bytes at in
      let l : at < length s = omega arith in
      let low : (get_or s at 0 + 256 * num_at s (at + 1) n) % 256 ≡ get_or s at 0 = omega arith in
      let high : (get_or s at 0 + 256 * num_at s (at + 1) n) / 256 ≡ num_at s (at + 1) n = omega arith in
      let e : at + suc n ≡ at + 1 + n = omega arith in
      rw (low, high, e, drop-cons s at 0 l, ← add-one at) (ap (λ (t : List ℕ). get_or s at 0 ∷ t) (number_bytes n (at + 1) (omega arith)))

  u16_bytes : (at : ℕ) → at + 2 ≤ length s → bytes_of 2 (u16_at s at) ++ drop (at + 2) s ≡ drop at s
  u16_bytes at h = rw u16_number (number_bytes 2 at h)

  field_bytes : (o : Sort) (at : ℕ) → at + width_of o ≤ length s → encode_field o (field_in s o at) ++ drop (at + width_of o) s ≡ drop at s
  field_bytes o at h = go (is_pair o) refl
    where
      go : (b : Bool) → is_pair o ≡ b → encode_field o (cond b (pair (u16_at s at) (u16_at s (at + 2))) (num (num_at s at (width_of o)))) ++ drop (at + width_of o) s ≡ drop at s
      go true e =
          let l : at + 2 + 2 ≤ length s = omega (arith, pair_width o e) in
          let m : at + 4 ≡ at + 2 + 2 = omega arith in
          rw (pair_width o e, append_assoc, m, u16_bytes (at + 2) l) (u16_bytes at (omega arith))
      go false e = number_bytes (width_of o) at h

  fields_bytes : (os : List ℕ) (at : ℕ) → at + widths_of os ≤ length s → encode_fields os (fields_at s os at) ++ drop (at + widths_of os) s ≡ drop at s
  unfolding encode_fields fields_at widths_of
  fields_bytes [] at h = let e : at + 0 ≡ at = omega arith in rw e refl
  fields_bytes (o ∷ os) at h =
      let e : at + (width_of (sort_of o) + widths_of os) ≡ at + width_of (sort_of o) + widths_of os = omega arith in
      rw (append_assoc, e, fields_bytes os (at + width_of (sort_of o)) (omega arith)) (field_bytes (sort_of o) at (omega arith))

  record_bytes : (at : ℕ) → next_at s at ≤ length s → encode_record (record_in s at) ++ drop (next_at s at) s ≡ drop at s
  unfolding encode_record record_in next_at
  record_bytes at h =
      let l : at < length s = omega arith in
      rw (drop-cons s at 0 l, ← add-one at)
      (ap (λ (t : List ℕ). get_or s at 0 ∷ t) (fields_bytes (fields_of (get_or s at 0)) (at + 1) h))

  pub records_bytes : (n at : ℕ) → end_at s n at ≤ length s → encode_records (records_in s n at) ++ drop (end_at s n at) s ≡ drop at s
  unfolding encode_records records_in end_at
  records_bytes zero at h = refl
  records_bytes (suc n) at h =
      rw (append_assoc, records_bytes n (next_at s at) h) (record_bytes at (omega (arith, end_after s n (next_at s at))))

  sections_bytes : (c : Counts) (os : List Section) (at : ℕ) → last_at s c os at ≤ length s → encode_sections (sections_in s c os at) ++ drop (last_at s c os at) s ≡ drop at s
  unfolding encode_sections sections_in last_at
  sections_bytes c [] at h = refl
  sections_bytes c (o ∷ os) at h =
      rw (append_assoc, sections_bytes c os (end_at s (count_of c o) at) h)
      (records_bytes (count_of c o) at (omega (arith, last_after s c os (end_at s (count_of c o) at))))

  -- sections that end where the bytes do
  sections_rest : (c : Counts) (os : List Section) (at : ℕ) → length s ≡ last_at s c os at → encode_sections (sections_in s c os at) ≡ drop at s
  sections_rest c os at e = rw (← e, drop-length, append-nil) at (sections_bytes c os at (omega arith))

  -- ---- the header and the whole

  counts_bytes : (c : Counts) (os : List Section) (at x : ℕ) → CountsAt s c os x → x + 2 * length os ≤ length s → encode_counts (sections_in s c os at) ++ drop (x + 2 * length os) s ≡ drop x s
  unfolding encode_counts sections_in
  counts_bytes c [] at x q h = let e : x + 0 ≡ x = omega arith in rw e refl
  counts_bytes c (o ∷ os) at x q h =
      let e : x + 2 * suc (length os) ≡ x + 2 + 2 * length os = omega arith in
      rw (append_assoc, e, counts_bytes c os (end_at s (count_of c o) at) (x + 2) q.1 (omega arith), records_length, q.0)
      (u16_bytes x (omega arith))

  -- the text bytes
  pub text_bytes_lem : (n : ℕ) → take n (drop text_bytes_at s) ++ drop (text_bytes_at + n) s ≡ drop text_bytes_at s
  text_bytes_lem n = rw (← drop-drop n text_bytes_at s) (take-append-drop n (drop text_bytes_at s))

  pub text_length : sections_at s ≤ length s → length (take (counts_of s).bytes (drop text_bytes_at s)) ≡ u16_at s 5
  unfolding counts_of
  text_length h = rw (length-take, length-drop) (omega arith)

  image_bytes : {p : List ℕ} → Reads s p → encode (image_of s) ≡ s
  unfolding encode image_of sections
  image_bytes r =
      let c : Counts = counts_of s in
      let at : ℕ = sections_at s in
      let l : text_bytes_at ≤ length s = r.header.inside in
      let f : encode_sections (sections_in s c sections at) ≡ drop at s = sections_rest c sections at r.ends in
      let n : encode_counts (sections_in s c sections at) ++ drop text_bytes_at s ≡ drop 7 s =
      counts_bytes c sections at 7 (header_counts s) l in
      simp append_assoc
      (rw (f, text_bytes_lem c.bytes, n, text_length r.text, u16_bytes 5 (omega arith), u32_number s 1, number_bytes 4 1 (omega arith))
      (sym (rw r.header.kind at (drop-cons s 0 0 (omega arith)))))

-- THEOREM
pub accepted_encodes : (s : List ℕ) (k : ℕ) (a : ArenaNo) (c : Counts) → AllBytes s → answer_of s k ≡ accepted a c → encode (image_of s) ≡ s
accepted_encodes s k a c h e = image_bytes s h (accepted_reads s k a c e)
