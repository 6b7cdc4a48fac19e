-- The parts of an accepted image stand where the reader looks for them, and its counts are within the limits.
-- Assumes nothing.
use Rattle.std.specs.Prelude.{ℕ, zero, suc, ◌+◌, ◌*◌, ◌^◌, ◌≤◌, ◌<◌, ◌≡◌, List, [], ◌∷◌, ◌++◌, map, length, get_or, take, drop}
use Rattle.std.proofs.Math.Path.{refl}
use Rattle.std.proofs.Common.{sym, ap, ◌∙◌, arith, take-append-drop, length-append, length-drop, length-take-le}
use Rattle.rl_spec.specs.declared.ArenaNo.{ArenaNo}
use Rattle.rl_spec.specs.declared.Counts.{Counts}
use Rattle.rl_spec.specs.Answers.{accepted}
use Rattle.rl_spec.specs.declared.Section.{Section}
use Rattle.rl_spec.specs.declared.Section.TheVariants.{Texts, Lists, Expressions, Statements, Parameters, Clauses, Functions, Calls}
use Rattle.rl_spec.specs.Bytes.{u16_at}
use Rattle.rl_spec.specs.Schema.{limits, text_bytes_at, sections, count_of, sort_of, schema, fields_in, fields_of}
use Rattle.rl_spec.specs.Fields.{lists_at}
use Rattle.rl_spec.specs.Read.{counts_of, answer_of}
use Rattle.rl_spec.specs.Image.{Rec, Image, records_of, record_of, field_of, first, entry_of, encode_records, fields_at, record_in, end_at, sections_in, image_of, AllBytes, AllWithin}
use Rattle.rl_images.specs.Reading.Rows.{last_at, sections_at}
use Rattle.rl_images.specs.Reading.Whole.{CountsIn}
use Rattle.rl_images.specs.Reading.ReadOutcome.{Reads, accepted_reads, accepted_header}
use Rattle.rl_images.specs.Reading.Decode.{last_after, end_after, records_length, CountsAt, header_counts, records_bytes, text_bytes_lem, text_length}
use Rattle.rl_images.specs.Reading.Starts.{section_at, section_records, section_size, stands_entry}
use Rattle.rl_images.specs.Images.SchemaSorts.{kind_range}
use Rattle.rl_images.specs.Encoding.BytesAt.{BytesAt, u16_number, u32_number}
use Rattle.rl_images.specs.Encoding.ReaderKnows.{counts, Placed}
use Rattle.rl_images.specs.Encoding.CheckedFits.{number_below}

-- ---- bytes

pub take_bytes : (n : ℕ) (s : List ℕ) → AllBytes s → AllBytes (take n s)
take_bytes zero s h = tt
take_bytes (suc n) [] h = tt
take_bytes (suc n) (b ∷ s) h = (h.0, take_bytes n s h.1)

pub drop_bytes : (n : ℕ) (s : List ℕ) → AllBytes s → AllBytes (drop n s)
drop_bytes zero s h = h
drop_bytes (suc n) [] h = tt
drop_bytes (suc n) (b ∷ s) h = drop_bytes n s h.1

-- the bytes from a place on begin with what stands there
split_stands : (s x y : List ℕ) (at : ℕ) → at ≤ length s → x ++ y ≡ drop at s → BytesAt s at x
split_stands s x y at l e =
    record { before = take at s; rest = y; whole = rw e (sym (take-append-drop at s)); place = length-take-le at s l }

-- ---- counts

counts_within : (s : List ℕ) (c : Counts) (os : List Section) (ms : List ℕ) (at x : ℕ) → length os ≡ length ms → CountsAt s c os x → CountsIn s ms x → AllWithin (map length (sections_in s c os at)) ms
unfolding sections_in
counts_within s c [] [] at x e q h = tt
counts_within s c [] (m ∷ ms) at x e q h = absurd (omega arith)
counts_within s c (o ∷ os) [] at x e q h = absurd (omega arith)
counts_within s c (o ∷ os) (m ∷ ms) at x e q h =
    (rw (records_length, q.0) h.0, counts_within s c os ms (end_at s (count_of c o) at) (x + 2) (omega arith) q.1 h.1)

module _ (s : List ℕ) (bytes : AllBytes s) {p : List ℕ} (r : Reads s p) where
  pub arena_below : (image_of s).arena < 2 ^ 32
  unfolding image_of
  arena_below = rw (u32_number s 1) (number_below s bytes 4 1)

  pub text_are_bytes : AllBytes (image_of s).bytes
  unfolding image_of
  text_are_bytes = take_bytes (counts_of s).bytes (drop text_bytes_at s) (drop_bytes text_bytes_at s bytes)

  pub image_counts : AllWithin (length (image_of s).bytes ∷ map length (image_of s).records) limits
  unfolding image_of limits sections
  image_counts =
      (rw (text_length s bytes r.text) r.header.counts.0, counts_within s (counts_of s) sections (drop 1 limits) (sections_at s) 7 refl (header_counts s) r.header.counts.1)

  bytes_size : length (image_of s).bytes ≡ (counts_of s).bytes
  unfolding image_of counts_of
  bytes_size = text_length s bytes r.text

  pub counts_image : counts (image_of s) ≡ counts_of s
  counts_image =
      rw (
        bytes_size,
        section_size s Texts,
        section_size s Lists,
        section_size s Expressions,
        section_size s Statements,
        section_size s Parameters,
        section_size s Clauses,
        section_size s Functions,
        section_size s Calls,
      )

  -- ---- places

  section_ends : (o : Section) → end_at s (count_of (counts_of s) o) (section_at s o) ≤ last_at s (counts_of s) sections (sections_at s)
  unfolding section_at last_at sections
  section_ends Texts = last_after s (counts_of s) (drop 1 sections) _
  section_ends Lists = last_after s (counts_of s) (drop 2 sections) _
  section_ends Expressions = last_after s (counts_of s) (drop 3 sections) _
  section_ends Statements = last_after s (counts_of s) (drop 4 sections) _
  section_ends Parameters = last_after s (counts_of s) (drop 5 sections) _
  section_ends Clauses = last_after s (counts_of s) (drop 6 sections) _
  section_ends Functions = last_after s (counts_of s) (drop 7 sections) _
  section_ends Calls = last_after s (counts_of s) (drop 8 sections) _

  section_bytes : (o : Section) → encode_records (records_of (image_of s) o) ++ drop (end_at s (count_of (counts_of s) o) (section_at s o)) s ≡ drop (section_at s o) s
  section_bytes o =
      rw section_records
      (records_bytes s bytes (count_of (counts_of s) o) (section_at s o) (omega (arith, section_ends o, r.ends)))

  pub section_stands : (o : Section) → BytesAt s (section_at s o) (encode_records (records_of (image_of s) o))
  section_stands o =
      split_stands s _ _ (section_at s o)
      (omega (arith, section_ends o, r.ends, end_after s (count_of (counts_of s) o) (section_at s o))) (section_bytes o)

  pub section_next : (o : Section) → section_at s o + length (encode_records (records_of (image_of s) o)) ≡ end_at s (count_of (counts_of s) o) (section_at s o)
  section_next o =
      omega (
        arith,
        section_ends o,
        r.ends,
        end_after s (count_of (counts_of s) o) (section_at s o),
        simp (length-append, length-drop) at (ap length (section_bytes o)),
      )

  pub text_stands : BytesAt s text_bytes_at (image_of s).bytes
  unfolding image_of
  text_stands = split_stands s _ _ text_bytes_at r.header.inside (text_bytes_lem s bytes (counts_of s).bytes)

-- a list entry is the number after its kind
entry_is : (s : List ℕ) (im : Image) (k at : ℕ) → get_or s at 0 ≡ 3 → record_in s at ≡ record_of im Lists k → u16_at s (at + 1) ≡ entry_of im k
unfolding record_in fields_at fields_of fields_in schema sort_of
entry_is s im k at d e =
    let f : u16_at s (at + 1) ≡ first (field_of (record_in s at) 0) = rw d (u16_number s (at + 1)) in
    f ∙ ap (λ (x : Rec). first (field_of x 0)) e

module _ (s : List ℕ) (k : ℕ) (a : ArenaNo) (c : Counts) (e : answer_of s k ≡ accepted a c) where
  entry_stands : (i : ℕ) → i < c.lists → u16_at s (lists_at c + i * 3 + 1) ≡ entry_of (image_of s) i
  entry_stands i l =
      let at : ℕ = lists_at c + i * 3 in
      let st = stands_entry s k a c e i l in
      entry_is s (image_of s) i at (omega (arith, kind_range Lists (get_or s at 0) st.kind)) st.found

  pub placed : AllBytes s → Placed (image_of s) s
  placed bytes =
      let r = accepted_reads s k a c e in
      let n : c ≡ counts (image_of s) = (accepted_header s k a c e).1 ∙ sym (counts_image s bytes r) in
      record { text = text_stands s bytes r; entry = rw n at entry_stands }
