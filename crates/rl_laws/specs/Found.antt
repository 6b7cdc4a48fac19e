-- The records, list entries and texts of the image that bytes, starts and counts give.
-- Assumes nothing.
use Prim.Native.Nat.{ℕ, zero, suc, ◌+◌, ◌*◌, ◌≤◌, ◌<◌}
use Rattle.std.specs.Prelude.{◌≡◌, List, [], length, get_or, take, drop}
use Rattle.std.proofs.Math.Path.{refl, ap}
use Rattle.std.proofs.Common.{◌∙◌, arith}
use Rattle.std.proofs.Math.ListN.{get_or-eq_default}
use Rattle.rl_spec.specs.declared.Counts.{Counts}
use Rattle.rl_spec.specs.declared.Section.{Section}
use Rattle.rl_spec.specs.declared.Section.TheVariants.{Texts, Lists, Expressions, Statements, Parameters, Clauses, Functions, Calls}
use Rattle.rl_spec.specs.Bytes.{num_at, u16_at}
use Rattle.rl_spec.specs.Schema.{text_bytes_at, sections, count_of, sort_of, schema, fields_in, fields_of}
use Rattle.rl_spec.specs.Fields.{lists_at}
use Rattle.rl_spec.specs.Image.{records_of, size_of, no_record, record_of, entry_of, text_of, fields_at}
use Rattle.rl_spec.specs.Found.{record_as, record_found, records_found, image_found}
use Rattle.rl_spec.specs.Texts.{text_part}

module _ (s p : List ℕ) (c : Counts) where
  pub records_found_lem : (o : Section) → records_of (image_found s p c) o ≡ records_found s p c o (count_of c o) 0
  unfolding image_found sections
  records_found_lem Texts = refl
  records_found_lem Lists = refl
  records_found_lem Expressions = refl
  records_found_lem Statements = refl
  records_found_lem Parameters = refl
  records_found_lem Clauses = refl
  records_found_lem Functions = refl
  records_found_lem Calls = refl

  module _ (o : Section) where
    length_found : (n i : ℕ) → length (records_found s p c o n i) ≡ n
    unfolding records_found
    length_found zero i = refl
    length_found (suc n) i = ap suc (length_found n (i + 1))

    get_or_found : (n i j : ℕ) → j < n → get_or (records_found s p c o n i) j no_record ≡ record_found s p c o (i + j)
    unfolding records_found
    get_or_found zero i j h = absurd (omega arith)
    get_or_found (suc n) i zero h = ap (record_found s p c o) (omega arith)
    get_or_found (suc n) i (suc j) h = get_or_found n (i + 1) j (omega arith) ∙ ap (record_found s p c o) (omega arith)

    -- as many records as the counts say
    pub size_found : size_of (image_found s p c) o ≡ count_of c o
    size_found = rw records_found_lem (length_found (count_of c o) 0)

    pub record_found_lem : (i : ℕ) → i < count_of c o → record_of (image_found s p c) o i ≡ record_found s p c o i
    record_found_lem i h = rw records_found_lem (get_or_found (count_of c o) 0 i h ∙ ap (record_found s p c o) (omega arith))

    pub record_missing : (i : ℕ) → count_of c o ≤ i → record_of (image_found s p c) o i ≡ no_record
    record_missing i h = get_or-eq_default (records_of (image_found s p c) o) no_record (rw size_found h)

  -- ---- a list entry

  pub entry_found : (k : ℕ) → k < c.lists → entry_of (image_found s p c) k ≡ u16_at s (lists_at c + k * 3 + 1)
  unfolding record_found record_as fields_at fields_of fields_in schema sort_of num_at u16_at
  entry_found k h = rw (record_found_lem Lists k h) (omega arith)

  pub entry_missing : (k : ℕ) → c.lists ≤ k → entry_of (image_found s p c) k ≡ 0
  entry_missing k h = rw (record_missing Lists k h) refl

  -- ---- a text

  pub text_found : (t : ℕ) → t < c.texts → text_of (image_found s p c) t ≡ take (u16_at s (text_bytes_at + c.bytes + t * 5 + 1 + 2)) (drop (u16_at s (text_bytes_at + c.bytes + t * 5 + 1)) (take c.bytes (drop text_bytes_at s)))
  unfolding image_found record_found record_as fields_at fields_of fields_in schema sort_of
  text_found t h = rw (record_found_lem Texts t h) refl

  -- where its bytes are
  pub part_found : (t : ℕ) → t < c.texts → text_part (image_found s p c) t ≡ record { start = text_bytes_at + u16_at s (text_bytes_at + c.bytes + t * 5 + 1); length = u16_at s (text_bytes_at + c.bytes + t * 5 + 1 + 2) }
  unfolding text_part record_found record_as fields_at fields_of fields_in schema sort_of
  part_found t h = rw (record_found_lem Texts t h) refl

  pub part_missing : (t : ℕ) → c.texts ≤ t → text_part (image_found s p c) t ≡ record { start = text_bytes_at; length = 0 }
  unfolding text_part
  part_missing t h = rw (record_missing Texts t h) refl

  pub text_missing : (t : ℕ) → c.texts ≤ t → text_of (image_found s p c) t ≡ []
  text_missing t h = rw (record_missing Texts t h) refl
