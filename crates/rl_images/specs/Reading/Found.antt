-- The image that accepted bytes, their starts and their counts give is the one that the bytes stand for.
-- Assumes nothing.
use Rattle.std.specs.Prelude.{ℕ, ◌<◌, ◌≡◌, true, cond, List, eqb, get_or}
use Rattle.std.proofs.Math.Path.{refl, sym, ap}
use Rattle.std.proofs.Common.{◌∙◌, arith}
use Rattle.std.proofs.Math.Seq.{ext_get_or}
use Rattle.rl_spec.specs.declared.ArenaNo.{ArenaNo}
use Rattle.rl_spec.specs.declared.Counts.{Counts}
use Rattle.rl_spec.specs.Answers.{accepted}
use Rattle.rl_spec.specs.declared.Section.{Section}
use Rattle.rl_spec.specs.declared.Section.TheVariants.{Texts, Lists, Expressions, Statements, Parameters, Clauses, Functions, Calls}
use Rattle.rl_spec.specs.Schema.{sections, count_of, lowest, highest, in_section, sort_of, schema, fields_in, fields_of}
use Rattle.rl_spec.specs.Read.{counts_of, answer_of, starts_of}
use Rattle.rl_spec.specs.Image.{records_of, size_of, no_record, record_of, widths_of, record_in, sections_in, image_of}
use Rattle.rl_spec.specs.Found.{place_of, calls_at, functions_at, clauses_at, parameters_at, record_as, kind_found, record_found, image_found}
use Rattle.rl_laws.specs.Found.{size_found, record_found_lem}
use Rattle.rl_images.specs.Images.SchemaSorts.{kind_range}
use Rattle.rl_images.specs.Reading.ReadOutcome.{accepted_header}
use Rattle.rl_images.specs.Reading.Starts.{section_at, width_in, StandsAt, starts_expression, starts_statement, stands_by_width, section_places, stands_text, stands_entry, sizes_are_counts}

-- the kind of a record that stands in a section
kind_found_lem : (o : Section) (k : ℕ) → in_section o k ≡ true → cond (eqb (lowest o) (highest o)) (lowest o) k ≡ k
kind_found_lem Texts k h = omega (arith, kind_range Texts k h)
kind_found_lem Lists k h = omega (arith, kind_range Lists k h)
kind_found_lem Expressions k h = refl
kind_found_lem Statements k h = refl
kind_found_lem Parameters k h = omega (arith, kind_range Parameters k h)
kind_found_lem Clauses k h = omega (arith, kind_range Clauses k h)
kind_found_lem Functions k h = omega (arith, kind_range Functions k h)
kind_found_lem Calls k h = omega (arith, kind_range Calls k h)

found_stands : (s : List ℕ) (o : Section) (i at : ℕ) → StandsAt s o i at → record_as s (kind_found s o at) at ≡ record_of (image_of s) o i
unfolding record_as record_in
found_stands s o i at h = rw (kind_found_lem o (get_or s at 0) h.kind) h.found

module _ (s : List ℕ) (k : ℕ) (a : ArenaNo) (c : Counts) (e : answer_of s k ≡ accepted a c) where
  -- the sections at the end, from the end back
  calls_at_lem : section_at s Calls ≡ calls_at s c
  calls_at_lem = let q = (section_places s k a c e).calls in omega arith

  functions_at_lem : section_at s Functions ≡ functions_at s c
  functions_at_lem = let q = (section_places s k a c e).functions in rw (← calls_at_lem) (omega arith)

  clauses_at_lem : section_at s Clauses ≡ clauses_at s c
  clauses_at_lem = let q = (section_places s k a c e).clauses in rw (← functions_at_lem) (omega arith)

  parameters_at_lem : section_at s Parameters ≡ parameters_at s c
  parameters_at_lem = let q = (section_places s k a c e).parameters in rw (← clauses_at_lem) (omega arith)

  -- each record stands where it is looked for
  stands_found : (o : Section) (i : ℕ) → i < count_of c o → StandsAt s o i (place_of s (starts_of s k) c o i)
  unfolding width_in widths_of fields_of fields_in schema sort_of
  stands_found Texts i h = stands_text s k a c e i h
  stands_found Lists i h = stands_entry s k a c e i h
  stands_found Expressions i h = starts_expression s k a c e i h
  stands_found Statements i h = starts_statement s k a c e i h
  stands_found Parameters i h = rw (← parameters_at_lem) (stands_by_width s k a c e Parameters refl i h)
  stands_found Clauses i h = rw (← clauses_at_lem) (stands_by_width s k a c e Clauses refl i h)
  stands_found Functions i h = rw (← functions_at_lem) (stands_by_width s k a c e Functions refl i h)
  stands_found Calls i h = rw (← calls_at_lem) (stands_by_width s k a c e Calls refl i h)

  records_same : (o : Section) → records_of (image_found s (starts_of s k) c) o ≡ records_of (image_of s) o
  unfolding record_found
  records_same o =
      let n : size_of (image_found s (starts_of s k) c) o ≡ count_of c o = size_found s (starts_of s k) c o in
      ext_get_or no_record (records_of (image_found s (starts_of s k) c) o) (records_of (image_of s) o)
      (n ∙ sym (sizes_are_counts s k a c e o))
      (λ i h. go i (rw n at h))
    where
      go : (i : ℕ) → i < count_of c o → record_of (image_found s (starts_of s k) c) o i ≡ record_of (image_of s) o i
      go i h = record_found_lem s (starts_of s k) c o i h ∙ found_stands s o i (place_of s (starts_of s k) c o i) (stands_found o i h)

  -- THEOREM
  pub found_is_image : image_found s (starts_of s k) c ≡ image_of s
  unfolding image_found image_of sections sections_in
  found_is_image =
      let q : c.bytes ≡ (counts_of s).bytes = ap (λ (x : Counts). x.bytes) (accepted_header s k a c e).1 in
      cc (records_same Texts, records_same Lists, records_same Expressions, records_same Statements, records_same Parameters, records_same Clauses, records_same Functions, records_same Calls)
