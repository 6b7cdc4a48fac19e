-- Where the records of an accepted image stand: expressions and statements at the starts that the reader leaves,
-- the records of a section with one kind where arithmetic puts them.
-- Assumes nothing.
use Prim.Native.Nat.{ℕ, zero, suc, ◌+◌, ◌-◌, ◌*◌, ◌≤◌, ◌<◌}
use Rattle.std.specs.Prelude.{◌≡◌, true, length, get_or, take, replicate}
use Rattle.std.proofs.Math.Path.{refl, sym, ap}
use Rattle.std.proofs.Common.{◌∙◌, zero-add, suc-mul, get_or-append-add}
use mathlib.Core.List.{List, [], ◌∷◌, ◌++◌, append_assoc}
use native.Mathlib.Omega.{arith}
use Rattle.std.proofs.Math.ListN.{set, get_or-append}
use Rattle.std.proofs.Math.Seq.{sets}
use Rattle.rl_spec.specs.declared.ArenaNo.{ArenaNo}
use Rattle.rl_spec.specs.declared.Counts.{Counts}
use Rattle.rl_spec.specs.Answers.{accepted}
use Rattle.rl_spec.specs.declared.Section.{Section}
use Rattle.rl_spec.specs.declared.Section.TheVariants.{Texts, Lists, Expressions, Statements, Parameters, Clauses, Functions, Calls}
use Rattle.rl_spec.specs.Schema.{limits, text_bytes_at, sections, count_of, lowest, highest, in_section, sort_of, schema, fields_in, fields_of}
use Rattle.rl_spec.specs.Fields.{lists_at}
use Rattle.rl_spec.specs.Read.{counts_of, keep, most_starts, answer_of, starts_of}
use Rattle.rl_spec.specs.Image.{order_of, records_of, size_of, no_record, record_of, widths_of, record_in, next_at, records_in, end_at, sections_in, image_of}
use Rattle.rl_images.specs.Reading.Filled.{two_filled}
use Rattle.rl_images.specs.Images.SchemaSorts.{kind_range}
use Rattle.rl_images.specs.Reading.Rows.{starts_from, starts_in, last_at, sections_at}
use Rattle.rl_images.specs.Reading.Whole.{Whole, Records, Sections}
use Rattle.rl_images.specs.Reading.ReadOutcome.{Reads, accepted_reads, accepted_header}
use Rattle.rl_images.specs.Reading.Decode.{records_length}

-- ---- the records of a section

-- where a section starts
unfoldable pub section_at : List ℕ → Section → ℕ
section_at s o = last_at s (counts_of s) (take (order_of o) sections) (sections_at s)

pub section_records : (s : List ℕ) (o : Section) → records_of (image_of s) o ≡ records_in s (count_of (counts_of s) o) (section_at s o)
unfolding image_of sections_in sections last_at section_at
section_records s Texts = refl
section_records s Lists = refl
section_records s Expressions = refl
section_records s Statements = refl
section_records s Parameters = refl
section_records s Clauses = refl
section_records s Functions = refl
section_records s Calls = refl

section_whole : (s : List ℕ) (o : Section) → Sections s (counts_of s) sections (sections_at s) → Records s o (count_of (counts_of s) o) (section_at s o)
unfolding sections last_at section_at
section_whole s Texts h = h.0
section_whole s Lists h = h.1.0
section_whole s Expressions h = h.1.1.0
section_whole s Statements h = h.1.1.1.0
section_whole s Parameters h = h.1.1.1.1.0
section_whole s Clauses h = h.1.1.1.1.1.0
section_whole s Functions h = h.1.1.1.1.1.1.0
section_whole s Calls h = h.1.1.1.1.1.1.1.0

pub section_size : (s : List ℕ) (o : Section) → size_of (image_of s) o ≡ count_of (counts_of s) o
section_size s o = rw section_records (records_length s (count_of (counts_of s) o) (section_at s o))

record_get : (s : List ℕ) (n at i : ℕ) → i < n → get_or (records_in s n at) i no_record ≡ record_in s (end_at s i at)
unfolding records_in end_at
record_get s zero at i h = absurd (omega arith)
record_get s (suc n) at zero h = refl
record_get s (suc n) at (suc i) h = record_get s n (next_at s at) i (omega arith)

record_whole : (s : List ℕ) (o : Section) (n at i : ℕ) → i < n → Records s o n at → Whole s o (end_at s i at)
unfolding end_at
record_whole s o zero at i h r = absurd (omega arith)
record_whole s o (suc n) at zero h r = r.0
record_whole s o (suc n) at (suc i) h r = record_whole s o n (next_at s at) i (omega arith) r.1

-- the i-th record of a section stands at a place
pub record StandsAt (s : List ℕ) (o : Section) (i at : ℕ) : Type 0 where
  pub kind : in_section o (get_or s at 0) ≡ true
  pub start : at < length s
  pub end : next_at s at ≤ length s
  pub found : record_in s at ≡ record_of (image_of s) o i

stands_whole : (s : List ℕ) (o : Section) (i at : ℕ) → Whole s o at → record_in s at ≡ record_of (image_of s) o i → StandsAt s o i at
unfolding next_at
stands_whole s o i at w e =
    let h : at + 1 + widths_of (fields_of (get_or s at 0)) ≤ length s = w.inside in
    record { kind = w.kind; start = omega arith; end = w.inside; found = e }

module _ (s : List ℕ) {p : List ℕ} (r : Reads s p) where
  stands : (o : Section) (i : ℕ) → i < count_of (counts_of s) o → StandsAt s o i (end_at s i (section_at s o))
  stands o i h =
      let n : ℕ = count_of (counts_of s) o in
      stands_whole s o i (end_at s i (section_at s o)) (record_whole s o n (section_at s o) i h (section_whole s o r.found))
      (rw section_records (sym (record_get s n (section_at s o) i h)))

-- ---- the starts that the reader leaves

-- where n records from a place on start
unfoldable pub places_from : List ℕ → ℕ → ℕ → List ℕ
places_from s zero at = []
places_from s (suc n) at = at ∷ places_from s n (next_at s at)

-- where the records of a section start
unfoldable pub places_of : List ℕ → Section → List ℕ
places_of s o = places_from s (count_of (counts_of s) o) (section_at s o)

places_length : (s : List ℕ) (n at : ℕ) → length (places_from s n at) ≡ n
unfolding places_from
places_length s zero at = refl
places_length s (suc n) at = ap suc (places_length s n (next_at s at))

places_get : (s : List ℕ) (n at i : ℕ) → i < n → get_or (places_from s n at) i 0 ≡ end_at s i at
unfolding places_from end_at
places_get s zero at i h = absurd (omega arith)
places_get s (suc n) at zero h = refl
places_get s (suc n) at (suc i) h = places_get s n (next_at s at) i (omega arith)

length_places : (s : List ℕ) (o : Section) → length (places_of s o) ≡ count_of (counts_of s) o
unfolding places_of
length_places s o = places_length s (count_of (counts_of s) o) (section_at s o)

get_or_places : (s : List ℕ) (o : Section) (i : ℕ) → i < count_of (counts_of s) o → get_or (places_of s o) i 0 ≡ end_at s i (section_at s o)
unfolding places_of
get_or_places s o i h = places_get s (count_of (counts_of s) o) (section_at s o) i h

module _ (s : List ℕ) (c : Counts) (o : Section) where
  starts_same : ((i x : ℕ) (p : List ℕ) → keep c o i x p ≡ p) → (n i at : ℕ) (p : List ℕ) → starts_from s c o n i at p ≡ p
  unfolding starts_from
  starts_same h zero i at p = refl
  starts_same h (suc n) i at p = starts_same h n (i + 1) (next_at s at) (keep c o i at p) ∙ h i at p

  starts_sets : (from : ℕ) → ((i x : ℕ) (p : List ℕ) → keep c o i x p ≡ set p (from + i) x) → (n i at : ℕ) (p : List ℕ) → starts_from s c o n i at p ≡ sets p (from + i) (places_from s n at)
  unfolding starts_from places_from
  starts_sets from h zero i at p = refl
  starts_sets from h (suc n) i at p =
      let q : List ℕ = set p (from + i) at in
      let e : from + (i + 1) ≡ suc (from + i) = omega arith in
      rw (h i at p)
      (starts_sets from h n (i + 1) (next_at s at) q ∙ ap (λ (j : ℕ). sets q j (places_from s n (next_at s at))) e)

get_or_second : (x y z : List ℕ) (m i : ℕ) → length x ≡ m → i < length y → get_or (x ++ (y ++ z)) (m + i) 0 ≡ get_or y i 0
get_or_second x y z m i e h = rw (← e) (get_or-append-add x (y ++ z) i 0 ∙ get_or-append y z 0 i h)

module _ (s : List ℕ) {p : List ℕ} (r : Reads s p) where
  few : (counts_of s).expressions + (counts_of s).statements ≤ most_starts
  unfolding counts_of limits
  few =
      let a = r.header.counts.1.1.1.0 in
      let b = r.header.counts.1.1.1.1.0 in
      omega arith

  starts_in_lem : (x : List ℕ) → starts_in s (counts_of s) sections (sections_at s) x ≡ sets (sets x 0 (places_of s Expressions)) (counts_of s).expressions (places_of s Statements)
  unfolding starts_in sections section_at places_of last_at
  starts_in_lem x =
      let c : Counts = counts_of s in
      let z : (counts_of s).expressions + 0 ≡ (counts_of s).expressions = omega arith in
      rw (
        starts_same s c Calls (λ i x p. refl),
        starts_same s c Functions (λ i x p. refl),
        starts_same s c Clauses (λ i x p. refl),
        starts_same s c Parameters (λ i x p. refl),
        starts_sets s c Statements c.expressions (λ i x p. refl),
        starts_sets s c Expressions 0 (λ i x p. ap (λ (j : ℕ). set p j x) (sym (zero-add i))),
        starts_same s c Lists (λ i x p. refl),
        starts_same s c Texts (λ i x p. refl),
        z,
      ) refl

  starts_are : p ≡ places_of s Expressions ++ (places_of s Statements ++ replicate (most_starts - ((counts_of s).expressions + (counts_of s).statements)) 0)
  starts_are =
      r.kept
      ∙ starts_in_lem (replicate most_starts 0)
      ∙ two_filled most_starts (places_of s Expressions) (places_of s Statements) (counts_of s).expressions (counts_of s).statements
      (length_places s Expressions) (length_places s Statements) few
      ∙ append_assoc (places_of s Expressions) (places_of s Statements) (replicate (most_starts - ((counts_of s).expressions + (counts_of s).statements)) 0)

  start_expression : (i : ℕ) → i < (counts_of s).expressions → get_or p i 0 ≡ end_at s i (section_at s Expressions)
  start_expression i h =
      ap (λ (x : List ℕ). get_or x i 0) starts_are
      ∙ get_or-append (places_of s Expressions) _ 0 i (rw (length_places s Expressions) h) ∙ get_or_places s Expressions i h

  pub start_statement : (i : ℕ) → i < (counts_of s).statements → get_or p ((counts_of s).expressions + i) 0 ≡ end_at s i (section_at s Statements)
  start_statement i h =
      ap (λ (x : List ℕ). get_or x ((counts_of s).expressions + i) 0) starts_are
      ∙ get_or_second (places_of s Expressions) (places_of s Statements) _ (counts_of s).expressions i (length_places s Expressions) (rw (length_places s Statements) h)
      ∙ get_or_places s Statements i h

-- ---- sections with one kind

-- the width of a record of the section's lowest kind
unfoldable pub width_in : Section → ℕ
width_in o = 1 + widths_of (fields_of (lowest o))

kind_width : (o : Section) → lowest o ≡ highest o → (k : ℕ) → in_section o k ≡ true → 1 + widths_of (fields_of k) ≡ width_in o
unfolding width_in
kind_width o e k h =
    let q = kind_range o k h in
    let f : k ≡ lowest o = omega arith in
    rw f refl

even_end : (s : List ℕ) (o : Section) → lowest o ≡ highest o → (n at : ℕ) → Records s o n at → (i : ℕ) → i ≤ n → end_at s i at ≡ at + i * width_in o
unfolding end_at next_at
even_end s o e n at r zero l = omega arith
even_end s o e zero at r (suc i) l = absurd (omega arith)
even_end s o e (suc n) at r (suc i) l =
    rw suc-mul (omega (arith, even_end s o e n (next_at s at) r.1 i (omega arith), kind_width o e (get_or s at 0) r.0.kind))

module _ (s : List ℕ) {p : List ℕ} (r : Reads s p) (o : Section) (e : lowest o ≡ highest o) where
  section_end : (i : ℕ) → i ≤ count_of (counts_of s) o → end_at s i (section_at s o) ≡ section_at s o + i * width_in o
  section_end i h = even_end s o e (count_of (counts_of s) o) (section_at s o) (section_whole s o r.found) i h

  stands_even : (i : ℕ) → i < count_of (counts_of s) o → StandsAt s o i (section_at s o + i * width_in o)
  stands_even i h = rw (section_end i (omega arith)) at (stands s r o i h)

-- ---- theorems

-- where the sections start: from the text bytes on, and back from the end
pub record SectionPlaces (s : List ℕ) (c : Counts) : Type 0 where
  pub texts : section_at s Texts ≡ text_bytes_at + c.bytes
  pub lists : section_at s Lists ≡ lists_at c
  pub expressions : section_at s Expressions ≡ lists_at c + c.lists * 3
  pub parameters : section_at s Parameters + c.parameters * 17 ≡ section_at s Clauses
  pub clauses : section_at s Clauses + c.clauses * 5 ≡ section_at s Functions
  pub functions : section_at s Functions + c.functions * 24 ≡ section_at s Calls
  pub calls : section_at s Calls + c.calls * 11 ≡ length s

module _ (s : List ℕ) (k : ℕ) (a : ArenaNo) (c : Counts) (e : answer_of s k ≡ accepted a c) where
  -- THEOREM: the i-th expression stands at the i-th start
  pub starts_expression : (i : ℕ) → i < c.expressions → StandsAt s Expressions i (get_or (starts_of s k) i 0)
  starts_expression =
      let r = accepted_reads s k a c e in
      rw (accepted_header s k a c e).1 (λ i h. rw (start_expression s r i h) (stands s r Expressions i h))

  -- THEOREM: the starts of the statements follow those of the expressions
  pub starts_statement : (i : ℕ) → i < c.statements → StandsAt s Statements i (get_or (starts_of s k) (c.expressions + i) 0)
  starts_statement =
      let r = accepted_reads s k a c e in
      rw (accepted_header s k a c e).1 (λ i h. rw (start_statement s r i h) (stands s r Statements i h))

  -- THEOREM: the starts are those of the expressions, then those of the statements, then zeros
  pub starts_of_lem : starts_of s k ≡ places_of s Expressions ++ (places_of s Statements ++ replicate (most_starts - (c.expressions + c.statements)) 0)
  starts_of_lem = rw (accepted_header s k a c e).1 (starts_are s (accepted_reads s k a c e))

  -- THEOREM: the records of a section with one kind stand one width apart
  pub stands_by_width : (o : Section) → lowest o ≡ highest o → (i : ℕ) → i < count_of c o → StandsAt s o i (section_at s o + i * width_in o)
  stands_by_width = rw (accepted_header s k a c e).1 (stands_even s (accepted_reads s k a c e))

  -- THEOREM
  pub section_places : SectionPlaces s c
  unfolding section_at last_at sections width_in widths_of fields_of fields_in schema sort_of
  section_places = rw (accepted_header s k a c e).1 (go (accepted_reads s k a c e))
    where
      go : {p : List ℕ} → Reads s p → SectionPlaces s (counts_of s)
      go r =
          let ends : (o : Section) → lowest o ≡ highest o → end_at s (count_of (counts_of s) o) (section_at s o) ≡ section_at s o + count_of (counts_of s) o * width_in o = λ o q. section_end s r o q (count_of (counts_of s) o) (omega arith) in
          record {
            texts = refl;
            lists = ends Texts refl;
            expressions = rw (← ends Texts refl) (ends Lists refl);
            parameters = sym (ends Parameters refl);
            clauses = sym (ends Clauses refl);
            functions = sym (ends Functions refl);
            calls = sym (r.ends ∙ ends Calls refl);
          }

  -- THEOREM: a text takes 5 bytes, a list entry 3
  pub stands_text : (i : ℕ) → i < c.texts → StandsAt s Texts i (text_bytes_at + c.bytes + i * 5)
  unfolding width_in widths_of fields_of fields_in schema sort_of
  stands_text = rw (← section_places.texts) (stands_by_width Texts refl)

  pub stands_entry : (i : ℕ) → i < c.lists → StandsAt s Lists i (lists_at c + i * 3)
  unfolding width_in widths_of fields_of fields_in schema sort_of
  stands_entry = rw (← section_places.lists) (stands_by_width Lists refl)

  -- THEOREM
  pub sizes_are_counts : (o : Section) → size_of (image_of s) o ≡ count_of c o
  sizes_are_counts = rw (accepted_header s k a c e).1 (section_size s)
