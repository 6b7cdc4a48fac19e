-- What stands at a place of an accepted image is what its abstract image holds there.
-- Assumes nothing.
use Rattle.std.specs.Prelude.{◌≡◌, ℕ, zero, suc, ◌+◌, ◌*◌, ◌<◌, ◌≤◌, Bool, true, false, cond, ◌&&◌, List, [], ◌∷◌, length, get_or, take, drop, ◌==◌, nat_lt, slice_index, slice_index_or, Ok, Err}
use Rattle.std.proofs.Math.Path.{refl}
use Rattle.std.proofs.lemmas.Bool.{false≢true}
use native.Mathlib.Omega.{arith}
use Rattle.std.proofs.Common.{length-take, length-drop, take-append-drop, ltb-false, eqb-true}
use Rattle.rl_spec.specs.declared.ArenaNo.{ArenaNo}
use Rattle.rl_spec.specs.declared.Counts.{Counts}
use Rattle.rl_spec.specs.Answers.{accepted, goes_on, refused, Check, Step}
use Rattle.rl_spec.specs.declared.Cause.{Cause}
use Rattle.rl_spec.specs.declared.Section.{Section}
use Rattle.rl_spec.specs.declared.Section.TheVariants.{Texts, Lists, Expressions, Statements}
use Rattle.rl_spec.specs.Bytes.{u16_at, u32_at, past}
use Rattle.rl_spec.specs.Schema.{text_bytes_at, sections, in_section, tallest, part, span, sort_of, schema, fields_in, fields_of}
use Rattle.rl_spec.specs.Fields.{lists_at, entry_at, part_of, value_of, field_at, checked, fields_from, height_step, record_at}
use Rattle.rl_spec.specs.Read.{Out, good, bad, after, and_then, counts_of, header_of, records_from, sections_from, end_of, body_of, read_of, answer_by, answer_of, starts_of}
use Rattle.rl_spec.specs.Image.{no_field, first, second, record_of, field_of, entry_of, text_of, fields_at, record_in, image_of}
use Rattle.rl_laws.specs.Tests.{by_ltb}
use Rattle.rl_images.specs.Reading.ReadOutcome.{accepted_reads, accepted_header}
use Rattle.rl_images.specs.Reading.Starts.{starts_expression, starts_statement, stands_text, stands_entry}
use Rattle.rl_images.specs.Encoding.BytesAt.{u16_number, u32_number, piece}
use Rattle.rl_images.specs.Encoding.BytesAt as standing
use Rattle.rl_images.specs.Images.SchemaSorts.{and_left, and_right, kind_range}

-- ---- the span

-- the first of the fields is a span
abbrev span_first : List ℕ → Bool
span_first [] = false
span_first (c ∷ cs) = c == span

span_value : (s cs : List ℕ) (at : ℕ) → span_first cs ≡ true → u32_at s at ≡ first (slice_index_or (fields_at s cs at) 0 no_field)
unfolding fields_at sort_of
span_value s [] at e = absurd (false≢true e)
span_value s (c ∷ cs) at e = rw (eqb-true c span e) (u32_number s at)

-- a test of n kinds from k on
abbrev spans : ℕ → ℕ → Bool
spans k zero = true
spans k (suc n) = span_first (fields_of k) && spans (suc k) n

spans_at : (n k j : ℕ) → spans k n ≡ true → k ≤ j → j < k + n → span_first (fields_of j) ≡ true
spans_at zero k j e p q = absurd (omega arith)
spans_at (suc n) k j e p q =
    by_ltb k j (λ d. spans_at n (suc k) j (and_right (span_first (fields_of k)) (spans (suc k) n) e) d (omega arith))
    (λ d.
    let i : j ≡ k = omega arith in
    rw i (and_left (span_first (fields_of k)) (spans (suc k) n) e))

module _ (s : List ℕ) (at : ℕ) where
  span_by : span_first (fields_of (slice_index s at)) ≡ true → u32_at s (at + 1) ≡ first (field_of (record_in s at) 0)
  unfolding record_in
  span_by e = span_value s (fields_of (slice_index s at)) (at + 1) e

  -- THEOREMS: the span of an expression or a statement is the u32 after its kind
  pub expression_span : in_section Expressions (slice_index s at) ≡ true → u32_at s (at + 1) ≡ first (field_of (record_in s at) 0)
  unfolding fields_of fields_in schema
  expression_span e =
      let r = kind_range Expressions (slice_index s at) e in
      span_by (spans_at 42 16 (slice_index s at) refl r.0 (omega arith))

  pub statement_span : in_section Statements (slice_index s at) ≡ true → u32_at s (at + 1) ≡ first (field_of (record_in s at) 0)
  unfolding fields_of fields_in schema
  statement_span e =
      let r = kind_range Statements (slice_index s at) e in
      span_by (spans_at 16 64 (slice_index s at) refl r.0 (omega arith))

-- ---- the fields of a text and of a list entry

module _ (s : List ℕ) (at : ℕ) where
  entry_value : in_section Lists (slice_index s at) ≡ true → u16_at s (at + 1) ≡ first (field_of (record_in s at) 0)
  unfolding record_in fields_at fields_of fields_in schema sort_of
  entry_value e =
      let r = kind_range Lists (slice_index s at) e in
      let k : get_or s at 0 ≡ 3 = omega arith in
      rw k (u16_number s (at + 1))

  module _ (e : in_section Texts (slice_index s at) ≡ true) where
    text_kind : get_or s at 0 ≡ 2
    text_kind =
        let r = kind_range Texts (slice_index s at) e in
        omega arith

    text_first : u16_at s (at + 1) ≡ first (field_of (record_in s at) 0)
    unfolding record_in fields_at fields_of fields_in schema sort_of
    text_first = rw text_kind refl

    text_second : u16_at s (at + 1 + 2) ≡ second (field_of (record_in s at) 0)
    unfolding record_in fields_at fields_of fields_in schema sort_of
    text_second = rw text_kind refl

-- ---- the texts of accepted bytes lie within the text bytes: what a reading that goes on says

data IfHolds (P : Type 0) : Check → Type 0 where
  holds : {t : ℕ} → P → IfHolds P (Ok t)
  fails : {c : Cause} → IfHolds P (Err c)

data IfNext (P : ℕ → Type 0) : Step → Type 0 where
  goes : {a t : ℕ} → P a → IfNext P (goes_on a t)
  stops : {c : Cause} {q : ℕ} → IfNext P (refused c q)

data IfGood (P : Type 0) : Out → Type 0 where
  reads : {a : ℕ} {w p : List ℕ} → P → IfGood P (good a w p)
  refuses : {c : Cause} {q : ℕ} → IfGood P (bad c q)

holds_cond : {P : Type 0} (b : Bool) (x y : Check) → IfHolds P x → (b ≡ false → IfHolds P y) → IfHolds P (cond b x y)
holds_cond true x y f g = f
holds_cond false x y f g = g refl

holds_any : {P : Type 0} (x : Check) → P → IfHolds P x
holds_any (Ok t) p = holds p
holds_any (Err c) p = fails

next_cond : {P : ℕ → Type 0} (b : Bool) (x y : Step) → (b ≡ true → IfNext P x) → IfNext P y → IfNext P (cond b x y)
next_cond true x y f g = f refl
next_cond false x y f g = g

good_cond : {P : Type 0} (b : Bool) (x y : Out) → IfGood P x → IfGood P y → IfGood P (cond b x y)
good_cond true x y f g = f
good_cond false x y f g = g

good_any : {P : Type 0} (x : Out) → P → IfGood P x
good_any (good a w p) h = reads h
good_any (bad c q) h = refuses

good_after : {P : Type 0} (r : Step) (f : ℕ → ℕ → Out) → ((a t : ℕ) → IfGood P (f a t)) → IfGood P (after r f bad)
good_after (Ok s) f g = g s.at s.tall
good_after (Err r) f g = refuses

good_then : {P : Type 0} (x : Out) (f : ℕ → List ℕ → List ℕ → Out) → IfGood P x → IfGood P (and_then x f)
good_then (good a w p) f (reads h) = good_any (f a w p) h
good_then (bad c q) f h = refuses

good_end : {P : Type 0} (s : List ℕ) (x : Out) → IfGood P x → IfGood P (end_of s x)
unfolding end_of
good_end s (good a w p) h = good_cond (nat_lt a (length s)) _ _ refuses h
good_end s (bad c q) h = refuses

next_height : {P : ℕ → Type 0} (o : Section) (at : ℕ) (r : Step) → IfNext P r → IfNext P (height_step o at r)
next_height o at (Ok s) (goes h) = next_cond (nat_lt s.tall (tallest o)) _ _ (λ e. goes h) stops
next_height o at (Err r) h = stops

next_checked : {P : Type 0} (r : Check) (at to : ℕ) → IfHolds P r → IfNext (λ a. (a ≡ to) × P) (checked r at (λ t. goes_on to t))
next_checked (Ok t) at to (holds h) = goes (refl, h)
next_checked (Err c) at to h = stops

-- the text whose record starts at a place lies within the text bytes
abbrev Within : List ℕ → Counts → ℕ → Type 0
Within s c at = u16_at s (at + 1) + u16_at s (at + 1 + 2) ≤ c.bytes

module _ (s : List ℕ) (c : Counts) where
  field_within : (w p : List ℕ) (at : ℕ) → IfHolds (Within s c at) (field_at s w p c Texts (sort_of part) (at + 1) 0)
  unfolding field_at value_of part_of sort_of
  field_within w p at =
      holds_cond (past s (at + 1) 4) _ _ fails λ e.
      holds_cond (nat_lt c.bytes (u16_at s (at + 1) + u16_at s (at + 1 + 2))) _ _ fails
      (λ f. holds_any _ (ltb-false c.bytes (u16_at s (at + 1) + u16_at s (at + 1 + 2)) f))

  record_within : (w p : List ℕ) (at : ℕ) → IfNext (λ a. (a ≡ at + 1 + 4) × Within s c at) (record_at s w p c Texts at)
  unfolding record_at fields_from fields_of fields_in schema sort_of
  record_within w p at =
      next_cond (past s at 1) _ _ (λ e. stops)
      (next_cond (in_section Texts (slice_index s at)) _ _
      (λ f.
      next_height Texts at (fields_from s w p c Texts (fields_of (slice_index s at)) (at + 1) 0)
      (rw (text_kind s at f)
      (next_checked (field_at s w p c Texts (sort_of part) (at + 1) 0) (at + 1) (at + 1 + 4) (field_within w p at))))
      stops)

  -- n texts from a place on
  abbrev AllWithin : ℕ → ℕ → Type 0
  AllWithin n at = (j : ℕ) → j < n → Within s c (at + j * 5)

  all_more : (n at : ℕ) → Within s c at → AllWithin n (at + 1 + 4) → AllWithin (suc n) at
  all_more n at h f zero l = let e : at + 0 * 5 ≡ at = omega arith in rw e h
  all_more n at h f (suc j) l =
      let e : at + suc j * 5 ≡ at + 1 + 4 + j * 5 = omega arith in
      rw e (f j (omega arith))

  records_within : (n i at : ℕ) (w p : List ℕ) → IfGood (AllWithin n at) (records_from s c Texts n i at w p)
  unfolding records_from
  records_within zero i at w p = reads (λ j l. absurd (omega arith))
  records_within (suc n) i at w p =
      go (record_at s w p c Texts at) (record_within w p at) (records_within n (i + 1) (at + 1 + 4) w p)
    where
      more : (x : Out) → Within s c at → IfGood (AllWithin n (at + 1 + 4)) x → IfGood (AllWithin (suc n) at) x
      more (good a v q) h (reads f) = reads (all_more n at h f)
      more (bad q m) h f = refuses

      go : (r : Step) → IfNext (λ a. (a ≡ at + 1 + 4) × Within s c at) r → IfGood (AllWithin n (at + 1 + 4)) (records_from s c Texts n (i + 1) (at + 1 + 4) w p) → IfGood (AllWithin (suc n) at) (after r (λ a tall. records_from s c Texts n (i + 1) a w p) bad)
      go (Ok y) (goes h) f = rw h.0 (more (records_from s c Texts n (i + 1) (at + 1 + 4) w p) h.1 f)
      go (Err r) h f = refuses

body_within : (s : List ℕ) (w p : List ℕ) → IfGood (AllWithin s (counts_of s) (counts_of s).texts (text_bytes_at + (counts_of s).bytes)) (body_of s (counts_of s) w p)
unfolding body_of sections_from sections
body_within s w p =
    good_cond (past s text_bytes_at (counts_of s).bytes) _ _ refuses
    (good_end s (sections_from s (counts_of s) sections (text_bytes_at + (counts_of s).bytes) w p)
    (good_then (records_from s (counts_of s) Texts (counts_of s).texts 0 (text_bytes_at + (counts_of s).bytes) w p) _
    (records_within s (counts_of s) (counts_of s).texts 0 (text_bytes_at + (counts_of s).bytes) w p)))

read_within : (s : List ℕ) (k : ℕ) → IfGood (AllWithin s (counts_of s) (counts_of s).texts (text_bytes_at + (counts_of s).bytes)) (read_of s k)
unfolding read_of
read_within s k =
    good_cond (nat_lt 65535 (length s)) _ _ refuses
    (good_cond (nat_lt k 8192) _ _ refuses (good_after (header_of s) _ (λ a t. body_within s _ _)))

-- a part of a part
part_part : (s : List ℕ) (m a n : ℕ) → text_bytes_at + m ≤ length s → a + n ≤ m → take n (drop (text_bytes_at + a) s) ≡ take n (drop a (take m (drop text_bytes_at s)))
part_part s m a n h l =
    let x : List ℕ = take m (drop text_bytes_at s) in
    let st : standing.BytesAt s text_bytes_at x = record {
      before = take text_bytes_at s;
      rest = drop m (drop text_bytes_at s);
      whole = rw (take-append-drop m (drop text_bytes_at s), take-append-drop text_bytes_at s) refl;
      place = rw length-take (omega arith);
    } in
    piece st a n (rw (length-take, length-drop) (omega arith))

-- ---- theorems

module _ (s : List ℕ) (k : ℕ) (a : ArenaNo) (c : Counts) (e : answer_of s k ≡ accepted a c) where
  -- THEOREMS: the record that stands at a start
  pub expression_record : (i : ℕ) → i < c.expressions → record_in s (slice_index (starts_of s k) i) ≡ record_of (image_of s) Expressions i
  expression_record i h = (starts_expression s k a c e i h).found

  pub statement_record : (i : ℕ) → i < c.statements → record_in s (slice_index (starts_of s k) (c.expressions + i)) ≡ record_of (image_of s) Statements i
  statement_record i h = (starts_statement s k a c e i h).found

  -- THEOREMS: its span
  pub expression_span_of : (i : ℕ) → i < c.expressions → u32_at s (slice_index (starts_of s k) i + 1) ≡ first (field_of (record_of (image_of s) Expressions i) 0)
  expression_span_of i h =
      let r = starts_expression s k a c e i h in
      rw (← r.found) (expression_span s (slice_index (starts_of s k) i) r.kind)

  pub statement_span_of : (i : ℕ) → i < c.statements → u32_at s (slice_index (starts_of s k) (c.expressions + i) + 1) ≡ first (field_of (record_of (image_of s) Statements i) 0)
  statement_span_of i h =
      let r = starts_statement s k a c e i h in
      rw (← r.found) (statement_span s (slice_index (starts_of s k) (c.expressions + i)) r.kind)

  -- THEOREM: a list entry
  pub entry_of_lem : (n : ℕ) → n < c.lists → entry_at s c n ≡ entry_of (image_of s) n
  unfolding entry_at
  entry_of_lem n h =
      let r = stands_entry s k a c e n h in
      rw (← r.found) (entry_value s (lists_at c + n * 3) r.kind)

  -- THEOREM: a text lies within the text bytes
  pub text_within : (t : ℕ) → t < c.texts → u16_at s (text_bytes_at + c.bytes + t * 5 + 1) + u16_at s (text_bytes_at + c.bytes + t * 5 + 1 + 2) ≤ c.bytes
  unfolding answer_of
  text_within = rw (accepted_header s k a c e).1 (go (read_of s k) (read_within s k) e)
    where
      go : (x : Out) → IfGood (AllWithin s (counts_of s) (counts_of s).texts (text_bytes_at + (counts_of s).bytes)) x → answer_by s x ≡ accepted a c → AllWithin s (counts_of s) (counts_of s).texts (text_bytes_at + (counts_of s).bytes)
      go (good at w p) (reads h) f = h
      go (bad q n) h f = let z : ◌≡◌ {A = ℕ} 0 1 = cc in absurd (omega arith)

  -- THEOREM: a text's bytes are a part of the image
  pub text_of_lem : (t : ℕ) → t < c.texts → take (u16_at s (text_bytes_at + c.bytes + t * 5 + 1 + 2)) (drop (text_bytes_at + u16_at s (text_bytes_at + c.bytes + t * 5 + 1)) s) ≡ text_of (image_of s) t
  unfolding image_of
  text_of_lem t h =
      let r = stands_text s k a c e t h in
      let at : ℕ = text_bytes_at + c.bytes + t * 5 in
      let q : c ≡ counts_of s = (accepted_header s k a c e).1 in
      let l : text_bytes_at + (counts_of s).bytes ≤ length s = (accepted_reads s k a c e).text in
      let m : text_bytes_at + c.bytes ≤ length s = rw q l in
      rw (← r.found, ← text_first s at r.kind, ← text_second s at r.kind, ← q)
      (part_part s c.bytes (u16_at s (at + 1)) (u16_at s (at + 1 + 2)) m (text_within t h))
