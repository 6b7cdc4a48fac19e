-- Accepted bytes stand for a well-formed image: with Decode and Encoded, the reader accepts the encodings of well-formed
-- images and no other bytes, and leaves the image's heights in the work slice.
-- Assumes nothing.
use Prim.Native.Nat.{ℕ, ◌+◌, ◌-◌, ◌≤◌, ◌<◌}
use Rattle.std.proofs.Math.Path.{◌≡◌}
use Rattle.std.specs.Prelude.{refl, Bool, true, false, cond, ◌↔◌, ltb, drop, replicate, Ok, Err}
use Rattle.std.proofs.Common.{sym, arith, ltb-false}
use mathlib.Core.List.{List, [], ◌∷◌, ◌++◌}
use Rattle.std.proofs.Math.ListN.{length}
use Rattle.std.proofs.lemmas.List.{length-replicate}
use Rattle.std.proofs.Math.Seq.{sets, length-sets}
use Rattle.rl_spec.specs.declared.ArenaNo.{ArenaNo}
use Rattle.rl_spec.specs.declared.Counts.{Counts}
use Rattle.rl_spec.specs.declared.Cause.{Cause}
use Rattle.rl_spec.specs.declared.Cause.TheVariants.{ImageTooLong, WorkTooShort, BytesEnd}
use Rattle.rl_spec.specs.Answers.{accepted, Step}
use Rattle.rl_spec.specs.declared.Section.{Section}
use Rattle.rl_spec.specs.declared.Section.TheVariants.{Texts, Lists, Expressions, Statements, Parameters, Clauses, Functions, Calls}
use Rattle.rl_spec.specs.Bytes.{past}
use Rattle.rl_spec.specs.Schema.{text_bytes_at, sections, count_of}
use Rattle.rl_spec.specs.Read.{after, counts_of, header_of, Out, good, bad, records_from, and_then, sections_from, end_of, body_of, most_starts, read_of, answer_by, answer_of, work_of}
use Rattle.rl_spec.specs.Image.{Image, records_of, size_of, record_of, encode, records_in, end_at, image_of, heights, RecordFits, AllBytes, WellFormed}
use Rattle.rl_images.specs.Reading.Rows.{last_at, sections_at}
use Rattle.rl_images.specs.Reading.ReadOutcome.{Reads, accepted_reads}
use Rattle.rl_images.specs.Reading.Decode.{accepted_encodes}
use Rattle.rl_images.specs.Reading.Starts.{section_at, section_records, section_size, sizes_are_counts}
use Rattle.rl_images.specs.Encoding.FieldWidths.{Bounded}
use Rattle.rl_images.specs.Encoding.SectionLoop.{keep_all, starts, AlwaysReady, records_good, records_fit}
use Rattle.rl_images.specs.Encoding.ReaderKnows.{counts, count_is, Placed, Told, told, texts_ready, lists_ready, expressions_ready, statements_ready, parameters_ready, clauses_ready, functions_ready, calls_ready}
use Rattle.rl_images.specs.Encoding.Header.{bounded, starts_fit}
use Rattle.rl_images.specs.Encoding.Encoded.{encoded_accepted, encoded_work}
use Rattle.rl_images.specs.Encoding.AcceptedParts.{arena_below, text_are_bytes, image_counts, counts_image, section_stands, section_next, placed}

-- ---- the sections

abbrev AllFit : Image → Section → Type 0
AllFit im o = (i : ℕ) → i < size_of im o → RecordFits im o i (record_of im o i)

-- the records of a section before others that are read to their end
then_good : (r : Out) (f : ℕ → List ℕ → List ℕ → Out) (m : ℕ) (v q : List ℕ) → and_then r f ≡ good m v q → (a : ℕ) × (w : List ℕ) × (p : List ℕ) × (r ≡ good a w p)
then_good (good a w p) f m v q e = (a, w, p, refl)
then_good (bad c n) f m v q e = let z : ◌≡◌ {A = ℕ} 0 1 = cc in absurd (omega arith)

each_section : (P : Section → Type 0) → P Texts → P Lists → P Expressions → P Statements → P Parameters → P Clauses → P Functions → P Calls → (o : Section) → P o
each_section P a b c d e f g h Texts = a
each_section P a b c d e f g h Lists = b
each_section P a b c d e f g h Expressions = c
each_section P a b c d e f g h Statements = d
each_section P a b c d e f g h Parameters = e
each_section P a b c d e f g h Clauses = f
each_section P a b c d e f g h Functions = g
each_section P a b c d e f g h Calls = h

module _ (s : List ℕ) (bytes : AllBytes s) {p : List ℕ} (r : Reads s p) (known : Placed (image_of s) s) where
  limited : Bounded (image_of s)
  limited = bounded (image_of s) (image_counts s bytes r)

  -- where reading ends well, a section fits, and the others are read from its end on
  section_fits : (o : Section) (os : List Section) (w q : List ℕ) → AlwaysReady (image_of s) s (counts (image_of s)) o w q → (m : ℕ) (v x : List ℕ) → sections_from s (counts (image_of s)) (o ∷ os) (section_at s o) w q ≡ good m v x → AllFit (image_of s) o × (sections_from s (counts (image_of s)) os (end_at s (count_of (counts_of s) o) (section_at s o)) (keep_all (counts (image_of s)) o (heights (image_of s) o) w) (keep_all (counts (image_of s)) o (starts (section_at s o) (records_of (image_of s) o)) q) ≡ good m v x)
  unfolding sections_from
  section_fits o os w q ready m v x e =
      let im : Image = image_of s in
      let c : Counts = counts im in
      let at : ℕ = section_at s o in
      let whole = section_stands s bytes r o in
      let back : records_in s (size_of im o) at ≡ records_of im o = rw section_size (sym (section_records s o)) in
      let f : and_then (records_from s c o (size_of im o) 0 at w q) (λ a w p. sections_from s c os a w p) ≡ good m v x = rw (count_is im o) at e in
      let g = then_good (records_from s c o (size_of im o) 0 at w q) (λ a w p. sections_from s c os a w p) m v x f in
      let fit : AllFit im o = records_fit im s c o at w q limited ready whole bytes back g.0 g.1 g.2 g.3 in
      (fit, rw (records_good im s c o at w q limited ready whole fit, section_next s bytes r o) at f)

  module _ (w q : List ℕ) (room : size_of (image_of s) Expressions + size_of (image_of s) Statements ≤ length w) (roomy : size_of (image_of s) Expressions + size_of (image_of s) Statements ≤ length q) (m : ℕ) (v x : List ℕ) (read : sections_from s (counts (image_of s)) sections (sections_at s) w q ≡ good m v x) where
    sections_fit : (o : Section) → AllFit (image_of s) o
    unfolding sections section_at last_at
    sections_fit =
        let im : Image = image_of s in
        let size : ℕ = size_of im Expressions + size_of im Statements in
        let w1 : List ℕ = sets w 0 (heights im Expressions) in
        let w2 : List ℕ = sets w1 (size_of im Expressions) (heights im Statements) in
        let q1 : List ℕ = sets q 0 (starts (section_at s Expressions) (records_of im Expressions)) in
        let q2 : List ℕ = sets q1 (size_of im Expressions) (starts (section_at s Statements) (records_of im Statements)) in
        let room1 : size ≤ length w1 = rw length-sets room in
        let roomy1 : size ≤ length q1 = rw length-sets roomy in
        let kinds : Told im s q2 = told im s q1 roomy1 (section_at s Statements) (section_stands s bytes r Statements) in
        let f1 = section_fits Texts (drop 1 sections) w q (texts_ready im s known w q) m v x read in
        let f2 = section_fits Lists (drop 2 sections) w q (lists_ready im s known w q) m v x f1.1 in
        let f3 = section_fits Expressions (drop 3 sections) w q (λ i h t l y z k. expressions_ready im s known w q (omega arith) i h t l y) m v x f2.1 in
        let f4 = section_fits Statements (drop 4 sections) w1 q1 (λ i h t l y z k. statements_ready im s known w1 q1 room1 roomy1 i h t l y z k) m v x f3.1 in
        let f5 = section_fits Parameters (drop 5 sections) w2 q2 (parameters_ready im s known w2 q2 kinds) m v x f4.1 in
        let f6 = section_fits Clauses (drop 6 sections) w2 q2 (clauses_ready im s known w2 q2 kinds) m v x f5.1 in
        let f7 = section_fits Functions (drop 7 sections) w2 q2 (functions_ready im s known w2 q2 kinds) m v x f6.1 in
        let f8 = section_fits Calls [] w2 q2 (calls_ready im s known w2 q2 kinds) m v x f7.1 in
        each_section (AllFit im) f1.0 f2.0 f3.0 f4.0 f5.0 f6.0 f7.0 f8.0

-- ---- the whole

-- what acceptance says of the tests before the sections
module _ (s : List ℕ) (a : ArenaNo) (c : Counts) where
  not_refused : (b : Bool) (q : Cause) (n : ℕ) (x : Out) → answer_by s (cond b (bad q n) x) ≡ accepted a c → (b ≡ false) × (answer_by s x ≡ accepted a c)
  not_refused true q n x e = let z : ◌≡◌ {A = ℕ} 0 1 = cc in absurd (omega arith)
  not_refused false q n x e = (refl, e)

  header_passed : (r : Step) (x : Out) → answer_by s (after r (λ a tall. x) bad) ≡ accepted a c → answer_by s x ≡ accepted a c
  header_passed (Ok s) x e = e
  header_passed (Err r) x e = let z : ◌≡◌ {A = ℕ} 0 1 = cc in absurd (omega arith)

  sections_passed : (x : Out) → answer_by s (end_of s x) ≡ accepted a c → (m : ℕ) × (v : List ℕ) × (q : List ℕ) × (x ≡ good m v q)
  unfolding end_of
  sections_passed (good m v q) e = (m, v, q, refl)
  sections_passed (bad q n) e = let z : ◌≡◌ {A = ℕ} 0 1 = cc in absurd (omega arith)

module _ (s : List ℕ) (k : ℕ) (a : ArenaNo) (c : Counts) (e : answer_of s k ≡ accepted a c) where
  work_passed : (8192 ≤ k) × (answer_by s (after (header_of s) (λ a tall. body_of s (counts_of s) (replicate k 0) (replicate most_starts 0)) bad) ≡ accepted a c)
  unfolding answer_of read_of
  work_passed =
      let q = not_refused s a c (ltb k 8192) WorkTooShort 0 _ (not_refused s a c (ltb 65535 (length s)) ImageTooLong 0 _ e).1 in
      (ltb-false k 8192 q.0, q.1)

  pub accepted_long : 8192 ≤ k
  accepted_long = work_passed.0

  sections_read : (m : ℕ) × (v : List ℕ) × (q : List ℕ) × (sections_from s (counts_of s) sections (sections_at s) (replicate k 0) (replicate most_starts 0) ≡ good m v q)
  unfolding body_of
  sections_read =
      let f = header_passed s a c (header_of s) (body_of s (counts_of s) (replicate k 0) (replicate most_starts 0)) work_passed.1 in
      sections_passed s a c _ (not_refused s a c (past s text_bytes_at (counts_of s).bytes) BytesEnd text_bytes_at _ f).1

module _ (s : List ℕ) (k : ℕ) (a : ArenaNo) (c : Counts) (bytes : AllBytes s) (e : answer_of s k ≡ accepted a c) where
  -- THEOREM: accepted bytes stand for a well-formed image
  pub accepted_well_formed : WellFormed (image_of s)
  accepted_well_formed =
      let im : Image = image_of s in
      let r = accepted_reads s k a c e in
      let x = sections_read s k a c e in
      let few : size_of im Expressions + size_of im Statements ≤ most_starts = starts_fit im (image_counts s bytes r) in
      record {
        arena = arena_below s bytes r;
        bytes = text_are_bytes s bytes r;
        counts = image_counts s bytes r;
        fits = sections_fit s bytes r (placed s k a c e bytes) (replicate k 0) (replicate most_starts 0) (rw length-replicate (omega (arith, (work_passed s k a c e).0))) (rw length-replicate few) x.0 x.1 x.2 (rw (counts_image s bytes r) x.3);
        size = rw (accepted_encodes s k a c bytes e) r.small;
      }

  -- THEOREM: they leave the image's heights in the work slice
  pub accepted_work : work_of s k ≡ heights (image_of s) Expressions ++ heights (image_of s) Statements ++ replicate (k - (c.expressions + c.statements)) 0
  accepted_work =
      rw (accepted_encodes s k a c bytes e, sizes_are_counts s k a c e Expressions, sizes_are_counts s k a c e Statements)
      at (encoded_work (image_of s) k accepted_well_formed (work_passed s k a c e).0)

-- accepted, with a work slice of k entries
abbrev pub IsAccepted : List ℕ → ℕ → Type 0
IsAccepted s k = (a : ArenaNo) × (c : Counts) × (answer_of s k ≡ accepted a c)

-- the bytes of a well-formed image
abbrev pub IsEncoding : List ℕ → Type 0
IsEncoding s = (im : Image) × WellFormed im × (encode im ≡ s)

-- THEOREM: exactly the encodings of well-formed images are accepted
pub accepted_exactly : (s : List ℕ) (k : ℕ) → AllBytes s → 8192 ≤ k → IsAccepted s k ↔ IsEncoding s
accepted_exactly s k bytes l = (
  λ x. (image_of s, accepted_well_formed s k x.0 x.1 bytes x.2, accepted_encodes s k x.0 x.1 bytes x.2),
  λ y. (_, _, rw y.2 at (encoded_accepted y.0 k y.1 l)),
)
