-- What the limits say of a well-formed image, and the header of its bytes.
-- Assumes nothing.
use Prim.Native.Nat.{ℕ, zero, suc, ◌+◌, ◌*◌, ◌≤◌, ◌<◌}
use Rattle.std.specs.Prelude.{◌≡◌, Bool, true, ◌&&◌, leb, get_or, drop}
use Rattle.std.proofs.Math.Path.{refl}
use Rattle.std.proofs.Common.{sym, ap, ◌∙◌, lit<, length-append}
use mathlib.Core.List.{List, [], ◌∷◌, ◌++◌, append_assoc, append-nil, map}
use native.Mathlib.Omega.{arith}
use Rattle.std.proofs.Math.ListN.{length, get_or-map}
use Rattle.std.proofs.lemmas.List.{length-map}
use borrow.Author.Tests.{le-ltb, leb-true}
use Rattle.rl_spec.specs.declared.Section.{Section}
use Rattle.rl_spec.specs.declared.Section.TheVariants.{Texts, Lists, Expressions, Statements, Parameters, Clauses, Functions, Calls}
use Rattle.rl_spec.specs.Answers.{goes_on}
use Rattle.rl_spec.specs.Bytes.{u16_at, u32_at}
use Rattle.rl_spec.specs.Schema.{limits, text_bytes_at, sections}
use Rattle.rl_spec.specs.Read.{counts_of, counts_from, header_of, most_starts}
use Rattle.rl_spec.specs.Image.{Rec, Image, order_of, records_of, size_of, bytes_of, encode_counts, encode_sections, encode, AllWithin, WellFormed}
use Rattle.rl_images.specs.Encoding.BytesAt.{BytesAt, left, right, head, tail, there, length_bytes, number, u32_number}
use Rattle.rl_images.specs.Images.Limits.{within_at}
use Rattle.rl_images.specs.Images.SchemaSorts.{and_left, and_right}
use Rattle.rl_images.specs.Encoding.FieldWidths.{Bounded, u16_stands}
use Rattle.rl_images.specs.Encoding.ReaderKnows.{counts}

-- ---- limits

within_length : (ns ms : List ℕ) → AllWithin ns ms → length ns ≡ length ms
within_length [] [] w = refl
within_length [] (m ∷ ms) w = absurd w
within_length (n ∷ ns) [] w = absurd w
within_length (n ∷ ns) (m ∷ ms) w = ap suc (within_length ns ms w.1)

abbrev under : ℕ → List ℕ → Bool
under b [] = true
under b (m ∷ ms) = leb m b && under b ms

under_at : (b : ℕ) (ms : List ℕ) → under b ms ≡ true → (j : ℕ) → get_or ms j 0 ≤ b
under_at b [] e j = omega arith
under_at b (m ∷ ms) e zero = leb-true m b (and_left (leb m b) (under b ms) e)
under_at b (m ∷ ms) e (suc j) = under_at b ms (and_right (leb m b) (under b ms) e) j

-- a list by its elements
abbrev up_to {ℓ} : {A : Type ℓ} → ℕ → (ℕ → A) → List A
up_to zero f = []
up_to (suc n) f = f 0 ∷ up_to n (λ i. f (suc i))

listed : {A : Type 0} (n : ℕ) (l : List A) (d : A) → length l ≡ n → l ≡ up_to n (λ i. get_or l i d)
listed zero [] d e = refl
listed zero (x ∷ xs) d e = absurd (omega arith)
listed (suc n) [] d e = absurd (omega arith)
listed (suc n) (x ∷ xs) d e = ap (λ (r : List _). x ∷ r) (listed n xs d (omega arith))

-- the numbers that the header counts
abbrev numbers : Image → List ℕ
numbers im = length im.bytes ∷ map length im.records

module _ (im : Image) (limited : AllWithin (numbers im) limits) where
  pub size_within : (o : Section) → size_of im o ≤ get_or limits (suc (order_of o)) 0
  size_within o =
      rw (get_or-map length im.records (order_of o) [])
      at (within_at (numbers im) limits limited (suc (order_of o)))

  pub bounded : Bounded im
  unfolding limits
  bounded =
      record {
        bytes = within_at (numbers im) limits limited 0;
        sizes = λ o. omega (arith, size_within o, under_at 4096 (drop 1 limits) refl (order_of o));
      }

  -- the expressions and the statements have places for their starts
  pub starts_fit : size_of im Expressions + size_of im Statements ≤ most_starts
  unfolding limits
  starts_fit = omega (arith, size_within Expressions, size_within Statements)

pub records_are : (im : Image) → WellFormed im → im.records ≡ map (records_of im) sections
unfolding sections limits
records_are im wf = listed 8 im.records [] (omega (arith, length-map im.records length, within_length (numbers im) limits wf.counts))

-- ---- the counts, two bytes each

abbrev twos : List ℕ → List ℕ
twos [] = []
twos (n ∷ ns) = bytes_of 2 n ++ twos ns

counts_twos : (rss : List (List Rec)) → encode_counts rss ≡ twos (map length rss)
unfolding encode_counts
counts_twos [] = refl
counts_twos (rs ∷ rss) = rw (counts_twos rss)

length_twos : (ns : List ℕ) → length (twos ns) ≡ length ns * 2
length_twos [] = refl
length_twos (n ∷ ns) = rw (length-append, length_bytes, length_twos ns) (omega arith)

module _ {s : List ℕ} where
  twos_at : {at : ℕ} (ns : List ℕ) → BytesAt s at (twos ns) → (j : ℕ) → get_or ns j 0 < 65536 → j < length ns → u16_at s (at + j * 2) ≡ get_or ns j 0
  twos_at [] st j b l = absurd (omega arith)
  twos_at {at} (n ∷ ns) st zero b l =
      let e : at + 0 * 2 ≡ at = omega arith in
      rw e (u16_stands n b (left (bytes_of 2 n) (twos ns) st))
  twos_at {at} (n ∷ ns) st (suc j) b l =
      let e : at + suc j * 2 ≡ at + 2 + j * 2 = omega arith in
      rw e (twos_at {at = at + 2} ns (rw length_bytes at (right (bytes_of 2 n) (twos ns) st)) j b (omega arith))

  counts_good : {at : ℕ} (ns ms : List ℕ) → AllWithin ns ms → under 65535 ms ≡ true → BytesAt s at (twos ns) → counts_from s ms at ≡ goes_on (at + length ns * 2) 0
  unfolding counts_from
  counts_good {at} [] [] w u st = let e : at + 0 ≡ at = omega arith in rw e
  counts_good [] (m ∷ ms) w u st = absurd w
  counts_good (n ∷ ns) [] w u st = absurd w
  counts_good {at} (n ∷ ns) (m ∷ ms) w u st =
      let here = left (bytes_of 2 n) (twos ns) st in
      let b : m ≤ 65535 = leb-true m 65535 (and_left (leb m 65535) (under 65535 ms) u) in
      let e : u16_at s at ≡ n = u16_stands n (omega (arith, w.0)) here in
      let z : at + 2 + length ns * 2 ≡ at + suc (length ns) * 2 = omega arith in
      rw (there here 2 (length_bytes 2 n), e, le-ltb m n w.0, ← z)
      (counts_good {at = at + 2} ns ms w.1 (and_right (leb m 65535) (under 65535 ms) u) (rw length_bytes at (right (bytes_of 2 n) (twos ns) st)))

-- ---- the header

regroup : (a b c d e : List ℕ) → a ++ b ++ c ++ d ++ e ≡ a ++ (b ++ c ++ (d ++ e))
regroup a b c d e = simp append_assoc

module _ (im : Image) (wf : WellFormed im) where
  nine : length (numbers im) ≡ 9
  unfolding limits
  nine = within_length (numbers im) limits wf.counts

  -- the parts in order
  parts : encode im ≡ 1 ∷ bytes_of 4 im.arena ++ (twos (numbers im) ++ (im.bytes ++ encode_sections im.records))
  unfolding encode
  parts = rw counts_twos (regroup (1 ∷ bytes_of 4 im.arena) (bytes_of 2 (length im.bytes)) (twos (map length im.records)) im.bytes (encode_sections im.records))

  whole_stands : BytesAt (encode im) 0 (1 ∷ bytes_of 4 im.arena ++ (twos (numbers im) ++ (im.bytes ++ encode_sections im.records)))
  whole_stands = record { before = []; rest = []; whole = parts ∙ sym (append-nil _); place = refl }

  after_kind : BytesAt (encode im) 1 (bytes_of 4 im.arena ++ (twos (numbers im) ++ (im.bytes ++ encode_sections im.records)))
  after_kind = tail whole_stands

  arena_stands : BytesAt (encode im) 1 (bytes_of 4 im.arena)
  arena_stands = left (bytes_of 4 im.arena) _ after_kind

  after_arena : BytesAt (encode im) 5 (twos (numbers im) ++ (im.bytes ++ encode_sections im.records))
  after_arena = rw length_bytes at (right (bytes_of 4 im.arena) _ after_kind)

  counts_stand : BytesAt (encode im) 5 (twos (numbers im))
  counts_stand = left (twos (numbers im)) (im.bytes ++ encode_sections im.records) after_arena

  after_counts : BytesAt (encode im) text_bytes_at (im.bytes ++ encode_sections im.records)
  after_counts = rw (length_twos, nine) at (right (twos (numbers im)) (im.bytes ++ encode_sections im.records) after_arena)

  pub text_stands : BytesAt (encode im) text_bytes_at im.bytes
  text_stands = left im.bytes (encode_sections im.records) after_counts

  pub sections_stand : BytesAt (encode im) (text_bytes_at + length im.bytes) (encode_sections im.records)
  sections_stand = right im.bytes (encode_sections im.records) after_counts

  pub length_encode : length (encode im) ≡ text_bytes_at + length im.bytes + length (encode_sections im.records)
  length_encode = rw (parts, length-append, length_bytes, length-append, length_twos, nine, length-append) (omega arith)

  pub arena_is : u32_at (encode im) 1 ≡ im.arena
  arena_is = u32_number (encode im) 1 ∙ number 4 im.arena wf.arena arena_stands

  count_at : (j : ℕ) → j < 9 → u16_at (encode im) (5 + j * 2) ≡ get_or (numbers im) j 0
  unfolding limits
  count_at j l =
      twos_at (numbers im) counts_stand j
      (omega (arith, within_at (numbers im) limits wf.counts j, under_at 65535 limits refl j)) (omega (arith, nine))

  size_at : (o : Section) → order_of o < 8 → u16_at (encode im) (5 + suc (order_of o) * 2) ≡ size_of im o
  size_at o l = count_at (suc (order_of o)) (omega arith) ∙ get_or-map length im.records (order_of o) []

  pub header_good : header_of (encode im) ≡ goes_on text_bytes_at 0
  unfolding header_of limits
  header_good =
      let kind : BytesAt (encode im) 0 (1 ∷ []) = left (1 ∷ []) _ whole_stands in
      rw (there kind 1 refl, head kind, there arena_stands 4 (length_bytes 4 im.arena), counts_good (numbers im) limits wf.counts refl counts_stand, nine)

  pub counts_are : counts_of (encode im) ≡ counts im
  unfolding counts_of
  counts_are =
      rw (
        count_at 0 (lit< tt),
        size_at Texts (lit< tt),
        size_at Lists (lit< tt),
        size_at Expressions (lit< tt),
        size_at Statements (lit< tt),
        size_at Parameters (lit< tt),
        size_at Clauses (lit< tt),
        size_at Functions (lit< tt),
        size_at Calls (lit< tt),
      )
