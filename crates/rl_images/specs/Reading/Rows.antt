-- THE READER'S TABLE: what is checked of an image s and a work slice of k entries, in order; each cause with its place, and what it says.
-- Assumes nothing.
use Rattle.std.specs.Prelude.{ℕ, zero, suc, ◌+◌, ◌-◌, ◌%◌, ◌≤◌, ◌<◌, max, ◌≡◌, false, cond, List, [], ◌∷◌, ◌++◌, ◌⊎◌, ◌≢◌, eqb, length, get_or, take, drop, replicate}
use Rattle.rl_spec.specs.declared.Counts.{Counts}
use Rattle.rl_spec.specs.declared.Cause.TheVariants.{ImageTooLong, WorkTooShort, BytesEnd, WrongKind, CountOverLimit, BadText, BadValue, BadReference, TooHigh, BytesLeft}
use Rattle.rl_spec.specs.declared.Section.{Section}
use Rattle.rl_spec.specs.declared.Target.{Target}
use Rattle.rl_spec.specs.declared.Target.TheVariants.{Text}
use Rattle.rl_spec.specs.declared.Sort.{Sort}
use Rattle.rl_spec.specs.declared.Sort.TheVariants.{Raw, Byte, Scalar, Part, One, Maybe, Many, Range, OperandSort, Operand}
use Rattle.rl_spec.specs.Bytes.{u16_at, u32_at}
use Rattle.rl_spec.specs.Schema.{limits, text_bytes_at, sections, count_of, lowest, highest, tallest, sort_of, width_of, fields_of}
use Rattle.rl_spec.specs.Utf8.{utf8, is_scalar}
use Rattle.rl_spec.specs.Fields.{takes, within, kind_of_statement, child_height, entry_at, zeros}
use Rattle.rl_spec.specs.Read.{counts_of, seen_by, keep, most_starts}
use Rattle.rl_spec.specs.Image.{next_at, end_at}
use Rattle.rl_images.specs.Reading.Table.{Row, row}

-- ---- a field that starts at n. `seen` counts what the record may refer to, p has the starts so far

-- a reference past what may be referred to, or to a statement of another kind
abbrev pub WrongTarget : List ℕ → List ℕ → Counts → Target → ℕ → Type 0
WrongTarget s p seen t n = (within seen t ≤ n) ⊎ (takes t (kind_of_statement s p seen n) ≡ false)

-- entries are by turns a left and a right
abbrev pub turn : ℕ → Target → Target → Target
turn zero l r = l
turn (suc i) l r = turn i r l

-- a text outside the text bytes, or not UTF-8
abbrev pub NoText : List ℕ → Counts → ℕ → Type 0
NoText s seen n =
    (seen.bytes < u16_at s n + u16_at s (n + 2)) ⊎ (utf8 (take (u16_at s (n + 2)) (drop (text_bytes_at + u16_at s n) s)) ≡ false)

-- a list: its first entry and its count
pub data WrongList (s p : List ℕ) (seen : Counts) (l r : Target) (step n : ℕ) : Type 0 where
  list_leaves : seen.lists < u16_at s n + u16_at s (n + 2) → WrongList s p seen l r step n
  list_uneven : u16_at s (n + 2) % step ≢ 0 → WrongList s p seen l r step n
  entry_wrong : (i : ℕ) → i < u16_at s (n + 2) → WrongTarget s p seen (turn i l r) (entry_at s seen (u16_at s n + i)) → WrongList s p seen l r step n

-- an operand's sort follows its refinement
pub data WrongSort (refinement sort : ℕ) : Type 0 where
  sort_of_none : refinement ≡ 0 → sort ≢ 0 → WrongSort refinement sort
  sort_outside : refinement ≢ 0 → (sort < 1) ⊎ (4 < sort) → WrongSort refinement sort

-- the operand's sort says that it is a text
pub record IsText (sort : ℕ) : Type 0 where
  pub some : sort ≢ 0
  pub not_integer : sort ≢ 1
  pub not_bool : sort ≢ 3

-- an operand follows its sort, and the bytes that it does not use are 0
pub data WrongOperand (s : List ℕ) (sort n : ℕ) : Type 0 where
  none_not_zero : sort ≡ 0 → zeros s n 8 ≡ false → WrongOperand s sort n
  bool_outside : sort ≡ 3 → (1 < get_or s n 0) ⊎ (zeros s (n + 1) 7 ≡ false) → WrongOperand s sort n
  text_not_zero : IsText sort → zeros s (n + 2) 6 ≡ false → WrongOperand s sort n

module _ (s p : List ℕ) (seen : Counts) where
  -- 6, 7 and 8, by the field's sort
  abbrev pub value_rows : Sort → ℕ → List Row
  value_rows (Raw m) n = []
  value_rows (Byte low high) n = row BadValue n ((get_or s n 0 < low) ⊎ (high < get_or s n 0)) ∷ []
  value_rows Scalar n = row BadValue n (is_scalar (u32_at s n) ≡ false) ∷ []
  value_rows Part n = row BadText n (NoText s seen n) ∷ []
  value_rows (One t) n = row BadReference n (WrongTarget s p seen t (u16_at s n)) ∷ []
  value_rows (Maybe t) n = row BadReference n ((u16_at s n ≢ 65535) × WrongTarget s p seen t (u16_at s n)) ∷ []
  value_rows (Many l r step) n = row BadReference n (WrongList s p seen l r step n) ∷ []
  value_rows (Range o) n = row BadReference n (count_of seen o < u16_at s n + u16_at s (n + 2)) ∷ []
  value_rows OperandSort n = row BadValue n (WrongSort (get_or s (n - 1) 0) (get_or s n 0)) ∷ []
  value_rows Operand n =
      row BadValue n (WrongOperand s (get_or s (n - 1) 0) n)
      ∷ row BadReference n (IsText (get_or s (n - 1) 0) × WrongTarget s p seen Text (u16_at s n)) ∷ []

  -- 3 before those
  abbrev pub field_rows : Sort → ℕ → List Row
  field_rows o n = row BytesEnd n (length s < n + width_of o) ∷ value_rows o n

  -- the fields of a record, left to right
  unfoldable pub fields_rows : List ℕ → ℕ → List Row
  fields_rows [] n = []
  fields_rows (o ∷ os) n = field_rows (sort_of o) n ++ fields_rows os (n + width_of (sort_of o))

-- ---- a record that starts at `at`; w has the heights so far

module _ (s w : List ℕ) (seen : Counts) (own : Section) where
  -- the largest height of a child that n list entries from the k-th on name, by turns a left and a right; that a field names; that fields name
  unfoldable pub entries_tall : ℕ → ℕ → Target → Target → ℕ
  entries_tall zero k l r = 0
  entries_tall (suc n) k l r = max (child_height w seen own l (entry_at s seen k)) (entries_tall n (k + 1) r l)

  abbrev pub field_tall : Sort → ℕ → ℕ
  field_tall (Raw m) n = 0
  field_tall (Byte low high) n = 0
  field_tall Scalar n = 0
  field_tall Part n = 0
  field_tall (One t) n = child_height w seen own t (u16_at s n)
  field_tall (Maybe t) n = cond (eqb (u16_at s n) 65535) 0 (child_height w seen own t (u16_at s n))
  field_tall (Many l r step) n = entries_tall (u16_at s (n + 2)) (u16_at s n) l r
  field_tall (Range o) n = 0
  field_tall OperandSort n = 0
  field_tall Operand n = 0

  unfoldable pub fields_tall : List ℕ → ℕ → ℕ
  fields_tall [] n = 0
  fields_tall (o ∷ os) n = max (field_tall (sort_of o) n) (fields_tall os (n + width_of (sort_of o)))

  -- its height: 1 without children of its own section, else 1 plus the largest
  unfoldable pub height_at : ℕ → ℕ
  height_at at = fields_tall (fields_of (get_or s at 0)) (at + 1) + 1

-- its kind is none of the section's
abbrev pub KindOutside : List ℕ → Section → ℕ → Type 0
KindOutside s own at = (get_or s at 0 < lowest own) ⊎ (highest own < get_or s at 0)

-- 3 and 4, the fields, 9
abbrev pub record_rows : List ℕ → List ℕ → List ℕ → Counts → Section → ℕ → List Row
record_rows s w p seen own at =
    row BytesEnd at (length s ≤ at)
    ∷ row WrongKind at (KindOutside s own at)
    ∷ fields_rows s p seen (fields_of (get_or s at 0)) (at + 1)
    ++ row TooHigh at (tallest own < height_at s w seen own at) ∷ []

-- ---- n records of a section, from the i-th on, and sections; the starts and the heights that they leave

module _ (s : List ℕ) (c : Counts) where
  unfoldable pub starts_from : Section → ℕ → ℕ → ℕ → List ℕ → List ℕ
  starts_from o zero i at p = p
  starts_from o (suc n) i at p = starts_from o n (i + 1) (next_at s at) (keep c o i at p)

  unfoldable pub work_from : Section → ℕ → ℕ → ℕ → List ℕ → List ℕ
  work_from o zero i at w = w
  work_from o (suc n) i at w = work_from o n (i + 1) (next_at s at) (keep c o i (height_at s w (seen_by c o i) o at) w)

  unfoldable pub records_rows : Section → ℕ → ℕ → ℕ → List ℕ → List ℕ → List Row
  records_rows o zero i at w p = []
  records_rows o (suc n) i at w p =
      record_rows s w p (seen_by c o i) o at
      ++ records_rows o n (i + 1) (next_at s at) (keep c o i (height_at s w (seen_by c o i) o at) w) (keep c o i at p)

  unfoldable pub sections_rows : List Section → ℕ → List ℕ → List ℕ → List Row
  sections_rows [] at w p = []
  sections_rows (o ∷ os) at w p =
      records_rows o (count_of c o) 0 at w p
      ++ sections_rows os (end_at s (count_of c o) at) (work_from o (count_of c o) 0 at w) (starts_from o (count_of c o) 0 at p)

  unfoldable pub starts_in : List Section → ℕ → List ℕ → List ℕ
  starts_in [] at p = p
  starts_in (o ∷ os) at p = starts_in os (end_at s (count_of c o) at) (starts_from o (count_of c o) 0 at p)

  unfoldable pub work_in : List Section → ℕ → List ℕ → List ℕ
  work_in [] at w = w
  work_in (o ∷ os) at w = work_in os (end_at s (count_of c o) at) (work_from o (count_of c o) 0 at w)

  -- where sections from a place on end
  unfoldable pub last_at : List Section → ℕ → ℕ
  last_at [] at = at
  last_at (o ∷ os) at = last_at os (end_at s (count_of c o) at)

-- ---- the header: 3 and 4 of its kind, 3 of the arena number, 3 and 5 of each count

unfoldable pub counts_rows : List ℕ → List ℕ → ℕ → List Row
counts_rows s [] at = []
counts_rows s (most ∷ ms) at =
    row BytesEnd at (length s < at + 2) ∷ row CountOverLimit at (most < u16_at s at) ∷ counts_rows s ms (at + 2)

abbrev pub header_rows : List ℕ → List Row
header_rows s =
    row BytesEnd 0 (length s ≡ 0) ∷ row WrongKind 0 (get_or s 0 0 ≢ 1) ∷ row BytesEnd 1 (length s < 5) ∷ counts_rows s limits 5

-- ---- the whole

-- where the sections start, and where they end
abbrev pub sections_at : List ℕ → ℕ
sections_at s = text_bytes_at + (counts_of s).bytes

abbrev pub sections_end : List ℕ → ℕ
sections_end s = last_at s (counts_of s) sections (sections_at s)

-- 1 and 2, the header, 3 of the text bytes, the sections
abbrev pub content_rows : List ℕ → ℕ → List Row
content_rows s k =
    row ImageTooLong 0 (65535 < length s)
    ∷ row WorkTooShort 0 (k < 8192)
    ∷ header_rows s
    ++ row BytesEnd text_bytes_at (length s < sections_at s)
    ∷ sections_rows s (counts_of s) sections (sections_at s) (replicate k 0) (replicate most_starts 0)

-- THE TABLE: 10 at the end
abbrev pub read_rows : List ℕ → ℕ → List Row
read_rows s k = content_rows s k ++ row BytesLeft (sections_end s) (sections_end s < length s) ∷ []
