-- The abstract image: records with their field values, text bytes and list entries; its bytes; and when it is well formed.
use Rattle.std.specs.Prelude.{◌≡◌, ℕ, zero, suc, ◌+◌, ◌/◌, ◌%◌, ◌^◌, ◌<◌, ◌≤◌, max, Bool, true, false, cond, ◌⊎◌, List, [], ◌∷◌, ◌++◌, map, length, get_or, take, drop, ◌==◌, slice_index, slice_index_or}
use Rattle.rl_spec.specs.declared.Counts.{Counts}
use Rattle.rl_spec.specs.declared.Section.{Section}
use Rattle.rl_spec.specs.declared.Section.TheVariants.{Texts, Lists, Expressions, Statements, Parameters, Clauses, Functions, Calls}
use Rattle.rl_spec.specs.declared.Target.{Target}
use Rattle.rl_spec.specs.declared.Target.TheVariants.{Text, Expression, Statement, Branch, ElseBranch, Arm}
use Rattle.rl_spec.specs.declared.Sort.{Sort}
use Rattle.rl_spec.specs.declared.Sort.TheVariants.{Raw, Byte, Scalar, Part, One, Maybe, Many, Range, OperandSort, Operand}
use Rattle.rl_spec.specs.Bytes.{num_at, u16_at, u32_at}
use Rattle.rl_spec.specs.Schema.{limits, text_bytes_at, sections, count_of, in_section, tallest, sort_of, width_of, fields_of}
use Rattle.rl_spec.specs.Utf8.{utf8, is_scalar}
use Rattle.rl_spec.specs.Fields.{takes}
use Rattle.rl_spec.specs.Read.{counts_of}

-- ---- the image

-- a field's value: a number; or two, as a text's offset and length, or the first and the count of a list or a range
pub data Field : Type 0 where
  num : ℕ → Field
  pair : ℕ → ℕ → Field

-- the span of an expression or a statement is its first field
pub record Rec : Type 0 where
  pub kind : ℕ
  pub fields : List Field

pub record Image : Type 0 where
  pub arena : ℕ
  pub bytes : List ℕ
  -- the records of each section, in the sections' order
  pub records : List (List Rec)

-- the place of a section among the sections
abbrev pub order_of : Section → ℕ
order_of Texts = 0
order_of Lists = 1
order_of Expressions = 2
order_of Statements = 3
order_of Parameters = 4
order_of Clauses = 5
order_of Functions = 6
order_of Calls = 7

abbrev pub records_of : Image → Section → List Rec
records_of im o = slice_index_or im.records (order_of o) []

abbrev pub size_of : Image → Section → ℕ
size_of im o = length (records_of im o)

abbrev pub no_field : Field
no_field = num 0

abbrev pub no_record : Rec
no_record = record { kind = 0; fields = [] }

abbrev pub record_of : Image → Section → ℕ → Rec
record_of im o i = slice_index_or (records_of im o) i no_record

abbrev pub field_of : Rec → ℕ → Field
field_of r j = slice_index_or r.fields j no_field

abbrev pub first : Field → ℕ
first (num n) = n
first (pair a b) = a

abbrev pub second : Field → ℕ
second (num n) = 0
second (pair a b) = b

-- the k-th list entry, and the bytes of the t-th text
abbrev pub entry_of : Image → ℕ → ℕ
entry_of im k = first (field_of (record_of im Lists k) 0)

abbrev pub text_of : Image → ℕ → List ℕ
text_of im t =
    take (second (field_of (record_of im Texts t) 0)) (drop (first (field_of (record_of im Texts t) 0)) im.bytes)

-- ---- its bytes

-- n bytes of a number, little-endian
unfoldable pub bytes_of : ℕ → ℕ → List ℕ
bytes_of zero x = []
bytes_of (suc n) x = x % 256 ∷ bytes_of n (x / 256)

abbrev pub encode_field : Sort → Field → List ℕ
encode_field o (num n) = bytes_of (width_of o) n
encode_field o (pair a b) = bytes_of 2 a ++ bytes_of 2 b

unfoldable pub encode_fields : List ℕ → List Field → List ℕ
encode_fields [] fs = []
encode_fields (c ∷ cs) [] = []
encode_fields (c ∷ cs) (f ∷ fs) = encode_field (sort_of c) f ++ encode_fields cs fs

unfoldable pub encode_record : Rec → List ℕ
encode_record r = r.kind ∷ encode_fields (fields_of r.kind) r.fields

unfoldable pub encode_records : List Rec → List ℕ
encode_records [] = []
encode_records (r ∷ rs) = encode_record r ++ encode_records rs

unfoldable pub encode_sections : List (List Rec) → List ℕ
encode_sections [] = []
encode_sections (rs ∷ rss) = encode_records rs ++ encode_sections rss

-- the counts of the header
unfoldable pub encode_counts : List (List Rec) → List ℕ
encode_counts [] = []
encode_counts (rs ∷ rss) = bytes_of 2 (length rs) ++ encode_counts rss

unfoldable pub encode : Image → List ℕ
encode im =
    1 ∷ bytes_of 4 im.arena ++ bytes_of 2 (length im.bytes) ++ encode_counts im.records ++ im.bytes
    ++ encode_sections im.records

-- ---- the image that accepted bytes stand for

-- a field of two numbers
abbrev pub is_pair : Sort → Bool
is_pair (Raw n) = false
is_pair (Byte low high) = false
is_pair Scalar = false
is_pair Part = true
is_pair (One t) = false
is_pair (Maybe t) = false
is_pair (Many l r n) = true
is_pair (Range o) = true
is_pair OperandSort = false
is_pair Operand = false

abbrev pub field_in : List ℕ → Sort → ℕ → Field
field_in s o at = cond (is_pair o) (pair (u16_at s at) (u16_at s (at + 2))) (num (num_at s at (width_of o)))

unfoldable pub fields_at : List ℕ → List ℕ → ℕ → List Field
fields_at s [] at = []
fields_at s (c ∷ cs) at = field_in s (sort_of c) at ∷ fields_at s cs (at + width_of (sort_of c))

unfoldable pub widths_of : List ℕ → ℕ
widths_of [] = 0
widths_of (c ∷ cs) = width_of (sort_of c) + widths_of cs

-- the record that starts at a place, and where the next one does
unfoldable pub record_in : List ℕ → ℕ → Rec
record_in s at = record { kind = slice_index s at; fields = fields_at s (fields_of (slice_index s at)) (at + 1) }

unfoldable pub next_at : List ℕ → ℕ → ℕ
next_at s at = at + 1 + widths_of (fields_of (slice_index s at))

-- n records from a place on, and where they end
unfoldable pub records_in : List ℕ → ℕ → ℕ → List Rec
records_in s zero at = []
records_in s (suc n) at = record_in s at ∷ records_in s n (next_at s at)

unfoldable pub end_at : List ℕ → ℕ → ℕ → ℕ
end_at s zero at = at
end_at s (suc n) at = end_at s n (next_at s at)

unfoldable pub sections_in : List ℕ → Counts → List Section → ℕ → List (List Rec)
sections_in s c [] at = []
sections_in s c (o ∷ os) at = records_in s (count_of c o) at ∷ sections_in s c os (end_at s (count_of c o) at)

unfoldable pub image_of : List ℕ → Image
image_of s =
    record {
      arena = u32_at s 1;
      bytes = take (counts_of s).bytes (drop text_bytes_at s);
      records = sections_in s (counts_of s) sections (text_bytes_at + (counts_of s).bytes);
    }

-- ---- heights

-- the section that a reference leads to
abbrev pub section_of : Target → Section
section_of Text = Texts
section_of Expression = Expressions
section_of Statement = Statements
section_of Branch = Statements
section_of ElseBranch = Statements
section_of Arm = Statements

abbrev pub same_section : Section → Section → Bool
same_section o q = order_of o == order_of q

-- the heights of the children of the section o, of which h has the heights so far
module _ (im : Image) (o : Section) (h : List ℕ) where
  abbrev pub height_of : Target → ℕ → ℕ
  height_of t n = cond (same_section o (section_of t)) (slice_index h n) 0

  unfoldable pub tallest_entry : ℕ → ℕ → Target → Target → ℕ
  tallest_entry zero k l r = 0
  tallest_entry (suc n) k l r = max (height_of l (entry_of im k)) (tallest_entry n (k + 1) r l)

  abbrev pub tallest_in : Sort → Field → ℕ
  tallest_in (Raw n) f = 0
  tallest_in (Byte low high) f = 0
  tallest_in Scalar f = 0
  tallest_in Part f = 0
  tallest_in (One t) f = height_of t (first f)
  tallest_in (Maybe t) f = cond (first f == 65535) 0 (height_of t (first f))
  tallest_in (Many l r n) f = tallest_entry (second f) (first f) l r
  tallest_in (Range q) f = 0
  tallest_in OperandSort f = 0
  tallest_in Operand f = 0

  unfoldable pub tallest_child : List ℕ → List Field → ℕ
  tallest_child [] fs = 0
  tallest_child (c ∷ cs) [] = 0
  tallest_child (c ∷ cs) (f ∷ fs) = max (tallest_in (sort_of c) f) (tallest_child cs fs)

-- the heights of records: 1 without children of the own section, else 1 more than the largest
unfoldable pub heights_from : Image → Section → List Rec → List ℕ → List ℕ
heights_from im o [] h = h
heights_from im o (r ∷ rs) h =
    heights_from im o rs (h ++ (tallest_child im o h (fields_of r.kind) r.fields + 1) ∷ [])

unfoldable pub heights : Image → Section → List ℕ
heights im o = heights_from im o (records_of im o) []

-- ---- well-formed

-- a reference of the i-th record of a section: to an earlier record of its own section, or to another section (in the schema always
-- an earlier one); and of a kind that is taken
pub record Refers (im : Image) (o : Section) (i : ℕ) (t : Target) (n : ℕ) : Type 0 where
  pub earlier : n < cond (same_section o (section_of t)) i (size_of im (section_of t))
  pub taken : takes t (record_of im Statements n).kind ≡ true

abbrev pub Entries : Image → Section → ℕ → ℕ → ℕ → Target → Target → Type 0
Entries im o i zero k l r = Unit {0}
Entries im o i (suc n) k l r = Refers im o i l (entry_of im k) × Entries im o i n (k + 1) r l

-- an operand by its sort, which stands before it: none, Integer, Str, Bool, Param
abbrev pub OperandFits : Image → ℕ → ℕ → Type 0
OperandFits im zero x = x ≡ 0
OperandFits im (suc zero) x = x < 2 ^ 64
OperandFits im (suc (suc zero)) x = x < size_of im Texts
OperandFits im (suc (suc (suc zero))) x = x ≤ 1
OperandFits im (suc (suc (suc (suc zero)))) x = x < size_of im Texts
OperandFits im (suc (suc (suc (suc (suc n))))) x = ⊥

-- an operand's sort: 0 exactly where the refinement before it is 0
abbrev pub SortFits : ℕ → ℕ → Type 0
SortFits zero x = x ≡ 0
SortFits (suc refinement) x = (1 ≤ x) × (x ≤ 4)

-- what a field holds; `before` is the number in the field before it
pub data FieldFits (im : Image) (o : Section) (i before : ℕ) : Sort → Field → Type 0 where
  a_raw : {n x : ℕ} → x < 256 ^ n → FieldFits im o i before (Raw n) (num x)
  a_byte : {low high x : ℕ} → low ≤ x → x ≤ high → FieldFits im o i before (Byte low high) (num x)
  a_scalar : {x : ℕ} → is_scalar x ≡ true → FieldFits im o i before Scalar (num x)
  a_part : {a n : ℕ} → a + n ≤ length im.bytes → utf8 (take n (drop a im.bytes)) ≡ true → FieldFits im o i before Part (pair a n)
  a_reference : {t : Target} {x : ℕ} → Refers im o i t x → FieldFits im o i before (One t) (num x)
  an_option : {t : Target} {x : ℕ} → (x ≡ 65535) ⊎ Refers im o i t x → FieldFits im o i before (Maybe t) (num x)
  a_list : {l r : Target} {m a n : ℕ} → a + n ≤ size_of im Lists → n % m ≡ 0 → Entries im o i n a l r →
      FieldFits im o i before (Many l r m) (pair a n)
  a_range : {q : Section} {a n : ℕ} → a + n ≤ size_of im q → FieldFits im o i before (Range q) (pair a n)
  a_sort : {x : ℕ} → SortFits before x → FieldFits im o i before OperandSort (num x)
  an_operand : {x : ℕ} → OperandFits im before x → FieldFits im o i before Operand (num x)

-- the fields of a record, by their sorts
infixr 20 ◌&◌
pub data FieldsFit (im : Image) (o : Section) (i : ℕ) : ℕ → List Sort → List Field → Type 0 where
  no_fields : {before : ℕ} → FieldsFit im o i before [] []
  ◌&◌ : {before : ℕ} {k : Sort} {ks : List Sort} {f : Field} {fs : List Field} → FieldFits im o i before k f →
      FieldsFit im o i (first f) ks fs → FieldsFit im o i before (k ∷ ks) (f ∷ fs)

pub record RecordFits (im : Image) (o : Section) (i : ℕ) (r : Rec) : Type 0 where
  pub kind : in_section o r.kind ≡ true
  pub fields : FieldsFit im o i 0 (map sort_of (fields_of r.kind)) r.fields
  pub height : get_or (heights im o) i 0 ≤ tallest o

abbrev pub AllBytes : List ℕ → Type 0
AllBytes [] = Unit {0}
AllBytes (b ∷ s) = (b < 256) × AllBytes s

-- each number is at most the limit beside it, and there are as many of one as of the other
abbrev pub AllWithin : List ℕ → List ℕ → Type 0
AllWithin [] [] = Unit {0}
AllWithin [] (m ∷ ms) = ⊥
AllWithin (n ∷ ns) [] = ⊥
AllWithin (n ∷ ns) (m ∷ ms) = (n ≤ m) × AllWithin ns ms

pub record WellFormed (im : Image) : Type 0 where
  pub arena : im.arena < 2 ^ 32
  pub bytes : AllBytes im.bytes
  pub counts : AllWithin (length im.bytes ∷ map length im.records) limits
  pub fits : (o : Section) (i : ℕ) → i < size_of im o → RecordFits im o i (record_of im o i)
  pub size : length (encode im) ≤ 65535
