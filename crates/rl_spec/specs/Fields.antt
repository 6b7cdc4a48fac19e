-- What the reader checks of one record.
use Rattle.std.specs.Prelude.{ℕ, zero, suc, ◌+◌, ◌-◌, ◌*◌, ◌%◌, max, Bool, true, false, cond, not, List, [], ◌∷◌, take, drop, ◌==◌, nat_le, nat_lt, slice_index, Ok, Err}
use Rattle.rl_spec.specs.declared.Counts.{Counts}
use Rattle.rl_spec.specs.declared.Cause.{Cause}
use Rattle.rl_spec.specs.declared.Cause.TheVariants.{BytesEnd, WrongKind, BadText, BadValue, BadReference, TooHigh}
use Rattle.rl_spec.specs.declared.Section.{Section}
use Rattle.rl_spec.specs.declared.Section.TheVariants.{Texts, Lists, Expressions, Statements, Parameters, Clauses, Functions, Calls}
use Rattle.rl_spec.specs.declared.Target.{Target}
use Rattle.rl_spec.specs.declared.Target.TheVariants.{Text, Expression, Statement, Branch, ElseBranch, Arm}
use Rattle.rl_spec.specs.declared.Sort.{Sort}
use Rattle.rl_spec.specs.declared.Sort.TheVariants.{Raw, Byte, Scalar, Part, One, Maybe, Many, Range, OperandSort, Operand}
use Rattle.rl_spec.specs.Answers.{Check, goes_on, refused, Step}
use Rattle.rl_spec.specs.Bytes.{u16_at, u32_at, past}
use Rattle.rl_spec.specs.Schema.{text_bytes_at, count_of, in_section, tallest, sort_of, width_of, fields_of}
use Rattle.rl_spec.specs.Utf8.{utf8, is_scalar}

-- a check that refuses for one cause unless a test holds
abbrev pub unless : Cause → Bool → ℕ → Check
unless c b tall = cond b (Ok tall) (Err c)

-- whether a reference may find a statement of this kind
abbrev pub takes : Target → ℕ → Bool
takes Text k = true
takes Expression k = true
takes Statement k = not (k == 76)
takes Branch k = k == 69
takes ElseBranch k = cond (k == 69) true (k == 68)
takes Arm k = k == 76

-- where the list entries start
abbrev pub lists_at : Counts → ℕ
lists_at c = text_bytes_at + c.bytes + c.texts * 5

-- whether n bytes are all 0
unfoldable pub zeros : List ℕ → ℕ → ℕ → Bool
zeros s at zero = true
zeros s at (suc n) = cond (slice_index s at == 0) (zeros s (at + 1) n) false

-- ---- references. `seen` counts what a record may refer to: all records of the earlier sections and the earlier ones of its own.
-- w holds the heights of the expressions and then of the statements so far, p where each of them starts in the image s.

abbrev pub within : Counts → Target → ℕ
within seen Text = seen.texts
within seen Expression = seen.expressions
within seen Statement = seen.statements
within seen Branch = seen.statements
within seen ElseBranch = seen.statements
within seen Arm = seen.statements

unfoldable pub kind_of_statement : List ℕ → List ℕ → Counts → ℕ → ℕ
kind_of_statement s p seen n = slice_index s (slice_index p (seen.expressions + n))

unfoldable pub allowed : List ℕ → List ℕ → Counts → Target → ℕ → Bool
allowed s p seen t n = cond (nat_lt n (within seen t)) (takes t (kind_of_statement s p seen n)) false

-- the height of a child, which is a record of the own section
abbrev pub node_height : List ℕ → Target → ℕ → ℕ
node_height w Text n = 0
node_height w Expression n = slice_index w n
node_height w Statement n = 0
node_height w Branch n = 0
node_height w ElseBranch n = 0
node_height w Arm n = 0

abbrev pub statement_height : List ℕ → ℕ → Target → ℕ → ℕ
statement_height w from Text n = 0
statement_height w from Expression n = 0
statement_height w from Statement n = slice_index w (from + n)
statement_height w from Branch n = slice_index w (from + n)
statement_height w from ElseBranch n = slice_index w (from + n)
statement_height w from Arm n = slice_index w (from + n)

abbrev pub height_in : Section → List ℕ → Counts → Target → ℕ → ℕ
height_in Texts w seen t n = 0
height_in Lists w seen t n = 0
height_in Expressions w seen t n = node_height w t n
height_in Statements w seen t n = statement_height w seen.expressions t n
height_in Parameters w seen t n = 0
height_in Clauses w seen t n = 0
height_in Functions w seen t n = 0
height_in Calls w seen t n = 0

unfoldable pub child_height : List ℕ → Counts → Section → Target → ℕ → ℕ
child_height w seen own t n = height_in own w seen t n

unfoldable pub entry_at : List ℕ → Counts → ℕ → ℕ
entry_at s seen k = u16_at s (lists_at seen + k * 3 + 1)

-- ---- values

-- a range of records: its first and its count
unfoldable pub range_of : Counts → ℕ → ℕ → Section → ℕ → Check
range_of seen first count o tall = unless BadReference (nat_le (first + count) (count_of seen o)) tall

-- a text: a part of the text bytes that is UTF-8
unfoldable pub part_of : List ℕ → Counts → ℕ → ℕ → ℕ → Check
part_of s seen offset size tall =
    cond (nat_lt seen.bytes (offset + size)) (Err BadText)
    (unless BadText (utf8 (take size (drop (text_bytes_at + offset) s))) tall)

unfoldable pub byte_in : ℕ → ℕ → ℕ → ℕ → Check
byte_in low high b tall = cond (nat_lt b low) (Err BadValue) (unless BadValue (nat_le b high) tall)

-- the operand's sort: 0 exactly where the refinement is 0
unfoldable pub operand_sort_of : ℕ → ℕ → ℕ → Check
operand_sort_of refinement b tall =
    cond (refinement == 0) (unless BadValue (b == 0) tall) (byte_in 1 4 b tall)

-- a refusal is at the field's first byte
abbrev pub checked : Check → ℕ → (ℕ → Step) → Step
checked (Ok tall) at f = f tall
checked (Err c) at f = refused c at

-- the height is checked after the record, and refused at its kind
abbrev pub height_step : Section → ℕ → Step → Step
height_step own at (Ok s) = cond (nat_lt s.tall (tallest own)) (goes_on s.at (s.tall + 1)) (refused TooHigh at)
height_step own at (Err r) = Err r

-- ---- a record of the section `own`

module _ (s w p : List ℕ) (seen : Counts) (own : Section) where
  unfoldable pub refer_to : Target → ℕ → ℕ → Check
  refer_to t n tall = unless BadReference (allowed s p seen t n) (max tall (child_height w seen own t n))

  unfoldable pub refer_or_none : Target → ℕ → ℕ → Check
  refer_or_none t n tall = cond (n == 65535) (Ok tall) (refer_to t n tall)

  -- n list entries from the k-th on, by turns a left and a right
  unfoldable pub entries_from : ℕ → ℕ → Target → Target → ℕ → Check
  entries_from zero k left right tall = Ok tall
  entries_from (suc n) k left right tall =
      cond (allowed s p seen left (entry_at s seen k))
      (entries_from n (k + 1) right left (max tall (child_height w seen own left (entry_at s seen k)))) (Err BadReference)

  -- a list: its first entry and its count
  unfoldable pub list_of : ℕ → ℕ → Target → Target → ℕ → ℕ → Check
  list_of first count left right step tall =
      cond (nat_lt seen.lists (first + count)) (Err BadReference)
      (cond (count % step == 0) (entries_from count first left right tall) (Err BadReference))

  -- the operand, by its sort: none, Integer, Str, Bool, Param; the bytes that are left unused are 0
  unfoldable pub operand_of : ℕ → ℕ → ℕ → Check
  operand_of b at tall =
      cond (b == 0) (unless BadValue (zeros s at 8) tall)
      (cond (b == 1) (Ok tall)
      (cond (b == 3) (unless BadValue (cond (nat_le (slice_index s at) 1) (zeros s (at + 1) 7) false) tall)
      (cond (zeros s (at + 2) 6) (refer_to Text (u16_at s at) tall) (Err BadValue))))

  -- a field's value, once its bytes are there. An operand's sort follows its refinement, and an operand its sort.
  unfoldable pub value_of : Sort → ℕ → ℕ → Check
  value_of (Raw n) at tall = Ok tall
  value_of (Byte low high) at tall = byte_in low high (slice_index s at) tall
  value_of Scalar at tall = unless BadValue (is_scalar (u32_at s at)) tall
  value_of Part at tall = part_of s seen (u16_at s at) (u16_at s (at + 2)) tall
  value_of (One t) at tall = refer_to t (u16_at s at) tall
  value_of (Maybe t) at tall = refer_or_none t (u16_at s at) tall
  value_of (Many l r n) at tall = list_of (u16_at s at) (u16_at s (at + 2)) l r n tall
  value_of (Range o) at tall = range_of seen (u16_at s at) (u16_at s (at + 2)) o tall
  value_of OperandSort at tall = operand_sort_of (slice_index s (at - 1)) (slice_index s at) tall
  value_of Operand at tall = operand_of (slice_index s (at - 1)) at tall

  -- ONE FIELD
  unfoldable pub field_at : Sort → ℕ → ℕ → Check
  field_at o at tall = cond (past s at (width_of o)) (Err BytesEnd) (value_of o at tall)

  -- THE FIELDS, left to right
  unfoldable pub fields_from : List ℕ → ℕ → ℕ → Step
  fields_from [] at tall = goes_on at tall
  fields_from (o ∷ os) at tall = checked (field_at (sort_of o) at tall) at (λ t. fields_from os (at + width_of (sort_of o)) t)

  -- ONE RECORD: its kind, its fields, its height
  unfoldable pub record_at : ℕ → Step
  record_at at =
      cond (past s at 1) (refused BytesEnd at)
      (cond (in_section own (slice_index s at)) (height_step own at (fields_from (fields_of (slice_index s at)) (at + 1) 0)) (refused WrongKind at))
