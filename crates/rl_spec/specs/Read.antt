-- What the reader answers for every image and length of the work slice, and what it leaves there.
use Rattle.std.specs.Prelude.{ℕ, zero, suc, ◌+◌, ◌*◌, ◌^◌, cond, List, [], ◌∷◌, length, replicate, ◌==◌, nat_lt, slice_index, slice_set, Ok, Err}
use Rattle.rl_spec.specs.declared.Counts.{Counts}
use Rattle.rl_spec.specs.declared.Cause.{Cause}
use Rattle.rl_spec.specs.declared.Cause.TheVariants.{ImageTooLong, WorkTooShort, BytesEnd, WrongKind, CountOverLimit, BadText, BadValue, BadReference, TooHigh, BytesLeft, OtherArena, NoSuchNode, NoSuchCall, ReportsTooShort, NoSuchFunction, HeightOverLimit, OutputTooShort, LimitPassed, WrongValues, NoSuchText, BudgetOverLimit, PagesTooShort}
use Rattle.rl_spec.specs.Answers.{Answer, accepted, goes_on, refused, Step}
use Rattle.rl_spec.specs.declared.Section.{Section}
use Rattle.rl_spec.specs.declared.Section.TheVariants.{Texts, Lists, Expressions, Statements, Parameters, Clauses, Functions, Calls}
use Rattle.rl_spec.specs.Bytes.{u16_at, u32_at, past}
use Rattle.rl_spec.specs.Schema.{limits, text_bytes_at, sections, count_of}
use Rattle.rl_spec.specs.Fields.{record_at}

-- the number of each cause
abbrev pub number_of : Cause → ℕ
number_of ImageTooLong = 1
number_of WorkTooShort = 2
number_of BytesEnd = 3
number_of WrongKind = 4
number_of CountOverLimit = 5
number_of BadText = 6
number_of BadValue = 7
number_of BadReference = 8
number_of TooHigh = 9
number_of BytesLeft = 10
number_of OtherArena = 15
number_of NoSuchNode = 16
number_of NoSuchCall = 17
number_of ReportsTooShort = 18
number_of NoSuchFunction = 11
number_of HeightOverLimit = 12
number_of OutputTooShort = 13
number_of LimitPassed = 14
number_of WrongValues = 19
number_of NoSuchText = 20
number_of BudgetOverLimit = 21
number_of PagesTooShort = 22

-- a step, and then what follows it
abbrev pub after : {A : Type 0} → Step → (ℕ → ℕ → A) → (Cause → ℕ → A) → A
after (Ok s) f g = f s.at s.tall
after (Err r) f g = g r.cause r.place

-- ---- the header

unfoldable pub counts_of : List ℕ → Counts
counts_of s =
    record {
      bytes = u16_at s 5;
      texts = u16_at s 7;
      lists = u16_at s 9;
      expressions = u16_at s 11;
      statements = u16_at s 13;
      parameters = u16_at s 15;
      clauses = u16_at s 17;
      functions = u16_at s 19;
      calls = u16_at s 21;
    }

unfoldable pub counts_from : List ℕ → List ℕ → ℕ → Step
counts_from s [] at = goes_on at 0
counts_from s (most ∷ ms) at =
    cond (past s at 2) (refused BytesEnd at)
    (cond (nat_lt most (u16_at s at)) (refused CountOverLimit at) (counts_from s ms (at + 2)))

unfoldable pub header_of : List ℕ → Step
header_of s =
    cond (past s 0 1) (refused BytesEnd 0)
    (cond (slice_index s 0 == 1) (cond (past s 1 4) (refused BytesEnd 1) (counts_from s limits 5)) (refused WrongKind 0))

-- ---- the sections

-- where reading ends, with the work and the starts; or a refusal
pub data Out : Type 0 where
  good : ℕ → List ℕ → List ℕ → Out
  bad : Cause → ℕ → Out

abbrev pub out_of : Step → List ℕ → List ℕ → Out
out_of (Ok s) w p = good s.at w p
out_of (Err r) w p = bad r.cause r.place

-- what the i-th record of a section may refer to; those of the other sections name none of their own
abbrev pub seen_by : Counts → Section → ℕ → Counts
seen_by c Texts i = c
seen_by c Lists i = c
seen_by c Expressions i =
    record {
      bytes = c.bytes;
      texts = c.texts;
      lists = c.lists;
      expressions = i;
      statements = 0;
      parameters = 0;
      clauses = 0;
      functions = 0;
      calls = 0;
    }
seen_by c Statements i =
    record {
      bytes = c.bytes;
      texts = c.texts;
      lists = c.lists;
      expressions = c.expressions;
      statements = i;
      parameters = 0;
      clauses = 0;
      functions = 0;
      calls = 0;
    }
seen_by c Parameters i = c
seen_by c Clauses i = c
seen_by c Functions i = c
seen_by c Calls i = c

-- a number kept for the i-th record: expressions first, then statements
abbrev pub keep : Counts → Section → ℕ → ℕ → List ℕ → List ℕ
keep c Texts i x w = w
keep c Lists i x w = w
keep c Expressions i x w = slice_set w i x
keep c Statements i x w = slice_set w (c.expressions + i) x
keep c Parameters i x w = w
keep c Clauses i x w = w
keep c Functions i x w = w
keep c Calls i x w = w

-- n records of a section, from the i-th on
unfoldable pub records_from : List ℕ → Counts → Section → ℕ → ℕ → ℕ → List ℕ → List ℕ → Out
records_from s c o zero i at w p = good at w p
records_from s c o (suc n) i at w p =
    after (record_at s w p (seen_by c o i) o at)
    (λ a tall. records_from s c o n (i + 1) a (keep c o i tall w) (keep c o i at p)) bad

abbrev pub and_then : Out → (ℕ → List ℕ → List ℕ → Out) → Out
and_then (good at w p) f = f at w p
and_then (bad c q) f = bad c q

unfoldable pub sections_from : List ℕ → Counts → List Section → ℕ → List ℕ → List ℕ → Out
sections_from s c [] at w p = good at w p
sections_from s c (o ∷ os) at w p =
    and_then (records_from s c o (count_of c o) 0 at w p) (λ a w p. sections_from s c os a w p)

-- ---- the whole

-- nothing may be left
unfoldable pub end_of : List ℕ → Out → Out
end_of s (good at w p) = cond (nat_lt at (length s)) (bad BytesLeft at) (good at w p)
end_of s (bad c q) = bad c q

-- after the header: the text bytes, the sections, the end
unfoldable pub body_of : List ℕ → Counts → List ℕ → List ℕ → Out
body_of s c w p =
    cond (past s text_bytes_at c.bytes) (bad BytesEnd text_bytes_at)
    (end_of s (sections_from s c sections (text_bytes_at + c.bytes) w p))

-- the header, and what follows it
abbrev pub content_of : List ℕ → List ℕ → List ℕ → Out
content_of s w p = after (header_of s) (λ a tall. body_of s (counts_of s) w p) bad

-- as many places for starts as there can be expressions and statements
abbrev pub most_starts : ℕ
most_starts = 6144

-- an image, and a work slice of k entries
unfoldable pub read_of : List ℕ → ℕ → Out
read_of s k =
    cond (nat_lt 65535 (length s)) (bad ImageTooLong 0)
    (cond (nat_lt k 8192) (bad WorkTooShort 0)
    (content_of s (replicate k 0) (replicate most_starts 0)))

abbrev pub answer_by : List ℕ → Out → Answer
answer_by s (good at w p) = accepted (record { 0 = u32_at s 1 }) (counts_of s)
answer_by s (bad c q) = refused c q

abbrev pub work_by : ℕ → Out → List ℕ
work_by k (good at w p) = w
work_by k (bad c q) = replicate k 0

abbrev pub starts_by : Out → List ℕ
starts_by (good at w p) = p
starts_by (bad c q) = replicate most_starts 0

-- THE ANSWER, the work slice, and where the expressions and then the statements start
unfoldable pub answer_of : List ℕ → ℕ → Answer
answer_of s k = answer_by s (read_of s k)

unfoldable pub work_of : List ℕ → ℕ → List ℕ
work_of s k = work_by k (read_of s k)

unfoldable pub starts_of : List ℕ → ℕ → List ℕ
starts_of s k = starts_by (read_of s k)

-- the number and the place of an answer, both 0 where the image is accepted
abbrev pub number_in : Answer → ℕ
number_in (Ok h) = 0
number_in (Err r) = number_of r.cause

abbrev pub place_in : Answer → ℕ
place_in (Ok h) = 0
place_in (Err r) = r.place

-- both in one number: the number above the 32 low bits, the place in them
abbrev pub packed : Answer → ℕ
packed a = number_in a * 2 ^ 32 + place_in a
