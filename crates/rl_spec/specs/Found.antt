-- The image that the bytes, the starts of the expressions and statements, and the counts give, whatever they are. For accepted bytes
-- it is the image that they stand for.
use Rattle.std.specs.Prelude.{ℕ, zero, suc, ◌+◌, ◌-◌, ◌*◌, cond, List, [], ◌∷◌, map, length, take, drop, ◌==◌, slice_index}
use Rattle.rl_spec.specs.declared.Counts.{Counts}
use Rattle.rl_spec.specs.declared.Section.{Section}
use Rattle.rl_spec.specs.declared.Section.TheVariants.{Texts, Lists, Expressions, Statements, Parameters, Clauses, Functions, Calls}
use Rattle.rl_spec.specs.Bytes.{u32_at}
use Rattle.rl_spec.specs.Schema.{text_bytes_at, sections, count_of, lowest, highest, fields_of}
use Rattle.rl_spec.specs.Fields.{lists_at}
use Rattle.rl_spec.specs.Image.{Rec, Image, fields_at}

-- ---- where the records of a section start. The last four sections have records of one width each, and end with the image.

abbrev pub calls_at : List ℕ → Counts → ℕ
calls_at s c = length s - c.calls * 11

abbrev pub functions_at : List ℕ → Counts → ℕ
functions_at s c = calls_at s c - c.functions * 24

abbrev pub clauses_at : List ℕ → Counts → ℕ
clauses_at s c = functions_at s c - c.clauses * 5

abbrev pub parameters_at : List ℕ → Counts → ℕ
parameters_at s c = clauses_at s c - c.parameters * 17

-- where the i-th record of a section starts; p has the starts of the expressions and then of the statements
abbrev pub place_of : List ℕ → List ℕ → Counts → Section → ℕ → ℕ
place_of s p c Texts i = text_bytes_at + c.bytes + i * 5
place_of s p c Lists i = lists_at c + i * 3
place_of s p c Expressions i = slice_index p i
place_of s p c Statements i = slice_index p (c.expressions + i)
place_of s p c Parameters i = parameters_at s c + i * 17
place_of s p c Clauses i = clauses_at s c + i * 5
place_of s p c Functions i = functions_at s c + i * 24
place_of s p c Calls i = calls_at s c + i * 11

-- a record of a kind, from its fields on
unfoldable pub record_as : List ℕ → ℕ → ℕ → Rec
record_as s kind at = record { kind = kind; fields = fields_at s (fields_of kind) (at + 1) }

-- the kind of the record at a place: that of the section, where it has only one
abbrev pub kind_found : List ℕ → Section → ℕ → ℕ
kind_found s o at = cond (lowest o == highest o) (lowest o) (slice_index s at)

unfoldable pub record_found : List ℕ → List ℕ → Counts → Section → ℕ → Rec
record_found s p c o i = record_as s (kind_found s o (place_of s p c o i)) (place_of s p c o i)

-- n records, from the i-th on
unfoldable pub records_found : List ℕ → List ℕ → Counts → Section → ℕ → ℕ → List Rec
records_found s p c o zero i = []
records_found s p c o (suc n) i = record_found s p c o i ∷ records_found s p c o n (i + 1)

unfoldable pub image_found : List ℕ → List ℕ → Counts → Image
image_found s p c =
    record {
      arena = u32_at s 1;
      bytes = take c.bytes (drop text_bytes_at s);
      records = map (λ o. records_found s p c o (count_of c o) 0) sections;
    }
