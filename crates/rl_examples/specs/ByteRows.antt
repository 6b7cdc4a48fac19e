-- Rows of images in bytes, written down from 01 alone: what the reader says of each.
-- Assumes nothing.
use Rattle.std.specs.Prelude.{ℕ, ◌/◌, ◌%◌, List, [], ◌∷◌, ◌++◌, map, Ok, Err}
use Rattle.rl_spec.specs.Answers.{Answer}
use Rattle.rl_spec.specs.Schema.{limits, sections, in_section, sort_of, fields_of, fields_in, schema}
use Rattle.rl_spec.specs.Utf8.{within, utf8_char, begins, width_by, char_width, octets, utf8, is_scalar}
use Rattle.rl_spec.specs.Bytes.{num_at, u16_at, u32_at, past}
use Rattle.rl_spec.specs.Fields.{zeros, kind_of_statement, allowed, child_height, entry_at, range_of, part_of, byte_in, operand_sort_of, refer_to, refer_or_none, entries_from, list_of, operand_of, value_of, field_at, fields_from, record_at}
use Rattle.rl_spec.specs.Read.{number_of, counts_of, counts_from, header_of, records_from, sections_from, end_of, body_of, read_of, answer_of}

-- ---- bytes

unfoldable pub joined : List (List ℕ) → List ℕ
joined [] = []
joined (s ∷ ss) = s ++ joined ss

-- a number of two bytes, little-endian
abbrev pub u16 : ℕ → List ℕ
u16 n = n % 256 ∷ n / 256 ∷ []

-- two of them: the first and the count of a list or a range, or a text's offset and length
abbrev pub two : ℕ → ℕ → List ℕ
two a b = u16 a ++ u16 b

-- kind 1, an arena number, and nine counts: text bytes, texts, list entries, expressions, statements, parameters, clauses, functions, calls
abbrev pub header : List ℕ → List ℕ
header counts = 1 ∷ 9 ∷ 0 ∷ 0 ∷ 0 ∷ joined (map u16 counts)

-- ---- rows

-- bytes, and the number and the place of their refusal, both 0 where they are accepted
pub record Row : Type 0 where
  pub bytes : List ℕ
  pub number : ℕ
  pub place : ℕ

abbrev pub accepted : List ℕ → Row
accepted s = record { bytes = s; number = 0; place = 0 }

abbrev pub refused : ℕ → ℕ → List ℕ → Row
refused n p s = record { bytes = s; number = n; place = p }

abbrev pub said : Answer → ℕ × ℕ
said (Ok h) = (0, 0)
said (Err r) = (number_of r.cause, r.place)

abbrev pub actual : Row → ℕ × ℕ
actual r = said (answer_of r.bytes 8192)

abbrev pub expected : Row → ℕ × ℕ
expected r = (r.number, r.place)

-- what computation opens
unfoldable pub reading : Unit {0}
unfolding joined limits sort_of fields_of fields_in schema answer_of read_of header_of counts_from counts_of body_of end_of sections_from sections records_from record_at in_section fields_from field_at value_of refer_to refer_or_none allowed kind_of_statement child_height entry_at entries_from list_of range_of part_of byte_in operand_sort_of operand_of zeros past u16_at u32_at num_at utf8 octets char_width width_by begins utf8_char within is_scalar
reading = tt
