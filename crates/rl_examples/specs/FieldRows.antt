-- A field of each sort in bytes, and the rows that follow for a record of such fields.
-- Assumes nothing.
use Rattle.std.specs.Prelude.{ℕ, ◌+◌, List, [], ◌∷◌, ◌++◌, map, length, replicate}
use Rattle.rl_examples.specs.ByteRows.{joined, u16, two, header, Row, accepted, refused}

-- ---- a place for a record: the last one of its section, which is the last one of the image

-- what stands before the record, and how many bytes that is
pub record Place : Type 0 where
  pub before : List ℕ
  pub kind_at : ℕ

-- two texts, eight list entries, a Null; four statements, a 69, a 68 of it, a 76 and a 70; two parameters; a clause
abbrev texts : List ℕ
texts = joined (replicate 2 (2 ∷ 0 ∷ 0 ∷ 0 ∷ 0 ∷ []))

abbrev lists : List ℕ
lists = joined (map (λ n. 3 ∷ u16 n) (0 ∷ 0 ∷ 1 ∷ 0 ∷ 2 ∷ 0 ∷ 3 ∷ 4 ∷ []))

abbrev null : List ℕ
null = 16 ∷ 0 ∷ 0 ∷ 0 ∷ 0 ∷ []

abbrev statements : List ℕ
statements =
    (69 ∷ 1 ∷ 2 ∷ 3 ∷ 4 ∷ 255 ∷ 255 ∷ 0 ∷ 0 ∷ 0 ∷ 0 ∷ 0 ∷ []) ++ (68 ∷ 1 ∷ 2 ∷ 3 ∷ 4 ∷ 0 ∷ 0 ∷ 255 ∷ 255 ∷ [])
    ++ (76 ∷ 1 ∷ 2 ∷ 3 ∷ 4 ∷ 255 ∷ 255 ∷ 0 ∷ 0 ∷ 0 ∷ 0 ∷ []) ++ (70 ∷ 1 ∷ 2 ∷ 3 ∷ 4 ∷ 0 ∷ 0 ∷ 0 ∷ 0 ∷ 0 ∷ 0 ∷ [])

abbrev parameters_and_clause : List ℕ
parameters_and_clause = joined (replicate 2 (80 ∷ replicate 16 0)) ++ 81 ∷ 0 ∷ 0 ∷ 0 ∷ 0 ∷ []

abbrev pub an_expression : Place
an_expression = record { before = header (0 ∷ 2 ∷ 8 ∷ 2 ∷ 0 ∷ 0 ∷ 0 ∷ 0 ∷ 0 ∷ []) ++ texts ++ lists ++ null; kind_at = 62 }

abbrev pub a_statement : Place
a_statement =
    record { before = header (0 ∷ 2 ∷ 8 ∷ 1 ∷ 5 ∷ 0 ∷ 0 ∷ 0 ∷ 0 ∷ []) ++ texts ++ lists ++ null ++ statements; kind_at = 105 }

abbrev pub a_parameter : Place
a_parameter = record { before = header (0 ∷ 2 ∷ 0 ∷ 0 ∷ 0 ∷ 1 ∷ 0 ∷ 0 ∷ 0 ∷ []) ++ texts; kind_at = 33 }

abbrev pub a_clause : Place
a_clause = record { before = header (0 ∷ 0 ∷ 0 ∷ 1 ∷ 0 ∷ 0 ∷ 1 ∷ 0 ∷ 0 ∷ []) ++ null; kind_at = 28 }

abbrev pub a_function : Place
a_function =
    record {
      before = header (0 ∷ 2 ∷ 8 ∷ 1 ∷ 4 ∷ 2 ∷ 1 ∷ 1 ∷ 0 ∷ []) ++ texts ++ lists ++ null ++ statements ++ parameters_and_clause;
      kind_at = 144;
    }

abbrev pub a_call : Place
a_call = record { before = header (0 ∷ 2 ∷ 8 ∷ 1 ∷ 0 ∷ 0 ∷ 0 ∷ 0 ∷ 1 ∷ []) ++ texts ++ lists ++ null; kind_at = 62 }

-- ---- rows of a record

-- a field's bytes; others that are accepted in their place; and others that are refused by a number
pub record Field : Type 0 where
  pub good : List ℕ
  pub also : List (List ℕ)
  pub bad : List (ℕ × List ℕ)

abbrev pub field : List ℕ → List (List ℕ) → List (ℕ × List ℕ) → Field
field good also bad = record { good = good; also = also; bad = bad }

abbrev goods : List Field → List ℕ
goods fs = joined (map (λ (f : Field). f.good) fs)

-- bytes without the last one
unfoldable pub cut : List ℕ → List ℕ
cut [] = []
cut (b ∷ []) = []
cut (b ∷ c ∷ s) = b ∷ cut (c ∷ s)

-- behind some bytes of a record: what changes if one of its fields is another one, or ends too early. A refusal is at that field
unfoldable pub changed : Place → List ℕ → List Field → List Row
changed p s [] = []
changed p s (f ∷ fs) =
    map (λ t. accepted (p.before ++ s ++ t ++ goods fs)) f.also
    ++ map (λ (b : ℕ × List ℕ). refused b.0 (p.kind_at + length s) (p.before ++ s ++ b.1 ++ goods fs)) f.bad
    ++ refused 3 (p.kind_at + length s) (p.before ++ s ++ cut f.good) ∷ changed p (s ++ f.good) fs

-- a record by its kind and its fields
abbrev pub kind : Place → ℕ → List Field → List Row
kind p k fs = accepted (p.before ++ k ∷ goods fs) ∷ changed p (k ∷ []) fs

-- ---- fields that any bytes fill

-- a u32: a span, or h
abbrev pub u32 : Field
u32 = field (1 ∷ 2 ∷ 3 ∷ 4 ∷ []) [] []

abbrev pub raw : ℕ → Field
raw n = field (replicate n 1) (replicate n 0 ∷ replicate n 255 ∷ []) []

-- ---- sets of values: 7

-- numbers of one byte: one, others, and those that are refused
abbrev pub set : ℕ → List ℕ → List ℕ → Field
set n also bad = field (n ∷ []) (map (λ b. b ∷ []) also) (map (λ b. (7, b ∷ [])) bad)

abbrev pub flag : Field
flag = set 0 (1 ∷ []) (2 ∷ 255 ∷ [])

abbrev pub operator : Field
operator = set 1 (63 ∷ []) (0 ∷ 64 ∷ 255 ∷ [])

-- U+0041, U+0000, U+D7FF, U+E000, U+10FFFF; not what is between and behind them
abbrev pub scalar : Field
scalar =
    field (0x41 ∷ 0 ∷ 0 ∷ 0 ∷ [])
    ((0 ∷ 0 ∷ 0 ∷ 0 ∷ []) ∷ (0xFF ∷ 0xD7 ∷ 0 ∷ 0 ∷ []) ∷ (0 ∷ 0xE0 ∷ 0 ∷ 0 ∷ []) ∷ (0xFF ∷ 0xFF ∷ 0x10 ∷ 0 ∷ []) ∷ [])
    ((7, 0 ∷ 0xD8 ∷ 0 ∷ 0 ∷ []) ∷ (7, 0xFF ∷ 0xDF ∷ 0 ∷ 0 ∷ []) ∷ (7, 0 ∷ 0 ∷ 0x11 ∷ 0 ∷ []) ∷ (7, 0x41 ∷ 0 ∷ 0 ∷ 1 ∷ []) ∷ [])

-- ---- references: 8

-- numbers of records: one, others, and those that are refused
abbrev refer : ℕ → List ℕ → List ℕ → Field
refer n also bad = field (u16 n) (map u16 also) (map (λ b. (8, u16 b)) bad)

-- of two texts; of one earlier expression, not the record itself or a later one. 65,535 is a number like any other
abbrev pub t : Field
t = refer 1 (0 ∷ []) (2 ∷ 65535 ∷ [])

abbrev pub n : Field
n = refer 0 [] (1 ∷ 2 ∷ 65535 ∷ [])

abbrev pub n_or_none : Field
n_or_none = refer 0 (65535 ∷ []) (1 ∷ 65534 ∷ [])

-- of the earlier statements, a 69, a 68, a 76 and a 70: none that is an arm, nor the record itself
abbrev pub s : Field
s = refer 3 (0 ∷ 1 ∷ []) (2 ∷ 4 ∷ 65535 ∷ [])

-- a 69; a 69, a 68 or none
abbrev pub branch : Field
branch = refer 0 [] (1 ∷ 2 ∷ 3 ∷ 4 ∷ 65535 ∷ [])

abbrev pub else_branch : Field
else_branch = refer 1 (0 ∷ 65535 ∷ []) (2 ∷ 3 ∷ 4 ∷ 65534 ∷ [])

-- a list or a range by first and count: one, others, and those that are refused
abbrev some : List ℕ → List (List ℕ) → List (List ℕ) → Field
some good also bad = field good also (map (λ b. (8, b)) bad)

-- the entries are 0, 0, 1, 0, 2, 0, 3, 4, and what follows them reads like one more 0. Each list may be empty at the end of its section;
-- none is empty or ends past it
abbrev at_end : List ℕ
at_end = two 8 0

abbrev past : List (List ℕ)
past = two 9 0 ∷ two 65535 2 ∷ []

-- l: not the record itself, nor a later one
abbrev pub l : Field
l = some (two 0 2) (two 5 1 ∷ at_end ∷ []) (two 2 1 ∷ two 1 2 ∷ two 4 1 ∷ two 8 1 ∷ past)

abbrev pub l_of_t : Field
l_of_t = some (two 2 1) (two 0 4 ∷ at_end ∷ []) (two 4 1 ∷ two 3 2 ∷ two 8 1 ∷ past)

-- l of pairs n n, and of pairs t n: an even number
abbrev pub pairsNN : Field
pairsNN = some (two 0 2) (at_end ∷ []) (two 0 1 ∷ two 1 2 ∷ two 2 2 ∷ two 8 2 ∷ past)

abbrev pub pairsTN : Field
pairsTN = some (two 2 2) (two 0 4 ∷ at_end ∷ []) (two 2 1 ∷ two 0 3 ∷ two 1 2 ∷ two 4 2 ∷ two 8 2 ∷ past)

-- statements, none of them an arm; arms and nothing else
abbrev pub body : Field
body = some (two 6 1) (two 0 3 ∷ at_end ∷ []) (two 4 1 ∷ two 3 2 ∷ two 7 1 ∷ two 8 1 ∷ past)

abbrev pub arms : Field
arms = some (two 4 1) (at_end ∷ []) (two 0 1 ∷ two 2 1 ∷ two 6 1 ∷ two 7 1 ∷ two 4 2 ∷ past)

-- of two parameters; of one clause
abbrev pub parameters : Field
parameters = some (two 1 1) (two 0 2 ∷ two 2 0 ∷ []) (two 0 3 ∷ two 2 1 ∷ two 3 0 ∷ two 65535 2 ∷ [])

abbrev pub clauses : Field
clauses = some (two 0 1) (two 1 0 ∷ []) (two 0 2 ∷ two 1 1 ∷ two 2 0 ∷ two 65535 2 ∷ [])
