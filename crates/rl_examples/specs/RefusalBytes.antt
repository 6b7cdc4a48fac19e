-- The causes 1 to 10 in bytes, each with its number and its place; and which of two comes first.
-- Assumes nothing.
use Rattle.std.specs.Prelude.{◌≡◌, ℕ, List, [], ◌∷◌, ◌++◌, map, replicate, refl}
use Rattle.rl_spec.specs.Read.{answer_of, work_of}
use Rattle.rl_examples.specs.ByteRows.{joined, u16, two, header, Row, accepted, refused, said, actual, expected, reading}

-- ---- 1 and 2, before any byte

-- a header alone, and bytes behind it: 65,535 in all, and one more
abbrev pub empty : List ℕ
empty = header (0 ∷ 0 ∷ 0 ∷ 0 ∷ 0 ∷ 0 ∷ 0 ∷ 0 ∷ 0 ∷ [])

abbrev long : List Row
long = refused 10 23 (empty ++ replicate 65512 0) ∷ refused 1 0 (empty ++ replicate 65513 0) ∷ []

-- work slices of 8,191 entries, and none: also for no bytes; but 1 comes first
pub short_so : said (answer_of empty 8191) ∷ said (answer_of empty 8192) ∷ said (answer_of empty 0) ∷ said (answer_of [] 8191)
    ∷ said (answer_of (replicate 65536 0) 8191) ∷ [] ≡ (2, 0) ∷ (0, 0) ∷ (2, 0) ∷ (2, 0) ∷ (1, 0) ∷ []
unfolding reading
short_so = refl

-- ---- 3 and 4 in the header

-- its first n bytes, and where it is refused
abbrev headers : List Row
headers =
    accepted empty
    ∷ refused 3 0 []
    ∷ refused 3 1 (1 ∷ [])
    ∷ refused 3 1 (1 ∷ 9 ∷ 0 ∷ 0 ∷ [])
    ∷ refused 3 5 (1 ∷ 9 ∷ 0 ∷ 0 ∷ 0 ∷ [])
    ∷ refused 3 5 (1 ∷ 9 ∷ 0 ∷ 0 ∷ 0 ∷ 1 ∷ [])
    ∷ refused 3 7 (1 ∷ 9 ∷ 0 ∷ 0 ∷ 0 ∷ 1 ∷ 0 ∷ [])
    ∷ refused 3 21 (header (0 ∷ 0 ∷ 0 ∷ 0 ∷ 0 ∷ 0 ∷ 0 ∷ 0 ∷ []))
    ∷ refused 3 21 (header (0 ∷ 0 ∷ 0 ∷ 0 ∷ 0 ∷ 0 ∷ 0 ∷ 0 ∷ []) ++ 0 ∷ [])
    ∷ refused 4 0 (0 ∷ [])
    ∷ refused 4 0 (2 ∷ 9 ∷ 0 ∷ 0 ∷ 0 ∷ [])
    ∷ []

-- ---- 3 at the raw text, 3 and 4 at the first record of each section

-- three text bytes: two of them, and then all
abbrev raw_text : List Row
raw_text =
    map (λ s. refused 3 23 (header (3 ∷ 0 ∷ 0 ∷ 0 ∷ 0 ∷ 0 ∷ 0 ∷ 0 ∷ 0 ∷ []) ++ s)) ([] ∷ (0x61 ∷ []) ∷ (0x61 ∷ 0x62 ∷ []) ∷ [])
    ++ accepted (header (3 ∷ 0 ∷ 0 ∷ 0 ∷ 0 ∷ 0 ∷ 0 ∷ 0 ∷ 0 ∷ []) ++ 0x61 ∷ 0x62 ∷ 0x63 ∷ []) ∷ []

-- a section with one record, and kinds that are not of it
abbrev kinds : List ℕ → List ℕ → List Row
kinds counts ks = refused 3 23 (header counts) ∷ map (λ k. refused 4 23 (header counts ++ k ∷ replicate 40 0)) ks

abbrev wrong_kinds : List Row
wrong_kinds =
    kinds (0 ∷ 1 ∷ 0 ∷ 0 ∷ 0 ∷ 0 ∷ 0 ∷ 0 ∷ 0 ∷ []) (1 ∷ 3 ∷ [])
    ++ kinds (0 ∷ 0 ∷ 1 ∷ 0 ∷ 0 ∷ 0 ∷ 0 ∷ 0 ∷ 0 ∷ []) (2 ∷ 4 ∷ 16 ∷ [])
    ++ kinds (0 ∷ 0 ∷ 0 ∷ 1 ∷ 0 ∷ 0 ∷ 0 ∷ 0 ∷ 0 ∷ []) (0 ∷ 3 ∷ 15 ∷ 58 ∷ 64 ∷ 255 ∷ [])
    ++ kinds (0 ∷ 0 ∷ 0 ∷ 0 ∷ 1 ∷ 0 ∷ 0 ∷ 0 ∷ 0 ∷ []) (16 ∷ 57 ∷ 63 ∷ 80 ∷ [])
    ++ kinds (0 ∷ 0 ∷ 0 ∷ 0 ∷ 0 ∷ 1 ∷ 0 ∷ 0 ∷ 0 ∷ []) (79 ∷ 81 ∷ [])
    ++ kinds (0 ∷ 0 ∷ 0 ∷ 0 ∷ 0 ∷ 0 ∷ 1 ∷ 0 ∷ 0 ∷ []) (80 ∷ 82 ∷ [])
    ++ kinds (0 ∷ 0 ∷ 0 ∷ 0 ∷ 0 ∷ 0 ∷ 0 ∷ 1 ∷ 0 ∷ []) (81 ∷ 83 ∷ [])
    ++ kinds (0 ∷ 0 ∷ 0 ∷ 0 ∷ 0 ∷ 0 ∷ 0 ∷ 0 ∷ 1 ∷ []) (82 ∷ 84 ∷ [])

-- ---- 3 and 6 at a text: its offset and its length are one field

-- some text bytes, and a text of them
abbrev text : ℕ → List ℕ → List ℕ → List ℕ
text size bytes offsetLength = header (size ∷ 1 ∷ 0 ∷ 0 ∷ 0 ∷ 0 ∷ 0 ∷ 0 ∷ 0 ∷ []) ++ bytes ++ 2 ∷ offsetLength

abbrev abc : List ℕ → List ℕ
abc offsetLength = text 3 (0x61 ∷ 0x62 ∷ 0x63 ∷ []) offsetLength

abbrev texts : List Row
texts =
    map (λ s. refused 3 27 (abc s)) ([] ∷ (0 ∷ []) ∷ (9 ∷ 9 ∷ []) ∷ (9 ∷ 9 ∷ 9 ∷ []) ∷ [])
    ++ map (λ s. accepted (abc s)) (two 0 3 ∷ two 0 0 ∷ two 1 2 ∷ two 3 0 ∷ [])
    ++ map (λ s. refused 6 27 (abc s)) (two 0 4 ∷ two 3 1 ∷ two 4 0 ∷ two 65535 2 ∷ two 2 65535 ∷ [])

-- a whole text of n bytes
abbrev whole : ℕ → List ℕ → List ℕ
whole n s = text n s (two 0 n)

abbrev utf8_texts : List Row
utf8_texts =
    -- U+0000, U+007F; U+0080, U+07FF; U+0800, U+D7FF, U+E000, U+FFFF; U+10000, U+10FFFF
    map (λ s. accepted (whole 2 s)) ((0 ∷ 0x7F ∷ []) ∷ (0xC2 ∷ 0x80 ∷ []) ∷ (0xDF ∷ 0xBF ∷ []) ∷ [])
    ++ map (λ s. accepted (whole 3 s))
    ((0xE0 ∷ 0xA0 ∷ 0x80 ∷ []) ∷ (0xED ∷ 0x9F ∷ 0xBF ∷ []) ∷ (0xEE ∷ 0x80 ∷ 0x80 ∷ []) ∷ (0xEF ∷ 0xBF ∷ 0xBF ∷ []) ∷ [])
    ++ map (λ s. accepted (whole 4 s)) ((0xF0 ∷ 0x90 ∷ 0x80 ∷ 0x80 ∷ []) ∷ (0xF4 ∷ 0x8F ∷ 0xBF ∷ 0xBF ∷ []) ∷ [])
    -- no first byte; overlong; cut; a tail that is none
    ++ map (λ s. refused 6 26 (whole 2 s))
    ((0x61 ∷ 0x80 ∷ []) ∷ (0x61 ∷ 0xFF ∷ []) ∷ (0xC0 ∷ 0x80 ∷ []) ∷ (0xC1 ∷ 0xBF ∷ []) ∷ (0xE2 ∷ 0x89 ∷ []) ∷ (0xC2 ∷ 0x7F ∷ []) ∷ (0xC2 ∷ 0xC0 ∷ []) ∷ [])
    -- overlong, and the surrogates U+D800 and U+DFFF; overlong, U+110000, and a byte past F4
    ++ map (λ s. refused 6 27 (whole 3 s))
    ((0xE0 ∷ 0x9F ∷ 0xBF ∷ []) ∷ (0xED ∷ 0xA0 ∷ 0x80 ∷ []) ∷ (0xED ∷ 0xBF ∷ 0xBF ∷ []) ∷ (0xF0 ∷ 0x9F ∷ 0x98 ∷ []) ∷ [])
    ++ map (λ s. refused 6 28 (whole 4 s))
    ((0xF0 ∷ 0x8F ∷ 0xBF ∷ 0xBF ∷ []) ∷ (0xF4 ∷ 0x90 ∷ 0x80 ∷ 0x80 ∷ []) ∷ (0xF5 ∷ 0x80 ∷ 0x80 ∷ 0x80 ∷ []) ∷ [])
    -- part of a character; text bytes that no text names
    ++ refused 6 26 (text 2 (0xC3 ∷ 0xA9 ∷ []) (two 0 1))
    ∷ refused 6 26 (text 2 (0xC3 ∷ 0xA9 ∷ []) (two 1 1))
    ∷ accepted (text 2 (0x61 ∷ 0xFF ∷ []) (two 0 1))
    ∷ []

-- ---- 8 at a record that exists, but later; 10; and which comes first

-- expressions alone
abbrev nodes : ℕ → List (List ℕ) → List ℕ
nodes n rs = header (0 ∷ 0 ∷ 0 ∷ n ∷ 0 ∷ 0 ∷ 0 ∷ 0 ∷ 0 ∷ []) ++ joined rs

abbrev null : List ℕ
null = 16 ∷ 1 ∷ 2 ∷ 3 ∷ 4 ∷ []

abbrev grouping : ℕ → List ℕ
grouping n = 34 ∷ 1 ∷ 2 ∷ 3 ∷ 4 ∷ u16 n

abbrev binary : ℕ → ℕ → ℕ → List ℕ
binary l o r = 32 ∷ 1 ∷ 2 ∷ 3 ∷ 4 ∷ u16 l ++ o ∷ u16 r

abbrev orders : List Row
orders =
    accepted (nodes 2 (null ∷ grouping 0 ∷ []))
    ∷ refused 8 28 (nodes 2 (grouping 1 ∷ null ∷ []))
    ∷ refused 8 28 (nodes 2 (grouping 0 ∷ null ∷ []))
    -- a list's entry too: node 1 as seen from node 1, and from node 2
    ∷ refused 8 36 (header (0 ∷ 0 ∷ 1 ∷ 3 ∷ 0 ∷ 0 ∷ 0 ∷ 0 ∷ 0 ∷ []) ++ 3 ∷ 1 ∷ 0 ∷ null ++ 35 ∷ 1 ∷ 2 ∷ 3 ∷ 4 ∷ two 0 1 ++ null)
    ∷ accepted (header (0 ∷ 0 ∷ 1 ∷ 3 ∷ 0 ∷ 0 ∷ 0 ∷ 0 ∷ 0 ∷ []) ++ 3 ∷ 1 ∷ 0 ∷ null ++ null ++ 35 ∷ 1 ∷ 2 ∷ 3 ∷ 4 ∷ two 0 1)
    -- bytes left: the first of them
    ∷ refused 10 23 (empty ++ 1 ∷ [])
    ∷ refused 10 28 (nodes 1 (null ∷ null ∷ []))
    -- fields left to right; a field that ends too early before its value; what is refused before bytes left
    ∷ refused 8 33 (nodes 2 (null ∷ binary 1 64 1 ∷ []))
    ∷ refused 7 35 (nodes 2 (null ∷ binary 0 64 1 ∷ []))
    ∷ refused 8 36 (nodes 2 (null ∷ binary 0 63 1 ∷ null ∷ []))
    ∷ refused 3 36 (nodes 2 (null ∷ (32 ∷ 1 ∷ 2 ∷ 3 ∷ 4 ∷ 0 ∷ 0 ∷ 1 ∷ 9 ∷ []) ∷ []))
    ∷ []

unfoldable pub rows : List Row
rows = long ++ headers ++ raw_text ++ wrong_kinds ++ texts ++ utf8_texts ++ orders

-- THEOREM: they are answered so
pub refusals_so : map actual rows ≡ map expected rows
unfolding reading rows
refusals_so = refl

-- THEOREM: the work slice of a refused image is zero, also behind records that were read: the third node names itself
abbrev pub later : List ℕ
later = nodes 3 (null ∷ grouping 0 ∷ grouping 2 ∷ [])

pub work_zero : work_of later 8192 ∷ work_of empty 3 ∷ [] ≡ replicate 8192 0 ∷ replicate 3 0 ∷ []
unfolding reading work_of
work_zero = refl
