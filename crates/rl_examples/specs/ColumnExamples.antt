-- The columns of printed pages, by computation: the scalars of texts, fields, lines, and lines on pages.
-- Assumes nothing.
use Rattle.std.specs.Prelude.{◌≡◌, ℕ, List, [], ◌∷◌, ◌++◌, map, replicate, refl}
use Rattle.rl_spec.specs.Utf8.{within, utf8_char, begins, width_by, char_width, encode_scalar, encode_text, scalar_of, scalars_by, scalars_of}
use Rattle.rl_spec.specs.Tree.{ascii}
use Rattle.rl_spec.specs.Ranges.{up_from}
use Rattle.rl_spec.specs.Message.{decimal_by, decimal}
use Rattle.rl_spec.specs.Printed.{joined}
use Rattle.rl_spec.specs.Pages.{printed, fitted, left, right, page_line, page, pages_by, on_pages, lines_bytes}
use Rattle.rl_examples.specs.Utf8Examples.{encodings}

-- what computation opens of texts and fields, and of lines and pages
unfoldable pub columning : Unit {0}
unfolding within utf8_char begins width_by char_width scalar_of scalars_by scalars_of ascii decimal_by decimal printed fitted left right page_line
columning = tt

unfoldable pub paging : Unit {0}
unfolding encode_scalar encode_text joined page pages_by on_pages lines_bytes
paging = tt

-- ---- the scalars of a text

-- octets, and their scalars: both ends of each line of UTF8-char
abbrev pub scalars : List (List ℕ × List ℕ)
scalars =
    (0x00 ∷ 0x7F ∷ [], 0 ∷ 0x7F ∷ [])
    ∷ (0xC2 ∷ 0x80 ∷ 0xDF ∷ 0xBF ∷ [], 0x80 ∷ 0x7FF ∷ [])
    ∷ (0xE0 ∷ 0xA0 ∷ 0x80 ∷ 0xE0 ∷ 0xBF ∷ 0xBF ∷ [], 0x800 ∷ 0xFFF ∷ [])
    ∷ (0xE1 ∷ 0x80 ∷ 0x80 ∷ 0xEC ∷ 0xBF ∷ 0xBF ∷ [], 0x1000 ∷ 0xCFFF ∷ [])
    ∷ (0xED ∷ 0x80 ∷ 0x80 ∷ 0xED ∷ 0x9F ∷ 0xBF ∷ [], 0xD000 ∷ 0xD7FF ∷ [])
    ∷ (0xEE ∷ 0x80 ∷ 0x80 ∷ 0xEF ∷ 0xBF ∷ 0xBF ∷ [], 0xE000 ∷ 0xFFFF ∷ [])
    ∷ (0xF0 ∷ 0x90 ∷ 0x80 ∷ 0x80 ∷ 0xF0 ∷ 0xBF ∷ 0xBF ∷ 0xBF ∷ [], 0x10000 ∷ 0x3FFFF ∷ [])
    ∷ (0xF1 ∷ 0x80 ∷ 0x80 ∷ 0x80 ∷ 0xF3 ∷ 0xBF ∷ 0xBF ∷ 0xBF ∷ [], 0x40000 ∷ 0xFFFFF ∷ [])
    ∷ (0xF4 ∷ 0x80 ∷ 0x80 ∷ 0x80 ∷ 0xF4 ∷ 0x8F ∷ 0xBF ∷ 0xBF ∷ [], 0x100000 ∷ 0x10FFFF ∷ [])
    -- up to where no character starts: a tail alone, an octet missing
    ∷ (0x41 ∷ 0x80 ∷ 0x42 ∷ [], 0x41 ∷ [])
    ∷ (0x41 ∷ 0xE2 ∷ 0x89 ∷ [], 0x41 ∷ [])
    ∷ ([], [])
    ∷ []

pub read_back_so : map (λ (r : List ℕ × List ℕ). scalars_of r.0) scalars ≡ map (λ (r : List ℕ × List ℕ). r.1) scalars
unfolding columning
read_back_so = refl

-- the examples of RFC 3629, read back
pub encodings_back : map (λ (r : List ℕ × List ℕ). scalars_of r.1) encodings ≡ map (λ (r : List ℕ × List ℕ). r.0) encodings
unfolding columning
encodings_back = refl

-- ---- fields

-- to the left: of the length of the field, one longer, one shorter, empty
pub left_so : map (left 3) (ascii "abc" ∷ ascii "abcd" ∷ ascii "ab" ∷ [] ∷ []) ≡ ascii "abc" ∷ ascii "abc" ∷ ascii "ab " ∷ ascii "   " ∷ []
unfolding columning
left_so = refl

-- each scalar below 32 is a ?, and 32 is not
pub below_32_so : map printed (up_from 0 33) ≡ replicate 32 63 ++ 32 ∷ []
unfolding columning up_from
below_32_so = refl

-- a character of two octets at the right takes one column
pub right_wide_so : right 3 (0xC3 ∷ 0xA9 ∷ []) ≡ 32 ∷ 32 ∷ 0xE9 ∷ []
unfolding columning
right_wide_so = refl

-- to the right: numbers; of one that is too long the first digits
pub right_so : map (λ n. right 4 (decimal n)) (0 ∷ 10 ∷ 255 ∷ 9999 ∷ 12345 ∷ []) ++ right 10 (decimal 4294967295) ∷ right 3 (ascii "abcd") ∷ []
    ≡ ascii "   0" ∷ ascii "  10" ∷ ascii " 255" ∷ ascii "9999" ∷ ascii "1234" ∷ ascii "4294967295" ∷ ascii "abc" ∷ []
unfolding columning
right_so = refl

-- a scalar below 32 prints as ?: 0, 9, 10, 31; and not 32, 127, 128
pub printed_so : left 7 (0 ∷ 9 ∷ 10 ∷ 31 ∷ 32 ∷ 127 ∷ 0xC2 ∷ 0x80 ∷ []) ≡ ascii "???? " ++ 127 ∷ 128 ∷ []
unfolding columning
printed_so = refl

-- characters of one to four octets: a, e with acute, the euro sign, U+1F600
abbrev pub characters : List (List ℕ × ℕ)
characters =
    (0x61 ∷ [], 0x61) ∷ (0xC3 ∷ 0xA9 ∷ [], 0xE9) ∷ (0xE2 ∷ 0x82 ∷ 0xAC ∷ [], 0x20AC) ∷ (0xF0 ∷ 0x9F ∷ 0x98 ∷ 0x80 ∷ [], 0x1F600) ∷ []

-- each takes one column: in a field of two columns each before each other, and each of these cut in front of each
pub columns_so : map (λ (a : List ℕ × ℕ). map (λ (b : List ℕ × ℕ). left 2 (a.0 ++ b.0 ++ a.0)) characters) characters
    ≡ map (λ (a : List ℕ × ℕ). map (λ (b : List ℕ × ℕ). a.1 ∷ b.1 ∷ []) characters) characters
unfolding columning
columns_so = refl

-- ---- lines

pub line_so : page_line 7 4294967295 (ascii "open") (ascii "flow id range")
    ≡ ascii "   7 4294967295 open             flow id range                          "
unfolding columning
line_so = refl

-- all fields too long: 10,000, a span of eleven digits, 17 and 40 scalars
pub full_line_so : page_line 10000 98765432109 (joined (replicate 17 (0xC3 ∷ 0xA9 ∷ []))) (joined (replicate 40 (0xF0 ∷ 0x9F ∷ 0x98 ∷ 0x80 ∷ [])))
    ≡ ascii "1000 9876543210 " ++ replicate 16 0xE9 ++ ascii " " ++ replicate 39 0x1F600
unfolding columning paging
full_line_so = refl

-- all fields empty but the numbers
pub empty_line_so : page_line 0 0 [] [] ≡ ascii "   0          0 " ++ replicate 56 32
unfolding columning
empty_line_so = refl

-- ---- pages

-- n short lines from the k-th on, and blank lines
abbrev pub numbered : ℕ → ℕ → List (List ℕ)
numbered k n = map (λ i. i ∷ []) (up_from k n)

abbrev pub blank_lines : ℕ → List (List ℕ)
blank_lines n = replicate n (replicate 72 32)

-- of 0, 1, 59, 60, 61 and 120 lines
pub on_pages_so : map (λ n. on_pages (numbered 0 n)) (0 ∷ 1 ∷ 59 ∷ 60 ∷ 61 ∷ 120 ∷ [])
    ≡ []
    ∷ ((numbered 0 1 ++ blank_lines 59) ∷ [])
    ∷ ((numbered 0 59 ++ blank_lines 1) ∷ [])
    ∷ (numbered 0 60 ∷ [])
    ∷ (numbered 0 60 ∷ (numbered 60 1 ++ blank_lines 59) ∷ [])
    ∷ (numbered 0 60 ∷ numbered 60 60 ∷ [])
    ∷ []
unfolding up_from paging
on_pages_so = refl

-- a line's bytes are the UTF-8 of its scalars
pub bytes_so : lines_bytes ((0x61 ∷ 0xE9 ∷ 0x20AC ∷ 0x1F600 ∷ []) ∷ [] ∷ [])
    ≡ 0x61 ∷ 0xC3 ∷ 0xA9 ∷ 0xE2 ∷ 0x82 ∷ 0xAC ∷ 0xF0 ∷ 0x9F ∷ 0x98 ∷ 0x80 ∷ 10 ∷ 10 ∷ []
unfolding columning paging
bytes_so = refl
