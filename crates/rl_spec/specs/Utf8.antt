-- UTF-8 by RFC 3629, twice: by the syntax of section 4 (utf8), and by the encoding of section 3 (encode_text), read back by scalars_of.
use Rattle.std.specs.Prelude.{ℕ, zero, suc, ◌+◌, ◌-◌, ◌*◌, ◌/◌, ◌%◌, Bool, true, false, cond, ◌&&◌, ◌||◌, List, [], ◌∷◌, ◌++◌, length, take, drop, ◌==◌, nat_le}

-- a range with both its ends: %x80-BF is 0x80 to 0xBF
infix 70 ◌to◌
pub data Range : Type 0 where
  ◌to◌ : ℕ → ℕ → Range

unfoldable pub within : Range → ℕ → Bool
within (low to high) n = nat_le low n && nat_le n high

-- ---- section 4
-- UTF8-tail
abbrev pub utf8_tail : Range
utf8_tail = 0x80 to 0xBF

-- UTF8-char: a line for each alternative of UTF8-1, UTF8-2, UTF8-3 and UTF8-4
unfoldable pub utf8_char : List (List Range)
utf8_char =
    (0x00 to 0x7F ∷ [])
    ∷ (0xC2 to 0xDF ∷ utf8_tail ∷ [])
    ∷ (0xE0 to 0xE0 ∷ 0xA0 to 0xBF ∷ utf8_tail ∷ [])
    ∷ (0xE1 to 0xEC ∷ utf8_tail ∷ utf8_tail ∷ [])
    ∷ (0xED to 0xED ∷ 0x80 to 0x9F ∷ utf8_tail ∷ [])
    ∷ (0xEE to 0xEF ∷ utf8_tail ∷ utf8_tail ∷ [])
    ∷ (0xF0 to 0xF0 ∷ 0x90 to 0xBF ∷ utf8_tail ∷ utf8_tail ∷ [])
    ∷ (0xF1 to 0xF3 ∷ utf8_tail ∷ utf8_tail ∷ utf8_tail ∷ [])
    ∷ (0xF4 to 0xF4 ∷ 0x80 to 0x8F ∷ utf8_tail ∷ utf8_tail ∷ [])
    ∷ []

-- octets of these ranges stand at the front
unfoldable pub begins : List Range → List ℕ → Bool
begins [] s = true
begins (r ∷ rs) [] = false
begins (r ∷ rs) (b ∷ s) = within r b && begins rs s

-- the length of the first alternative that stands at the front, 0 where none does
unfoldable pub width_by : List (List Range) → List ℕ → ℕ
width_by [] s = 0
width_by (f ∷ fs) s = cond (begins f s) (length f) (width_by fs s)

-- the length of the UTF8-char that starts at a place, 0 where none does
unfoldable pub char_width : List ℕ → ℕ → ℕ
char_width s at = width_by utf8_char (drop at s)

-- UTF8-octets = *( UTF8-char ), where n octets of the last character are yet to come
unfoldable pub octets : ℕ → List ℕ → Bool
octets zero [] = true
octets (suc n) [] = false
octets zero (b ∷ s) = cond (char_width (b ∷ s) 0 == 0) false (octets (char_width (b ∷ s) 0 - 1) s)
octets (suc n) (b ∷ s) = octets n s

unfoldable pub utf8 : List ℕ → Bool
utf8 s = octets 0 s

-- ---- section 3
-- the character numbers: U+0000 to U+10FFFF without the surrogates
unfoldable pub is_scalar : ℕ → Bool
is_scalar c = within (0 to 0xD7FF) c || within (0xE000 to 0x10FFFF) c

-- the octets of a character: its number's bits, six to each octet but the first
unfoldable pub encode_scalar : ℕ → List ℕ
encode_scalar c =
    cond (nat_le c 0x7F) (c ∷ [])
    (cond (nat_le c 0x7FF) ((0xC0 + c / 0x40) ∷ (0x80 + c % 0x40) ∷ [])
    (cond (nat_le c 0xFFFF) ((0xE0 + c / 0x1000) ∷ (0x80 + c / 0x40 % 0x40) ∷ (0x80 + c % 0x40) ∷ [])
    ((0xF0 + c / 0x40000) ∷ (0x80 + c / 0x1000 % 0x40) ∷ (0x80 + c / 0x40 % 0x40) ∷ (0x80 + c % 0x40) ∷ [])))

unfoldable pub encode_text : List ℕ → List ℕ
encode_text [] = []
encode_text (c ∷ cs) = encode_scalar c ++ encode_text cs

-- ---- section 3, read back: the scalars of a text

-- the number of a character's octets: the bits of the first, and six of each other
unfoldable pub scalar_of : List ℕ → ℕ
scalar_of [] = 0
scalar_of (a ∷ []) = a
scalar_of (a ∷ (b ∷ [])) = (a - 0xC0) * 0x40 + (b - 0x80)
scalar_of (a ∷ (b ∷ (c ∷ []))) = (a - 0xE0) * 0x1000 + (b - 0x80) * 0x40 + (c - 0x80)
scalar_of (a ∷ (b ∷ (c ∷ (d ∷ s)))) = (a - 0xF0) * 0x40000 + (b - 0x80) * 0x1000 + (c - 0x80) * 0x40 + (d - 0x80)

-- up to n of them, to the end or to where no character starts
unfoldable pub scalars_by : ℕ → List ℕ → List ℕ
scalars_by zero s = []
scalars_by (suc n) s =
    cond (char_width s 0 == 0) [] (scalar_of (take (char_width s 0) s) ∷ scalars_by n (drop (char_width s 0) s))

-- all of them: no text has more scalars than octets
unfoldable pub scalars_of : List ℕ → List ℕ
scalars_of s = scalars_by (length s) s
