-- UTF-8, by computation: the examples of section 7 of RFC 3629, and octets that are no UTF-8.
-- Assumes nothing.
use Rattle.std.specs.Prelude.{◌≡◌, ℕ, Bool, true, false, List, [], ◌∷◌, map, refl}
use Rattle.rl_spec.specs.Utf8.{within, utf8_char, begins, width_by, char_width, octets, utf8, is_scalar, encode_scalar, encode_text}

-- scalars, and their octets
abbrev pub encodings : List (List ℕ × List ℕ)
encodings =
    -- A, not identical to, Alpha, full stop
    (0x41 ∷ 0x2262 ∷ 0x391 ∷ 0x2E ∷ [], 0x41 ∷ 0xE2 ∷ 0x89 ∷ 0xA2 ∷ 0xCE ∷ 0x91 ∷ 0x2E ∷ [])
    -- the Korean word hangugeo
    ∷ (0xD55C ∷ 0xAD6D ∷ 0xC5B4 ∷ [], 0xED ∷ 0x95 ∷ 0x9C ∷ 0xEA ∷ 0xB5 ∷ 0xAD ∷ 0xEC ∷ 0x96 ∷ 0xB4 ∷ [])
    -- U+233B4 after a byte order mark
    ∷ (0xFEFF ∷ 0x233B4 ∷ [], 0xEF ∷ 0xBB ∷ 0xBF ∷ 0xF0 ∷ 0xA3 ∷ 0x8E ∷ 0xB4 ∷ [])
    ∷ []

pub encodings_so : map (λ (r : List ℕ × List ℕ). encode_text r.0) encodings ≡ map (λ (r : List ℕ × List ℕ). r.1) encodings
unfolding encode_text encode_scalar
encodings_so = refl

-- octets, and whether they are UTF-8
abbrev pub judged : List (List ℕ × Bool)
judged =
    (0x41 ∷ 0xE2 ∷ 0x89 ∷ 0xA2 ∷ 0xCE ∷ 0x91 ∷ 0x2E ∷ [], true)
    ∷ (0xED ∷ 0x95 ∷ 0x9C ∷ 0xEA ∷ 0xB5 ∷ 0xAD ∷ 0xEC ∷ 0x96 ∷ 0xB4 ∷ [], true)
    ∷ (0xEF ∷ 0xBB ∷ 0xBF ∷ 0xF0 ∷ 0xA3 ∷ 0x8E ∷ 0xB4 ∷ [], true)
    -- overlong forms of U+0000 and of the full stop
    ∷ (0xC0 ∷ 0x80 ∷ [], false)
    ∷ (0x2F ∷ 0xC0 ∷ 0xAE ∷ 0x2E ∷ 0x2F ∷ [], false)
    -- a surrogate, a number past U+10FFFF, a tail alone, an octet missing
    ∷ (0xED ∷ 0xA0 ∷ 0x80 ∷ [], false)
    ∷ (0xF4 ∷ 0x90 ∷ 0x80 ∷ 0x80 ∷ [], false)
    ∷ (0x41 ∷ 0x80 ∷ [], false)
    ∷ (0xE2 ∷ 0x89 ∷ [], false)
    ∷ []

pub judged_so : map (λ (r : List ℕ × Bool). utf8 r.0) judged ≡ map (λ (r : List ℕ × Bool). r.1) judged
unfolding utf8 octets char_width width_by begins utf8_char within
judged_so = refl

-- both ends of the scalars, and of the surrogates between them
pub scalars_so : map is_scalar (0 ∷ 0xD7FF ∷ 0xD800 ∷ 0xDFFF ∷ 0xE000 ∷ 0x10FFFF ∷ 0x110000 ∷ []) ≡ true ∷ true ∷ false ∷ false ∷ true ∷ true ∷ false ∷ []
unfolding is_scalar within
scalars_so = refl
