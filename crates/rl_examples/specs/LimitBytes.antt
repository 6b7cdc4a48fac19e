-- The limits of the header's counts and of heights, in bytes: the last that is accepted, and one more.
-- Assumes nothing.
use Rattle.std.specs.Prelude.{◌≡◌, ℕ, zero, suc, ◌+◌, List, [], ◌∷◌, ◌++◌, map, refl}
use Rattle.rl_examples.specs.ByteRows.{u16, two, header, Row, accepted, refused, actual, expected, reading}

-- ---- counts: 3 behind the header where a count is at its limit, 5 at the count where it is one more

unfoldable pub counts : List Row
counts =
    refused 3 23 (header (16384 ∷ 0 ∷ 0 ∷ 0 ∷ 0 ∷ 0 ∷ 0 ∷ 0 ∷ 0 ∷ []))
    ∷ refused 5 5 (header (16385 ∷ 0 ∷ 0 ∷ 0 ∷ 0 ∷ 0 ∷ 0 ∷ 0 ∷ 0 ∷ []))
    ∷ refused 3 23 (header (0 ∷ 2048 ∷ 0 ∷ 0 ∷ 0 ∷ 0 ∷ 0 ∷ 0 ∷ 0 ∷ []))
    ∷ refused 5 7 (header (0 ∷ 2049 ∷ 0 ∷ 0 ∷ 0 ∷ 0 ∷ 0 ∷ 0 ∷ 0 ∷ []))
    ∷ refused 3 23 (header (0 ∷ 0 ∷ 4096 ∷ 0 ∷ 0 ∷ 0 ∷ 0 ∷ 0 ∷ 0 ∷ []))
    ∷ refused 5 9 (header (0 ∷ 0 ∷ 4097 ∷ 0 ∷ 0 ∷ 0 ∷ 0 ∷ 0 ∷ 0 ∷ []))
    ∷ refused 3 23 (header (0 ∷ 0 ∷ 0 ∷ 4096 ∷ 0 ∷ 0 ∷ 0 ∷ 0 ∷ 0 ∷ []))
    ∷ refused 5 11 (header (0 ∷ 0 ∷ 0 ∷ 4097 ∷ 0 ∷ 0 ∷ 0 ∷ 0 ∷ 0 ∷ []))
    ∷ refused 3 23 (header (0 ∷ 0 ∷ 0 ∷ 0 ∷ 2048 ∷ 0 ∷ 0 ∷ 0 ∷ 0 ∷ []))
    ∷ refused 5 13 (header (0 ∷ 0 ∷ 0 ∷ 0 ∷ 2049 ∷ 0 ∷ 0 ∷ 0 ∷ 0 ∷ []))
    ∷ refused 3 23 (header (0 ∷ 0 ∷ 0 ∷ 0 ∷ 0 ∷ 256 ∷ 0 ∷ 0 ∷ 0 ∷ []))
    ∷ refused 5 15 (header (0 ∷ 0 ∷ 0 ∷ 0 ∷ 0 ∷ 257 ∷ 0 ∷ 0 ∷ 0 ∷ []))
    ∷ refused 3 23 (header (0 ∷ 0 ∷ 0 ∷ 0 ∷ 0 ∷ 0 ∷ 256 ∷ 0 ∷ 0 ∷ []))
    ∷ refused 5 17 (header (0 ∷ 0 ∷ 0 ∷ 0 ∷ 0 ∷ 0 ∷ 257 ∷ 0 ∷ 0 ∷ []))
    ∷ refused 3 23 (header (0 ∷ 0 ∷ 0 ∷ 0 ∷ 0 ∷ 0 ∷ 0 ∷ 64 ∷ 0 ∷ []))
    ∷ refused 5 19 (header (0 ∷ 0 ∷ 0 ∷ 0 ∷ 0 ∷ 0 ∷ 0 ∷ 65 ∷ 0 ∷ []))
    ∷ refused 3 23 (header (0 ∷ 0 ∷ 0 ∷ 0 ∷ 0 ∷ 0 ∷ 0 ∷ 0 ∷ 256 ∷ []))
    ∷ refused 5 21 (header (0 ∷ 0 ∷ 0 ∷ 0 ∷ 0 ∷ 0 ∷ 0 ∷ 0 ∷ 257 ∷ []))
    -- all of them; the first of two; before a count that is cut short
    ∷ refused 3 23 (header (16384 ∷ 2048 ∷ 4096 ∷ 4096 ∷ 2048 ∷ 256 ∷ 256 ∷ 64 ∷ 256 ∷ []))
    ∷ refused 5 7 (header (0 ∷ 65535 ∷ 0 ∷ 65535 ∷ 0 ∷ 0 ∷ 0 ∷ 0 ∷ 0 ∷ []))
    ∷ refused 5 5 (header (65535 ∷ []) ++ 0 ∷ [])
    ∷ []

-- THEOREM: they are answered so
pub counts_so : map actual counts ≡ map expected counts
unfolding reading counts
counts_so = refl

-- ---- heights

-- n records, each made of the number of the one before it, from the k-th on
unfoldable pub chain : (ℕ → List ℕ) → ℕ → ℕ → List ℕ
chain f k zero = []
chain f k (suc n) = f k ++ chain f (k + 1) n

-- a Null and n Groupings of 7 bytes, each of the node before it
abbrev nested : ℕ → List ℕ
nested n = 16 ∷ 0 ∷ 0 ∷ 0 ∷ 0 ∷ chain (λ k. 34 ∷ 0 ∷ 0 ∷ 0 ∷ 0 ∷ u16 k) 0 n

abbrev groupings : ℕ → ℕ → List ℕ
groupings count n = header (0 ∷ 0 ∷ 0 ∷ count ∷ 0 ∷ 0 ∷ 0 ∷ 0 ∷ 0 ∷ []) ++ nested n

-- a 69 and n Conditionals of 9 bytes, each with the statement before it for its else branch
abbrev conditionals : ℕ → ℕ → List ℕ
conditionals count n =
    header (0 ∷ 0 ∷ 0 ∷ 0 ∷ count ∷ 0 ∷ 0 ∷ 0 ∷ 0 ∷ []) ++ 69 ∷ 0 ∷ 0 ∷ 0 ∷ 0 ∷ two 65535 0 ++ 0 ∷ 0 ∷ 0
    ∷ chain (λ k. 68 ∷ 0 ∷ 0 ∷ 0 ∷ 0 ∷ two 0 k) 0 n

-- n list entries, a Break and n Loops of 9 bytes, each around the one before it
abbrev loops : ℕ → ℕ → List ℕ
loops count n =
    header (0 ∷ 0 ∷ n ∷ 0 ∷ count ∷ 0 ∷ 0 ∷ 0 ∷ 0 ∷ []) ++ chain (λ k. 3 ∷ u16 k) 0 n
    ++ 77 ∷ 0 ∷ 0 ∷ 0 ∷ 0 ∷ chain (λ k. 71 ∷ 0 ∷ 0 ∷ 0 ∷ 0 ∷ two k 1) 0 n

-- two list entries, and an ArrayLiteral of both behind a Null and 67 Groupings
abbrev array : ℕ → ℕ → List ℕ
array l r =
    header (0 ∷ 0 ∷ 2 ∷ 69 ∷ 0 ∷ 0 ∷ 0 ∷ 0 ∷ 0 ∷ []) ++ 3 ∷ u16 l ++ 3 ∷ u16 r ++ nested 67 ++ 35 ∷ 0 ∷ 0 ∷ 0 ∷ 0 ∷ two 0 2

-- a Binary
abbrev binary : ℕ → ℕ → List ℕ
binary l r = 32 ∷ 0 ∷ 0 ∷ 0 ∷ 0 ∷ u16 l ++ 1 ∷ u16 r

unfoldable pub heights : List Row
heights =
    accepted (groupings 68 67)
    ∷ refused 9 497 (groupings 69 68)
    ∷ accepted (conditionals 36 35)
    ∷ refused 9 350 (conditionals 37 36)
    ∷ accepted (loops 36 35)
    ∷ refused 9 451 (loops 37 36)
    -- over the largest of two; after the record's fields, and before the next record and bytes left
    ∷ accepted (groupings 69 67 ++ binary 66 0)
    ∷ refused 9 497 (groupings 69 67 ++ binary 0 67)
    ∷ refused 9 497 (groupings 69 67 ++ binary 67 0)
    ∷ accepted (array 66 66)
    ∷ refused 9 503 (array 0 67)
    ∷ refused 9 503 (array 67 0)
    ∷ refused 8 505 (groupings 69 67 ++ binary 67 68)
    ∷ refused 9 497 (groupings 70 68 ++ 0 ∷ [])
    ∷ []

-- THEOREM: they are answered so
pub heights_so : map actual heights ≡ map expected heights
unfolding reading chain heights
heights_so = refl
