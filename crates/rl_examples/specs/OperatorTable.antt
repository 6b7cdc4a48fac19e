-- Operators and literals, by computation: what each operator byte from 1 to 12 makes of two literals of any two sorts, and of one literal;
-- that the others, 13 to 63, make nothing of literals of which some of the twelve make something; and what each kind of literal is.
-- Assumes nothing.
use Rattle.std.specs.Prelude.{◌≡◌, true, false, List, [], ◌∷◌, ◌++◌, map, pos, negsuc, refl}
use Rattle.std.proofs.Math.Option.{none}
use Rattle.rl_spec.specs.Image.{num, pair}
use Rattle.rl_spec.specs.Ranges.{up_from}
use Rattle.rl_spec.specs.Run.{update}
use Rattle.rl_examples.specs.MarkedImages.{made, string, bool, float, binary, unary, grouping}
use Rattle.rl_examples.specs.NodeRows.{whole, a_float, a_nan, text, truth, null, gives, faults, another, Row, binaries, unaries, node, actual, expected, literal, number, negative, int, minus, bits, yes, no, folds, lacks, less, same, greater, alike, unlike, incomparable, no_arithmetic, folding, evaluating}

-- the operator bytes 13 to 63 have no value: of two numbers, of one, of a truth value
abbrev pub other_tokens : List Row
other_tokens =
    map (λ op. node (number 1 ∷ number 2 ∷ binary 0 op 1 ∷ []) none (faults 4) 4) (up_from 13 51)
    ++ map (λ op. node (number 7 ∷ unary op 0 ∷ []) none (faults 4) 3) (up_from 13 51)
    ++ map (λ op. node (bool 1 ∷ unary op 0 ∷ []) none (faults 4) 3) (up_from 13 51)

unfoldable pub rows : List Row
rows =
    -- two whole numbers: less, equal, greater; signs; zero
    binaries (number 6) (number 7) (int 13 ∷ minus 1 ∷ int 42 ∷ int 0 ∷ []) less
    ∷ binaries (number 7) (number 7) (int 14 ∷ int 0 ∷ int 49 ∷ int 1 ∷ []) same
    ∷ binaries (number 7) (number 6) (int 13 ∷ int 1 ∷ int 42 ∷ int 1 ∷ []) greater
    ∷ binaries (negative 7) (number 2) (minus 5 ∷ minus 9 ∷ minus 14 ∷ minus 3 ∷ []) less
    ∷ binaries (number 7) (negative 2) (int 5 ∷ int 9 ∷ minus 14 ∷ minus 3 ∷ []) greater
    ∷ binaries (negative 7) (negative 2) (minus 9 ∷ minus 5 ∷ int 14 ∷ int 3 ∷ []) less
    ∷ binaries (negative 7) (negative 7) (minus 14 ∷ int 0 ∷ int 49 ∷ int 1 ∷ []) same
    ∷ binaries (number 7) (number 0) (int 7 ∷ int 7 ∷ int 0 ∷ none ∷ []) greater
    -- the ends of 64 bits
    ∷ binaries (number 9223372036854775807) (number 1) (none ∷ int 9223372036854775806 ∷ int 9223372036854775807 ∷ int 9223372036854775807 ∷ []) greater
    ∷ binaries (negative 9223372036854775808) (number 1) (minus 9223372036854775807 ∷ none ∷ minus 9223372036854775808 ∷ minus 9223372036854775808 ∷ []) less
    ∷ binaries (negative 9223372036854775808) (negative 1) (none ∷ minus 9223372036854775807 ∷ none ∷ none ∷ []) less
    ∷ binaries (number 9223372036854775807) (number 9223372036854775807) (none ∷ int 0 ∷ none ∷ int 1 ∷ []) same
    ∷ binaries (negative 9223372036854775808) (negative 9223372036854775808) (none ∷ int 0 ∷ none ∷ int 1 ∷ []) same
    ∷ binaries (number 4294967296) (negative 2147483648) (int 2147483648 ∷ int 6442450944 ∷ minus 9223372036854775808 ∷ minus 2 ∷ []) greater
    -- a whole number and a float, a float and a whole number, two floats: sum, difference, product, quotient
    -- 1 and 2.5: 3.5, -1.5, 2.5, 0.4
    ∷ binaries (number 1) (float 0x4004000000000000) (bits 0x400C000000000000 ∷ bits 0xBFF8000000000000 ∷ bits 0x4004000000000000 ∷ bits 0x3FD999999999999A ∷ []) less
    -- 2 and 2.0: 4.0, 0.0, 4.0, 1.0
    ∷ binaries (number 2) (float 0x4000000000000000) (bits 0x4010000000000000 ∷ bits 0 ∷ bits 0x4010000000000000 ∷ bits 0x3FF0000000000000 ∷ []) same
    -- 3 and 2.5: 5.5, 0.5, 7.5, 1.2
    ∷ binaries (number 3) (float 0x4004000000000000) (bits 0x4016000000000000 ∷ bits 0x3FE0000000000000 ∷ bits 0x401E000000000000 ∷ bits 0x3FF3333333333333 ∷ []) greater
    -- 2.5 and 3: 5.5, -0.5, 7.5, 0.8333333333333334
    ∷ binaries (float 0x4004000000000000) (number 3) (bits 0x4016000000000000 ∷ bits 0xBFE0000000000000 ∷ bits 0x401E000000000000 ∷ bits 0x3FEAAAAAAAAAAAAB ∷ []) less
    -- 2.0 and 2: 4.0, 0.0, 4.0, 1.0
    ∷ binaries (float 0x4000000000000000) (number 2) (bits 0x4010000000000000 ∷ bits 0 ∷ bits 0x4010000000000000 ∷ bits 0x3FF0000000000000 ∷ []) same
    -- 2.5 and 1: 3.5, 1.5, 2.5, 2.5
    ∷ binaries (float 0x4004000000000000) (number 1) (bits 0x400C000000000000 ∷ bits 0x3FF8000000000000 ∷ bits 0x4004000000000000 ∷ bits 0x4004000000000000 ∷ []) greater
    -- 1.5 and 2.5: 4.0, -1.0, 3.75, 0.6
    ∷ binaries (float 0x3FF8000000000000) (float 0x4004000000000000) (bits 0x4010000000000000 ∷ bits 0xBFF0000000000000 ∷ bits 0x400E000000000000 ∷ bits 0x3FE3333333333333 ∷ []) less
    -- 2.5 and 2.5: 5.0, 0.0, 6.25, 1.0
    ∷ binaries (float 0x4004000000000000) (float 0x4004000000000000) (bits 0x4014000000000000 ∷ bits 0 ∷ bits 0x4019000000000000 ∷ bits 0x3FF0000000000000 ∷ []) same
    -- 2.5 and 1.5: 4.0, 1.0, 3.75, 1.6666666666666667
    ∷ binaries (float 0x4004000000000000) (float 0x3FF8000000000000) (bits 0x4010000000000000 ∷ bits 0x3FF0000000000000 ∷ bits 0x400E000000000000 ∷ bits 0x3FFAAAAAAAAAAAAB ∷ []) greater
    -- SByte -7 and Byte 2; BSByte -2 and SUInt 7; BByte 3 and 2.5: 5.5, 0.5, 7.5, 1.2; Byte 1 and true
    ∷ binaries (literal 22 0xF9) (literal 21 2) (minus 5 ∷ minus 9 ∷ minus 14 ∷ minus 3 ∷ []) less
    ∷ binaries (literal 24 0xFFFE) (literal 20 7) (int 5 ∷ minus 9 ∷ minus 14 ∷ int 0 ∷ []) less
    ∷ binaries (literal 23 3) (float 0x4004000000000000) (bits 0x4016000000000000 ∷ bits 0x3FE0000000000000 ∷ bits 0x401E000000000000 ∷ bits 0x3FF3333333333333 ∷ []) greater
    ∷ binaries (literal 21 1) (bool 1) no_arithmetic incomparable
    -- two texts, one of them twice in the image
    -- "" and "b"
    ∷ binaries (string 0) (string 3) no_arithmetic less
    -- "a" and "ab"
    ∷ binaries (string 1) (string 2) no_arithmetic less
    -- "ab" and "ab"
    ∷ binaries (string 2) (string 2) no_arithmetic same
    -- "ab" and "ab"
    ∷ binaries (string 2) (string 4) no_arithmetic same
    -- "ab" and "a"
    ∷ binaries (string 2) (string 1) no_arithmetic greater
    -- "ab" and "b"
    ∷ binaries (string 2) (string 3) no_arithmetic less
    -- "b" and ""
    ∷ binaries (string 3) (string 0) no_arithmetic greater
    -- "é" and "b", "b" and "é", "è" and "é"
    ∷ binaries (string 5) (string 3) no_arithmetic greater
    ∷ binaries (string 3) (string 5) no_arithmetic less
    ∷ binaries (string 6) (string 5) no_arithmetic less
    -- two truth values
    ∷ binaries (bool 0) (bool 0) no_arithmetic alike
    ∷ binaries (bool 0) (bool 1) no_arithmetic unlike
    ∷ binaries (bool 1) (bool 0) no_arithmetic unlike
    ∷ binaries (bool 1) (bool 1) no_arithmetic alike
    -- sorts that do not go together
    ∷ binaries (number 7) (string 1) no_arithmetic incomparable
    ∷ binaries (string 1) (number 7) no_arithmetic incomparable
    ∷ binaries (number 1) (bool 1) no_arithmetic incomparable
    ∷ binaries (bool 1) (number 1) no_arithmetic incomparable
    ∷ binaries (float 0x4004000000000000) (string 1) no_arithmetic incomparable
    ∷ binaries (string 1) (float 0x4004000000000000) no_arithmetic incomparable
    ∷ binaries (float 0x3FF0000000000000) (bool 1) no_arithmetic incomparable
    ∷ binaries (bool 1) (float 0x3FF0000000000000) no_arithmetic incomparable
    ∷ binaries (string 1) (bool 1) no_arithmetic incomparable
    ∷ binaries (bool 1) (string 1) no_arithmetic incomparable
    -- one: `-`, byte 2, and `!`, byte 5
    ∷ unaries (number 7) (minus 7) none
    ∷ unaries (negative 7) (int 7) none
    ∷ unaries (literal 22 0x80) (int 128) none
    ∷ unaries (number 0) (int 0) none
    ∷ unaries (number 9223372036854775807) (minus 9223372036854775807) none
    ∷ unaries (negative 9223372036854775808) none none
    ∷ unaries (float 0x4004000000000000) (bits 0xC004000000000000) none
    ∷ unaries (float 0) (bits 0x8000000000000000) none
    ∷ unaries (string 1) none none
    ∷ unaries (bool 0) none yes
    ∷ unaries (bool 1) none no
    -- the kinds 16 to 31. Null; Integer
    ∷ node (made 16 (num 2 ∷ []) ∷ []) none (gives null) 2
    ∷ folds (literal 17 7) (whole (pos 7))
    ∷ folds (literal 17 0xFFFFFFFFFFFFFFF9) (whole (negsuc 6))
    ∷ folds (literal 17 0x7FFFFFFFFFFFFFFF) (whole (pos 9223372036854775807))
    ∷ folds (literal 17 0x8000000000000000) (whole (negsuc 9223372036854775807))
    -- SInt
    ∷ folds (literal 18 7) (whole (pos 7))
    ∷ folds (literal 18 0xFFFFFFF9) (whole (negsuc 6))
    ∷ folds (literal 18 0x7FFFFFFF) (whole (pos 2147483647))
    ∷ folds (literal 18 0x80000000) (whole (negsuc 2147483647))
    -- UInt, a kind that is taken, and of which not each value folds
    ∷ folds (literal 19 7) (whole (pos 7))
    ∷ folds (literal 19 0x7FFFFFFFFFFFFFFF) (whole (pos 9223372036854775807))
    ∷ lacks (literal 19 0x8000000000000000) 4
    ∷ lacks (literal 19 0xFFFFFFFFFFFFFFFF) 4
    -- SUInt, Byte, SByte, BByte, BSByte, which the Rust does not fold
    ∷ folds (literal 20 0) (whole (pos 0))
    ∷ folds (literal 20 5) (whole (pos 5))
    ∷ folds (literal 20 0x80000000) (whole (pos 2147483648))
    ∷ folds (literal 20 0xFFFFFFFF) (whole (pos 4294967295))
    ∷ folds (literal 21 0) (whole (pos 0))
    ∷ folds (literal 21 5) (whole (pos 5))
    ∷ folds (literal 21 0x80) (whole (pos 128))
    ∷ folds (literal 21 0xFF) (whole (pos 255))
    ∷ folds (literal 22 5) (whole (pos 5))
    ∷ folds (literal 22 0x7F) (whole (pos 127))
    ∷ folds (literal 22 0x80) (whole (negsuc 127))
    ∷ folds (literal 22 0xFF) (whole (negsuc 0))
    ∷ folds (literal 23 0) (whole (pos 0))
    ∷ folds (literal 23 0x0105) (whole (pos 261))
    ∷ folds (literal 23 0x8000) (whole (pos 32768))
    ∷ folds (literal 23 0xFFFF) (whole (pos 65535))
    ∷ folds (literal 24 0xFF) (whole (pos 255))
    ∷ folds (literal 24 0x7FFF) (whole (pos 32767))
    ∷ folds (literal 24 0x8000) (whole (negsuc 32767))
    ∷ folds (literal 24 0xFFFF) (whole (negsuc 0))
    -- String, Bool
    ∷ folds (literal 25 2) (text 2)
    ∷ folds (literal 26 0) (truth false)
    ∷ folds (literal 26 1) (truth true)
    -- Float, SFloat: 2.5 and a NaN
    ∷ folds (literal 27 0x4004000000000000) (a_float 0x4004000000000000)
    ∷ folds (literal 27 0x7FF0000000000001) a_nan
    ∷ folds (literal 28 0x40200000) (a_float 0x4004000000000000)
    ∷ folds (literal 28 0xFFC00000) a_nan
    -- Character; Identifier, here of no name that is known; ResolvedIdentifier
    ∷ lacks (literal 29 65) 1
    ∷ lacks (literal 30 1) 3
    ∷ lacks (made 31 (num 2 ∷ num 1 ∷ num 0 ∷ num 0 ∷ [])) 1
    -- other kinds: lists, an EnumVariant, both lambdas; an Assign of a name that is not known, an OkLiteral, an ErrorLiteral, a Cast
    ∷ lacks (made 35 (num 2 ∷ pair 0 0 ∷ [])) 1
    ∷ lacks (made 36 (num 2 ∷ pair 0 0 ∷ [])) 1
    ∷ lacks (made 37 (num 2 ∷ pair 0 0 ∷ [])) 1
    ∷ lacks (made 38 (num 2 ∷ pair 0 0 ∷ [])) 1
    ∷ lacks (made 55 (num 2 ∷ num 1 ∷ num 1 ∷ [])) 1
    ∷ lacks (made 56 (num 2 ∷ num 0 ∷ [])) 1
    ∷ lacks (made 57 (num 2 ∷ num 0 ∷ [])) 1
    ∷ node (number 7 ∷ made 39 (num 2 ∷ num 1 ∷ num 0 ∷ []) ∷ []) none (faults 3) 3
    ∷ node (number 7 ∷ made 49 (num 2 ∷ num 0 ∷ []) ∷ []) none another 3
    ∷ node (number 7 ∷ made 48 (num 2 ∷ num 0 ∷ []) ∷ []) none (faults 1) 2
    ∷ node (number 7 ∷ made 46 (num 2 ∷ num 0 ∷ num 0 ∷ []) ∷ []) none (faults 1) 2
    -- an operand that does not fold: left, right, of `-`. A Grouping
    ∷ node (literal 29 65 ∷ number 1 ∷ binary 0 1 1 ∷ []) none (faults 1) 3
    ∷ node (literal 29 65 ∷ number 1 ∷ binary 1 1 0 ∷ []) none (faults 1) 4
    ∷ node (literal 29 65 ∷ unary 2 0 ∷ []) none (faults 1) 3
    ∷ node (number 7 ∷ grouping 0 ∷ []) (int 7) (gives (whole (pos 7))) 3
    ∷ other_tokens

-- THEOREM: they are folded and run so
pub operators_so : map actual rows ≡ map expected rows
unfolding folding evaluating update rows
operators_so = refl
