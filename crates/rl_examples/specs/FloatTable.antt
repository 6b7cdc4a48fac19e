-- Floats, by computation: NaNs, zeros, infinities, rounding, the ends of the range, whole numbers beside floats, SFloats.
-- Assumes nothing.
use Rattle.std.specs.Prelude.{◌≡◌, List, [], ◌∷◌, map, refl}
use Rattle.std.proofs.Math.Option.{none}
use Rattle.rl_examples.specs.MarkedImages.{float}
use Rattle.rl_examples.specs.NodeRows.{a_float, a_nan, Row, binaries, unaries, actual, expected, literal, number, negative, bits, notANumber, folds, less, same, greater, incomparable, no_arithmetic, folding, evaluating}

-- above two of them: sum, difference, product and quotient
unfoldable pub rows : List Row
rows =
    -- a NaN has no verdict and no sum
    -- NaN and NaN
    binaries (float 0x7FF8000000000000) (float 0x7FF8000000000000) no_arithmetic incomparable
    -- NaN and 1.0
    ∷ binaries (float 0x7FF8000000000000) (float 0x3FF0000000000000) no_arithmetic incomparable
    -- 1.0 and NaN
    ∷ binaries (float 0x3FF0000000000000) (float 0x7FF8000000000000) no_arithmetic incomparable
    -- NaN and inf
    ∷ binaries (float 0x7FF8000000000000) (float 0x7FF0000000000000) no_arithmetic incomparable
    -- NaN and 1
    ∷ binaries (float 0x7FF8000000000000) (number 1) no_arithmetic incomparable
    -- 1 and NaN
    ∷ binaries (number 1) (float 0x7FF8000000000000) no_arithmetic incomparable
    -- no quotient by zero; zeros and their signs
    -- 1.0 and 0.0: 1.0, 1.0, 0.0, none
    ∷ binaries (float 0x3FF0000000000000) (float 0) (bits 0x3FF0000000000000 ∷ bits 0x3FF0000000000000 ∷ bits 0 ∷ none ∷ []) greater
    -- 1.0 and -0.0: 1.0, 1.0, -0.0, none
    ∷ binaries (float 0x3FF0000000000000) (float 0x8000000000000000) (bits 0x3FF0000000000000 ∷ bits 0x3FF0000000000000 ∷ bits 0x8000000000000000 ∷ none ∷ []) greater
    -- 0.0 and -0.0: 0.0, 0.0, -0.0, none
    ∷ binaries (float 0) (float 0x8000000000000000) (bits 0 ∷ bits 0 ∷ bits 0x8000000000000000 ∷ none ∷ []) same
    -- -0.0 and 0.0: 0.0, -0.0, -0.0, none
    ∷ binaries (float 0x8000000000000000) (float 0) (bits 0 ∷ bits 0x8000000000000000 ∷ bits 0x8000000000000000 ∷ none ∷ []) same
    -- -0.0 and -0.0: -0.0, 0.0, 0.0, none
    ∷ binaries (float 0x8000000000000000) (float 0x8000000000000000) (bits 0x8000000000000000 ∷ bits 0 ∷ bits 0 ∷ none ∷ []) same
    -- 1 and 0.0: 1.0, 1.0, 0.0, none
    ∷ binaries (number 1) (float 0) (bits 0x3FF0000000000000 ∷ bits 0x3FF0000000000000 ∷ bits 0 ∷ none ∷ []) greater
    -- 2.5 and 0: 2.5, 2.5, 0.0, none
    ∷ binaries (float 0x4004000000000000) (number 0) (bits 0x4004000000000000 ∷ bits 0x4004000000000000 ∷ bits 0 ∷ none ∷ []) greater
    -- inf and 0.0: inf, inf, NaN, none
    ∷ binaries (float 0x7FF0000000000000) (float 0) (bits 0x7FF0000000000000 ∷ bits 0x7FF0000000000000 ∷ notANumber ∷ none ∷ []) greater
    -- infinities: a NaN may come of what is none
    -- inf and inf: inf, NaN, inf, NaN
    ∷ binaries (float 0x7FF0000000000000) (float 0x7FF0000000000000) (bits 0x7FF0000000000000 ∷ notANumber ∷ bits 0x7FF0000000000000 ∷ notANumber ∷ []) same
    -- inf and -inf: NaN, inf, -inf, NaN
    ∷ binaries (float 0x7FF0000000000000) (float 0xFFF0000000000000) (notANumber ∷ bits 0x7FF0000000000000 ∷ bits 0xFFF0000000000000 ∷ notANumber ∷ []) greater
    -- -inf and inf: NaN, -inf, -inf, NaN
    ∷ binaries (float 0xFFF0000000000000) (float 0x7FF0000000000000) (notANumber ∷ bits 0xFFF0000000000000 ∷ bits 0xFFF0000000000000 ∷ notANumber ∷ []) less
    -- inf and 1.0: inf, inf, inf, inf
    ∷ binaries (float 0x7FF0000000000000) (float 0x3FF0000000000000) (bits 0x7FF0000000000000 ∷ bits 0x7FF0000000000000 ∷ bits 0x7FF0000000000000 ∷ bits 0x7FF0000000000000 ∷ []) greater
    -- 1.0 and -inf: -inf, inf, -inf, -0.0
    ∷ binaries (float 0x3FF0000000000000) (float 0xFFF0000000000000) (bits 0xFFF0000000000000 ∷ bits 0x7FF0000000000000 ∷ bits 0xFFF0000000000000 ∷ bits 0x8000000000000000 ∷ []) greater
    -- rounded once, to the nearest, ties to even
    -- 0.1 and 0.2: 0.30000000000000004, -0.1, 0.020000000000000004, 0.5
    ∷ binaries (float 0x3FB999999999999A) (float 0x3FC999999999999A) (bits 0x3FD3333333333334 ∷ bits 0xBFB999999999999A ∷ bits 0x3F947AE147AE147C ∷ bits 0x3FE0000000000000 ∷ []) less
    -- 1.0 and 3.0: 4.0, -2.0, 3.0, 0.3333333333333333
    ∷ binaries (float 0x3FF0000000000000) (float 0x4008000000000000) (bits 0x4010000000000000 ∷ bits 0xC000000000000000 ∷ bits 0x4008000000000000 ∷ bits 0x3FD5555555555555 ∷ []) less
    -- 0.3 and 0.1: 0.4, 0.19999999999999998, 0.03, 2.9999999999999996
    ∷ binaries (float 0x3FD3333333333333) (float 0x3FB999999999999A) (bits 0x3FD999999999999A ∷ bits 0x3FC9999999999999 ∷ bits 0x3F9EB851EB851EB8 ∷ bits 0x4007FFFFFFFFFFFF ∷ []) greater
    -- 9007199254740992.0 and 1.0: 9007199254740992.0, 9007199254740991.0, 9007199254740992.0, 9007199254740992.0
    ∷ binaries (float 0x4340000000000000) (float 0x3FF0000000000000) (bits 0x4340000000000000 ∷ bits 0x433FFFFFFFFFFFFF ∷ bits 0x4340000000000000 ∷ bits 0x4340000000000000 ∷ []) greater
    -- 9007199254740994.0 and 1.0: 9007199254740996.0, 9007199254740992.0, 9007199254740994.0, 9007199254740994.0
    ∷ binaries (float 0x4340000000000001) (float 0x3FF0000000000000) (bits 0x4340000000000002 ∷ bits 0x4340000000000000 ∷ bits 0x4340000000000001 ∷ bits 0x4340000000000001 ∷ []) greater
    -- past the largest
    -- 1e+308 and 10.0: 1e+308, 1e+308, inf, 1e+307
    ∷ binaries (float 0x7FE1CCF385EBC8A0) (float 0x4024000000000000) (bits 0x7FE1CCF385EBC8A0 ∷ bits 0x7FE1CCF385EBC8A0 ∷ bits 0x7FF0000000000000 ∷ bits 0x7FAC7B1F3CAC7433 ∷ []) greater
    -- 1.7976931348623157e+308 and -1.7976931348623157e+308: 0.0, inf, -inf, -1.0
    ∷ binaries (float 0x7FEFFFFFFFFFFFFF) (float 0xFFEFFFFFFFFFFFFF) (bits 0 ∷ bits 0x7FF0000000000000 ∷ bits 0xFFF0000000000000 ∷ bits 0xBFF0000000000000 ∷ []) greater
    -- below the least normal
    -- 5e-324 and 5e-324: 1e-323, 0.0, 0.0, 1.0
    ∷ binaries (float 0x1) (float 0x1) (bits 0x2 ∷ bits 0 ∷ bits 0 ∷ bits 0x3FF0000000000000 ∷ []) same
    -- 2.2250738585072014e-308 and 5e-324: 2.225073858507202e-308, 2.225073858507201e-308, 0.0, 4503599627370496.0
    ∷ binaries (float 0x10000000000000) (float 0x1) (bits 0x10000000000001 ∷ bits 0xFFFFFFFFFFFFF ∷ bits 0 ∷ bits 0x4330000000000000 ∷ []) greater
    -- 1.5e-323 and 2.0: 2.0, -2.0, 3e-323, 1e-323
    ∷ binaries (float 0x3) (float 0x4000000000000000) (bits 0x4000000000000000 ∷ bits 0xC000000000000000 ∷ bits 0x6 ∷ bits 0x2 ∷ []) less
    -- -5e-324 and 0.5: 0.5, -0.5, -0.0, -1e-323
    ∷ binaries (float 0x8000000000000001) (float 0x3FE0000000000000) (bits 0x3FE0000000000000 ∷ bits 0xBFE0000000000000 ∷ bits 0x8000000000000000 ∷ bits 0x8000000000000002 ∷ []) less
    -- a whole number beside a float: the nearest, ties to even
    -- 9007199254740993 and 9007199254740992.0: 1.8014398509481984e+16, 0.0, 8.112963841460668e+31, 1.0
    ∷ binaries (number 9007199254740993) (float 0x4340000000000000) (bits 0x4350000000000000 ∷ bits 0 ∷ bits 0x4690000000000000 ∷ bits 0x3FF0000000000000 ∷ []) same
    -- 9007199254740993 and 9007199254740994.0: 1.8014398509481984e+16, -2.0, 8.11296384146067e+31, 0.9999999999999998
    ∷ binaries (number 9007199254740993) (float 0x4340000000000001) (bits 0x4350000000000000 ∷ bits 0xC000000000000000 ∷ bits 0x4690000000000001 ∷ bits 0x3FEFFFFFFFFFFFFE ∷ []) less
    -- 9007199254740995 and 9007199254740996.0: 1.801439850948199e+16, 0.0, 8.112963841460675e+31, 1.0
    ∷ binaries (number 9007199254740995) (float 0x4340000000000002) (bits 0x4350000000000002 ∷ bits 0 ∷ bits 0x4690000000000004 ∷ bits 0x3FF0000000000000 ∷ []) same
    -- 9007199254740996.0 and 9007199254740995: 1.801439850948199e+16, 0.0, 8.112963841460675e+31, 1.0
    ∷ binaries (float 0x4340000000000002) (number 9007199254740995) (bits 0x4350000000000002 ∷ bits 0 ∷ bits 0x4690000000000004 ∷ bits 0x3FF0000000000000 ∷ []) same
    -- -9007199254740993 and -9007199254740992.0: -1.8014398509481984e+16, 0.0, 8.112963841460668e+31, 1.0
    ∷ binaries (negative 9007199254740993) (float 0xC340000000000000) (bits 0xC350000000000000 ∷ bits 0 ∷ bits 0x4690000000000000 ∷ bits 0x3FF0000000000000 ∷ []) same
    -- 9223372036854775807 and 9.223372036854776e+18: 1.8446744073709552e+19, 0.0, 8.507059173023462e+37, 1.0
    ∷ binaries (number 9223372036854775807) (float 0x43E0000000000000) (bits 0x43F0000000000000 ∷ bits 0 ∷ bits 0x47D0000000000000 ∷ bits 0x3FF0000000000000 ∷ []) same
    -- -9223372036854775808 and -9.223372036854776e+18: -1.8446744073709552e+19, 0.0, 8.507059173023462e+37, 1.0
    ∷ binaries (negative 9223372036854775808) (float 0xC3E0000000000000) (bits 0xC3F0000000000000 ∷ bits 0 ∷ bits 0x47D0000000000000 ∷ bits 0x3FF0000000000000 ∷ []) same
    -- an SFloat is widened: 0.1f is not 0.1
    -- 0.1f and 0.1: 0.20000000149011612, 1.4901161138336505e-09, 0.010000000149011612, 1.0000000149011612
    ∷ binaries (literal 28 0x3DCCCCCD) (float 0x3FB999999999999A) (bits 0x3FC999999CCCCCCD ∷ bits 0x3E19999998000000 ∷ bits 0x3F847AE14CCCCCCD ∷ bits 0x3FF0000004000000 ∷ []) greater
    -- 0.1 and 0.1f: 0.20000000149011612, -1.4901161138336505e-09, 0.010000000149011612, 0.999999985098839
    ∷ binaries (float 0x3FB999999999999A) (literal 28 0x3DCCCCCD) (bits 0x3FC999999CCCCCCD ∷ bits 0xBE19999998000000 ∷ bits 0x3F847AE14CCCCCCD ∷ bits 0x3FEFFFFFF8000002 ∷ []) less
    -- 2.5f and 2.5: 5.0, 0.0, 6.25, 1.0
    ∷ binaries (literal 28 0x40200000) (float 0x4004000000000000) (bits 0x4014000000000000 ∷ bits 0 ∷ bits 0x4019000000000000 ∷ bits 0x3FF0000000000000 ∷ []) same
    -- `-` of a NaN, of infinities, of zeros, of the least
    ∷ unaries (float 0x7FF8000000000000) notANumber none
    ∷ unaries (float 0x7FF0000000000000) (bits 0xFFF0000000000000) none
    ∷ unaries (float 0xFFF0000000000000) (bits 0x7FF0000000000000) none
    ∷ unaries (float 0) (bits 0x8000000000000000) none
    ∷ unaries (float 0x8000000000000000) (bits 0) none
    ∷ unaries (float 0x1) (bits 0x8000000000000001) none
    -- SFloats alone: 0.1f, the least, the largest subnormal, the least normal, the largest, infinities, -0.0, a NaN
    ∷ folds (literal 28 0x3DCCCCCD) (a_float 0x3FB99999A0000000)
    ∷ folds (literal 28 0x1) (a_float 0x36A0000000000000)
    ∷ folds (literal 28 0x7FFFFF) (a_float 0x380FFFFFC0000000)
    ∷ folds (literal 28 0x800000) (a_float 0x3810000000000000)
    ∷ folds (literal 28 0x7F7FFFFF) (a_float 0x47EFFFFFE0000000)
    ∷ folds (literal 28 0x7F800000) (a_float 0x7FF0000000000000)
    ∷ folds (literal 28 0xFF800000) (a_float 0xFFF0000000000000)
    ∷ folds (literal 28 0x80000000) (a_float 0x8000000000000000)
    ∷ folds (literal 28 0x7FC00000) a_nan
    ∷ []

-- THEOREM: they are folded and run so
pub floats_so : map actual rows ≡ map expected rows
unfolding folding evaluating rows
floats_so = refl
