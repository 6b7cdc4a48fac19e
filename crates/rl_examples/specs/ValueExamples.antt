-- The operators on values, by computation: limits of 64 bits, division toward zero, a whole number beside a float, zeros, truth values,
-- texts.
-- Assumes nothing.
use Rattle.std.specs.Prelude.{◌≡◌, ℕ, ◌-◌, ◌^◌, Bool, true, false, List, [], ◌∷◌, pos, negsuc, refl}
use Rattle.std.proofs.Math.Option.{Option, none, some}
use Rattle.std.specs.Float.Ieee as F
use Rattle.std.specs.Float.{binary64}
use Rattle.rl_spec.specs.Values.{ConstVal, int, float, str, bool, lt, eq, compare_values, compare_floats, compare_bools, less_text, same_text, plus, slash, arith_values, negate}

abbrev Values : Type 0
Values = List (Option (ConstVal (List ℕ)))

abbrev pub bits : ℕ → ConstVal (List ℕ)
bits n = float (F.of_bits binary64 n)

abbrev pub lowest : ConstVal (List ℕ)
lowest = int (negsuc (2 ^ 63 - 1))

abbrev pub computed : Values
computed =
    -- -(-9223372036854775808); 9223372036854775807 + 1; -7 / 2
    negate lowest
    ∷ arith_values plus (int (pos (2 ^ 63 - 1))) (int (pos 1))
    ∷ arith_values slash (int (negsuc 6)) (int (pos 2))
    -- -9223372036854775808 / -1; 7 / 0; 1.0 / -0.0
    ∷ arith_values slash lowest (int (negsuc 0))
    ∷ arith_values slash (int (pos 7)) (int (pos 0))
    ∷ arith_values slash (bits 0x3FF0000000000000) (bits 0x8000000000000000)
    ∷ []

pub computed_so : computed ≡ none ∷ none ∷ some (int (negsuc 2)) ∷ none ∷ none ∷ none ∷ []
unfolding negate arith_values F.of_int F.round F.of_bits F.of_fields F.odd F.units F.size F.climb F.span F.eq F.is_nan
computed_so = refl

abbrev pub compared : List (Option Bool)
compared =
    -- 9007199254740993 == 9007199254740992.0; true < false; "a" < "b"
    compare_values (λ t. t) eq (int (pos 9007199254740993)) (bits 0x4340000000000000)
    ∷ compare_values (λ t. t) lt (bool true) (bool false)
    ∷ compare_values (λ t. t) lt (str (97 ∷ [])) (str (98 ∷ []))
    ∷ []

pub compared_so : compared ≡ some true ∷ none ∷ some true ∷ []
unfolding compare_values compare_floats compare_bools less_text same_text F.of_int F.round F.of_bits F.of_fields F.odd F.units F.size F.climb F.span F.eq F.lt F.is_nan
compared_so = refl
