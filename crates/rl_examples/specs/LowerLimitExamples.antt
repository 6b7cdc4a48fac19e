-- The six limits of lowering, by computation: the last of each that there is room for, and one too many.
-- Assumes nothing.
use Rattle.std.specs.Prelude.{◌≡◌, ℕ, true, false, [], ◌∷◌, replicate, refl}
use Rattle.std.proofs.Math.Option.{Option, none, some}
use Rattle.rl_spec.specs.Image.{num, pair, Image, no_record}
use Rattle.rl_spec.specs.Tree.{ascii}
use Rattle.rl_spec.specs.FnContracts.{is_some}
use Rattle.rl_spec.specs.Make.{Context, made, new_text, new_list, stmt}
use Rattle.rl_spec.specs.Lower.{expr, fitting}
use Rattle.rl_examples.specs.LowerExamples.{lowering}

-- what is made at n records of a section, or n text bytes

abbrev pub filled : ℕ → ℕ → ℕ → ℕ → ℕ → Context
filled bytes texts lists expressions statements =
    record {
      image =
          record {
            arena = 1;
            bytes = replicate bytes 65;
            records =
                replicate texts no_record ∷ replicate lists no_record ∷ replicate expressions no_record ∷ replicate statements no_record
                ∷ [] ∷ [] ∷ [] ∷ [] ∷ [];
          };
      span = 9;
      is_result = false;
      temp_counter = 0;
      limited = true;
    }

-- the number of what is made
abbrev pub answered : {A : Type 0} → Option (A × Context) → Option A
answered none = none
answered (some r) = some r.0

-- the last of each that there is room for
pub last_ones : (answered (new_text (ascii "ab") (filled 16382 2047 0 0 0)) ≡ some 2047)
    × (answered (new_list (1 ∷ 2 ∷ []) (filled 0 0 4094 0 0)) ≡ some (pair 4094 2))
    × (answered (new_list [] (filled 0 0 4096 0 0)) ≡ some (pair 4096 0))
    × (answered (expr 16 [] (filled 0 0 0 4095 0)) ≡ some 4095)
    × (answered (stmt 77 9 [] (filled 0 0 0 0 2047)) ≡ some 2047)
unfolding lowering
last_ones = (refl, refl, refl, refl, refl)

-- and one too many
pub too_many : (answered (new_text (ascii "ab") (filled 16383 2047 0 0 0)) ≡ none)
    × (answered (new_text (ascii "ab") (filled 16382 2048 0 0 0)) ≡ none)
    × (answered (new_list (1 ∷ 2 ∷ []) (filled 0 0 4095 0 0)) ≡ none)
    × (answered (expr 16 [] (filled 0 0 0 4096 0)) ≡ none)
    × (answered (stmt 77 9 [] (filled 0 0 0 0 2048)) ≡ none)
unfolding lowering
too_many = (refl, refl, refl, refl, refl)

-- the sixth: 4,096 ResolvedIdentifiers of 15 bytes, a header of 23, and text bytes
abbrev pub sized : ℕ → Image
sized bytes =
    record {
      arena = 1;
      bytes = replicate bytes 65;
      records =
          [] ∷ [] ∷ replicate 4096 (made 31 (num 1 ∷ num 2 ∷ num 3 ∷ num 4 ∷ [])) ∷ [] ∷ [] ∷ [] ∷ [] ∷ [] ∷ [];
    }

pub longest : is_some (fitting true (sized 4072)) ≡ true
unfolding lowering
longest = refl

pub too_long : is_some (fitting true (sized 4073)) ≡ false
unfolding lowering
too_long = refl
