-- A value in two words: its sort, 1 Int, 2 Float, 3 Str, 4 Bool, 0 none, and its payload: the i64's or f64's bits, the text's index, 0
-- or 1. For a NaN the bits are those that lib.Ieee writes.
use Rattle.std.specs.Prelude.{ℕ, suc, ◌-◌, ◌^◌, min, cond, ℤ, pos, negsuc, ◌==◌, from_bits, to_bits, None, Some}
use Rattle.std.specs.Float.{binary64}
use Rattle.rl_spec.specs.declared.ConstVal.{ConstVal}
use Rattle.rl_spec.specs.declared.ConstVal.TheVariants.{Int, Float, Str, Bool as Truth}
use Rattle.rl_spec.specs.Answers.{Folded}
use Rattle.rl_spec.specs.Tree.{signed}

-- two's complement in 64 bits
abbrev pub bits64 : ℤ → ℕ
bits64 (pos n) = n
bits64 (negsuc n) = 2 ^ 64 - suc n

abbrev pub sort_word : ConstVal → ℕ
sort_word (Int x) = 1
sort_word (Float x) = 2
sort_word (Str t) = 3
sort_word (Truth b) = 4

abbrev pub payload_word : ConstVal → ℕ
payload_word (Int x) = bits64 x
payload_word (Float x) = to_bits binary64 x
payload_word (Str t) = t
payload_word (Truth b) = cond b 1 0

abbrev pub sort_word_of : Folded → ℕ
sort_word_of (Some v) = sort_word v
sort_word_of None = 0

abbrev pub payload_word_of : Folded → ℕ
payload_word_of (Some v) = payload_word v
payload_word_of None = 0

-- the value of two words; any other sort is none, and an index above 65,535 is 65,535, which no image has
unfoldable pub words_value : ℕ → ℕ → Folded
words_value sort payload =
    cond (sort == 1) (Some (Int (signed 64 payload)))
    (cond (sort == 2) (Some (Float (from_bits binary64 payload)))
    (cond (sort == 3) (Some (Str (min payload 65535)))
    (cond (sort == 4) (Some (Truth (payload == 1))) None)))
