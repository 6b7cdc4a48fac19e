-- Folded values and the operators on them, under the names of rl-checker's contracts.rs. Exact integers within 64 bits; floats by
-- IEEE 754 binary64, NaN as one class; T is the type of texts, and `bytes` gives a text's bytes.
use Rattle.std.specs.Prelude.{ℕ, ◌^◌, Bool, true, false, cond, not, ◌||◌, List, [], ◌∷◌, ℤ, pos, negsuc, ◌+ℤ◌, ◌-ℤ◌, ◌*ℤ◌, neg_ℤ, ◌==◌, int_div, int_lt, nat_lt, Float}
use Rattle.std.specs.Bool.{beq}
use Rattle.std.proofs.Math.Option.{Option, none, some}
use Rattle.std.specs.Int.Signed.{mag}
use Rattle.std.specs.Float.Ieee as F
use Rattle.std.specs.Float.{nan, binary64}

pub data ConstVal (T : Type 0) : Type 0 where
  int : ℤ → ConstVal T
  float : Float → ConstVal T
  str : T → ConstVal T
  bool : Bool → ConstVal T

pub data RefineOp : Type 0 where
  gt ge lt le eq ne : RefineOp

-- ---- comparisons

-- by what is less and what is the same
abbrev pub compare_by : {A : Type 0} → (A → A → Bool) → (A → A → Bool) → RefineOp → A → A → Bool
compare_by less same gt x y = less y x
compare_by less same ge x y = less y x || same y x
compare_by less same lt x y = less x y
compare_by less same le x y = less x y || same x y
compare_by less same eq x y = same x y
compare_by less same ne x y = not (same x y)

abbrev pub same_int : ℤ → ℤ → Bool
same_int (pos a) (pos b) = a == b
same_int (pos a) (negsuc b) = false
same_int (negsuc a) (pos b) = false
same_int (negsuc a) (negsuc b) = a == b

-- texts byte by byte
unfoldable pub same_text : List ℕ → List ℕ → Bool
same_text [] [] = true
same_text [] (b ∷ t) = false
same_text (a ∷ s) [] = false
same_text (a ∷ s) (b ∷ t) = cond (a == b) (same_text s t) false

unfoldable pub less_text : List ℕ → List ℕ → Bool
less_text s [] = false
less_text [] (b ∷ t) = true
less_text (a ∷ s) (b ∷ t) = cond (a == b) (less_text s t) (nat_lt a b)

-- a comparison with a NaN has no verdict
unfoldable pub compare_floats : RefineOp → Float → Float → Option Bool
compare_floats op x y = cond (F.is_nan x || F.is_nan y) none (some (compare_by F.lt F.eq op x y))

-- truth values are equal or not, and neither is less
unfoldable pub compare_bools : RefineOp → Bool → Bool → Option Bool
compare_bools gt x y = none
compare_bools ge x y = none
compare_bools lt x y = none
compare_bools le x y = none
compare_bools eq x y = some (beq x y)
compare_bools ne x y = some (not (beq x y))

-- a whole number beside a float is the nearest f64, ties to even; what is no number is a NaN
abbrev pub as_f64 : {T : Type 0} → ConstVal T → Float
as_f64 (int i) = F.of_int binary64 i
as_f64 (float f) = f
as_f64 (str t) = nan
as_f64 (bool b) = nan

module _ {T : Type 0} (bytes : T → List ℕ) where
  unfoldable pub compare_values : RefineOp → ConstVal T → ConstVal T → Option Bool
  compare_values op (int x) (int y) = some (compare_by int_lt same_int op x y)
  compare_values op (int x) (float y) = compare_floats op (F.of_int binary64 x) y
  compare_values op (int x) (str y) = none
  compare_values op (int x) (bool y) = none
  compare_values op (float x) y = compare_floats op x (as_f64 y)
  compare_values op (str x) (int y) = none
  compare_values op (str x) (float y) = none
  compare_values op (str x) (str y) = some (compare_by less_text same_text op (bytes x) (bytes y))
  compare_values op (str x) (bool y) = none
  compare_values op (bool x) (int y) = none
  compare_values op (bool x) (float y) = none
  compare_values op (bool x) (str y) = none
  compare_values op (bool x) (bool y) = compare_bools op x y

-- ---- arithmetic

-- an integer that fits 64 bits
abbrev pub checked : {T : Type 0} → ℤ → Option (ConstVal T)
checked z = cond (nat_lt (mag z) (2 ^ 63)) (some (int z)) none

pub data ArithOp : Type 0 where
  plus minus star slash : ArithOp

abbrev pub arith_ints : {T : Type 0} → ArithOp → ℤ → ℤ → Option (ConstVal T)
arith_ints plus x y = checked (x +ℤ y)
arith_ints minus x y = checked (x -ℤ y)
arith_ints star x y = checked (x *ℤ y)
arith_ints slash x y = cond (same_int y (pos 0)) none (checked (int_div x y))

abbrev pub rounded_once : {T : Type 0} → ArithOp → Float → Float → Option (ConstVal T)
rounded_once plus x y = some (float (F.add binary64 x y))
rounded_once minus x y = some (float (F.sub binary64 x y))
rounded_once star x y = some (float (F.mul binary64 x y))
rounded_once slash x y = cond (F.eq y (F.of_int binary64 (pos 0))) none (some (float (F.div binary64 x y)))

-- an operand that is a NaN has no value
abbrev pub arith_floats : {T : Type 0} → ArithOp → Float → Float → Option (ConstVal T)
arith_floats op x y = cond (F.is_nan x || F.is_nan y) none (rounded_once op x y)

unfoldable pub arith_values : {T : Type 0} → ArithOp → ConstVal T → ConstVal T → Option (ConstVal T)
arith_values op (int x) (int y) = arith_ints op x y
arith_values op (int x) (float y) = arith_floats op (F.of_int binary64 x) y
arith_values op (int x) (str y) = none
arith_values op (int x) (bool y) = none
arith_values op (float x) y = arith_floats op x (as_f64 y)
arith_values op (str x) (int y) = none
arith_values op (str x) (float y) = none
arith_values op (str x) (str y) = none
arith_values op (str x) (bool y) = none
arith_values op (bool x) y = none

-- `!` and `-`
unfoldable pub bang : {T : Type 0} → ConstVal T → Option (ConstVal T)
bang (int x) = none
bang (float x) = none
bang (str x) = none
bang (bool x) = some (bool (not x))

unfoldable pub negate : {T : Type 0} → ConstVal T → Option (ConstVal T)
negate (int x) = checked (neg_ℤ x)
negate (float x) = some (float (F.neg x))
negate (str x) = none
negate (bool x) = none
