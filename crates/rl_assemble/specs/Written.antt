-- An image's bytes at the front of a slice, and their number; nothing is put where there is no image.
use Rattle.std.specs.Prelude.{ℕ, ◌≤◌, ◌≡◌, List, ◌++◌, length, drop, None, Some, Option as Maybe}
use Rattle.std.proofs.Math.Option.{Option, none, some}
use Rattle.rl_spec.specs.Image.{Image, encode}

-- the number of the bytes
abbrev pub Assembled : Type 0
Assembled = Maybe ℕ

abbrev pub length_of : Option Image → Assembled
length_of none = None
length_of (some im) = Some (length (encode im))

abbrev pub put_over : Option Image → List ℕ → List ℕ
put_over none out = out
put_over (some im) out = encode im ++ drop (length (encode im)) out

pub record Written (o : Option Image) (out : List ℕ) (r : Assembled) (after : List ℕ) : Type 0 where
  pub number : r ≡ length_of o
  pub bytes : after ≡ put_over o out
  pub few : (n : ℕ) → r ≡ Some n → n ≤ 65535
