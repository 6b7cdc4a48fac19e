-- Numbers in an image, little-endian. A place past the end counts as 0.
use Rattle.std.specs.Prelude.{ℕ, zero, suc, ◌+◌, ◌*◌, Bool, List, length, nat_lt, slice_index}

-- the number in n bytes
unfoldable pub num_at : List ℕ → ℕ → ℕ → ℕ
num_at s at zero = 0
num_at s at (suc n) = slice_index s at + 256 * num_at s (at + 1) n

unfoldable pub u16_at : List ℕ → ℕ → ℕ
u16_at s at = slice_index s at + slice_index s (at + 1) * 256

unfoldable pub u32_at : List ℕ → ℕ → ℕ
u32_at s at = u16_at s at + u16_at s (at + 2) * 65536

-- whether n bytes at a place run past the end
unfoldable pub past : List ℕ → ℕ → ℕ → Bool
past s at n = nat_lt (length s) (at + n)
