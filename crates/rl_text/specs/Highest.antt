-- The highest of the first n octets.
-- Assumes nothing.
use Rattle.std.specs.Prelude.{ℕ, zero, suc, max, List, get_or}

unfoldable pub highest_of : List ℕ → ℕ → ℕ
highest_of s zero = 0
highest_of s (suc n) = max (highest_of s n) (get_or s n 0)
