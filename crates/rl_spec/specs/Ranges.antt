-- Intervals, and the numbers in them; an index or none.
use Rattle.std.specs.Prelude.{ℕ, zero, suc, ◌+◌, cond, List, [], ◌∷◌, ◌==◌, None, Some}
use Rattle.rl_spec.specs.declared.Interval.{Interval}
use Rattle.rl_spec.specs.Answers.{Optional}
use Rattle.rl_spec.specs.Image.{Field, num, first, second}

abbrev pub interval : Field → Interval
interval f = record { first = first f; count = second f }

-- n numbers from k on, and those of an interval
unfoldable pub up_from : ℕ → ℕ → List ℕ
up_from k zero = []
up_from k (suc n) = k ∷ up_from (k + 1) n

abbrev pub numbers_in : Interval → List ℕ
numbers_in i = up_from i.first i.count

-- in a field 65,535 means none
abbrev pub optional : Field → Optional
optional f = cond (first f == 65535) None (Some (first f))

abbrev pub optional_field : Optional → Field
optional_field None = num 65535
optional_field (Some n) = num n
