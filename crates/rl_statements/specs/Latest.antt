-- The first elements of a list, the last of them first. Assumes nothing.
use Rattle.std.specs.Prelude.{ℕ, zero, suc, List, [], ◌∷◌, get_or}

-- what f makes of the first k; d stands past the end
unfoldable pub latest : {A B : Type 0} → (A → B) → A → List A → ℕ → List B
latest f d xs zero = []
latest f d xs (suc k) = f (get_or xs k d) ∷ latest f d xs k
