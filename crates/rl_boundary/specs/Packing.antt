-- An answer in one number. Assumes nothing.
use Rattle.std.specs.Prelude.{ℕ, Result, Ok, Err}
use Rattle.rl_spec.specs.declared.Refusal.{Refusal}
use Rattle.rl_spec.specs.Read.{number_of}
use Rattle.rl_spec.specs.Boundary.{above}

-- the place of a refusal
abbrev pub place_of : {A : Type 0} → Result A Refusal → ℕ
place_of (Ok a) = 0
place_of (Err r) = r.place

-- what is said at each, or a refusal: its number above its place
abbrev pub packed_by : {A : Type 0} → (A → ℕ) → Result A Refusal → ℕ
packed_by f (Ok a) = f a
packed_by f (Err r) = above (number_of r.cause) r.place
