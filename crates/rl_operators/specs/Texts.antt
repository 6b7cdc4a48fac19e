-- The bytes beside a value. Assumes nothing.
use Rattle.std.specs.Prelude.{ℕ, ◌≡◌, List}
use Rattle.rl_spec.specs.declared.ConstVal.{ConstVal}
use Rattle.rl_spec.specs.declared.ConstVal.TheVariants.{Int, Float, Str, Bool}

-- where a value is a text, they are its bytes
abbrev pub TextIs : (ℕ → List ℕ) → ConstVal → List ℕ → Type 0
TextIs bytes (Int x) s = Unit {0}
TextIs bytes (Float x) s = Unit {0}
TextIs bytes (Str t) s = s ≡ bytes t
TextIs bytes (Bool x) s = Unit {0}
