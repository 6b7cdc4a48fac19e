-- Results in sequence.
-- Assumes nothing.
use Prim.Native.Nat.{ℕ}
use mathlib.Core.Path.{◌≡◌, refl}
use Rattle.rl_spec.specs.Run.{Env, Result, got, ended, Run, and_then}

module _ {T A B C : Type 0} where
  pub then_then : (r : Result T A) (f : A → Run T B) (g : B → Run T C) → and_then (and_then r f) g ≡ and_then r (λ a env n. and_then (f a env n) g)
  then_then (got a env n) f g = refl
  then_then (ended o n) f g = refl

  -- by what is done with each value
  pub then_by : (r : Result T A) (h : A → Run T C) (f : A → Run T B) (g : B → Run T C) → ((a : A) (env : Env T) (n : ℕ) → h a env n ≡ and_then (f a env n) g) → and_then r h ≡ and_then (and_then r f) g
  then_by (got a env n) h f g e = e a env n
  then_by (ended o n) h f g e = refl

  pub through : {D : Type 0} (r : Result T A) (h : A → Run T D) (f : A → Run T B) (g : B → Run T C) (k : C → Run T D) → ((a : A) (env : Env T) (n : ℕ) → h a env n ≡ and_then (and_then (f a env n) g) k) → and_then r h ≡ and_then (and_then (and_then r f) g) k
  through (got a env n) h f g k e = e a env n
  through (ended o n) h f g k e = refl
