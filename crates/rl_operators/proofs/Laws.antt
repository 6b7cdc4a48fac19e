-- Comparisons: the bytes beside a text are those of its index.
-- Assumes nothing.
use Prim.Native.Nat.{ℕ}
use mathlib.Core.Path.{◌≡◌, refl}
use mathlib.Core.List.{List}
use Rattle.rl_spec.specs.declared.ConstVal.{ConstVal}
use Rattle.rl_spec.specs.declared.ConstVal.TheVariants.{Int, Float, Str, Bool}
use Rattle.rl_spec.specs.Values.{RefineOp, compare_values}
use Rattle.rl_spec.specs.Folded.{const_of, with_text}
use Rattle.rl_operators.specs.Texts.{TextIs}

pub compare_at : (bytes : ℕ → List ℕ) (op : RefineOp) (a b : ConstVal) (l r : List ℕ) → TextIs bytes a l → TextIs bytes b r → compare_values (λ t. t) op (with_text a l) (with_text b r) ≡ compare_values bytes op (const_of a) (const_of b)
unfolding compare_values
compare_at bytes op (Int x) (Int y) l r h k = refl
compare_at bytes op (Int x) (Float y) l r h k = refl
compare_at bytes op (Int x) (Str y) l r h k = refl
compare_at bytes op (Int x) (Bool y) l r h k = refl
compare_at bytes op (Float x) (Int y) l r h k = refl
compare_at bytes op (Float x) (Float y) l r h k = refl
compare_at bytes op (Float x) (Str y) l r h k = refl
compare_at bytes op (Float x) (Bool y) l r h k = refl
compare_at bytes op (Str x) (Int y) l r h k = refl
compare_at bytes op (Str x) (Float y) l r h k = refl
compare_at bytes op (Str x) (Str y) l r h k = rw (h, k) refl
compare_at bytes op (Str x) (Bool y) l r h k = refl
compare_at bytes op (Bool x) (Int y) l r h k = refl
compare_at bytes op (Bool x) (Float y) l r h k = refl
compare_at bytes op (Bool x) (Str y) l r h k = refl
compare_at bytes op (Bool x) (Bool y) l r h k = refl
