-- An image is one to which nothing was added.
-- Assumes nothing.
use Prim.Native.Nat.{ℕ}
use mathlib.Core.Path.{◌≡◌, refl}
use mathlib.Core.List.{List, [], ◌∷◌, ◌++◌, append-nil}
use Rattle.rl_spec.specs.declared.Counts.{Counts}
use Rattle.rl_spec.specs.Schema.{sections}
use Rattle.rl_spec.specs.Image.{Rec, Image}
use Rattle.rl_spec.specs.Found.{image_found}
use Rattle.rl_context.specs.Additions.{none_new, grown}

with_nothing : (a : ℕ) (b : List ℕ) (t l e x y z u v : List Rec) →
    ◌≡◌ {A = Image} (record { arena = a; bytes = b; records = t ∷ l ∷ e ∷ x ∷ y ∷ z ∷ u ∷ v ∷ [] })
    (record { arena = a; bytes = b ++ []; records = (t ++ []) ∷ (l ++ []) ∷ (e ++ []) ∷ (x ++ []) ∷ y ∷ z ∷ u ∷ v ∷ [] })
with_nothing a b t l e x y z u v = rw (append-nil b, append-nil t, append-nil l, append-nil e, append-nil x) refl

pub grown_none : (s p : List ℕ) (c : Counts) → image_found s p c ≡ grown (image_found s p c) none_new
unfolding image_found sections
grown_none s p c = with_nothing _ _ _ _ _ _ _ _ _ _
