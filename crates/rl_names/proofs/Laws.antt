-- A value comes back from its words, and what the walk finds.
-- Assumes nothing.
use Prim.Native.Nat.{ℕ}
use mathlib.Core.Path.{◌≡◌, refl}
use mathlib.Core.Bool.{Bool, true, false, cond}
use mathlib.Core.List.{List, [], ◌∷◌}
use mathlib.Core.Option.{some}
use lib.Dec.{eqb}
use lib.ListN.{length, get_or}
use Rattle.rl_spec.specs.Answers.{Folded}
use Rattle.std.specs.Prelude.{Some}
use Rattle.rl_spec.specs.Folded.{as_const, as_folded}
use Rattle.rl_spec.specs.Words.{sort_word_of, payload_word_of, words_value}
use Rattle.rl_spec.specs.Fold.{Binding, lookup}
use Rattle.rl_names.specs.Names.{lookup_in, Standing}

-- ---- binding a name

pub comes_back : (v : Folded) (payload : ℕ) → payload ≡ payload_word_of v → words_value (sort_word_of v) payload ≡ v → words_value (sort_word_of v) (payload_word_of v) ≡ v
comes_back v payload e f = rw (← e) f

-- ---- the walk finds what the bindings say

module _ (bytes : ℕ → List ℕ) (cs w : List ℕ) (t : ℕ) where
  pub walk_is : (env : List (Binding ℕ)) → Standing bytes cs w env → lookup_in cs w t (length env) ≡ as_folded (lookup bytes env t)
  unfolding lookup_in lookup
  walk_is [] h = refl
  walk_is (b ∷ env) h = rw (h.0, h.1.0, walk_is env h.1.1.1, h.1.1.0 t) (either (eqb (get_or cs b.name 0) (get_or cs t 0)))
    where
      either : (x : Bool) → cond x (Some (as_const b.value)) (as_folded (lookup bytes env t)) ≡ as_folded (cond x (some b.value) (lookup bytes env t))
      either true = refl
      either false = refl
