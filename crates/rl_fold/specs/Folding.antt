-- What stands when a node is folded under names with a memory. Assumes nothing.
use Rattle.std.specs.Prelude.{ℕ, ◌≡◌, List, length}
use Rattle.rl_spec.specs.Answers.{Folded}
use Rattle.rl_spec.specs.Image.{Image, text_of}
use Rattle.rl_spec.specs.Folded.{as_folded}
use Rattle.rl_spec.specs.Tree.{expr_tree}
use Rattle.rl_spec.specs.Fold.{Binding, const_eval}
use Rattle.rl_memory.specs.Memory.{Right}
use Rattle.rl_names.specs.Names.{Standing}

-- what a node folds to
abbrev pub folded_at : Image → List (Binding ℕ) → ℕ → Folded
folded_at im env n = as_folded (const_eval (text_of im) env (expr_tree im n))

-- ---- folding

-- cs has classes of texts, w the words of the bindings env, of which there are `count`
pub record Names (im : Image) (env : List (Binding ℕ)) (cs w : List ℕ) (count : ℕ) : Type 0 where
  pub standing : Standing (text_of im) cs w env
  pub counted : length env ≡ count

-- what folding a node comes to where that stands and the memory m is right: the value, and a memory that is right
abbrev pub Folds : Image → List ℕ → List ℕ → ℕ → ℕ → List ℕ → Folded → List ℕ → Type 0
Folds im cs w count n m r out =
    (env : List (Binding ℕ)) → Names im env cs w count → Right (folded_at im env) count m → (r ≡ folded_at im env n) × Right (folded_at im env) count out
