-- What is remembered of nodes that were folded under some names: two words a node. The first is its value's sort, or 5 and the number
-- of names where it had no value, or 0; the second the payload. That a node has no value holds only under as many names.
-- Assumes nothing.
use Rattle.std.specs.Prelude.{ℕ, ◌+◌, ◌*◌, ◌≤◌, ◌≡◌, cond, List, length, get_or, set, ltb, eqb, Option, None, Some}
use Rattle.rl_spec.specs.Answers.{Folded}
use Rattle.rl_spec.specs.Words.{sort_word, payload_word_of, words_value}

-- nothing, or the value or that there is none
abbrev pub Recalled : Type 0
Recalled = Option Folded

-- by the two words, under k names
unfoldable pub recalled : ℕ → ℕ → ℕ → Recalled
recalled k tag payload =
    cond (eqb tag 0) None
    (cond (ltb 4 tag) (cond (eqb tag (5 + k)) (Some None) None) (Some (words_value tag payload)))

unfoldable pub recall_of : List ℕ → ℕ → ℕ → Recalled
recall_of m k n = recalled k (get_or m (n * 2) 0) (get_or m (n * 2 + 1) 0)

abbrev pub tag_word : ℕ → Folded → ℕ
tag_word k (Some v) = sort_word v
tag_word k None = 5 + k

-- a node that has no place is not remembered
unfoldable pub remember_of : List ℕ → ℕ → ℕ → Folded → List ℕ
remember_of m k n v =
    cond (ltb (n * 2 + 1) (length m)) (set (set m (n * 2) (tag_word k v)) (n * 2 + 1) (payload_word_of v)) m

-- what is remembered under k names is right: f says what each node folds to
pub record Right (f : ℕ → Folded) (k : ℕ) (m : List ℕ) : Type 0 where
  pub known : (n : ℕ) (v : Folded) → recall_of m k n ≡ Some v → v ≡ f n
  pub early : (n : ℕ) → get_or m (n * 2) 0 ≤ 5 + k
