-- Names bound to values, three words a binding: the name's text, the value's sort and its payload; the latest binding is the last.
-- Assumes nothing.
use Rattle.std.specs.Prelude.{ℕ, zero, suc, ◌+◌, ◌*◌, ◌≡◌, cond, List, [], ◌∷◌, length, get_or, set, eqb, None, Some}
use Rattle.rl_spec.specs.Answers.{Folded}
use Rattle.rl_spec.specs.Values.{same_text}
use Rattle.rl_spec.specs.Folded.{as_const}
use Rattle.rl_spec.specs.Words.{sort_word_of, payload_word_of, words_value}
use Rattle.rl_spec.specs.Fold.{Binding}

-- texts have the same class exactly where their bytes are the same
abbrev pub Classes : (ℕ → List ℕ) → List ℕ → Type 0
Classes bytes cs = (a b : ℕ) → same_text (bytes a) (bytes b) ≡ eqb (get_or cs a 0) (get_or cs b 0)

-- the backward walk over the first k bindings
unfoldable pub lookup_in : List ℕ → List ℕ → ℕ → ℕ → Folded
lookup_in cs w t zero = None
lookup_in cs w t (suc k) =
    cond (eqb (get_or cs (get_or w (k * 3) 0) 0) (get_or cs t 0)) (words_value (get_or w (k * 3 + 1) 0) (get_or w (k * 3 + 2) 0))
    (lookup_in cs w t k)

-- the words of a binding
unfoldable pub bind_in : List ℕ → ℕ → ℕ → Folded → List ℕ
bind_in w k t v = set (set (set w (k * 3) t) (k * 3 + 1) (sort_word_of v)) (k * 3 + 2) (payload_word_of v)

-- the bindings that the first words stand for; a text has the class of a bound name exactly where it has its bytes
abbrev pub Standing : (ℕ → List ℕ) → List ℕ → List ℕ → List (Binding ℕ) → Type 0
Standing bytes cs w [] = Unit {0}
Standing bytes cs w (b ∷ env) =
    (get_or w (length env * 3) 0 ≡ b.name)
    × ((words_value (get_or w (length env * 3 + 1) 0) (get_or w (length env * 3 + 2) 0) ≡ Some (as_const b.value))
    × (((t : ℕ) → same_text (bytes b.name) (bytes t) ≡ eqb (get_or cs b.name 0) (get_or cs t 0))
    × Standing bytes cs w env))
