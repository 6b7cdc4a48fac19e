-- Records whose fields are given as words.
use Rattle.std.specs.Prelude.{ℕ, ◌+◌, ◌/◌, ◌%◌, cond, List, [], ◌∷◌, ◌++◌, length, get_or, take, drop}
use Rattle.rl_spec.specs.declared.Sort.{Sort}
use Rattle.rl_spec.specs.Schema.{sort_of, fields_of}
use Rattle.rl_spec.specs.Image.{Field, num, pair, Rec, is_pair}

-- two numbers in two bytes each, or one
abbrev pub word_field : Sort → ℕ → Field
word_field o w = cond (is_pair o) (pair (w % 65536) (w / 65536)) (num w)

-- the fields by their codes, from the j-th word on; a word that is not there is 0
unfoldable pub word_fields : List ℕ → List ℕ → ℕ → List Field
word_fields [] ws j = []
word_fields (c ∷ cs) ws j = word_field (sort_of c) (get_or ws j 0) ∷ word_fields cs ws (j + 1)

unfoldable pub word_record : ℕ → List ℕ → Rec
word_record kind ws = record { kind = kind; fields = word_fields (fields_of kind) ws 0 }

-- bytes in the place of others
unfoldable pub over : List ℕ → ℕ → List ℕ → List ℕ
over l at s = take at l ++ s ++ drop (at + length s) l
