-- What putting a text into a buffer comes to. Assumes nothing.
use Rattle.std.specs.Prelude.{ℕ, ◌+◌, ◌-◌, min, List, length}
use Rattle.std.proofs.Math.Seq.{paste}

-- how many bytes of a text have room at a place of a buffer
unfoldable pub fitting : List ℕ → ℕ → List ℕ → ℕ
fitting out at text = min (length text) (length out - at)

-- the buffer with the text at the place, as far as there is room
unfoldable pub with_text : List ℕ → ℕ → List ℕ → List ℕ
with_text out at text = paste out at text (fitting out at text)

-- the place after the text
unfoldable pub after_text : List ℕ → ℕ → List ℕ → ℕ
after_text out at text = at + fitting out at text
