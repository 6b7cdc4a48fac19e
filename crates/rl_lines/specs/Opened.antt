-- What opening an image leaves. Assumes nothing.
use Rattle.std.specs.Prelude.{ℕ, ◌≡◌, List, Ok, Err}
use Rattle.rl_spec.specs.Answers.{Answer}
use Rattle.rl_spec.specs.declared.Counts.{Counts}
use Rattle.rl_spec.specs.Image.{text_of, image_of, WellFormed}
use Rattle.rl_spec.specs.Found.{image_found}
use Rattle.rl_names.specs.Names.{Classes}

-- the starts p and the counts c are those of the accepted bytes s
pub record Known (s p : List ℕ) (c : Counts) : Type 0 where
  pub found : image_found s p c ≡ image_of s
  pub whole : WellFormed (image_of s)

abbrev pub Opened : List ℕ → List ℕ → List ℕ → Answer → Type 0
Opened s p cs (Ok h) = Known s p h.counts × Classes (text_of (image_of s)) cs
Opened s p cs (Err r) = Unit {0}
