-- Links, by which a search for the same text passes over others. A link names an earlier text and the place of the first mismatch;
-- 0 names none. That it is right matters to the time alone: a search is right because the same text was sought the same way.
-- Assumes nothing.
use Rattle.std.specs.Prelude.{ℕ, zero, suc, ◌+◌, ◌*◌, ◌%◌, ◌<◌, ◌≡◌, cond, List, [], ◌∷◌, get_or, drop, ltb, eqb}
use Rattle.rl_classes.specs.Classes.{class_of}

-- how many of the first bytes are the same
unfoldable pub common : List ℕ → List ℕ → ℕ
common [] t = 0
common (a ∷ s) [] = 0
common (a ∷ s) (b ∷ t) = cond (eqb a b) (suc (common s t)) 0

-- the first place from `at` on where two texts differ, or one ends
unfoldable pub mismatch : List ℕ → List ℕ → ℕ → ℕ
mismatch s t at = at + common (drop at s) (drop at t)

-- the link of a search for t that has met the u-th text, s
unfoldable pub next_link : List ℕ → List ℕ → ℕ → ℕ → ℕ
next_link s t u link =
    cond (ltb (link % 65536) (mismatch s t (link % 65536))) ((u + 1) * 65536 + mismatch s t (link % 65536) % 65536) link

-- a search for t meets only texts that have its link
unfoldable pub meet : (ℕ → List ℕ) → List ℕ → List ℕ → ℕ → ℕ → ℕ
meet bytes links t u link = cond (eqb (get_or links u 0) link) (next_link (bytes u) t u link) link

-- the link of a search for t past the first n texts
unfoldable pub link_after : (ℕ → List ℕ) → List ℕ → List ℕ → ℕ → ℕ
link_after bytes links t zero = 0
link_after bytes links t (suc n) = meet bytes links t n (link_after bytes links t n)

-- the first text of each class has the link that a search for it had
abbrev pub Linked : (ℕ → List ℕ) → List ℕ → ℕ → Type 0
Linked bytes links n = (k : ℕ) → k < n → class_of bytes k ≡ k + 1 → get_or links k 0 ≡ link_after bytes links (bytes k) k

-- what a search finds for the t-th text
pub record PlaceOf (bytes : ℕ → List ℕ) (links : List ℕ) (t class link : ℕ) : Type 0 where
  pub right : class ≡ class_of bytes t
  pub linked : class ≡ t + 1 → link ≡ link_after bytes links (bytes t) t
