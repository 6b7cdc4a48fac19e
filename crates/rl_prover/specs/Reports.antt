-- Reports in a slice of entries. Assumes nothing.
use Rattle.std.specs.Prelude.{ℕ, ◌+◌, ◌≡◌, Bool, cond, List, [], ◌++◌, ltb, length, set, take, replicate}
use Rattle.rl_spec.specs.declared.Violation.{Violation}
use Rattle.rl_spec.specs.declared.Violation.TheVariants.{Refinement, Requires}
use Rattle.rl_spec.specs.Prove.{report, report_entries}

abbrev pub put_four : List ℕ → ℕ → ℕ → ℕ → ℕ → ℕ → List ℕ
put_four l at a b c d = set (set (set (set l at a) (at + 1) b) (at + 2) c) (at + 3) d

abbrev pub put_violation : List ℕ → ℕ → ℕ → ℕ → Violation → List ℕ
put_violation l at call span (Refinement n) = put_four l at call span 0 n
put_violation l at call span (Requires n) = put_four l at call span 1 n

-- the slice holds the entries e and then zeros, as far as it is long; `at` is the place after them
pub record Shown (l e : List ℕ) (at : ℕ) : Type 0 where
  pub slice : l ≡ take (length l) (e ++ replicate (length l) 0)
  pub place : length e ≡ at

-- what is kept of a slice for entries up to a place: nothing where they have no room in so many
unfoldable pub kept_at : ℕ → ℕ → List ℕ → List ℕ
kept_at room at l = cond (ltb room at) (replicate (length l) 0) l

-- a report more, if there is a violation
abbrev pub Reports : List ℕ → ℕ → ℕ → ℕ → Bool → Violation → List ℕ → ℕ → Type 0
Reports l at call span failed v out r =
    (e : List ℕ) → Shown l e at → Shown out (e ++ report_entries call span (report failed v [])) r
