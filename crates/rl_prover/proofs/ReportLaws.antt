-- Entries written behind those that are shown.
-- Assumes nothing.
use Prim.Native.Nat.{ℕ, zero, suc, ◌+◌, ◌≤◌}
use mathlib.Core.Path.{◌≡◌, refl, ap, subst, ◌∙◌}
use mathlib.Core.Bool.{Bool, true, false}
use mathlib.Core.List.{List, [], ◌∷◌, ◌++◌, append-nil}
use native.Mathlib.Omega.{arith}
use lib.ListN.{length, set, take, replicate, length-set, length-append}
use Rattle.rl_spec.specs.declared.Violation.{Violation}
use Rattle.rl_spec.specs.declared.Violation.TheVariants.{Refinement, Requires}
use Rattle.rl_spec.specs.Prove.{report, report_entries, entries_by}
use Rattle.rl_prover.specs.Reports.{put_four, put_violation, Shown, Reports}

-- ---- one entry

abbrev zeros : ℕ → List ℕ
zeros k = replicate k 0

enough : (n k : ℕ) → n ≤ k → take n (zeros k) ≡ take n (zeros (suc k))
enough zero k h = refl
enough (suc n) zero h = absurd (omega arith)
enough (suc n) (suc k) h = ap (λ (l : List ℕ). 0 ∷ l) (enough n k (omega arith))

-- setting the first of the zeros behind e
set_behind : (n k : ℕ) (e : List ℕ) (x : ℕ) → n ≤ length e + k → set (take n (e ++ zeros k)) (length e) x ≡ take n ((e ++ (x ∷ [])) ++ zeros k)
set_behind zero k e x h = refl
set_behind (suc n) zero [] x h = absurd (omega arith)
set_behind (suc n) (suc k) [] x h = ap (λ (l : List ℕ). x ∷ l) (enough n k (omega arith))
set_behind (suc n) k (y ∷ e) x h = ap (λ (l : List ℕ). y ∷ l) (set_behind n k e x (omega arith))

module _ (l e : List ℕ) (at x : ℕ) (s : Shown l e at) where
  shown_more : Shown (set l at x) (e ++ (x ∷ [])) (at + 1)
  shown_more =
      let n : length (set l at x) ≡ length l = length-set l at x in
      let p : length e ≡ at = s.place in
      record {
        slice = ap (λ (y : List ℕ). set y at x) s.slice ∙ rw (n, ← p) (set_behind (length l) (length l) e x (omega arith));
        place = length-append e (x ∷ []) ∙ rw p refl;
      }

-- ---- a report

four : (e : List ℕ) (a b c d : ℕ) → (((e ++ (a ∷ [])) ++ (b ∷ [])) ++ (c ∷ [])) ++ (d ∷ []) ≡ e ++ (a ∷ b ∷ c ∷ d ∷ [])
four [] a b c d = refl
four (x ∷ e) a b c d = ap (λ (l : List ℕ). x ∷ l) (four e a b c d)

module _ (l e : List ℕ) (at a b c d : ℕ) (s : Shown l e at) where
  shown_four : Shown (put_four l at a b c d) (e ++ (a ∷ b ∷ c ∷ d ∷ [])) (at + 4)
  shown_four =
      let p : at + 1 + 1 ≡ at + 2 = omega arith in
      let q : at + 2 + 1 ≡ at + 3 = omega arith in
      let r : at + 3 + 1 ≡ at + 4 = omega arith in
      let one = shown_more l e at a s in
      let two : Shown (set (set l at a) (at + 1) b) ((e ++ (a ∷ [])) ++ (b ∷ [])) (at + 2) = subst (λ (i : ℕ). Shown (set (set l at a) (at + 1) b) ((e ++ (a ∷ [])) ++ (b ∷ [])) i) p (shown_more _ _ (at + 1) b one) in
      let three : Shown (set (set (set l at a) (at + 1) b) (at + 2) c) (((e ++ (a ∷ [])) ++ (b ∷ [])) ++ (c ∷ [])) (at + 3) = subst (λ (i : ℕ). Shown (set (set (set l at a) (at + 1) b) (at + 2) c) (((e ++ (a ∷ [])) ++ (b ∷ [])) ++ (c ∷ [])) i) q (shown_more _ _ (at + 2) c two) in
      subst (λ (x : List ℕ). Shown (put_four l at a b c d) x (at + 4)) (four e a b c d)
      (subst (λ (i : ℕ). Shown (put_four l at a b c d) ((((e ++ (a ∷ [])) ++ (b ∷ [])) ++ (c ∷ [])) ++ (d ∷ [])) i) r (shown_more _ _ (at + 3) d three))

module _ (call span : ℕ) where
  one_report : (v : Violation) → report_entries call span (v ∷ []) ≡ entries_by call span v
  unfolding report_entries
  one_report v = append-nil (entries_by call span v)

  shown_violation : (l e : List ℕ) (at : ℕ) (v : Violation) → Shown l e at → Shown (put_violation l at call span v) (e ++ entries_by call span v) (at + 4)
  shown_violation l e at (Refinement n) s = shown_four l e at call span 0 n s
  shown_violation l e at (Requires n) s = shown_four l e at call span 1 n s

  -- ---- the ways out

  module _ (l : List ℕ) (at : ℕ) (failed : Bool) (v : Violation) where
    pub report_yes : failed ≡ true → (out : List ℕ) → out ≡ put_violation l at call span v → Reports l at call span failed v out (at + 4)
    report_yes f out g e s = rw (f, g, one_report v) (shown_violation l e at v s)

    pub report_no : failed ≡ false → Reports l at call span failed v l at
    unfolding report_entries
    report_no f e s = rw (f, append-nil e) s

  -- a report ahead of others
  pub report_first : (failed : Bool) (v : Violation) (vs : List Violation) → report_entries call span (report failed v vs) ≡ report_entries call span (report failed v []) ++ report_entries call span vs
  unfolding report_entries
  report_first true (Refinement n) vs = refl
  report_first true (Requires n) vs = refl
  report_first false v vs = refl
