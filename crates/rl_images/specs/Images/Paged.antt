-- Lines on pages of 60: one after another they are the lines and then blank ones, up to a whole page; and how many pages there are.
-- Assumes nothing.
use Rattle.std.specs.Prelude.{ℕ, zero, suc, ◌+◌, ◌-◌, ◌/◌, ◌%◌, ◌≤◌, ◌<◌, ◌≡◌, refl, take, drop}
use Rattle.std.proofs.Common.{sym, ◌∙◌, take-append-drop, take_all}
use Rattle.std.proofs.Math.Path.{ap}
use mathlib.Core.List.{List, [], ◌∷◌, ◌++◌, append_assoc, append-nil}
use native.Mathlib.Omega.{arith}
use Rattle.std.proofs.Math.ListN.{length, replicate, length-take, length-drop, drop_of_length-le}
use Rattle.rl_spec.specs.Pages.{spaces, page, pages_by, on_pages}
use Rattle.rl_spec.specs.Printed.{joined}
use Rattle.rl_laws.specs.Tests.{by_ltb}

-- how many blank lines the last page has behind so many lines
abbrev pub blanks : ℕ → ℕ
blanks n = (60 - n % 60) % 60

-- lines, and blank ones up to a whole page
abbrev filled : List (List ℕ) → List (List ℕ)
filled lines = lines ++ replicate (blanks (length lines)) (spaces 72)

-- a page ahead of the others
module _ (lines : List (List ℕ)) where
  page_last : length lines < 60 → 0 < length lines → page (take 60 lines) ++ filled (drop 60 lines) ≡ filled lines
  unfolding page
  page_last l p =
      let few : 60 - length lines ≡ blanks (length lines) = omega arith in
      rw (take_all 60 lines (omega arith), drop_of_length-le lines {i = 60} (omega arith), few) (append-nil (filled lines))

  page_full : 60 ≤ length lines → page (take 60 lines) ++ filled (drop 60 lines) ≡ filled lines
  unfolding page
  page_full l =
      let none : 60 - length (take 60 lines) ≡ 0 = omega (arith, length-take 60 lines) in
      let same : blanks (length (drop 60 lines)) ≡ blanks (length lines) = omega (arith, length-drop 60 lines) in
      let blank : List (List ℕ) = replicate (blanks (length lines)) (spaces 72) in
      rw (none, same, append-nil (take 60 lines))
      (sym (append_assoc (take 60 lines) (drop 60 lines) blank) ∙ ap (λ (x : List (List ℕ)). x ++ blank) (take-append-drop 60 lines))

  page_then : 0 < length lines → page (take 60 lines) ++ filled (drop 60 lines) ≡ filled lines
  page_then p = by_ltb (length lines) 60 (λ l. page_last l p) page_full

paged_by : (n : ℕ) (lines : List (List ℕ)) → length lines ≤ n → joined (pages_by n lines) ≡ filled lines
unfolding pages_by joined
paged_by zero [] l = refl
paged_by zero (line ∷ lines) l = absurd (omega arith)
paged_by (suc n) [] l = refl
paged_by (suc n) (line ∷ lines) l =
    ap (λ (x : List (List ℕ)). page (take 60 (line ∷ lines)) ++ x)
    (paged_by n (drop 60 (line ∷ lines)) (omega (arith, length-drop 60 (line ∷ lines))))
    ∙ page_then (line ∷ lines) (omega arith)

-- THEOREM
pub paged : (lines : List (List ℕ)) → joined (on_pages lines) ≡ lines ++ replicate ((60 - length lines % 60) % 60) (spaces 72)
unfolding on_pages
paged lines = paged_by (length lines) lines (omega arith)

count_by : (n : ℕ) (lines : List (List ℕ)) → length lines ≤ n → length (pages_by n lines) ≡ (length lines + 59) / 60
unfolding pages_by
count_by zero [] l = refl
count_by zero (line ∷ lines) l = absurd (omega arith)
count_by (suc n) [] l = refl
count_by (suc n) (line ∷ lines) l =
    let less : length (drop 60 (line ∷ lines)) ≡ length (line ∷ lines) - 60 = length-drop 60 (line ∷ lines) in
    omega (arith, count_by n (drop 60 (line ∷ lines)) (omega arith))

-- THEOREM: there is a page for each 60 lines or part of them
pub pages_count : (lines : List (List ℕ)) → length (on_pages lines) ≡ (length lines + 59) / 60
unfolding on_pages
pages_count lines = count_by (length lines) lines (omega arith)
