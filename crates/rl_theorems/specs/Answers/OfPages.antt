-- What is answered for the pages: by the reader's table, then 22.
-- Assumes nothing.
use Rattle.std.specs.Prelude.{◌≡◌, ℕ, ◌<◌, cond, ◌↔◌, List, [], ◌∷◌, ◌++◌, length, ◌≢◌, nat_lt, refl, Ok}
use Rattle.std.proofs.Common.{sym, ap, arith, ltb-true, ltb-false}
use Rattle.rl_spec.specs.declared.Cause.{Cause}
use Rattle.rl_spec.specs.declared.Cause.TheVariants.{PagesTooShort}
use Rattle.rl_spec.specs.Answers.{refused}
use Rattle.rl_spec.specs.declared.Section.TheVariants.{Calls}
use Rattle.rl_spec.specs.Image.{size_of, image_of}
use Rattle.rl_spec.specs.Pages.{pages_of, pages_from, pages_answer}
use Rattle.rl_images.specs.Reading.Table.{row, Unmet, First, By, accepts, checks, refuses_exactly, accepts_exactly}
use Rattle.rl_images.specs.Reading.Rows.{read_rows}
use Rattle.rl_images.specs.Reading.Starts.{sizes_are_counts}
use Rattle.rl_theorems.specs.Answers.Tables.{pages_rows}
use Rattle.rl_theorems.specs.Answers.AfterReading.{after_reading}
use Rattle.rl_laws.specs.AnswerLaws.{same_refusal}
use Rattle.rl_spec.specs.Answers.{PagesAnswer}

differ : {m : ℕ} {q : Cause} {p : ℕ} → Ok m ≢ refused q p
differ e = let z : ◌≡◌ {A = ℕ} 0 1 = cc in omega arith

same : {m n : ℕ} → ◌≡◌ {A = PagesAnswer} (Ok m) (Ok n) → m ≡ n
same e = cc

fitting_by : (room n : ℕ) → By refused (row PagesTooShort 0 (room < n) ∷ []) (Ok n) (cond (nat_lt room n) (refused PagesTooShort 0) (Ok n))
fitting_by room n = checks (nat_lt room n) (ltb-true room n) (λ d h. omega (arith, ltb-false room n d, h)) (accepts tt)

module _ (s : List ℕ) (k room : ℕ) where
  -- the bytes of all pages
  abbrev bytes : ℕ
  bytes = length (pages_of (image_of s) (size_of (image_of s) Calls))

  -- THEOREM
  pub pages_by_lem : By refused (read_rows s k ++ pages_rows (image_of s) room) (Ok bytes) (pages_answer s k room)
  unfolding pages_answer
  pages_by_lem =
      after_reading s k (pages_rows (image_of s) room) (pages_from s room) (λ q n. refl) λ a c e.
      rw (← sizes_are_counts s k a c e Calls) (fitting_by room bytes)

  -- THEOREMS: so
  pub pages_refuses : (q : Cause) (p : ℕ) → (pages_answer s k room ≡ refused q p) ↔ First (read_rows s k ++ pages_rows (image_of s) room) q p
  pages_refuses = refuses_exactly (λ q q' p p' e. same_refusal e) (λ u q p. differ) pages_by_lem

  pub pages_accepts : (n : ℕ) → (pages_answer s k room ≡ Ok n) ↔ (Unmet (read_rows s k ++ pages_rows (image_of s) room) × (bytes ≡ n))
  pages_accepts n =
      let x = accepts_exactly (Ok n) (λ q p e. differ (sym e)) pages_by_lem in
      (λ e. ((x.0 e).0, same (x.0 e).1), λ y. x.1 (y.0, ap Ok y.1))
