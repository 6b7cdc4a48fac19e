-- What proving answers: by the reader's table, then 17 and 18 for one call, 18 for all calls.
-- Assumes nothing.
use Rattle.std.specs.Prelude.{◌≡◌, ℕ, zero, suc, ◌+◌, ◌*◌, ◌/◌, ◌<◌, ◌↔◌, List, [], ◌∷◌, ◌++◌, length, ◌≢◌, nat_lt, refl, Ok}
use Rattle.std.proofs.Common.{sym, ap, ◌∙◌, subst, arith, length-append}
use borrow.Author.Tests.{ltb-true, ltb-false}
use Rattle.rl_spec.specs.declared.Cause.{Cause}
use Rattle.rl_spec.specs.declared.Cause.TheVariants.{ReportsTooShort}
use Rattle.rl_spec.specs.declared.Section.TheVariants.{Calls}
use Rattle.rl_spec.specs.Answers.{refused}
use Rattle.rl_spec.specs.Image.{Image, size_of, image_of}
use Rattle.rl_spec.specs.Records.{call_at}
use Rattle.rl_spec.specs.Prove.{violations_of, call_entries, all_entries, fitting, prove_from, prove_of, prove_all_from, prove_all_of}
use Rattle.rl_images.specs.Reading.Table.{row, Unmet, First, By, accepts, checks, checks_not, refuses_exactly, accepts_exactly}
use Rattle.rl_images.specs.Reading.Rows.{read_rows}
use Rattle.rl_images.specs.Reading.Starts.{sizes_are_counts}
use Rattle.rl_images.specs.Images.Reports.{entries_length}
use Rattle.rl_theorems.specs.Answers.Tables.{prove_rows, reports_from, prove_all_rows}
use Rattle.rl_theorems.specs.Answers.AfterReading.{after_reading}
use Rattle.rl_laws.specs.AnswerLaws.{same_refusal}
use Rattle.rl_spec.specs.Answers.{ProveAnswer}

-- ---- four entries a report

call_length : (im : Image) (call : ℕ) → length (call_entries im call) ≡ 4 * length (violations_of im call)
unfolding call_entries
call_length im call = omega (arith, entries_length call (call_at im call).span (violations_of im call))

pub all_length : (im : Image) (n i : ℕ) → length (all_entries im n i) ≡ 4 * reports_from im n i
unfolding all_entries reports_from
all_length im zero i = refl
all_length im (suc n) i =
    length-append (call_entries im i) (all_entries im n (i + 1)) ∙ omega (arith, call_length im i, all_length im n (i + 1))

-- ---- the answer

differ : {m : ℕ} {q : Cause} {p : ℕ} → Ok m ≢ refused q p
differ e = let z : ◌≡◌ {A = ℕ} 0 1 = cc in omega arith

same : {m n : ℕ} → ◌≡◌ {A = ProveAnswer} (Ok m) (Ok n) → m ≡ n
same e = cc

fitting_by : (room : ℕ) (e : List ℕ) (n : ℕ) → length e ≡ 4 * n → By refused (row ReportsTooShort 0 (room < 4 * n) ∷ []) (Ok n) (fitting room e)
fitting_by room e n q =
    checks (nat_lt room (length e)) (λ d. omega (arith, q, ltb-true room (length e) d)) (λ d h. omega (arith, q, ltb-false room (length e) d, h))
    (let m : n ≡ length e / 4 = omega (arith, q) in subst (λ i. By refused [] (Ok n) (Ok i)) m (accepts tt))

module _ (s : List ℕ) (k : ℕ) where
  module _ (call room : ℕ) where
    -- THEOREM
    pub prove_by : By refused (read_rows s k ++ prove_rows (image_of s) call room) (Ok (length (violations_of (image_of s) call))) (prove_of s k call room)
    unfolding prove_of
    prove_by =
        after_reading s k (prove_rows (image_of s) call room) (prove_from s call room) (λ q n. refl) λ a c e.
        let size = sizes_are_counts s k a c e Calls in
        checks_not (nat_lt call c.calls) (λ d. omega (arith, size, ltb-false call c.calls d))
        (λ d h. omega (arith, size, ltb-true call c.calls d, h))
        (fitting_by room (call_entries (image_of s) call) (length (violations_of (image_of s) call)) (call_length (image_of s) call))

    -- THEOREMS: so
    pub prove_refuses : (q : Cause) (p : ℕ) → (prove_of s k call room ≡ refused q p) ↔ First (read_rows s k ++ prove_rows (image_of s) call room) q p
    prove_refuses = refuses_exactly (λ q q' p p' e. same_refusal e) (λ u q p. differ) prove_by

    pub prove_accepts : (n : ℕ) → (prove_of s k call room ≡ Ok n) ↔ (Unmet (read_rows s k ++ prove_rows (image_of s) call room) × (length (violations_of (image_of s) call) ≡ n))
    prove_accepts n =
        let x = accepts_exactly (Ok n) (λ q p e. differ (sym e)) prove_by in
        (λ e. ((x.0 e).0, same (x.0 e).1), λ y. x.1 (y.0, ap Ok y.1))

  module _ (room : ℕ) where
    -- all reports
    abbrev reports : ℕ
    reports = reports_from (image_of s) (size_of (image_of s) Calls) 0

    -- THEOREM
    pub prove_all_by : By refused (read_rows s k ++ prove_all_rows (image_of s) room) (Ok reports) (prove_all_of s k room)
    unfolding prove_all_of
    prove_all_by =
        after_reading s k (prove_all_rows (image_of s) room) (prove_all_from s room) (λ q n. refl) λ a c e.
        fitting_by room (all_entries (image_of s) c.calls 0) reports
        (subst (λ i. length (all_entries (image_of s) i 0) ≡ 4 * reports) (sizes_are_counts s k a c e Calls)
        (all_length (image_of s) (size_of (image_of s) Calls) 0))

    -- THEOREMS: so
    pub prove_all_refuses : (q : Cause) (p : ℕ) → (prove_all_of s k room ≡ refused q p) ↔ First (read_rows s k ++ prove_all_rows (image_of s) room) q p
    prove_all_refuses = refuses_exactly (λ q q' p p' e. same_refusal e) (λ u q p. differ) prove_all_by

    pub prove_all_accepts : (n : ℕ) → (prove_all_of s k room ≡ Ok n) ↔ (Unmet (read_rows s k ++ prove_all_rows (image_of s) room) × (reports ≡ n))
    prove_all_accepts n =
        let x = accepts_exactly (Ok n) (λ q p e. differ (sym e)) prove_all_by in
        (λ e. ((x.0 e).0, same (x.0 e).1), λ y. x.1 (y.0, ap Ok y.1))
