-- What is reported of a call: where proving it answers a report, or a report of all calls is one of it, it has a violation, and so a callee.
-- Assumes nothing.
use Rattle.std.specs.Prelude.{◌≡◌, ℕ, zero, suc, ◌+◌, ◌*◌, ◌/◌, ◌<◌, Bool, true, false, cond, ◌⊎◌, List, [], ◌∷◌, ◌++◌, length, nat_lt, slice_index, Ok, Err}
use Rattle.std.proofs.Math.Path.{refl, sym}
use Rattle.std.proofs.Common.{ap, ◌∙◌, subst, inl, inr, arith}
use Rattle.std.proofs.Math.Option.{Option, none, some}
use Rattle.std.proofs.Math.Nat.{div-mul-le_self}
use Rattle.std.proofs.Math.ListN.{get_or-append}
use Rattle.rl_spec.specs.Answers.{Answer, refused, ProveAnswer}
use Rattle.rl_spec.specs.declared.Cause.TheVariants.{NoSuchCall, ReportsTooShort}
use Rattle.rl_spec.specs.declared.Violation.{Violation}
use Rattle.rl_spec.specs.declared.Violation.TheVariants.{Refinement, Requires}
use Rattle.rl_spec.specs.Read.{counts_of, answer_of}
use Rattle.rl_spec.specs.Image.{Image, image_of}
use Rattle.rl_spec.specs.FnContracts.{callee_of}
use Rattle.rl_spec.specs.Prove.{violations_by, violations_of, report_entries, call_entries, all_entries, fitting, prove_from, prove_of, prove_all_from, prove_all_of, all_reports_of}
use Rattle.rl_images.specs.Reading.ReadOutcome.{accepted_header}
use Rattle.rl_theorems.specs.DemandThree.FoldsEntry.{NonEmpty}

-- how many reports an answer has
abbrev reports_in : ProveAnswer → ℕ
reports_in (Ok n) = n
reports_in (Err r) = 0

abbrev IsProved : ProveAnswer → Type 0
IsProved (Ok n) = Unit {0}
IsProved (Err r) = ⊥

-- ---- one call

module _ (s : List ℕ) (call room n : ℕ) (some-reports : n ≡ 0 → ⊥) where
  abbrev im : Image
  im = image_of s

  nothing_refused : {P : Type 0} → 0 ≡ n → P
  nothing_refused e = absurd (some-reports (sym e))

  by_entries : (vs : List Violation) (span : ℕ) → length (report_entries call span vs) / 4 ≡ n → NonEmpty vs
  unfolding report_entries
  by_entries [] span e = nothing_refused e
  by_entries (v ∷ vs) span e = tt

  by_room : (b : Bool) → reports_in (cond b (refused ReportsTooShort 0) (Ok (length (call_entries im call) / 4))) ≡ n →
      NonEmpty (violations_of im call)
  unfolding call_entries
  by_room true e = nothing_refused e
  by_room false e = by_entries (violations_of im call) _ e

  by_call : (b : Bool) → reports_in (cond b (fitting room (call_entries im call)) (refused NoSuchCall 0)) ≡ n →
      NonEmpty (violations_of im call)
  by_call true e = by_room (nat_lt room (length (call_entries im call))) e
  by_call false e = nothing_refused e

  by_answer : (a : Answer) → reports_in (prove_from s call room a) ≡ n → NonEmpty (violations_of im call)
  by_answer (Ok h) e = by_call (nat_lt call h.counts.calls) e
  by_answer (Err r) e = nothing_refused e

  -- THEOREM: a call for which proving answers reports
  pub reported : (k : ℕ) → prove_of s k call room ≡ Ok n → NonEmpty (violations_of im call)
  unfolding prove_of
  reported k e = by_answer (answer_of s k) (ap reports_in e)

-- ---- all calls

-- the j-th four of these entries are of the call
abbrev FourOf : List ℕ → ℕ → ℕ → Type 0
FourOf l j call = (j * 4 < length l) × (slice_index l (j * 4) ≡ call)

-- behind four entries
past_four : (a b c d j call : ℕ) (l : List ℕ) → FourOf (a ∷ b ∷ c ∷ d ∷ l) (suc j) call → FourOf l j call
past_four a b c d j call l h =
    let e : suc j * 4 ≡ suc (suc (suc (suc (j * 4)))) = omega arith in
    (omega (arith, h.0), rw e at h.1)

also : {A B C : Type 0} → (A × B) ⊎ C → (Unit {0} × B) ⊎ C
also (inl x) = inl (tt, x.1)
also (inr y) = inr y

-- among the entries of a call's reports, or behind them
by_reports : (k span : ℕ) (vs : List Violation) (l : List ℕ) (j call : ℕ) → FourOf (report_entries k span vs ++ l) j call →
    (NonEmpty vs × (k ≡ call)) ⊎ ((i : ℕ) × FourOf l i call)
unfolding report_entries
by_reports k span [] l j call h = inr (j, h)
by_reports k span (Refinement n ∷ vs) l zero call h = inl (tt, h.1)
by_reports k span (Requires n ∷ vs) l zero call h = inl (tt, h.1)
by_reports k span (Refinement n ∷ vs) l (suc j) call h = also (by_reports k span vs l j call (past_four k span 0 n j call (report_entries k span vs ++ l) h))
by_reports k span (Requires n ∷ vs) l (suc j) call h = also (by_reports k span vs l j call (past_four k span 1 n j call (report_entries k span vs ++ l) h))

by_calls : (im : Image) (n k j call : ℕ) → FourOf (all_entries im n k) j call → NonEmpty (violations_of im call)
unfolding all_entries call_entries
by_calls im zero k j call h = absurd (omega (arith, h.0))
by_calls im (suc n) k j call h =
    go (λ i. by_calls im n (k + 1) i call) (by_reports k _ (violations_of im k) (all_entries im n (k + 1)) j call h)
  where
    go : ((i : ℕ) → FourOf (all_entries im n (k + 1)) i call → NonEmpty (violations_of im call)) →
        (NonEmpty (violations_of im k) × (k ≡ call)) ⊎ ((i : ℕ) × FourOf (all_entries im n (k + 1)) i call) → NonEmpty (violations_of im call)
    go later (inl x) = subst (λ c. NonEmpty (violations_of im c)) x.1 x.0
    go later (inr x) = later x.0 x.1

module _ (s : List ℕ) (k room n : ℕ) where
  abbrev entries : List ℕ
  entries = all_entries (image_of s) (counts_of s).calls 0

  all_by : (a : Answer) → answer_of s k ≡ a → prove_all_from s room a ≡ Ok n → length entries / 4 ≡ n
  all_by (Err r) d e = absurd (subst IsProved (sym e) tt)
  all_by (Ok h) d e = fits (nat_lt room (length entries)) (rw (accepted_header s k h.arena h.counts d).1 at e)
    where
      fits : (b : Bool) → cond b (refused ReportsTooShort 0) (Ok (length entries / 4)) ≡ Ok n → length entries / 4 ≡ n
      fits true e = absurd (subst IsProved (sym e) tt)
      fits false e = ap reports_in e

  -- THEOREM: a call of which a report of all calls is one, by its first entry
  pub all_reported : (j call : ℕ) → prove_all_of s k room ≡ Ok n → j < n → slice_index (all_reports_of s k room) (j * 4) ≡ call →
      NonEmpty (violations_of (image_of s) call)
  unfolding prove_all_of all_reports_of
  all_reported j call e l d =
      let many : length entries / 4 ≡ n = all_by (answer_of s k) refl e in
      let inside : j * 4 < length entries = omega (arith, many, div-mul-le_self (length entries) 4) in
      by_calls (image_of s) (counts_of s).calls 0 j call
      (inside, sym (get_or-append entries _ 0 (j * 4) inside) ∙ (rw e at d))

-- ---- the callee

has_callee : (im : Image) (call : ℕ) (o : Option ℕ) → NonEmpty (violations_by im call o) → (f : ℕ) × (o ≡ some f)
has_callee im call none z = absurd z
has_callee im call (some f) z = (f, refl)

-- THEOREM: a call with a violation has a callee
pub violated_callee : (im : Image) (call : ℕ) → NonEmpty (violations_of im call) → (f : ℕ) × (callee_of im call ≡ some f)
unfolding violations_of
violated_callee im call z = has_callee im call (callee_of im call) z
