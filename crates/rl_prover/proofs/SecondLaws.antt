-- The second pass: what stands before each refinement and before each clause.
-- Assumes nothing.
use Prim.Native.Nat.{ℕ, ◌+◌, ◌-◌, ◌*◌, ◌≤◌, ◌<◌, min}
use mathlib.Core.Path.{◌≡◌, refl, sym, ap, subst, ◌∙◌}
use mathlib.Core.Bool.{Bool}
use mathlib.Core.List.{List, [], ◌∷◌, ◌++◌, append-nil, append_assoc, map}
use native.Mathlib.Omega.{arith}
use lib.ListN.{length}
use Rattle.rl_laws.specs.Tests.{by_ltb}
use Rattle.rl_spec.specs.declared.Clause as written
use Rattle.rl_spec.specs.declared.Counts.{Counts}
use Rattle.rl_spec.specs.declared.Interval.{Interval}
use Rattle.rl_spec.specs.declared.Param as declared
use Rattle.rl_spec.specs.declared.Violation.{Violation}
use Rattle.rl_spec.specs.declared.Violation.TheVariants.{Refinement, Requires}
use Rattle.rl_spec.specs.Image.{Image, text_of, entry_of}
use Rattle.rl_spec.specs.Fold.{Binding}
use Rattle.rl_spec.specs.Found.{image_found}
use Rattle.rl_spec.specs.Records.{param_at, clause_at}
use Rattle.rl_spec.specs.Ranges.{up_from}
use Rattle.rl_spec.specs.FnContracts.{Param, ContractClause, param_of, clause_of}
use Rattle.rl_spec.specs.Prove.{report, failed_refinements, failed_requires, report_entries}
use Rattle.rl_prover.specs.Passes.{Passing, params_in, args_in, clauses_in}
use Rattle.rl_prover.specs.Reports.{Reports}
use Rattle.rl_prover.specs.Violations.{FailsRefinement, FailsClause, Reported, ReportsRefinements, ReportsRequires}
use Rattle.rl_prover.proofs.ListLaws.{from_start, from_end, from_next}
use Rattle.rl_prover.proofs.PassLaws.{params_from, args_from}
use Rattle.rl_prover.proofs.ReportLaws.{report_first}

-- ---- any list of violations: left says which are left from the i-th on

module _ (im : Image) (cs w : List ℕ) (count call span : ℕ) (left : List (Binding ℕ) → ℕ → List Violation) where
  pub record Shown-so-far (env : List (Binding ℕ)) (e₀ m l : List ℕ) (at i : ℕ) : Type 0 where
    pub entries : List ℕ
    pub reported : Reported im env cs w count m l entries at
    pub rest : e₀ ++ report_entries call span (left env 0) ≡ entries ++ report_entries call span (left env i)

  -- before the i-th of `most`
  pub record Before (m₀ l₀ : List ℕ) (start most : ℕ) (m l : List ℕ) (at i : ℕ) : Type 0 where
    pub within : i ≤ most
    pub near : at ≤ start + i * 4
    pub size : length m ≡ length m₀
    pub width : length l ≡ length l₀
    pub so_far : (env : List (Binding ℕ)) (e : List ℕ) → Reported im env cs w count m₀ l₀ e start → Shown-so-far env e m l at i

  module _ (m₀ l₀ : List ℕ) (start most : ℕ) where
    begin : Before m₀ l₀ start most m₀ l₀ start 0
    begin =
        record {
          within = omega arith;
          near = omega arith;
          size = refl;
          width = refl;
          so_far = λ env e r. record { entries = e; reported = r; rest = refl };
        }

    module _ (m l : List ℕ) (at i : ℕ) (b : Before m₀ l₀ start most m l at i) where
      end : ((env : List (Binding ℕ)) → left env i ≡ []) → (env : List (Binding ℕ)) (e : List ℕ) → Reported im env cs w count m₀ l₀ e start → Reported im env cs w count m l (e ++ report_entries call span (left env 0)) at
      unfolding report_entries
      end none env e r =
          let s = b.so_far env e r in
          subst (λ (x : List ℕ). Reported im env cs w count m l x at) (sym (s.rest ∙ rw (none env) (append-nil s.entries))) s.reported

      module _ (failed : Bool) (v : Violation) (mid out : List ℕ) (r : ℕ) where
        next : i < most → ((env : List (Binding ℕ)) → Passing im env cs w count m → (left env i ≡ report failed v (left env (i + 1))) × Passing im env cs w count mid) → length mid ≡ length m → Reports l at call span failed v out r → r ≤ at + 4 → length out ≡ length l → Before m₀ l₀ start most mid out r (i + 1)
        next h f n g k o =
            let close = b.near in
            record {
              within = omega arith;
              near = omega arith;
              size = n ∙ b.size;
              width = o ∙ b.width;
              so_far =
                  λ env e q.
                  let s = b.so_far env e q in
                  let x = f env s.reported.passing in
                  record {
                    entries = s.entries ++ report_entries call span (report failed v []);
                    reported = record { passing = x.1; shown = g s.entries s.reported.shown };
                    rest =
                        s.rest ∙ ap (λ (y : List Violation). s.entries ++ report_entries call span y) x.0
                        ∙ ap (λ (y : List ℕ). s.entries ++ y) (report_first call span failed v (left env (i + 1)))
                        ∙ sym (append_assoc s.entries (report_entries call span (report failed v [])) (report_entries call span (left env (i + 1))));
                  };
            }

-- ---- refinements

abbrev pub refinements_left : Image → Interval → Interval → List (Binding ℕ) → ℕ → List Violation
refinements_left im q a env i = failed_refinements (text_of im) env i (params_from im q i) (args_from im a i)

module _ (s p : List ℕ) (c : Counts) (cs w : List ℕ) (count call span : ℕ) (q a : Interval) (m₀ l₀ : List ℕ) (start : ℕ) where
  abbrev pub Refining : ℕ → List ℕ → List ℕ → ℕ → ℕ → Type 0
  Refining most m l at i =
      (most ≡ min q.count a.count) × Before (image_found s p c) cs w count call span (refinements_left (image_found s p c) q a) m₀ l₀ start most m l at i

  pub refining_start : (most : ℕ) → most ≡ min q.count a.count → Refining most m₀ l₀ start 0
  refining_start most e = (e, begin (image_found s p c) cs w count call span (refinements_left (image_found s p c) q a) m₀ l₀ start most)

  module _ (most : ℕ) (m l : List ℕ) (at i : ℕ) (b : Refining most m l at i) where
    none_left : most ≤ i → (env : List (Binding ℕ)) → refinements_left (image_found s p c) q a env i ≡ []
    unfolding failed_refinements
    none_left h env =
        let e = b.0 in
        by_ltb i q.count
        (λ k. rw (from_end a.first a.count i (omega arith)) (no_args_lem (params_from (image_found s p c) q i)))
        (λ k. rw (from_end q.first q.count i k) refl)
      where
        no_args_lem : (ps : List (Param ℕ)) → failed_refinements (text_of (image_found s p c)) env i ps [] ≡ []
        no_args_lem [] = refl
        no_args_lem (x ∷ ps) = refl

    pub refining_end : most ≤ i → ReportsRefinements (image_found s p c) cs w count m₀ q a call span l₀ start m l at
    refining_end h env e r =
        subst (λ (x : List Violation). Reported (image_found s p c) env cs w count m l (e ++ report_entries call span x) at) (whole env)
        (end (image_found s p c) cs w count call span (refinements_left (image_found s p c) q a) m₀ l₀ start most m l at i b.1 (none_left h) env e r)
      where
        whole : (env : List (Binding ℕ)) → refinements_left (image_found s p c) q a env 0 ≡ failed_refinements (text_of (image_found s p c)) env 0 (params_in (image_found s p c) q) (args_in (image_found s p c) a)
        whole env = rw (from_start q.first q.count, from_start a.first a.count) refl

    pub refining_next : i < most → (arg : ℕ) → ((o : List ℕ) → arg ≡ entry_of (image_found s o c) (a.first + i)) → (param : declared.Param) → ((o : List ℕ) → param ≡ param_at (image_found s o c) (q.first + i)) → (failed : Bool) (mid : List ℕ) → FailsRefinement (image_found s p c) cs w count m param.refinement arg failed mid → length mid ≡ length m → (out : List ℕ) (r : ℕ) → Reports l at call span failed (Refinement i) out r → r ≤ at + 4 → length out ≡ length l → Refining most mid out r (i + 1)
    unfolding failed_refinements param_of
    refining_next h arg e param f failed mid g n out r k x y =
        let least = b.0 in
        let first : i < q.count = omega arith in
        let second : i < a.count = omega arith in (
          least,
          next (image_found s p c) cs w count call span (refinements_left (image_found s p c) q a) m₀ l₀ start most m l at i b.1 failed (Refinement i) mid out r h
              (λ env z.
              let t = g env z in
              (rw (from_next q.first q.count i first, from_next a.first a.count i second, ← f p, ← e p, ← t.0) refl, t.1))
              n k x y,
        )

-- ---- requires

abbrev pub clauses_from : Image → Interval → ℕ → List (ContractClause ℕ)
clauses_from im q i = map (clause_of im) (up_from (q.first + i) (q.count - i))

abbrev pub requires_left : Image → Interval → List (Binding ℕ) → ℕ → List Violation
requires_left im q env i = failed_requires (text_of im) env i (clauses_from im q i)

module _ (s p : List ℕ) (c : Counts) (cs w : List ℕ) (count call span : ℕ) (q : Interval) (m₀ l₀ : List ℕ) (start : ℕ) where
  abbrev pub Requiring : List ℕ → List ℕ → ℕ → ℕ → Type 0
  Requiring m l at i =
      Before (image_found s p c) cs w count call span (requires_left (image_found s p c) q) m₀ l₀ start q.count m l at i

  pub requiring_start : Requiring m₀ l₀ start 0
  requiring_start = begin (image_found s p c) cs w count call span (requires_left (image_found s p c) q) m₀ l₀ start q.count

  module _ (m l : List ℕ) (at i : ℕ) (b : Requiring m l at i) where
    pub requiring_end : q.count ≤ i → ReportsRequires (image_found s p c) cs w count m₀ q call span l₀ start m l at
    unfolding failed_requires
    requiring_end h env e r =
        subst (λ (x : List Violation). Reported (image_found s p c) env cs w count m l (e ++ report_entries call span x) at) (whole env)
        (end (image_found s p c) cs w count call span (requires_left (image_found s p c) q) m₀ l₀ start q.count m l at i b (λ v. rw (from_end q.first q.count i h) refl) env e r)
      where
        whole : (env : List (Binding ℕ)) → requires_left (image_found s p c) q env 0 ≡ failed_requires (text_of (image_found s p c)) env 0 (clauses_in (image_found s p c) q)
        whole env = rw (from_start q.first q.count) refl

    pub requiring_next : i < q.count → (clause : written.Clause) → ((o : List ℕ) → clause ≡ clause_at (image_found s o c) (q.first + i)) → (failed : Bool) (mid : List ℕ) → FailsClause (image_found s p c) cs w count m clause.condition failed mid → length mid ≡ length m → (out : List ℕ) (r : ℕ) → Reports l at call span failed (Requires i) out r → r ≤ at + 4 → length out ≡ length l → Requiring mid out r (i + 1)
    unfolding failed_requires clause_of
    requiring_next h clause f failed mid g n out r k x y =
        next (image_found s p c) cs w count call span (requires_left (image_found s p c) q) m₀ l₀ start q.count m l at i b failed (Requires i) mid out r h
        (λ env z.
        let t = g env z in
        (rw (from_next q.first q.count i h, ← f p, ← t.0) refl, t.1))
        n k x y
