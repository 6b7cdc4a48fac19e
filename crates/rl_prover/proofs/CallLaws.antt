-- One law for each way out of the functions that prove a call.
-- Assumes nothing.
use Prim.Native.Nat.{ℕ, ◌*◌, ◌≤◌}
use mathlib.Core.Path.{◌≡◌, refl, sym, ap, subst, ◌∙◌}
use mathlib.Core.List.{List, [], ◌∷◌, ◌++◌, append-nil, append_assoc}
use native.Mathlib.Omega.{arith}
use lib.ListN.{length, replicate}
use Rattle.rl_laws.specs.Found.{size_found}
use Rattle.rl_spec.specs.declared.Call.{Call}
use Rattle.rl_spec.specs.declared.Counts.{Counts}
use Rattle.rl_spec.specs.declared.Function.{Function}
use Rattle.rl_spec.specs.declared.Interval.{Interval}
use Rattle.rl_spec.specs.declared.Section.TheVariants.{Functions}
use Rattle.rl_spec.specs.declared.Violation.{Violation}
use Rattle.rl_spec.specs.Image.{Image, text_of}
use Rattle.rl_spec.specs.Fold.{Binding}
use Rattle.rl_spec.specs.Found.{image_found}
use Rattle.rl_spec.specs.Records.{function_at, call_at}
use Rattle.rl_spec.specs.FnContracts.{contracts_of, callee_among, callee_of, arguments_of}
use Rattle.rl_spec.specs.Prove.{bind_arguments, failed_refinements, failed_requires, prove_call, violations_of, entries_by, report_entries}
use Rattle.rl_memory.specs.Memory.{Right}
use Rattle.rl_memory.proofs.Names.{cleared_right}
use Rattle.rl_names.specs.Names.{Classes}
use Rattle.rl_fold.specs.Folding.{folded_at}
use Rattle.rl_spec.specs.Answers.{Optional}
use Rattle.std.specs.Prelude.{None, Some}
use Rattle.rl_prover.specs.Callees.{callee_in}
use Rattle.rl_prover.specs.Passes.{BindsAll, params_in, args_in, clauses_in}
use Rattle.rl_prover.specs.Reports.{Shown}
use Rattle.rl_prover.specs.Violations.{ReportsRefinements, ReportsRequires}
use Rattle.rl_prover.specs.Calls.{ProvesCallee, ProvesCall}

both : (call span : ℕ) (vs us : List Violation) → report_entries call span (vs ++ us) ≡ report_entries call span vs ++ report_entries call span us
unfolding report_entries
both call span [] us = refl
both call span (v ∷ vs) us = ap (λ (l : List ℕ). entries_by call span v ++ l) (both call span vs us) ∙ sym (append_assoc (entries_by call span v) (report_entries call span vs) (report_entries call span us))

-- ---- by its callee

module _ (s p : List ℕ) (c : Counts) (cs : List ℕ) (f : ℕ) (g : Function) (h : (o : List ℕ) → g ≡ function_at (image_found s o c) f) (args : Interval) (call span : ℕ) where
  abbrev im : Image
  im = image_found s p c

  abbrev env : List (Binding ℕ)
  env = bind_arguments (text_of im) [] (params_in im g.params) (args_in im args)

  whole : report_entries call span (failed_refinements (text_of im) env 0 (params_in im g.params) (args_in im args)) ++ report_entries call span (failed_requires (text_of im) env 0 (clauses_in im g.required)) ≡ report_entries call span (prove_call (text_of im) (contracts_of im f) (args_in im args))
  unfolding prove_call contracts_of
  whole = sym (both call span _ _) ∙ rw (← h p) refl

  pub callee_proves : (w l m₀ m w₁ m₁ m₂ l₁ m₃ l₂ : List ℕ) (count start at r : ℕ) → m ≡ replicate (length m₀) 0 → BindsAll im cs g.params args w m w₁ count m₁ → ReportsRefinements im cs w₁ count m₁ g.params args call span l start m₂ l₁ at → ReportsRequires im cs w₁ count m₂ g.required call span l₁ at m₃ l₂ r → ProvesCallee im cs f args call span w l start l₂ r
  callee_proves w l m₀ m w₁ m₁ m₂ l₁ m₃ l₂ count start at r z a b d cl room e sh =
      let enough : g.params.count * 3 ≤ length w = subst (λ (x : Function). x.params.count * 3 ≤ length w) (sym (h p)) (room f) in
      let bound = a cl enough (subst (λ (x : List ℕ). Right (folded_at im []) 0 x) (sym z) (cleared_right (folded_at im []) 0 (length m₀))) in
      let first = b env e (record { passing = bound; shown = sh }) in
      let second = d env (e ++ report_entries call span (failed_refinements (text_of im) env 0 (params_in im g.params) (args_in im args))) first in
      subst (λ (x : List ℕ). Shown l₂ x r) (append_assoc e _ _ ∙ ap (λ (x : List ℕ). e ++ x) whole) second.shown

-- ---- a call

module _ (s p : List ℕ) (c : Counts) (cs : List ℕ) (call : ℕ) (w l : List ℕ) (start : ℕ) where
  pub call_far : 1125899906842624 ≤ start → ProvesCall (image_found s p c) cs call w l start l start
  call_far h near = absurd (omega arith)

  module _ (k : Call) (q : (o : List ℕ) → k ≡ call_at (image_found s o c) call) (y : Optional) (a : (o : List ℕ) → Classes (text_of (image_found s o c)) cs → callee_in y ≡ callee_among (image_found s o c) (text_of (image_found s o c) k.callee) c.functions) where
    found : Classes (text_of (image_found s p c)) cs → callee_of (image_found s p c) call ≡ callee_in y
    unfolding callee_of
    found cl =
        sym
        (a p cl ∙ ap (λ (x : Call). callee_among (image_found s p c) (text_of (image_found s p c) x.callee) c.functions) (q p)
        ∙ ap (λ (n : ℕ). callee_among (image_found s p c) (text_of (image_found s p c) (call_at (image_found s p c) call).callee) n) (sym (size_found s p c Functions)))

    pub call_missing : y ≡ None → ProvesCall (image_found s p c) cs call w l start l start
    unfolding violations_of report_entries
    call_missing z near cl room e sh = rw (found cl, z, append-nil e) sh

    pub call_found : (f : ℕ) → y ≡ Some f → (out : List ℕ) (r : ℕ) → ProvesCallee (image_found s p c) cs f k.args call k.span w l start out r → ProvesCall (image_found s p c) cs call w l start out r
    unfolding violations_of arguments_of
    call_found f z out r x near cl room e sh =
        rw (found cl, z, ← q p) (x cl room e sh)
