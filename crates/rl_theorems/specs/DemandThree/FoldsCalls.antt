-- DEMAND 3, SECOND HALF, on definitions: a call that has a report never passes its callee's entry checks.
-- Assumes nothing.
use Rattle.std.specs.Prelude.{◌≡◌, ℕ, Bool, List, [], map, ◌≢◌}
use Rattle.std.proofs.Common.{subst}
use Rattle.std.proofs.Math.Path.{subst⁻¹}
use Rattle.std.proofs.lemmas.Simd.{map-map}
use Rattle.std.proofs.Math.Option.{Option, some}
use Rattle.rl_spec.specs.Image.{Image, text_of}
use Rattle.rl_spec.specs.Fold.{Binding, lookup}
use Rattle.rl_spec.specs.Tree.{Expr, ascii}
use Rattle.rl_spec.specs.Records.{function_at}
use Rattle.rl_spec.specs.FnContracts.{Param, contracts_of, callee_of, arguments_of}
use Rattle.rl_spec.specs.Prove.{bind_arguments, prove_call, violations_by, violations_of}
use Rattle.rl_spec.specs.Mapped.{Text, map_param}
use Rattle.rl_spec.specs.Functions.{contract_function}
use Rattle.rl_spec.specs.Run.{Value, Env, Result, got, and_then}
use Rattle.rl_spec.specs.Reading.{Check, bind_all, checks, entering}
use Rattle.rl_theorems.specs.Runs.Texts.{same}
use Rattle.rl_theorems.specs.DemandThree.Folds.{Agrees, none≢some}
use Rattle.rl_theorems.specs.DemandThree.FoldsChecks.{Over, over, never_got, Fails, checks_over}
use Rattle.rl_theorems.specs.Runs.FoldsTexts.{map_names}
use Rattle.rl_theorems.specs.DemandThree.FoldsEntry.{NonEmpty, Clean, entry_fails}
use Rattle.rl_theorems.specs.DemandThree.FoldsNames.{AllNoNames, Distinct, Values, fresh_none, paired, Enters, entered, refused, enters}

-- no name is known before the first argument
nothing_known : (f : ℕ → Text) → Agrees same (map_names f []) []
unfolding lookup
nothing_known f x w e = absurd (none≢some e)

-- the checks after the bindings
checked : (f : ℕ → Text) (r : Bool) (cs : List (Check Text)) (names : List (Binding ℕ)) {x : Result Text (Unit {0})} → Enters f names x → Fails same (map_names f names) cs →
    Over (and_then x (λ _. checks same r cs))
checked f r cs names (entered {env = env} {m = m} g) h = checks_over same r cs (map_names f names) env g h m
checked f r cs names refused h = over

module _ (im : Image) where
  -- what is asked of a call with these arguments and values: the parameters' names differ, no argument holds an identifier, no
  -- condition of a requires holds an assignment, and a parameter has the value that its argument folds to, where it folds
  pub record Asked (f : ℕ) (args : List (Expr ℕ)) (vs : List (Value Text)) : Type 0 where
    pub distinct : Distinct (text_of im) (contracts_of im f).params
    pub closed : AllNoNames args
    pub clean : Clean (contracts_of im f).requires
    pub values : Values (text_of im) (contracts_of im f).params args vs

  pub entering_over : (f : ℕ) (args : List (Expr ℕ)) (vs : List (Value Text)) → Asked f args vs → NonEmpty (prove_call (text_of im) (contracts_of im f) args) →
      (budget : ℕ) → Over (entering same (contract_function im f) vs [] budget)
  unfolding contract_function prove_call
  entering_over f args vs h z budget =
      let ps : List (Param ℕ) = (contracts_of im f).params in
      let names : List (Binding ℕ) = bind_arguments (text_of im) [] ps args in
      let cs : List (Check Text) = (contract_function im f).entry in
      let fails : Fails same (map_names (text_of im) names) cs =
      entry_fails (text_of im) names (ascii "requires violated") ps args (contracts_of im f).requires (paired (text_of im) [] ps args h.distinct h.closed) h.clean z in
      let goes : Enters (text_of im) names (bind_all (map (λ p. text_of im p.name) ps) vs [] budget) =
      enters (text_of im) [] ps args vs h.distinct (fresh_none (text_of im) ps) h.closed h.values [] budget (nothing_known (text_of im)) in
      subst⁻¹ (λ l. Over (and_then (bind_all l vs [] budget) (λ _. checks same (function_at im f).result cs))) (map-map (λ p. p.name) (map_param (text_of im)) ps)
      (checked (text_of im) (function_at im f).result cs names goes fails)

  by_callee : (call : ℕ) (o : Option ℕ) (f : ℕ) → o ≡ some f → NonEmpty (violations_by im call o) → NonEmpty (prove_call (text_of im) (contracts_of im f) (arguments_of im call))
  by_callee call o f e z = subst (λ c. NonEmpty (violations_by im call c)) e z

  -- A CALL THAT HAS A REPORT NEVER PASSES ITS CALLEE'S ENTRY CHECKS
  pub reported_never_enters : (call f : ℕ) (vs : List (Value Text)) → callee_of im call ≡ some f → Asked f (arguments_of im call) vs → NonEmpty (violations_of im call) →
      (budget : ℕ) (env : Env Text) (left : ℕ) → entering same (contract_function im f) vs [] budget ≢ got tt env left
  unfolding violations_of
  reported_never_enters call f vs e h z budget env left p =
      never_got (entering_over f (arguments_of im call) vs h (by_callee call (callee_of im call) f e z) budget) p
