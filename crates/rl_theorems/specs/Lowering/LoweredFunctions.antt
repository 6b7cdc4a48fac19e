-- Demand 3, from records to trees: the function of the lowered image is what the function's tree is lowered to.
-- Assumes nothing.
use Rattle.std.specs.Prelude.{◌≡◌, ℕ, ◌<◌, Bool, true, false, cond, not, ◌||◌, List, [], ◌∷◌, ◌++◌, map, length, get_or, nat_lt, slice_index_or}
use Rattle.std.proofs.Math.Path.{refl, ap, sym, subst}
use Rattle.std.proofs.Common.{ap₂, ◌∙◌, true≢false, arith, get_or-set_same, get_or-set_other}
use Rattle.std.proofs.lemmas.Simd.{map-map}
use Rattle.std.proofs.Math.Option.{Option, none, some, some-injective, none-ne-some}
use Rattle.rl_spec.specs.declared.Section.TheVariants.{Functions}
use Rattle.rl_spec.specs.Image.{Field, no_field, Rec, Image, records_of, size_of, no_record, record_of, field_of, first, text_of, encode, WellFormed}
use Rattle.rl_spec.specs.Tree.{ascii}
use Rattle.rl_spec.specs.Statement.{Body, body_tree}
use Rattle.rl_spec.specs.Ranges.{interval, numbers_in}
use Rattle.rl_spec.specs.Records.{param_at, clause_at, function_at}
use Rattle.rl_spec.specs.FnContracts.{ParamRefinement, Param, clause_of, any_refined, is_empty, is_some, param_of, contracts_of}
use Rattle.rl_spec.specs.Mapped.{Text, map_body, map_param, map_clause}
use Rattle.rl_spec.specs.Functions.{plain_function, contract_function, check_first, refinement_checks, clause_check}
use Rattle.rl_spec.specs.Run.{Value, ending, ◌>>◌}
use Rattle.rl_spec.specs.Reading.{Check, Function, plainly, bind_all, top, run_function, reading}
use Rattle.rl_spec.specs.Make.{Context}
use Rattle.rl_spec.specs.Lower.{params_in, requires_in, ensures_in, body_in, has_contracts, new_body, start, bodied, with_body, fitting, finished, lowered_by, lowered}
use Rattle.rl_theorems.specs.Lowering.LowerTrees as tree
use Rattle.rl_theorems.specs.Lowering.LowerFrame.{CleanChecks}
use Rattle.rl_theorems.specs.Lowering.LowerBodies.{Ensured}
use Rattle.rl_theorems.specs.Lowering.LoweredTo.{EnsuredTo, as_is, LoweredTo, lowered_to_runs}
use Rattle.rl_theorems.specs.Runs.TextRuns.{map_function}
use Rattle.rl_theorems.specs.Runs.ProvesTexts.{any_same}
use Rattle.rl_images.specs.Lowering.Grows.{eight_sections, records_own}
use Rattle.rl_images.specs.Lowering.GrowsTo.{Later, GrowsTo, ◌▷◌, ◌▹◌, good_is}
use Rattle.rl_theorems.specs.Trees.Denotes.{Holds}
use Rattle.rl_theorems.specs.Trees.DenotedTrees.{body_of}
use Rattle.rl_theorems.specs.Lowering.MadeTrees.{list_ok}
use Rattle.rl_theorems.specs.Lowering.Guarded.{Lines, keep_lines}
use Rattle.rl_theorems.specs.Trees.SameTrees.{body_same}
use Rattle.rl_theorems.specs.Lowering.FinishedImage as finished
use Rattle.rl_theorems.specs.Lowering.Desugared.{desugared_ok}
use Rattle.rl_images.specs.Images.FunctionFields.{FunctionFits, function_fits}
use Rattle.rl_theorems.specs.Trees.FunctionTrees.{clauses_check, body_stands}

-- ---- no contracts

or_false : (a b : Bool) → a || b ≡ false → (a ≡ false) × (b ≡ false)
or_false true b h = absurd (true≢false h)
or_false false b h = (refl, h)

no_list : {A : Type 0} (g : ℕ → A) (l : List ℕ) → not (is_empty (map g l)) ≡ false → l ≡ []
no_list g [] e = refl
no_list g (n ∷ l) e = absurd (true≢false e)

no_checks_lem : (ps : List (Param Text)) → any_refined ps ≡ false → refinement_checks ps ≡ []
unfolding any_refined refinement_checks
no_checks_lem [] h = refl
no_checks_lem (p ∷ ps) h =
    let q = or_false (is_some p.refinement) (any_refined ps) h in
    go p.refinement q.0 ∙ no_checks_lem ps q.1
  where
    go : (o : Option (ParamRefinement Text)) → is_some o ≡ false → check_first p.name o (refinement_checks ps) ≡ refinement_checks ps
    go none e = refl
    go (some r) e = absurd (true≢false e)

-- the names of parameters, by their records
param_names_lem : (im : Image) (is : List ℕ) →
    map (text_of im) (map (λ i. (param_at im i).name) is) ≡ map (λ p. p.name) (map (map_param (text_of im)) (map (param_of im) is))
unfolding param_of
param_names_lem im is =
    map-map (text_of im) (λ i. (param_at im i).name) is
    ∙ sym (map-map (λ p. p.name) (map_param (text_of im)) (map (param_of im) is) ∙ map-map (λ p. text_of im p.name) (param_of im) is)

-- ---- the function of the finished image

module _ (im : Image) (wf : WellFormed im) (f : ℕ) (inside : f < size_of im Functions) where
  abbrev source : Function Text
  source = contract_function im f

  -- the list that is made holds the guards and then the rest
  abbrev Made : Field → Context → Type 0
  Made list c =
      (rest : Body Text) × (ns : List ℕ) × Holds c.image list ns × Lines c.image ns (tree.guards source.is_result source.entry rest)
      × EnsuredTo source.is_result source.ensures source.body rest

  made_body : Ensured source.ensures source.body → GrowsTo (start im f) Made (new_body im f (start im f))
  unfolding new_body contract_function contracts_of function_at
  made_body o =
      let x : FunctionFits im f (record_of im Functions f) = function_fits im wf f inside in
      desugared_ok (numbers_in (function_at im f).params) (body_in im f) (requires_in im f) (ensures_in im f) (start im f) _ _ _
      (clauses_check im wf (ascii "requires violated") _ _ x.required) (clauses_check im wf (ascii "ensures violated") _ _ x.ensured)
      (body_stands im wf f inside) o ▷ λ ms c₁ k₁ h₁. list_ok ms c₁ ▹ λ list c₂ k₂ h₂. (h₁.0, ms, h₂, keep_lines k₂.image h₁.1, h₁.2)

  module _ (c : Context) (later : Later (start im f) c) (list : Field) where
    abbrev end : Image
    end = finished.end im wf f c later list

    abbrev own : Rec
    own = record_of im Functions f

    own_record : record_of end Functions f ≡ bodied own list
    own_record =
        ap (λ l. get_or l f no_record) (records_own c.image Functions _ (later.image.sections ∙ eight_sections im wf))
        ∙ get_or-set_same (records_of c.image Functions) f _ no_record (rw later.image.functions inside)
        ∙ ap (λ l. bodied (slice_index_or l f no_record) list) later.image.functions

    new_body_lem : (function_at end f).body ≡ interval list
    unfolding function_at
    new_body_lem = ap (λ r. interval (field_of r 4)) own_record
        ∙ ap interval (get_or-set_same own.fields 4 list no_field (rw (function_fits im wf f inside).long (omega arith)))

    same_params : (function_at end f).params ≡ (function_at im f).params
    unfolding function_at
    same_params = ap (λ r. interval (field_of r 2)) own_record ∙ ap interval (get_or-set_other own.fields 4 2 list no_field (λ h. omega arith))

    same_own_name : (function_at end f).name ≡ (function_at im f).name
    unfolding function_at
    same_own_name = ap (λ r. first (field_of r 0)) own_record ∙ ap first (get_or-set_other own.fields 4 0 list no_field (λ h. omega arith))

    finished_to : Made list c → LoweredTo source (contract_function end f)
    unfolding contract_function contracts_of function_at
    finished_to h = record {
      name = ap (text_of end) same_own_name ∙ finished.same_text im wf f c later list _ (function_fits im wf f inside).name;
      params = ap (λ l. map (λ p. p.name) (map (map_param (text_of end)) (map (param_of end) (numbers_in l)))) same_params
          ∙ ap (map (λ p. p.name)) (finished.same_params im wf f c later list _ _ (function_fits im wf f inside).params);
      rest = h.0;
      ensured = h.4;
      body = ap (λ l. map_body (text_of end) (body_tree end l)) new_body_lem
          ∙ body_same c.image _ (interval list)
          ∙ body_of c.image list h.2 h.3;
    }

  finished_case : (im' : Image) → Ensured source.ensures source.body → (o : Option (Field × Context)) →
      new_body im f (start im f) ≡ o →
      finished true f o ≡ some im' → LoweredTo source (contract_function im' f)
  unfolding fitting
  finished_case im' h none e q = absurd (none-ne-some im' q)
  finished_case im' h (some r) e q =
      let m = good_is (made_body h) (record { sections = eight_sections im wf; limits = refl }) e in
      let is = fitting_is (nat_lt 65535 (length (encode (with_body r.1.image f r.0)))) q in
      subst (λ x. LoweredTo source (contract_function x f)) is (finished_to r.1 m.0 r.0 m.1)
    where
      fitting_is : {x y : Image} (b : Bool) → cond b none (some x) ≡ some y → x ≡ y
      fitting_is {y = y} true e = absurd (none-ne-some y e)
      fitting_is {x} {y} false e = some-injective x y e

  -- ---- a function without contracts is left

  plain_case : has_contracts im f ≡ false → LoweredTo source (contract_function im f)
  unfolding contract_function contracts_of has_contracts tree.guards
  plain_case h =
      let p = or_false (not (is_empty (requires_in im f)) || not (is_empty (ensures_in im f))) (any_refined (params_in im f)) h in
      let q = or_false (not (is_empty (requires_in im f))) (not (is_empty (ensures_in im f))) p.0 in
      let noRefined : refinement_checks (map (map_param (text_of im)) (params_in im f)) ≡ [] =
      no_checks_lem (map (map_param (text_of im)) (params_in im f)) (any_same (text_of im) (params_in im f) ∙ p.1) in
      let check : Text → List ℕ → List (Check Text) = λ default is. map (clause_check default) (map (map_clause (text_of im)) (map (clause_of im) is)) in
      let noRequired = ap (check (ascii "requires violated")) (no_list (clause_at im) (numbers_in (function_at im f).required) q.0) in
      let noEnsured = ap (check (ascii "ensures violated")) (no_list (clause_at im) (numbers_in (function_at im f).ensured) q.1) in
      record {
        name = refl;
        params = refl;
        rest = source.body;
        ensured = subst (λ cs. EnsuredTo source.is_result cs source.body source.body) (sym noEnsured) (as_is refl);
        body = sym (ap₂ (λ xs ys. tree.guards source.is_result (xs ++ ys) source.body) noRefined noRequired);
      }

-- THEOREM: the function of the lowered image is what the function is lowered to
pub lowered_trees : (im im' : Image) (f : ℕ) → WellFormed im → f < size_of im Functions → lowered im f ≡ some im' →
    Ensured (contract_function im f).ensures (contract_function im f).body → LoweredTo (contract_function im f) (contract_function im' f)
unfolding lowered_by
lowered_trees im im' f wf inside e o = go (has_contracts im f) refl e
  where
    go : (b : Bool) → has_contracts im f ≡ b → cond b (finished true f (new_body im f (start im f))) (some im) ≡ some im' →
        LoweredTo (contract_function im f) (contract_function im' f)
    go true h q = finished_case im wf f inside im' o (new_body im f (start im f)) refl q
    go false h q = subst (λ x. LoweredTo (contract_function im f) (contract_function x f)) (some-injective im im' q) (plain_case im wf f inside h)

-- THEOREM: and its plain run is the function's contract reading, where the ensures are clean
pub lowered_reads : (im im' : Image) (f : ℕ) → WellFormed im → f < size_of im Functions → lowered im f ≡ some im' →
    Ensured (contract_function im f).ensures (contract_function im f).body → CleanChecks (contract_function im f).ensures →
    (vs : List (Value Text)) (budget : ℕ) →
    run_function (λ t. t) (contract_function im' f) vs budget ≡ reading (λ t. t) (ascii "ret") (contract_function im f) vs budget
lowered_reads im im' f wf inside e o clean vs budget = lowered_to_runs _ _ vs budget clean (lowered_trees im im' f wf inside e o)

-- what the runner runs, its texts as bytes, runs as the function does without its clauses
pub plain_runs : (im : Image) (f : ℕ) (vs : List (Value Text)) (budget : ℕ) →
    run_function (λ t. t) (map_function (text_of im) (plain_function im f)) vs budget ≡ run_function (λ t. t) (contract_function im f) vs budget
unfolding run_function plain_function contract_function contracts_of
plain_runs im f vs budget =
    ap (λ xs. ending ((bind_all xs vs >> top (λ t. t) plainly (map_body (text_of im) (body_tree im (function_at im f).body))) [] budget))
    (param_names_lem im (numbers_in (function_at im f).params))
