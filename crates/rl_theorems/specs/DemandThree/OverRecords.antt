-- The premises of demand 3 said of records give those that its proofs have of trees.
-- Assumes nothing.
use Rattle.std.specs.Prelude.{◌≡◌, ℕ, zero, suc, ◌+◌, ◌-◌, ◌<◌, ◌≤◌, Bool, true, false, cond, List, [], ◌∷◌, ◌++◌, map, length, ◌==◌, ◌≢◌, slice_index_or}
use Rattle.std.proofs.Math.Path.{refl}
use Rattle.std.proofs.Common.{ap, ◌∙◌, eqb-true, eq-eqb, ne_eqb}
use Rattle.std.proofs.Math.Option
use Rattle.std.proofs.Math.Option.{none, some}
use native.Mathlib.Omega.{arith}
use Rattle.std.proofs.Math.ListN.{get_or-eq_default}
use Rattle.rl_spec.specs.declared.Interval.{Interval}
use Rattle.rl_spec.specs.Answers.{Optional}
use Rattle.rl_spec.specs.declared.Section.TheVariants.{Texts, Expressions, Statements, Clauses}
use Rattle.rl_spec.specs.declared.Sort.TheVariants.{One, Many}
use Rattle.rl_spec.specs.declared.StatementForm.{StatementForm}
use Rattle.rl_spec.specs.declared.Target.TheVariants.{Expression}
use Rattle.rl_spec.specs.Image.{Image, records_of, size_of, no_record, record_of, field_of, second, entry_of, text_of}
use Rattle.rl_spec.specs.Values.{ConstVal, same_text}
use Rattle.rl_spec.specs.Tree.{ascii, number, expr_tree, optional_tree}
use Rattle.rl_spec.specs.Fold.{const_eval}
use Rattle.rl_spec.specs.Statement.{Body, Item, body_from, as_statement, statement_by, item_by, item_tree}
use Rattle.rl_spec.specs.Ranges.{up_from, numbers_in}
use Rattle.rl_spec.specs.Records.{param_at, clause_at, function_at, call_at}
use Rattle.rl_spec.specs.FnContracts.{ContractClause, param_of, clause_of, contracts_of, arguments_of}
use Rattle.rl_spec.specs.Run.{nothing, Value, plain, folds}
use Rattle.rl_spec.specs.Reading.{bare}
use Rattle.rl_spec.specs.Mapped.{Text, map_const, map_expr, map_stmt, map_body, map_clause}
use Rattle.rl_spec.specs.Functions.{message_or, clause_check, contract_function}
use Rattle.rl_laws.specs.Tests.{by_ltb, by_eqb}
use Rattle.rl_laws.specs.Descend.{item_is}
use Rattle.rl_laws.specs.Optionals.{IfSome, no_index, an_index, optional_unless}
use Rattle.rl_theorems.specs.Trees.NamesIn.{NamesIn, names_mapped, sort_in, tree_names}
use Rattle.rl_theorems.specs.Lowering.LowerTrees.{reserved}
use Rattle.rl_theorems.specs.Lowering.LowerFrame.{begins, Free, Clean, CleanChecks, same_eq}
use Rattle.rl_theorems.specs.Lowering.LowerBodies.{NoBareLast, OnlyBare, Ensured}
use Rattle.rl_theorems.specs.DemandThree.FoldsEntry.{AllOf}
use Rattle.rl_theorems.specs.DemandThree.FoldsNames.{NoNames, Apart, Distinct, Values}
use Rattle.rl_theorems.specs.DemandThree.FoldsCalls.{Asked}

-- ---- texts

-- a text that does not begin with another
pub not_begins : (p t : Text) → ((rest : Text) → p ++ rest ≢ t) → begins p t ≡ false
unfolding begins
not_begins [] t h = absurd (h t refl)
not_begins (a ∷ p) [] h = refl
not_begins (a ∷ p) (b ∷ t) h =
    by_eqb a b
    (λ e. ap (λ x. cond x (begins p t) false) (eq-eqb a b e) ∙ not_begins p t (λ rest d. h rest (λ i. e i ∷ d i)))
    (λ n. rw (ne_eqb a b n) refl)

differ : (s t : Text) → (s ≢ t) → same_text s t ≡ false
differ s t h = go (same_text s t) refl
  where
    go : (b : Bool) → same_text s t ≡ b → b ≡ false
    go true e = absurd (h (same_eq s t e))
    go false e = refl

-- ---- what holds of each number of a range

pub all_from : {A : Type 0} (P : A → Type 0) (g : ℕ → A) (a n : ℕ) → ((j : ℕ) → j < n → P (g (a + j))) → AllOf P (map g (up_from a n))
unfolding up_from
all_from P g a zero h = tt
all_from P g a (suc n) h =
    let z : a + 0 ≡ a = omega arith in
    (rw z at (h 0 (omega arith)), all_from P g (a + 1) n (λ j l. let s : a + suc j ≡ a + 1 + j = omega arith in rw s at (h (suc j) (omega arith))))

module _ (im : Image) where
  -- ---- the names in what is ensured

  abbrev pub CleanAt : ℕ → Type 0
  CleanAt n = NamesIn (λ t. Free (text_of im t)) (λ t. Free (text_of im t)) (expr_tree im n)

  clean_tree : (n : ℕ) → CleanAt n → Clean (map_expr (text_of im) (expr_tree im n))
  clean_tree n h = names_mapped (text_of im) Free Free (expr_tree im n) h

  message_clean : {o : Optional} (d : Text) → IfSome CleanAt o → Clean (message_or d (Option.map (map_expr (text_of im)) (optional_tree im o)))
  message_clean d no_index = tt
  message_clean d (an_index {n = n} h) = clean_tree n h

  -- the condition of a clause, and its message where it has one
  abbrev pub CleanClause : ℕ → Type 0
  CleanClause c =
      CleanAt (number (record_of im Clauses c) 0) × ((number (record_of im Clauses c) 1 ≢ 65535) → CleanAt (number (record_of im Clauses c) 1))

  abbrev CleanCheck : Text → ContractClause ℕ → Type 0
  CleanCheck d c = Clean (map_expr (text_of im) c.condition) × Clean (message_or d (Option.map (map_expr (text_of im)) c.message))

  checks_clean : (d : Text) (cs : List (ContractClause ℕ)) → AllOf (CleanCheck d) cs →
      CleanChecks (map (clause_check d) (map (map_clause (text_of im)) cs))
  unfolding CleanChecks
  checks_clean d [] h = tt
  checks_clean d (c ∷ cs) h = (h.0.0, h.0.1, checks_clean d cs h.1)

  pub ensures_clean : (f : ℕ) → ((j : ℕ) → j < (function_at im f).ensured.count → CleanClause ((function_at im f).ensured.first + j)) →
      CleanChecks (contract_function im f).ensures
  unfolding contract_function clause_of clause_at
  ensures_clean f h =
      let d : Text = ascii "ensures violated" in
      let a : ℕ = (function_at im f).ensured.first in
      checks_clean d (map (clause_of im) (numbers_in (function_at im f).ensured))
      (all_from (CleanCheck d) (clause_of im) _ _
      (λ j l. (clean_tree _ (h j l).0, message_clean d (optional_unless (field_of (record_of im Clauses (a + j)) 1) (h j l).1))))

  -- where no text of the image is reserved
  module _ (free : (t : ℕ) → t < size_of im Texts → (rest : Text) × (reserved ++ rest ≡ text_of im t) → ⊥) where
    text_free : (t : ℕ) → Free (text_of im t)
    unfolding begins ascii
    text_free t =
        by_ltb t (size_of im Texts) (λ l. not_begins reserved (text_of im t) (λ rest e. free t l (rest, e)))
        (λ l. rw (get_or-eq_default (records_of im Texts) no_record l) refl)

    clean_at : (n : ℕ) → CleanAt n
    clean_at n = tree_names im (λ i. Unit {0}) (λ i c h e. tt) (λ i c h e l. tt) _ _ (λ i h e. text_free _) (λ i h e. text_free _) n tt

    pub free_texts : (f : ℕ) → CleanChecks (contract_function im f).ensures
    free_texts f = ensures_clean f (λ j l. (clean_at _, λ n. clean_at _))

  -- ---- a bare last expression

  module _ (i : ℕ) (other : (record_of im Statements i).kind ≡ 65 → ⊥) where
    record NotBare (form : StatementForm) : Type 0 where
      says : (item : ℕ → Item ℕ) → bare (map_stmt (text_of im) (as_statement (item_by im form item))) ≡ none

    by_test : (b : Bool) (x y : StatementForm) → (b ≡ true → NotBare x) → NotBare y → NotBare (cond b x y)
    by_test true x y f g = f refl
    by_test false x y f g = g

    by_kind : (m : ℕ) (x y : StatementForm) → ((record_of im Statements i).kind ≡ m → NotBare x) → NotBare y →
        NotBare (cond ((record_of im Statements i).kind == m) x y)
    by_kind m x y f g = by_test ((record_of im Statements i).kind == m) x y (λ e. f (eqb-true (record_of im Statements i).kind m e)) g

    form_other : NotBare (statement_by (record_of im Statements i))
    unfolding statement_by map_stmt
    form_other =
        by_kind 64 _ _ (λ e. record { says = λ item. refl })
        (by_kind 65 _ _ (λ e. absurd (other e))
        (by_kind 66 _ _ (λ e. record { says = λ item. refl })
        (by_kind 67 _ _ (λ e. record { says = λ item. refl })
        (by_kind 68 _ _ (λ e. record { says = λ item. refl })
        (by_kind 69 _ _ (λ e. record { says = λ item. refl })
        (by_kind 70 _ _ (λ e. record { says = λ item. refl })
        (by_kind 71 _ _ (λ e. record { says = λ item. refl })
        (by_kind 77 _ _ (λ e. record { says = λ item. refl })
        (by_kind 78 _ _ (λ e. record { says = λ item. refl }) (record { says = λ item. refl }))))))))))

    not_bare : bare (map_stmt (text_of im) (as_statement (item_tree im i))) ≡ none
    not_bare = rw (item_is im i) (form_other.says _)

  abbrev rows : ℕ → ℕ → Body Text
  rows a n = map_body (text_of im) (body_from (map (λ k. item_tree im (entry_of im k)) (up_from a n)))

  last_not_bare : (n a : ℕ) → ((record_of im Statements (entry_of im (a + n))).kind ≢ 65) → NoBareLast (rows a (suc n))
  unfolding up_from map_stmt
  last_not_bare zero a h = let z : a + 0 ≡ a = omega arith in not_bare (entry_of im a) (rw z at h)
  last_not_bare (suc n) a h = let s : a + suc n ≡ a + 1 + n = omega arith in last_not_bare n (a + 1) (rw s at h)

  only_bare : (n a : ℕ) → (2 ≤ n → (record_of im Statements (entry_of im (a + n - 1))).kind ≢ 65) → OnlyBare (rows a n)
  unfolding up_from map_stmt
  only_bare zero a h = tt
  only_bare (suc zero) a h = tt
  only_bare (suc (suc n)) a h =
      let s : a + suc (suc n) - 1 ≡ a + 1 + n = omega arith in
      last_not_bare n (a + 1) (rw s at (h (omega arith)))

  some_ensured : (d : Text) (b : Body Text) (a n : ℕ) → (0 < n → OnlyBare b) →
      Ensured (map (clause_check d) (map (map_clause (text_of im)) (map (clause_of im) (up_from a n)))) b
  unfolding up_from
  some_ensured d b a zero h = tt
  some_ensured d b a (suc n) h = h (omega arith)

  pub last_ensured : (f : ℕ) → (0 < (function_at im f).ensured.count → 2 ≤ (function_at im f).body.count →
      (record_of im Statements (entry_of im ((function_at im f).body.first + (function_at im f).body.count - 1))).kind ≢ 65) →
      Ensured (contract_function im f).ensures (contract_function im f).body
  unfolding contract_function
  last_ensured f h = some_ensured (ascii "ensures violated") _ _ _ (λ l. only_bare _ _ (h l))

  -- ---- what is asked of a call

  abbrev name_of : ℕ → Text
  name_of i = text_of im (param_at im i).name

  apart_from : (y a n : ℕ) → ((j : ℕ) → j < n → text_of im y ≢ name_of (a + j)) → Apart (text_of im) y (map (param_of im) (up_from a n))
  unfolding up_from param_of
  apart_from y a zero h = tt
  apart_from y a (suc n) h =
      let z : a + 0 ≡ a = omega arith in
      (differ _ _ (rw z at (h 0 (omega arith))), apart_from y (a + 1) n (λ j l. let s : a + suc j ≡ a + 1 + j = omega arith in rw s at (h (suc j) (omega arith))))

  pub distinct_from : (a n : ℕ) → ((i j : ℕ) → i < j → j < n → name_of (a + i) ≢ name_of (a + j)) → Distinct (text_of im) (map (param_of im) (up_from a n))
  unfolding up_from param_of
  distinct_from a zero h = tt
  distinct_from a (suc n) h =
      let z : a + 0 ≡ a = omega arith in (
        apart_from (param_at im a).name (a + 1) n (λ j l. let s : a + suc j ≡ a + 1 + j = omega arith in rw (z, s) at (h 0 (suc j) (omega arith) (omega arith))),
        distinct_from (a + 1) n (λ i j l m.
            let s : a + suc i ≡ a + 1 + i = omega arith in
            let t : a + suc j ≡ a + 1 + j = omega arith in
            rw (s, t) at (h (suc i) (suc j) (omega arith) (omega arith))),
      )

  abbrev Folded : ℕ → Value Text → Type 0
  Folded n v = (w : ConstVal ℕ) → const_eval (text_of im) [] (expr_tree im n) ≡ some w → v ≡ folds (map_const (text_of im) w)

  values_from : (a n b m : ℕ) (vs : List (Value Text)) → n ≤ length vs → ((j : ℕ) → j < n → j < m → Folded (entry_of im (b + j)) (slice_index_or vs j (plain nothing))) →
      Values (text_of im) (map (param_of im) (up_from a n)) (map (λ k. expr_tree im (entry_of im k)) (up_from b m)) vs
  unfolding up_from
  values_from a zero b m vs l h = tt
  values_from a (suc n) b zero vs l h = tt
  values_from a (suc n) b (suc m) [] l h = absurd (omega arith)
  values_from a (suc n) b (suc m) (v ∷ vs) l h =
      let z : b + 0 ≡ b = omega arith in (
        rw z at (h 0 (omega arith) (omega arith)),
        values_from (a + 1) n (b + 1) m vs (omega arith) (λ j p q. let s : b + suc j ≡ b + 1 + j = omega arith in rw s at (h (suc j) (omega arith) (omega arith))),
      )

  -- None kind i: no expression of the kind stands in the i-th at any depth
  module _ (None : ℕ → ℕ → Type 0) (own : (kind i : ℕ) → None kind i → (record_of im Expressions i).kind ≢ kind)
      (one : (kind i c : ℕ) → None kind i → sort_in (record_of im Expressions i) c ≡ One Expression → None kind (number (record_of im Expressions i) c))
      (entry : (kind i c : ℕ) → None kind i → sort_in (record_of im Expressions i) c ≡ Many Expression Expression 1 →
      0 < second (field_of (record_of im Expressions i) c) → None kind (entry_of im (number (record_of im Expressions i) c + 0)))
      (f call : ℕ) where
    abbrev params : Interval
    params = (function_at im f).params

    abbrev args : Interval
    args = (call_at im call).args

    abbrev required : Interval
    required = (function_at im f).required

    pub asked : (vs : List (Value Text)) → ((j : ℕ) → j < args.count → None 30 (entry_of im (args.first + j))) →
        ((i j : ℕ) → i < j → j < params.count → name_of (params.first + i) ≢ name_of (params.first + j)) →
        ((j : ℕ) → j < required.count → None 39 (clause_at im (required.first + j)).condition) →
        length vs ≡ params.count →
        ((j : ℕ) → j < params.count → j < args.count → Folded (entry_of im (args.first + j)) (slice_index_or vs j (plain nothing))) →
        Asked im f (arguments_of im call) vs
    unfolding contracts_of arguments_of clause_of
    asked vs closed names clean many values =
        record {
          distinct = distinct_from _ _ names;
          closed = all_from NoNames _ _ _ (λ j l. tree_names im (None 30) (one 30) (entry 30) _ _ (own 30) (λ i h e. tt) _ (closed j l));
          clean = all_from _ (clause_of im) _ _ (λ j l. tree_names im (None 39) (one 39) (entry 39) _ _ (λ i h e. tt) (own 39) _ (clean j l));
          values = values_from _ _ _ _ vs (omega (arith, many)) values;
        }
