-- Small constants, which had no value before change request 1: THE IMAGE AS IT WAS TAKEN BEFORE; the form of each of its expressions; and
-- what does not depend on them: texts, calls, the callee of a call, and the message of a report.
-- Assumes nothing.
use Rattle.std.specs.Prelude.{◌≡◌, ℕ, zero, suc, ◌+◌, Bool, true, false, cond, not, ◌&&◌, ◌||◌, List, [], ◌∷◌, ◌++◌, map, length, take, drop, ℤ, ◌==◌, slice_index_or, None, Some}
use Rattle.std.proofs.Math.Path.{refl, ap, subst⁻¹, fun_ext}
use Rattle.std.proofs.Common.{sym, ◌∙◌, ne_eqb}
use Rattle.std.proofs.lemmas.Bool.{false≢true}
use Rattle.std.proofs.Math.Option
use Rattle.std.proofs.Math.Option.{Option, none, some}
use Rattle.std.proofs.lemmas.List.{length-map}
use Rattle.std.proofs.Math.ListN.{get_or-map}
use Rattle.rl_spec.specs.declared.ConstVal.TheVariants.{Int}
use Rattle.rl_spec.specs.declared.Form.{Form}
use Rattle.rl_spec.specs.declared.Form.TheVariants.{Null, Literal, Identifier, Unary, Binary, Grouping, Assign, OkLiteral, ErrLiteral, IsErr, ResultUnwrap, Other}
use Rattle.rl_spec.specs.declared.Function.{Function}
use Rattle.rl_spec.specs.Answers.{Optional}
use Rattle.rl_spec.specs.declared.Section.{Section}
use Rattle.rl_spec.specs.declared.Section.TheVariants.{Texts, Lists, Expressions, Parameters, Clauses, Functions, Calls}
use Rattle.rl_spec.specs.declared.Violation.{Violation}
use Rattle.rl_spec.specs.declared.Violation.TheVariants.{Refinement, Requires}
use Rattle.rl_spec.specs.Image.{Field, Rec, Image, order_of, records_of, size_of, no_record, record_of, field_of, first, second, entry_of, text_of}
use Rattle.rl_spec.specs.Values.{same_text}
use Rattle.rl_spec.specs.Tree.{Expr, other, ascii, below, is_res_path, call_form, form_by, form_of, tree_by, expr_tree, optional_tree}
use Rattle.rl_spec.specs.Ranges.{numbers_in}
use Rattle.rl_spec.specs.Records.{param_by, clause_by, function_by, call_by, param_at, clause_at, function_at, call_at}
use Rattle.rl_spec.specs.Mapped.{map_param}
use Rattle.rl_spec.specs.FnContracts.{refinement_of, param_of, clause_of, contracts_of, any_refined, is_empty, is_callee, callee_among, callee_of}
use Rattle.rl_spec.specs.Message.{param_text, string_in, own_string, or_default, message_by, opening, message_for, message_of}
use Rattle.rl_laws.specs.Tests.{by_eqb}
use Rattle.rl_laws.specs.Descend.{tree_is}

-- one of SUInt, Byte, SByte, BByte, BSByte
abbrev pub is_small : ℕ → Bool
is_small k = k == 20 || k == 21 || k == 22 || k == 23 || k == 24

-- a small constant as a Character, which neither folds nor runs, as they did not; every other record as it is
abbrev pub was : Rec → Rec
was r = record { kind = cond (is_small r.kind) 29 r.kind; fields = r.fields }

-- THE IMAGE AS IT WAS TAKEN BEFORE
unfoldable pub before : Image → Image
before im = record { arena = im.arena; bytes = im.bytes; records = map (map was) im.records }

-- a small constant is now a whole number
abbrev IsWhole : Image → List Field → ℕ → Type 0
IsWhole im fs k = (z : ℤ) × (form_by im (record { kind = k; fields = fs }) ≡ Literal (Some (Int z)))

small_form : (im : Image) (fs : List Field) (k : ℕ) → is_small k ≡ true → IsWhole im fs k
unfolding form_by
small_form im fs k h =
    by_eqb k 20 (at 20 (_, refl)) λ n20.
    by_eqb k 21 (at 21 (_, refl)) λ n21.
    by_eqb k 22 (at 22 (_, refl)) λ n22.
    by_eqb k 23 (at 23 (_, refl)) λ n23.
    by_eqb k 24 (at 24 (_, refl)) λ n24.
    absurd (false≢true (rw (ne_eqb k 20 n20, ne_eqb k 21 n21, ne_eqb k 22 n22, ne_eqb k 23 n23, ne_eqb k 24 n24) at h))
  where
    at : (m : ℕ) → IsWhole im fs m → k ≡ m → IsWhole im fs k
    at m p e = subst⁻¹ (IsWhole im fs) e p

empty_mapped : {A B : Type 0} (g h : A → B) (l : List A) → is_empty (map g l) ≡ is_empty (map h l)
empty_mapped g h [] = refl
empty_mapped g h (a ∷ l) = refl

module _ (im : Image) where
  -- ---- records and texts

  records_before : (o : Section) → records_of (before im) o ≡ map was (records_of im o)
  unfolding before
  records_before o = get_or-map (map was) im.records (order_of o) []

  record_before : (o : Section) (i : ℕ) → record_of (before im) o i ≡ was (record_of im o i)
  record_before o i = ap (λ rs. slice_index_or rs i no_record) (records_before o) ∙ get_or-map was (records_of im o) i no_record

  size_same : (o : Section) → size_of (before im) o ≡ size_of im o
  size_same o = ap length (records_before o) ∙ length-map (records_of im o) was

  pub text_same : (t : ℕ) → text_of (before im) t ≡ text_of im t
  unfolding before
  text_same t = ap (λ r. take (second (field_of r 0)) (drop (first (field_of r 0)) im.bytes)) (record_before Texts t)

  pub texts_same : text_of (before im) ≡ text_of im
  texts_same = fun_ext text_same

  pub entry_same : (k : ℕ) → entry_of (before im) k ≡ entry_of im k
  entry_same k = ap (λ r. first (field_of r 0)) (record_before Lists k)

  pub clause_same : (i : ℕ) → clause_at (before im) i ≡ clause_at im i
  unfolding clause_at
  clause_same i = ap clause_by (record_before Clauses i)

  pub function_same : (f : ℕ) → function_at (before im) f ≡ function_at im f
  unfolding function_at
  function_same f = ap function_by (record_before Functions f)

  -- THEOREM: callee, span and arguments of a call
  pub call_same : (call : ℕ) → call_at (before im) call ≡ call_at im call
  unfolding call_at
  call_same call = ap call_by (record_before Calls call)

  param_same : (i : ℕ) → param_of (before im) i ≡ param_of im i
  unfolding param_of param_at
  param_same i =
      let p : param_at (before im) i ≡ param_at im i = ap param_by (record_before Parameters i) in
      λ j. record { name = (p j).name; refinement = refinement_of (p j).refinement }

  pub params_same : (f : ℕ) → (contracts_of (before im) f).params ≡ (contracts_of im f).params
  unfolding contracts_of
  params_same f = λ i. map (λ n. param_same n i) (numbers_in (function_same f i).params)

  -- ---- forms

  call_form_lem : (path args : Field) → call_form (before im) path args ≡ call_form im path args
  unfolding call_form is_res_path
  call_form_lem path args = simp (text_same, entry_same)

  -- THEOREM: where it was a small constant a form is Other, else as it was
  pub form_before : (r : Rec) → form_by (before im) (was r) ≡ cond (is_small r.kind) Other (form_by im r)
  unfolding form_by
  form_before r = go (is_small r.kind)
    where
      go : (b : Bool) → form_by (before im) (record { kind = cond b 29 r.kind; fields = r.fields }) ≡ cond b Other (form_by im r)
      go true = refl
      go false = rw (call_form_lem (field_of r 1) (field_of r 2)) refl

  pub form_at : (i : ℕ) → form_of (before im) i ≡ cond (is_small (record_of im Expressions i).kind) Other (form_of im i)
  form_at i = ap (form_by (before im)) (record_before Expressions i) ∙ form_before (record_of im Expressions i)

  -- THEOREM: its trees are the same trees with small constants as `other`
  pub tree_before : (i : ℕ) →
      expr_tree (before im) i ≡ tree_by (before im) (cond (is_small (record_of im Expressions i).kind) Other (form_of im i)) (below i (λ _. other) (expr_tree (before im)))
  tree_before i = tree_is (before im) i ∙ ap (λ form. tree_by (before im) form (below i (λ _. other) (expr_tree (before im)))) (form_at i)

  -- ---- the callee of a call

  required_same : (f : ℕ) → is_empty (contracts_of (before im) f).requires ≡ is_empty (contracts_of im f).requires
  unfolding contracts_of
  required_same f =
      ap (λ (g : Function). is_empty (map (clause_of (before im)) (numbers_in g.required))) (function_same f)
      ∙ empty_mapped (clause_of (before im)) (clause_of im) (numbers_in (function_at im f).required)

  is_callee_lem : (name : List ℕ) (f : ℕ) → is_callee (before im) name f ≡ is_callee im name f
  unfolding is_callee
  is_callee_lem name f = λ i.
      same_text (texts_same i (function_same f i).name) name && (not (required_same f i) || any_refined (params_same f i))

  callee_among_lem : (name : List ℕ) (n : ℕ) → callee_among (before im) name n ≡ callee_among im name n
  unfolding callee_among
  callee_among_lem name zero = refl
  callee_among_lem name (suc n) = λ i. cond (is_callee_lem name n i) (some n) (callee_among_lem name n i)

  -- THEOREM
  pub callee_same : (call : ℕ) → callee_of (before im) call ≡ callee_of im call
  unfolding callee_of
  callee_same call =
      callee_among_lem (text_of (before im) (call_at (before im) call).callee) (size_of (before im) Functions)
      ∙ (λ i. callee_among im (texts_same i (call_same call i).callee) (size_same Functions i))

  -- ---- the message of a report: a small constant is no String, before and now

  string_by : (form : Form) (t u : ℕ → Expr ℕ) → string_in (tree_by (before im) form t) ≡ string_in (tree_by im form u)
  string_by Null t u = refl
  string_by (Literal v) t u = refl
  string_by (Identifier x) t u = refl
  string_by (Unary op n) t u = refl
  string_by (Binary l op r) t u = refl
  string_by (Grouping n) t u = refl
  string_by (Assign x n) t u = refl
  string_by (OkLiteral n) t u = refl
  string_by (ErrLiteral n) t u = refl
  string_by (IsErr n) t u = refl
  string_by (ResultUnwrap n) t u = refl
  string_by Other t u = refl

  string_form : (r : Rec) (b : Bool) → is_small r.kind ≡ b → (t u : ℕ → Expr ℕ) →
      string_in (tree_by (before im) (cond b Other (form_by im r)) t) ≡ string_in (tree_by im (form_by im r) u)
  string_form r true e t u = sym (ap (λ form. string_in (tree_by im form u)) (small_form im r.fields r.kind e).1)
  string_form r false e t u = string_by (form_by im r) t u

  string_same : (n : ℕ) → string_in (expr_tree (before im) n) ≡ string_in (expr_tree im n)
  string_same n =
      rw (tree_is (before im) n, tree_is im n, form_at n) (string_form (record_of im Expressions n) (is_small (record_of im Expressions n).kind) refl _ _)

  own_same : (o : Optional) → own_string (optional_tree (before im) o) ≡ own_string (optional_tree im o)
  own_same None = refl
  own_same (Some n) = string_same n

  message_by_lem : (f : ℕ) (v : Violation) → message_by (before im) f v ≡ message_by im f v
  unfolding message_by
  message_by_lem f (Refinement n) = λ i. param_text (map_param (texts_same i) (param_same ((function_same f i).params.first + n) i))
  message_by_lem f (Requires n) =
      let c : ℕ = (function_at im f).required.first + n in
      (λ i. or_default (Option.map (texts_same i) (own_string (optional_tree (before im) (clause_same ((function_same f i).required.first + n) i).message))) (ascii "requires violated"))
      ∙ ap (λ o. or_default (Option.map (text_of im) o) (ascii "requires violated")) (own_same (clause_at im c).message)

  message_for_lem : (o : Option ℕ) (v : Violation) → message_for (before im) o v ≡ message_for im o v
  message_for_lem none v = refl
  message_for_lem (some f) v = ap (λ t. opening ++ t) (message_by_lem f v)

  -- THEOREM
  pub message_same : (call : ℕ) (v : Violation) → message_of (before im) call v ≡ message_of im call v
  unfolding message_of
  message_same call v = ap (λ o. message_for (before im) o v) (callee_same call) ∙ message_for_lem (callee_of im call) v
