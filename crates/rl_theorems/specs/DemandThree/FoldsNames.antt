-- The names that the arguments of a call give, and the bindings that a run of the callee begins with: where the parameters' names
-- differ and no argument holds an identifier, the bindings give every name that folding knows its value.
-- Assumes nothing.
use Rattle.std.specs.Prelude.{◌≡◌, ℕ, Bool, true, false, cond, List, [], ◌∷◌, map, length, nat_lt}
use Rattle.std.proofs.Math.Path.{refl, ap, subst⁻¹}
use Rattle.std.proofs.Common.{ap₂, sym, ◌∙◌, subst, true≢false}
use Rattle.std.proofs.Math.Option.{Option, none, some}
use Rattle.rl_spec.specs.Values.{ConstVal, same_text}
use Rattle.rl_spec.specs.Fold.{Binding, unary_folded, binary_folded, lookup, const_eval}
use Rattle.rl_spec.specs.Tree.{Expr, null, literal, identifier, unary, binary, grouping, assign, ok_literal, err_literal, is_err, result_unwrap, other}
use Rattle.rl_spec.specs.FnContracts.{Param}
use Rattle.rl_spec.specs.Prove.{bound, bind_arguments}
use Rattle.rl_spec.specs.Mapped.{map_const, Text}
use Rattle.rl_spec.specs.Run.{Value, named, Env, Outcome, fault, Result, got, ended, Run, and_then, folds, find}
use Rattle.rl_spec.specs.Reading.{bind_all}
use Rattle.rl_theorems.specs.Runs.Texts.{same, map_maybe}
use Rattle.rl_theorems.specs.Trees.NamesIn.{NamesIn}
use Rattle.rl_theorems.specs.Lowering.LowerFrame.{same_refl, same_eq}
use Rattle.rl_theorems.specs.DemandThree.Folds.{Agrees, none≢some}
use Rattle.rl_theorems.specs.Runs.FoldsTexts.{map_names, lookup_same}
use Rattle.rl_theorems.specs.DemandThree.FoldsEntry.{AllOf, Paired}

-- no identifier at any depth
abbrev pub NoNames : {T : Type 0} → Expr T → Type 0
NoNames e = NamesIn (λ x. ⊥) (λ x. Unit {0}) e

abbrev pub AllNoNames : {T : Type 0} → List (Expr T) → Type 0
AllNoNames args = AllOf NoNames args

-- without identifiers the names do not matter
pub const_closed : {T : Type 0} (bytes : T → List ℕ) (names names' : List (Binding T)) (e : Expr T) → NoNames e → const_eval bytes names e ≡ const_eval bytes names' e
unfolding const_eval
const_closed bytes names names' null h = refl
const_closed bytes names names' (literal v) h = refl
const_closed bytes names names' (identifier x) h = absurd h
const_closed bytes names names' (unary op e) h = ap (unary_folded op) (const_closed bytes names names' e h)
const_closed bytes names names' (binary l op r) h = ap₂ (binary_folded bytes op) (const_closed bytes names names' l h.0) (const_closed bytes names names' r h.1)
const_closed bytes names names' (grouping e) h = const_closed bytes names names' e h
const_closed bytes names names' (assign x e) h = refl
const_closed bytes names names' (ok_literal e) h = refl
const_closed bytes names names' (err_literal e) h = refl
const_closed bytes names names' (is_err e) h = refl
const_closed bytes names names' (result_unwrap e) h = refl
const_closed bytes names names' other h = refl

apart_if : (s t : Text) (b : Bool) → same_text t s ≡ b → same_text s t ≡ false → b ≡ false
apart_if s t true e h = absurd (true≢false (sym (same_refl s) ∙ subst (λ x. same_text s x ≡ false) (same_eq t s e) h))
apart_if s t false e h = refl

apart_back : (s t : Text) → same_text s t ≡ false → same_text t s ≡ false
apart_back s t h = apart_if s t (same_text t s) refl h

module _ (f : ℕ → Text) where
  -- a name that differs from those of parameters; parameters whose names differ
  abbrev pub Apart : ℕ → List (Param ℕ) → Type 0
  Apart y [] = Unit {0}
  Apart y (p ∷ ps) = (same_text (f y) (f p.name) ≡ false) × Apart y ps

  abbrev pub Distinct : List (Param ℕ) → Type 0
  Distinct [] = Unit {0}
  Distinct (p ∷ ps) = Apart p.name ps × Distinct ps

  -- a parameter that has an argument has the value that the argument folds to, where it folds; the other values are free
  abbrev pub Values : List (Param ℕ) → List (Expr ℕ) → List (Value Text) → Type 0
  Values [] args vs = Unit {0}
  Values (p ∷ ps) [] vs = Unit {0}
  Values (p ∷ ps) (a ∷ args) [] = ⊥
  Values (p ∷ ps) (a ∷ args) (v ∷ vs) = ((w : ConstVal ℕ) → const_eval f [] a ≡ some w → v ≡ folds (map_const f w)) × Values ps args vs

  abbrev pub Fresh : List (Binding ℕ) → List (Param ℕ) → Type 0
  Fresh names [] = Unit {0}
  Fresh names (p ∷ ps) = (lookup f names p.name ≡ none) × Fresh names ps

  past : (y x : ℕ) (o : Option (ConstVal ℕ)) (names : List (Binding ℕ)) → same_text (f y) (f x) ≡ false → lookup f (bound y o names) x ≡ lookup f names x
  unfolding lookup
  past y x none names h = refl
  past y x (some u) names h = ap (λ b. cond b (some u) (lookup f names x)) h

  pub fresh_bound : (y : ℕ) (o : Option (ConstVal ℕ)) (names : List (Binding ℕ)) (ps : List (Param ℕ)) → Apart y ps → Fresh names ps → Fresh (bound y o names) ps
  fresh_bound y o names [] a h = tt
  fresh_bound y o names (p ∷ ps) a h = (past y p.name o names a.0 ∙ h.0, fresh_bound y o names ps a.1 h.1)

  pub fresh_none : (ps : List (Param ℕ)) → Fresh [] ps
  unfolding lookup
  fresh_none [] = tt
  fresh_none (p ∷ ps) = (refl, fresh_none ps)

  -- ---- the names found

  kept : (names : List (Binding ℕ)) (ps : List (Param ℕ)) (args : List (Expr ℕ)) (y : ℕ) → Apart y ps → lookup f (bind_arguments f names ps args) y ≡ lookup f names y
  unfolding bind_arguments
  kept names [] args y h = refl
  kept names (p ∷ ps) [] y h = refl
  kept names (p ∷ ps) (a ∷ args) y h =
      kept (bound p.name (const_eval f names a) names) ps args y h.1 ∙ past p.name y (const_eval f names a) names (apart_back (f y) (f p.name) h.0)

  newest : (y : ℕ) (o : Option (ConstVal ℕ)) (names : List (Binding ℕ)) (u : ConstVal ℕ) → o ≡ some u → lookup f (bound y o names) y ≡ some u
  unfolding lookup
  newest y none names u e = absurd (none≢some e)
  newest y (some w) names u e = ap (λ b. cond b (some w) (lookup f names y)) (same_refl (f y)) ∙ e

  pub paired : (names : List (Binding ℕ)) (ps : List (Param ℕ)) (args : List (Expr ℕ)) → Distinct ps → AllNoNames args → Paired f (bind_arguments f names ps args) ps args
  unfolding bind_arguments
  paired names [] args d h = tt
  paired names (p ∷ ps) [] d h = tt
  paired names (p ∷ ps) (a ∷ args) d h =
      let more : List (Binding ℕ) = bound p.name (const_eval f names a) names in (
        λ u e. kept more ps args p.name d.0 ∙ newest p.name (const_eval f names a) names u (const_closed f names (bind_arguments f more ps args) a h.0 ∙ e),
        paired more ps args d.1 h.1,
      )

  -- ---- the bindings

  abbrev lifted : Option (ConstVal Text) → Option (Value Text)
  lifted none = none
  lifted (some w) = some (folds w)

  shadowed : (names : List (Binding ℕ)) (env : Env Text) (y : ℕ) (v : Value Text) → lookup f names y ≡ none → Agrees same (map_names f names) env →
      (x : Text) (w : ConstVal Text) (b : Bool) → same_text (f y) x ≡ b → lookup same (map_names f names) x ≡ some w → cond b (some v) (find same env x) ≡ some (folds w)
  shadowed names env y v fresh g x w true s e =
      let at : lookup same (map_names f names) (f y) ≡ some w = subst⁻¹ (λ z. lookup same (map_names f names) z ≡ some w) (same_eq (f y) x s) e in
      absurd (none≢some (sym (lookup_same f f same (λ t. refl) names y ∙ ap (map_maybe f) fresh) ∙ at))
  shadowed names env y v fresh g x w false s e = g x w e

  chosen : (names : List (Binding ℕ)) (env : Env Text) (u : ConstVal Text) (v : Value Text) → v ≡ folds u → Agrees same (map_names f names) env →
      (x : Text) (w : ConstVal Text) (b : Bool) → cond b (some u) (lookup same (map_names f names) x) ≡ some w → cond b (some v) (find same env x) ≡ some (folds w)
  chosen names env u v h g x w true e = ap some h ∙ ap lifted e
  chosen names env u v h g x w false e = g x w e

  grows : (names : List (Binding ℕ)) (env : Env Text) (y : ℕ) (v : Value Text) (o : Option (ConstVal ℕ)) → lookup f names y ≡ none →
      ((w : ConstVal ℕ) → o ≡ some w → v ≡ folds (map_const f w)) → Agrees same (map_names f names) env → Agrees same (map_names f (bound y o names)) (named (f y) v ∷ env)
  unfolding lookup find
  grows names env y v none fresh h g x w e = shadowed names env y v fresh g x w (same_text (f y) x) refl e
  grows names env y v (some u) fresh h g x w e = chosen names env (map_const f u) v (h u refl) g x w (same_text (f y) x) e

  -- the run goes on with bindings that agree, or it is over
  pub data Enters (names : List (Binding ℕ)) : Result Text (Unit {0}) → Type 0 where
    entered : {env : Env Text} {m : ℕ} → Agrees same (map_names f names) env → Enters names (got tt env m)
    refused : {o : Outcome Text} {m : ℕ} → Enters names (ended o m)

  enters_if : {names : List (Binding ℕ)} (b : Bool) (env : Env Text) (n : ℕ) (k : Run Text (Unit {0})) → Enters names (k env n) →
      Enters names (and_then (cond b (got (tt {0}) env n) (ended (fault 5) n)) (λ _. k))
  enters_if true env n k h = h
  enters_if false env n k h = refused

  -- parameters without an argument bind names that folding does not know
  others_enter : (names : List (Binding ℕ)) (ps : List (Param ℕ)) (vs : List (Value Text)) → Fresh names ps → (env : Env Text) (n : ℕ) →
      Agrees same (map_names f names) env → Enters names (bind_all (map (λ p. f p.name) ps) vs env n)
  others_enter names [] vs u env n g = entered g
  others_enter names (p ∷ ps) [] u env n g = entered g
  others_enter names (p ∷ ps) (v ∷ vs) u env n g =
      enters_if (nat_lt (length env) 128) (named (f p.name) v ∷ env) n (bind_all (map (λ p. f p.name) ps) vs)
      (others_enter names ps vs u.1 (named (f p.name) v ∷ env) n
      (grows names env p.name v none u.0 (λ w e. absurd (none≢some e)) g))

  pub enters : (names : List (Binding ℕ)) (ps : List (Param ℕ)) (args : List (Expr ℕ)) (vs : List (Value Text)) → Distinct ps → Fresh names ps → AllNoNames args → Values ps args vs →
      (env : Env Text) (n : ℕ) → Agrees same (map_names f names) env → Enters (bind_arguments f names ps args) (bind_all (map (λ p. f p.name) ps) vs env n)
  unfolding bind_arguments
  enters names [] args vs d u h z env n g = entered g
  enters names (p ∷ ps) [] vs d u h z env n g = others_enter names (p ∷ ps) vs u env n g
  enters names (p ∷ ps) (a ∷ args) [] d u h z env n g = absurd z
  enters names (p ∷ ps) (a ∷ args) (v ∷ vs) d u h z env n g =
      enters_if (nat_lt (length env) 128) (named (f p.name) v ∷ env) n (bind_all (map (λ p. f p.name) ps) vs)
      (enters (bound p.name (const_eval f names a) names) ps args vs d.1 (fresh_bound p.name (const_eval f names a) names ps d.0 u.1) h.1 z.1
      (named (f p.name) v ∷ env) n
      (grows names env p.name v (const_eval f names a) u.0 (λ w e. z.0 w (const_closed f [] names a h.0 ∙ e)) g))
