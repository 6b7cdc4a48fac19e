-- A value stays where a name is bound that had none.
-- Assumes nothing.
use Prim.Native.Nat.{ℕ}
use mathlib.Core.Path.{◌≡◌, refl, sym, subst, ◌∙◌}
use mathlib.Core.Bool.{Bool, true, false, cond}
use mathlib.Core.List.{List, [], ◌∷◌}
use mathlib.Core.Option.{Option, none, some}
use lib.Dec.{T, eqb}
use borrow.Author.Tests.{eqb-true}
use Rattle.rl_spec.specs.Values.{ConstVal, same_text}
use Rattle.rl_spec.specs.Tree.{Expr, null, literal, identifier, unary, binary, grouping, assign, ok_literal, err_literal, is_err, result_unwrap, other}
use Rattle.rl_spec.specs.Fold.{Binding, unary_folded, binary_folded, lookup, const_eval}

never : {A : Type 0} → true ≡ false → A
never p = absurd (subst T p tt)

not_some : {A B : Type 0} (a : A) → none ≡ some a → B
not_some {A} a e = absurd (subst IsNone e tt)
  where
    IsNone : Option A → Type 0
    IsNone none = Unit {0}
    IsNone (some x) = ⊥

pub same_bytes : (s t : List ℕ) → same_text s t ≡ true → s ≡ t
unfolding same_text
same_bytes [] [] e = refl
same_bytes [] (b ∷ t) e = never (sym e)
same_bytes (a ∷ s) [] e = never (sym e)
same_bytes (a ∷ s) (b ∷ t) e = go (eqb a b) refl e (λ q. same_bytes s t q)
  where
    go : (x : Bool) → eqb a b ≡ x → cond x (same_text s t) false ≡ true → (same_text s t ≡ true → s ≡ t) → ◌≡◌ {A = List ℕ} (a ∷ s) (b ∷ t)
    go true p q h = rw (eqb-true a b p, h q) refl
    go false p q h = never (sym q)

module _ {A : Type 0} (bytes : A → List ℕ) where
  -- the names of the same bytes have the same value
  same_lookup : (env : List (Binding A)) (x y : A) → bytes x ≡ bytes y → lookup bytes env x ≡ lookup bytes env y
  unfolding lookup
  same_lookup [] x y e = refl
  same_lookup (b ∷ env) x y e = rw (e, same_lookup env x y e) refl

  module _ (env : List (Binding A)) (b : Binding A) (n : lookup bytes env b.name ≡ none) where
    fresh : (x : A) (v : ConstVal A) → lookup bytes env x ≡ some v → lookup bytes (b ∷ env) x ≡ some v
    unfolding lookup
    fresh x v e = go (same_text (bytes b.name) (bytes x)) refl
      where
        go : (t : Bool) → same_text (bytes b.name) (bytes x) ≡ t → cond t (some b.value) (lookup bytes env x) ≡ some v
        go true p = not_some v (sym n ∙ same_lookup env b.name x (same_bytes (bytes b.name) (bytes x) p) ∙ e)
        go false p = e

    unary_stays : (op : ℕ) (o q : Option (ConstVal A)) (v : ConstVal A) → ((w : ConstVal A) → o ≡ some w → q ≡ some w) → unary_folded op o ≡ some v → unary_folded op q ≡ some v
    unfolding unary_folded
    unary_stays op none q v h e = not_some v e
    unary_stays op (some w) q v h e = rw (h w refl) e

    binary_stays : (op : ℕ) (o q x y : Option (ConstVal A)) (v : ConstVal A) → ((w : ConstVal A) → o ≡ some w → q ≡ some w) → ((w : ConstVal A) → x ≡ some w → y ≡ some w) → binary_folded bytes op o x ≡ some v → binary_folded bytes op q y ≡ some v
    unfolding binary_folded
    binary_stays op none q x y v h k e = not_some v e
    binary_stays op (some w) q none y v h k e = not_some v e
    binary_stays op (some w) q (some z) y v h k e = rw (h w refl, k z refl) e

    -- THEOREM
    pub value_stays : (e : Expr A) (v : ConstVal A) → const_eval bytes env e ≡ some v → const_eval bytes (b ∷ env) e ≡ some v
    unfolding const_eval
    value_stays null v h = not_some v h
    value_stays (literal x) v h = h
    value_stays (identifier x) v h = fresh x v h
    value_stays (unary op e) v h = unary_stays op (const_eval bytes env e) (const_eval bytes (b ∷ env) e) v (λ w q. value_stays e w q) h
    value_stays (binary l op r) v h =
        binary_stays op (const_eval bytes env l) (const_eval bytes (b ∷ env) l) (const_eval bytes env r) (const_eval bytes (b ∷ env) r) v (λ w q. value_stays l w q) (λ w q. value_stays r w q) h
    value_stays (grouping e) v h = value_stays e v h
    value_stays (assign x e) v h = not_some v h
    value_stays (ok_literal e) v h = not_some v h
    value_stays (err_literal e) v h = not_some v h
    value_stays (is_err e) v h = not_some v h
    value_stays (result_unwrap e) v h = not_some v h
    value_stays other v h = not_some v h
