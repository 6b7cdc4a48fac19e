-- Folding commutes with another account of the texts that keeps their bytes: a mapped tree folds, under mapped names, to what it folded
-- to, mapped.
-- Assumes nothing.
use Rattle.std.specs.Prelude.{◌≡◌, ℕ, List, [], ◌∷◌, map}
use Rattle.std.proofs.Math.Path.{refl, ap, ap₂}
use Rattle.std.proofs.Common.{◌∙◌}
use Rattle.std.proofs.Math.Option.{Option, none, some}
use Rattle.rl_spec.specs.Values.{ConstVal, same_text}
use Rattle.rl_spec.specs.Fold.{Binding, unary_folded, binary_folded, lookup, const_eval}
use Rattle.rl_spec.specs.Tree.{Expr, null, literal, identifier, unary, binary, grouping, assign, ok_literal, err_literal, is_err, result_unwrap, other}
use Rattle.rl_spec.specs.Mapped.{map_const, map_expr}
use Rattle.rl_theorems.specs.Runs.Texts.{cond_at, map_maybe, unary_same, binaries}

module _ {A B : Type 0} (f : A → B) where
  abbrev pub map_binding : Binding A → Binding B
  map_binding b = record { name = f b.name; value = map_const f b.value }

  abbrev pub map_names : List (Binding A) → List (Binding B)
  map_names names = map map_binding names

  unary_folds : (op : ℕ) (o : Option (ConstVal A)) → unary_folded op (map_maybe f o) ≡ map_maybe f (unary_folded op o)
  unfolding unary_folded
  unary_folds op none = refl
  unary_folds op (some v) = unary_same f op v

module _ {A B : Type 0} (f : A → B) (bytesA : A → List ℕ) (bytesB : B → List ℕ) (keeps : (t : A) → bytesB (f t) ≡ bytesA t) where
  pub lookup_same : (names : List (Binding A)) (x : A) → lookup bytesB (map_names f names) (f x) ≡ map_maybe f (lookup bytesA names x)
  unfolding lookup
  lookup_same [] x = refl
  lookup_same (b ∷ names) x =
      cond_at (map_maybe f) {x = some b.value} (ap₂ same_text (keeps b.name) (keeps x)) refl (lookup_same names x)

  pub binary_folds : (op : ℕ) (o q : Option (ConstVal A)) → binary_folded bytesB op (map_maybe f o) (map_maybe f q) ≡ map_maybe f (binary_folded bytesA op o q)
  unfolding binary_folded
  binary_folds op none q = refl
  binary_folds op (some v) none = refl
  binary_folds op (some v) (some w) = (binaries f bytesA bytesB keeps op v w).is

  -- FOLDING A MAPPED TREE
  pub const_same : (names : List (Binding A)) (e : Expr A) → const_eval bytesB (map_names f names) (map_expr f e) ≡ map_maybe f (const_eval bytesA names e)
  unfolding const_eval map_expr
  const_same names null = refl
  const_same names (literal v) = refl
  const_same names (identifier x) = lookup_same names x
  const_same names (unary op e) = ap (unary_folded op) (const_same names e) ∙ unary_folds f op (const_eval bytesA names e)
  const_same names (binary l op r) =
      ap₂ (binary_folded bytesB op) (const_same names l) (const_same names r) ∙ binary_folds op (const_eval bytesA names l) (const_eval bytesA names r)
  const_same names (grouping e) = const_same names e
  const_same names (assign x e) = refl
  const_same names (ok_literal e) = refl
  const_same names (err_literal e) = refl
  const_same names (is_err e) = refl
  const_same names (result_unwrap e) = refl
  const_same names other = refl
