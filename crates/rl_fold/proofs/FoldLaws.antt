-- What a node folds to, by its form, and one law for each way out of `const_eval`.
-- Assumes nothing.
use Prim.Native.Nat.{ℕ, ◌<◌, ◌≤◌}
use mathlib.Core.Path.{◌≡◌, refl, sym, ap, ◌∙◌}
use mathlib.Core.List.{List}
use mathlib.Core.Option.{Option, none, some}
use borrow.Author.Tests.{lt-ltb, le-ltb}
use Rattle.rl_laws.specs.Descend.{tree_is}
use Rattle.rl_spec.specs.Answers.{Folded}
use Rattle.std.specs.Prelude.{None, Some}
use Rattle.rl_spec.specs.declared.ConstVal.{ConstVal}
use Rattle.rl_spec.specs.declared.ConstVal.TheVariants as kind
use Rattle.rl_spec.specs.declared.Form.{Form}
use Rattle.rl_spec.specs.declared.Form.TheVariants as form
use Rattle.rl_spec.specs.Image.{Image, text_of}
use Rattle.rl_spec.specs.Values as value
use Rattle.rl_spec.specs.Folded.{as_const, as_folded, const_of, folded_of}
use Rattle.rl_spec.specs.Tree.{other, below, form_of, tree_by, expr_tree}
use Rattle.rl_spec.specs.Fold.{Binding, unary_folded, binary_folded, const_eval}
use Rattle.rl_memory.specs.Memory.{Right}
use Rattle.rl_names.specs.Names.{lookup_in}
use Rattle.rl_names.proofs.Laws.{walk_is}
use Rattle.rl_fold.specs.Folding.{folded_at, Names, Folds}

-- ---- the two accounts of a value

pub const_back : (v : ConstVal) → as_const (const_of v) ≡ v
const_back (kind.Int x) = refl
const_back (kind.Float x) = refl
const_back (kind.Str x) = refl
const_back (kind.Bool x) = refl

pub folded_back : (v : Folded) → as_folded (folded_of v) ≡ v
folded_back (Some v) = ap Some (const_back v)
folded_back None = refl

pub const_forth : (v : value.ConstVal ℕ) → const_of (as_const v) ≡ v
const_forth (value.int x) = refl
const_forth (value.float x) = refl
const_forth (value.str x) = refl
const_forth (value.bool x) = refl

pub folded_forth : (o : Option (value.ConstVal ℕ)) → folded_of (as_folded o) ≡ o
folded_forth none = refl
folded_forth (some v) = ap some (const_forth v)

pub from_forth : (v : Folded) (o : Option (value.ConstVal ℕ)) → v ≡ as_folded o → folded_of v ≡ o
from_forth v o e = ap folded_of e ∙ folded_forth o

pub from_back : (v : Folded) (o : Option (value.ConstVal ℕ)) → folded_of v ≡ o → v ≡ as_folded o
from_back v o e = sym (folded_back v) ∙ ap as_folded e

-- ---- what a node folds to, by its form

module _ (im : Image) (env : List (Binding ℕ)) where
  abbrev value_at : ℕ → Option (value.ConstVal ℕ)
  value_at n = const_eval (text_of im) env (expr_tree im n)

  abbrev made : ℕ → Form → Folded
  made n f = as_folded (const_eval (text_of im) env (tree_by im f (below n (λ _. other) (expr_tree im))))

  node : (n : ℕ) (f g : Form) → f ≡ form_of im n → f ≡ g → made n g ≡ folded_at im env n
  node n f g e q = ap (made n) (sym q ∙ e) ∙ ap (λ t. as_folded (const_eval (text_of im) env t)) (sym (tree_is im n))

-- ---- the ways out

module _ (im : Image) (cs w : List ℕ) (count n : ℕ) (m : List ℕ) where
  pub remembered : (v r : Folded) (mid out : List ℕ) → Folds im cs w count n m v mid → r ≡ v → ((f : ℕ → Folded) → Right f count mid → v ≡ f n → Right f count out) → Folds im cs w count n m r out
  remembered v r mid out c p k env nm right = let a = c env nm right in (p ∙ a.0, k (folded_at im env) a.1 a.0)

  module _ (f : Form) (e : f ≡ form_of im n) where
    -- as a node that needs no other
    alone : (g : Form) → f ≡ g → (v : Folded) → ((env : List (Binding ℕ)) → Names im env cs w count → v ≡ made im env n g) → Folds im cs w count n m v m
    alone g q v k env nm right = (k env nm ∙ node im env n f g e q, right)

    pub at_literal : (v : Folded) → f ≡ form.Literal v → Folds im cs w count n m v m
    unfolding const_eval
    at_literal v q = alone (form.Literal v) q v (λ env nm. sym (folded_back v))

    pub at_identifier : (t : ℕ) (v : Folded) → f ≡ form.Identifier t → v ≡ lookup_in cs w t count → Folds im cs w count n m v m
    unfolding const_eval
    at_identifier t v q g =
        alone (form.Identifier t) q v
        (λ env nm. g ∙ ap (lookup_in cs w t) (sym nm.counted) ∙ walk_is (text_of im) cs w t env nm.standing)

    pub at_grouping : (x : ℕ) (v : Folded) (mid : List ℕ) → f ≡ form.Grouping x → x < n → Folds im cs w count x m v mid → Folds im cs w count n m v mid
    unfolding const_eval
    at_grouping x v mid q h c env nm right =
        let a = c env nm right in
        let s : folded_at im env x ≡ made im env n (form.Grouping x) = rw (lt-ltb x n h) refl in
        (a.0 ∙ s ∙ node im env n f (form.Grouping x) e q, a.1)

    pub at_unary : (op x : ℕ) (v u : Folded) (mid : List ℕ) → f ≡ form.Unary op x → x < n → Folds im cs w count x m v mid → folded_of u ≡ unary_folded op (folded_of v) → Folds im cs w count n m u mid
    unfolding const_eval
    at_unary op x v u mid q h c z env nm right =
        let a = c env nm right in
        let b : folded_of v ≡ value_at im env x = from_forth v _ a.0 in
        let s : as_folded (unary_folded op (value_at im env x)) ≡ made im env n (form.Unary op x) = rw (lt-ltb x n h) refl in
        (from_back u _ (z ∙ ap (unary_folded op) b) ∙ s ∙ node im env n f (form.Unary op x) e q, a.1)

    pub at_binary : (l op r : ℕ) (a b u : Folded) (mid last : List ℕ) → f ≡ form.Binary l op r → l < n → r < n → Folds im cs w count l m a mid → Folds im cs w count r mid b last → folded_of u ≡ binary_folded (text_of im) op (folded_of a) (folded_of b) → Folds im cs w count n m u last
    unfolding const_eval
    at_binary l op r a b u mid last q h k c d z env nm right =
        let x = c env nm right in
        let y = d env nm x.1 in
        let i : folded_of a ≡ value_at im env l = from_forth a _ x.0 in
        let j : folded_of b ≡ value_at im env r = from_forth b _ y.0 in
        let s : as_folded (binary_folded (text_of im) op (value_at im env l) (value_at im env r)) ≡ made im env n (form.Binary l op r) = rw (lt-ltb l n h, lt-ltb r n k) refl in
        (from_back u (binary_folded (text_of im) op (value_at im env l) (value_at im env r)) (z ∙ rw (i, j) refl) ∙ s ∙ node im env n f (form.Binary l op r) e q, y.1)

    -- ---- a part that is not before the node has no value

    pub late_grouping : (x : ℕ) → f ≡ form.Grouping x → n ≤ x → Folds im cs w count n m None m
    unfolding const_eval
    late_grouping x q h = alone (form.Grouping x) q None (λ env nm. rw (le-ltb x n h) refl)

    pub late_unary : (op x : ℕ) → f ≡ form.Unary op x → n ≤ x → Folds im cs w count n m None m
    unfolding const_eval unary_folded
    late_unary op x q h = alone (form.Unary op x) q None (λ env nm. rw (le-ltb x n h) refl)

    pub late_left : (l op r : ℕ) → f ≡ form.Binary l op r → n ≤ l → Folds im cs w count n m None m
    unfolding const_eval binary_folded
    late_left l op r q h = alone (form.Binary l op r) q None (λ env nm. rw (le-ltb l n h) refl)

    pub late_right : (l op r : ℕ) → f ≡ form.Binary l op r → n ≤ r → Folds im cs w count n m None m
    unfolding const_eval binary_folded
    late_right l op r q h =
        alone (form.Binary l op r) q None
        (λ env nm. rw (le-ltb r n h) (missing env (const_eval (text_of im) env (below n (λ _. other) (expr_tree im) l))))
      where
        missing : (env : List (Binding ℕ)) (o : Option (value.ConstVal ℕ)) → None ≡ as_folded (binary_folded (text_of im) op o none)
        missing env none = refl
        missing env (some x) = refl

    -- ---- the other forms have no value

    none_else : (g : Form) → f ≡ g → ((v : Folded) → g ≡ form.Literal v → ⊥) → ((t : ℕ) → g ≡ form.Identifier t → ⊥) → ((x : ℕ) → g ≡ form.Grouping x → ⊥) → ((op x : ℕ) → g ≡ form.Unary op x → ⊥) → ((l op r : ℕ) → g ≡ form.Binary l op r → ⊥) → Folds im cs w count n m None m
    unfolding const_eval
    none_else form.Null q a b c d h = alone form.Null q None (λ env nm. refl)
    none_else (form.Literal v) q a b c d h = absurd (a v refl)
    none_else (form.Identifier t) q a b c d h = absurd (b t refl)
    none_else (form.Unary op x) q a b c d h = absurd (d op x refl)
    none_else (form.Binary l op r) q a b c d h = absurd (h l op r refl)
    none_else (form.Grouping x) q a b c d h = absurd (c x refl)
    none_else (form.Assign x y) q a b c d h = alone (form.Assign x y) q None (λ env nm. refl)
    none_else (form.OkLiteral x) q a b c d h = alone (form.OkLiteral x) q None (λ env nm. refl)
    none_else (form.ErrLiteral x) q a b c d h = alone (form.ErrLiteral x) q None (λ env nm. refl)
    none_else (form.IsErr x) q a b c d h = alone (form.IsErr x) q None (λ env nm. refl)
    none_else (form.ResultUnwrap x) q a b c d h = alone (form.ResultUnwrap x) q None (λ env nm. refl)
    none_else form.Other q a b c d h = alone form.Other q None (λ env nm. refl)

    pub at_other : ((v : Folded) → f ≡ form.Literal v → ⊥) → ((t : ℕ) → f ≡ form.Identifier t → ⊥) → ((x : ℕ) → f ≡ form.Grouping x → ⊥) → ((op x : ℕ) → f ≡ form.Unary op x → ⊥) → ((l op r : ℕ) → f ≡ form.Binary l op r → ⊥) → Folds im cs w count n m None m
    at_other = none_else f refl
