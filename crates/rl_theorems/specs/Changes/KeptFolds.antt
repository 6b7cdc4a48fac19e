-- What folded before folds alike: under the same names, and under names that give each name that had a value that value.
-- Assumes nothing.
use Rattle.std.specs.Prelude.{◌≡◌, ℕ, zero, suc, ◌<◌, Bool, true, false, cond, List, refl}
use Rattle.std.proofs.Common.{ap, ◌∙◌, arith}
use Rattle.std.proofs.Math.Path.{ap₂}
use Rattle.std.proofs.Math.Option.{Option, none, some}
use Rattle.rl_spec.specs.declared.Form.{Form}
use Rattle.rl_spec.specs.declared.Form.TheVariants.{Null, Literal, Identifier, Unary, Binary, Grouping, Assign, OkLiteral, ErrLiteral, IsErr, ResultUnwrap, Other}
use Rattle.rl_spec.specs.declared.Section.TheVariants.{Expressions}
use Rattle.rl_spec.specs.Image.{Image, record_of, text_of}
use Rattle.rl_spec.specs.Values.{ConstVal}
use Rattle.rl_spec.specs.Fold.{Binding, unary_folded, binary_folded, lookup, const_eval}
use Rattle.rl_spec.specs.Tree.{Expr, other, below, tree_by, expr_tree}
use Rattle.rl_laws.specs.Tests.{by_ltb}
use Rattle.rl_laws.specs.Descend.{tree_is, below_earlier, below_later}
use Rattle.rl_theorems.specs.DemandThree.Folds.{none≢some}
use Rattle.rl_theorems.specs.Changes.SmallConstants.{is_small, before, texts_same, form_at}

-- what the first has, the second has
abbrev pub Kept : {A : Type 0} → Option A → Option A → Type 0
Kept {A} o p = (v : A) → o ≡ some v → p ≡ some v

unary_kept : (op : ℕ) (o p : Option (ConstVal ℕ)) → Kept o p → Kept (unary_folded op o) (unary_folded op p)
unfolding unary_folded
unary_kept op none p h v e = absurd (none≢some e)
unary_kept op (some x) p h v e = ap (unary_folded op) (h x refl) ∙ e

module _ (bytes : ℕ → List ℕ) where
  binary_kept : (op : ℕ) (o p q r : Option (ConstVal ℕ)) → Kept o p → Kept q r → Kept (binary_folded bytes op o q) (binary_folded bytes op p r)
  unfolding binary_folded
  binary_kept op none p q r h k v e = absurd (none≢some e)
  binary_kept op (some x) p none r h k v e = absurd (none≢some e)
  binary_kept op (some x) p (some y) r h k v e = ap₂ (binary_folded bytes op) (h x refl) (k y refl) ∙ e

  -- a name that has a value among the first has it among the second
  abbrev pub KeptNames : List (Binding ℕ) → List (Binding ℕ) → Type 0
  KeptNames names more = (x : ℕ) → Kept (lookup bytes names x) (lookup bytes more x)

  -- what the first tree folds to, the second does
  abbrev pub KeptFolds : Expr ℕ → Expr ℕ → Type 0
  KeptFolds d e = (names more : List (Binding ℕ)) → KeptNames names more → Kept (const_eval bytes names d) (const_eval bytes more e)

  other_kept : (e : Expr ℕ) → KeptFolds other e
  unfolding const_eval
  other_kept e names more h v q = absurd (none≢some q)

  module _ (im : Image) where
    form_kept : (form : Form) (t u : ℕ → Expr ℕ) → ((n : ℕ) → KeptFolds (t n) (u n)) → KeptFolds (tree_by (before im) form t) (tree_by im form u)
    unfolding const_eval
    form_kept Null t u k names more h v e = absurd (none≢some e)
    form_kept (Literal l) t u k names more h v e = e
    form_kept (Identifier x) t u k names more h v e = h x v e
    form_kept (Unary op n) t u k names more h v e = unary_kept op _ _ (k n names more h) v e
    form_kept (Binary l op r) t u k names more h v e = binary_kept op _ _ _ _ (k l names more h) (k r names more h) v e
    form_kept (Grouping n) t u k names more h v e = k n names more h v e
    form_kept (Assign x n) t u k names more h v e = absurd (none≢some e)
    form_kept (OkLiteral n) t u k names more h v e = absurd (none≢some e)
    form_kept (ErrLiteral n) t u k names more h v e = absurd (none≢some e)
    form_kept (IsErr n) t u k names more h v e = absurd (none≢some e)
    form_kept (ResultUnwrap n) t u k names more h v e = absurd (none≢some e)
    form_kept Other t u k names more h v e = absurd (none≢some e)

    small_kept : (b : Bool) (form : Form) (t u : ℕ → Expr ℕ) → ((n : ℕ) → KeptFolds (t n) (u n)) →
        KeptFolds (tree_by (before im) (cond b Other form) t) (tree_by im form u)
    small_kept true form t u k = other_kept (tree_by im form u)
    small_kept false form t u k = form_kept form t u k

    child_kept : (i n : ℕ) → (n < i → KeptFolds (expr_tree (before im) n) (expr_tree im n)) →
        KeptFolds (below i (λ _. other) (expr_tree (before im)) n) (below i (λ _. other) (expr_tree im) n)
    child_kept i n h =
        by_ltb n i (λ l. rw (below_earlier (before im) i n l, below_earlier im i n l) (h l)) (λ l. rw (below_later (before im) i n l) (other_kept _))

    all_below : (b i : ℕ) → i < b → KeptFolds (expr_tree (before im) i) (expr_tree im i)
    all_below zero i l = absurd (omega arith)
    all_below (suc b) i l =
        rw (tree_is (before im) i, tree_is im i, form_at im i)
        (small_kept (is_small (record_of im Expressions i).kind) _ _ _ (λ n. child_kept i n (λ m. all_below b n (omega arith))))

    pub tree_kept : (i : ℕ) → KeptFolds (expr_tree (before im) i) (expr_tree im i)
    tree_kept i = all_below (suc i) i (omega arith)

-- THEOREM
pub folds_alike : (im : Image) (i : ℕ) (names : List (Binding ℕ)) (v : ConstVal ℕ) →
    const_eval (text_of (before im)) names (expr_tree (before im) i) ≡ some v → const_eval (text_of im) names (expr_tree im i) ≡ some v
folds_alike im i names v e = tree_kept (text_of im) im i names names (λ x w q. q) v (rw (texts_same im) at e)
