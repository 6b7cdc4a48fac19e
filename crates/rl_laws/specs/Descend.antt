-- Recursion on the smaller indices: the fuel is not seen; and the tree of an expression by its form.
-- Assumes nothing.
use Prim.Native.Nat.{ℕ, zero, suc, ◌≤◌, ◌<◌}
use Rattle.std.specs.Prelude.{◌≡◌, refl, Bool, true, false, cond, ltb}
use Rattle.std.proofs.Math.Path.{ap, fun_ext}
use Rattle.std.proofs.Common.{arith, ltb-true, lt-ltb, le-ltb}
use Rattle.rl_spec.specs.Image.{Image}
use Rattle.rl_spec.specs.Tree.{other, below, descend_by, descend, form_of, tree_by, expr_tree}
use Rattle.rl_spec.specs.Statement.{a_statement, other_statement, statement_of, item_by, item_tree}

below_same : {X : Type 0} (i : ℕ) (d f g : ℕ → X) → ((j : ℕ) → j < i → f j ≡ g j) → below i d f ≡ below i d g
below_same {X} i d f g h = fun_ext (λ j. go j (ltb j i) refl)
  where
    go : (j : ℕ) (b : Bool) → ltb j i ≡ b → cond b (f j) (d j) ≡ cond b (g j) (d j)
    go j true e = h j (ltb-true j i e)
    go j false e = refl

module _ {X : Type 0} (d : ℕ → X) (step : ℕ → (ℕ → X) → X) where
  any_fuel : (f g i : ℕ) → i < f → i < g → descend_by d step f i ≡ descend_by d step g i
  unfolding descend_by
  any_fuel zero g i h k = absurd (omega arith)
  any_fuel (suc f) zero i h k = absurd (omega arith)
  any_fuel (suc f) (suc g) i h k = ap (step i) (below_same i d _ _ (λ j l. any_fuel f g j (omega arith) (omega arith)))

  pub descend_is : (i : ℕ) → descend d step i ≡ step i (below i d (descend d step))
  unfolding descend_by descend
  descend_is i = ap (step i) (below_same i d _ _ (λ j l. any_fuel i (suc j) j l (omega arith)))

-- THEOREM: the tree of an expression is its form with the trees of the expressions before it
pub tree_is : (im : Image) (i : ℕ) → expr_tree im i ≡ tree_by im (form_of im i) (below i (λ _. other) (expr_tree im))
unfolding expr_tree
tree_is im i = descend_is (λ _. other) (λ n tree. tree_by im (form_of im n) tree) i

-- THEOREM: the item of a statement is its form with the items of the statements before it
pub item_is : (im : Image) (i : ℕ) → item_tree im i ≡ item_by im (statement_of im i) (below i (λ _. a_statement other_statement) (item_tree im))
unfolding item_tree
item_is im i = descend_is (λ _. a_statement other_statement) (λ n item. item_by im (statement_of im n) item) i

pub under_earlier : {X : Type 0} (d g : ℕ → X) (i j : ℕ) → j < i → below i d g j ≡ g j
under_earlier d g i j h = rw (lt-ltb j i h) refl

pub under_later : {X : Type 0} (d g : ℕ → X) (i j : ℕ) → i ≤ j → below i d g j ≡ d j
under_later d g i j h = rw (le-ltb j i h) refl

pub below_earlier : (im : Image) (i j : ℕ) → j < i → below i (λ _. other) (expr_tree im) j ≡ expr_tree im j
below_earlier im i j h = under_earlier (λ _. other) (expr_tree im) i j h

pub below_later : (im : Image) (i j : ℕ) → i ≤ j → below i (λ _. other) (expr_tree im) j ≡ other
below_later im i j h = under_later (λ _. other) (expr_tree im) i j h
