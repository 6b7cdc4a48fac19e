-- What a node of each form asks for.
-- Assumes nothing.
use Prim.Native.Nat.{ℕ, ◌≤◌, ◌<◌}
use mathlib.Core.Path.{◌≡◌, refl, sym, ◌∙◌}
use mathlib.Core.Bool.{false}
use native.Mathlib.Omega.{arith}
use Rattle.rl_spec.specs.Answers.{Folded}
use Rattle.rl_spec.specs.declared.Form.{Form}
use Rattle.rl_spec.specs.declared.Form.TheVariants as form
use Rattle.rl_spec.specs.declared.Outcome.TheVariants.{Fault}
use Rattle.rl_spec.specs.declared.Plain.TheVariants.{Null}
use Rattle.rl_spec.specs.declared.Value.TheVariants.{Plain}
use Rattle.rl_spec.specs.Image.{Image, text_of}
use Rattle.rl_spec.specs.Folded.{folded_of}
use Rattle.rl_spec.specs.Run.{and_then, or_fault, folds, plain_of, err_of, store, eval}
use Rattle.rl_spec.specs.Tree.{form_of, tree_by}
use Rattle.rl_laws.specs.Descend.{tree_is, below_earlier, below_later}
use Rattle.rl_laws.specs.Heights.{expr_height}
use Rattle.rl_machine.specs.declared.types.Flow.TheVariants.{Over}
use Rattle.rl_machine.specs.declared.types.Frame.TheVariants.{Left, Unary, Assign, Ok, Err, IsErr, Unwrap}
use Rattle.rl_machine.specs.declared.types.State.{State}
use Rattle.rl_machine.specs.declared.types.State.TheVariants.{Visit, Push, Look, Give, Ends}
use Rattle.rl_machine.specs.Machine.{tree_under, Room, Means, Enters, EntersRoom}
use Rattle.rl_machine.proofs.Results.{then_then, then_by}

-- ---- a folded value

abbrev pub IsFolded : Folded → State → Type 0
IsFolded v r =
    ((im : Image) → Means im r (λ base rest k env n. and_then (or_fault 4 (folded_of v) env n) (λ w. k (folds w))))
    × ((im : Image) (bound t : ℕ) → Room im bound t r)

-- ---- a form

abbrev pub Entered : Form → ℕ → State → Type 0
Entered x at r =
    ((im : Image) → Enters im (tree_by im x (tree_under im at)) r) × ((im : Image) → EntersRoom im (tree_by im x (tree_under im at)) r)

module _ (x : Form) (at : ℕ) where
  pub enter_null : x ≡ form.Null → Entered x at (Give (Plain Null))
  unfolding eval
  enter_null e = rw e (λ im base rest k env n. refl, λ im b t h. tt)

  pub enter_identifier : (name : ℕ) → x ≡ form.Identifier name → Entered x at (Look name)
  unfolding eval
  enter_identifier name e = rw e (λ im base rest k env n. refl, λ im b t h. tt)

  pub enter_grouping : (n limit : ℕ) → x ≡ form.Grouping n → limit ≡ at → Entered x at (Visit n limit)
  unfolding eval expr_height
  enter_grouping n limit e f = rw (e, f) (λ im base rest k env m. refl, λ im b t h. omega arith)

  module _ (r : State) where
    pub enter_literal : (v : Folded) → x ≡ form.Literal v → IsFolded v r → Entered x at r
    unfolding eval
    enter_literal v e f =
        rw e (
          λ im base rest k env n. f.0 im base rest k env n ∙ sym (then_then (or_fault 4 (folded_of v) env n) _ k),
          λ im b t h. f.1 im b t,
        )

    pub enter_other : x ≡ form.Other → r ≡ Ends (Over (Fault 1)) → Entered x at r
    unfolding eval
    enter_other e f = rw (e, f) (λ im base rest k env n. refl, λ im b t h. tt)

    pub enter_binary : (left op right : ℕ) → x ≡ form.Binary left op right → r ≡ Push (Left op right at) left at → Entered x at r
    unfolding eval expr_height
    enter_binary left op right e f =
        rw (e, f) (
          λ im base rest k env m. then_by (eval (text_of im) (tree_under im at left) env m) _ _ k (λ v env m. sym (then_then (eval (text_of im) (tree_under im at right) env m) _ k)),
          λ im b t h. (omega arith, omega arith),
        )

    -- ---- forms with one part

    module _ (n : ℕ) where
      pub enter_unary : (op : ℕ) → x ≡ form.Unary op n → r ≡ Push (Unary op) n at → Entered x at r
      unfolding eval expr_height
      enter_unary op e f =
          rw (e, f) (
            λ im base rest k env m. then_by (eval (text_of im) (tree_under im at n) env m) _ _ k (λ v env m. refl),
            λ im b t h. (omega arith, tt),
          )

      pub enter_assign : (name : ℕ) → x ≡ form.Assign name n → r ≡ Push (Assign name) n at → Entered x at r
      unfolding eval expr_height
      enter_assign name e f =
          rw (e, f) (
            λ im base rest k env m. then_by (eval (text_of im) (tree_under im at n) env m) _ _ k (λ v env m. sym (then_then (store (text_of im) name v env m) _ k)),
            λ im b t h. (omega arith, tt),
          )

      pub enter_ok : x ≡ form.OkLiteral n → r ≡ Push Ok n at → Entered x at r
      unfolding eval expr_height
      enter_ok e f =
          rw (e, f) (
            λ im base rest k env m. then_by (eval (text_of im) (tree_under im at n) env m) _ _ k (λ v env m. sym (then_then (plain_of v env m) _ k)),
            λ im b t h. (omega arith, tt),
          )

      pub enter_err : x ≡ form.ErrLiteral n → r ≡ Push Err n at → Entered x at r
      unfolding eval expr_height
      enter_err e f =
          rw (e, f) (
            λ im base rest k env m. then_by (eval (text_of im) (tree_under im at n) env m) _ _ k (λ v env m. sym (then_then (plain_of v env m) _ k)),
            λ im b t h. (omega arith, tt),
          )

      pub enter_is_err : x ≡ form.IsErr n → r ≡ Push IsErr n at → Entered x at r
      unfolding eval expr_height
      enter_is_err e f =
          rw (e, f) (
            λ im base rest k env m. then_by (eval (text_of im) (tree_under im at n) env m) _ _ k (λ v env m. sym (then_then (err_of v env m) _ k)),
            λ im b t h. (omega arith, tt),
          )

      pub enter_unwrap : x ≡ form.ResultUnwrap n → r ≡ Push Unwrap n at → Entered x at r
      unfolding eval expr_height
      enter_unwrap e f =
          rw (e, f) (
            λ im base rest k env m. then_by (eval (text_of im) (tree_under im at n) env m) _ _ k (λ v env m. refl),
            λ im b t h. (omega arith, tt),
          )

-- ---- a node below a limit

module _ (im : Image) (limit n : ℕ) (r : State) where
  abbrev Reached : Type 0
  Reached = Enters im (tree_under im limit n) r × EntersRoom im (tree_under im limit n) r

  pub enter_late : limit ≤ n → r ≡ Ends (Over (Fault 1)) → Reached
  unfolding eval
  enter_late h e = rw (below_later im limit n h, e) (λ base rest k env m. refl, λ b t l. tt)

  pub enter_early : n < limit → (x : Form) → x ≡ form_of im n → Entered x n r → Reached
  enter_early h x e f = rw (below_earlier im limit n h, tree_is im n, ← e) (f.0 im, f.1 im)
