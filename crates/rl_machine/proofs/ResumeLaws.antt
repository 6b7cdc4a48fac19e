-- What a frame does with an operator's value.
-- Assumes nothing.
use Prim.Native.Nat.{ℕ}
use mathlib.Core.Path.{◌≡◌, refl, sym, ◌∙◌}
use mathlib.Core.List.{List}
use mathlib.Core.Option.{Option, none, some}
use Rattle.rl_spec.specs.declared.Counts.{Counts}
use Rattle.rl_spec.specs.declared.Value.{Value}
use Rattle.rl_spec.specs.Answers.{Folded}
use Rattle.rl_spec.specs.Image.{Image, text_of}
use Rattle.rl_spec.specs.Found.{image_found}
use Rattle.rl_spec.specs.Folded.{folded_of}
use Rattle.rl_spec.specs.Fold.{unary_value, unary_folded, binary_value, binary_folded}
use Rattle.rl_spec.specs.Run as run
use Rattle.rl_spec.specs.Run.{Env, Run, and_then, or_fault, operand, folds, unary_on, binary_on}
use Rattle.rl_spec.specs.Runner.{value_of}
use Rattle.rl_spec.specs.Values as constant
use Rattle.rl_machine.specs.declared.types.Flow.{Flow}
use Rattle.rl_machine.specs.declared.types.Frame.{Frame}
use Rattle.rl_machine.specs.declared.types.Frame.TheVariants.{Right, Unary}
use Rattle.rl_machine.specs.declared.types.State.{State}
use Rattle.rl_machine.specs.Machine.{Resumes, ResumesRoom}
use Rattle.rl_machine.proofs.Results.{then_then}
use Rattle.rl_machine.proofs.EnterLaws.{IsFolded}

module _ (bytes : ℕ → List ℕ) (op : ℕ) (k : run.Value ℕ → Run ℕ Flow) (env : Env ℕ) (n : ℕ) where
  unary_then : (a : Option (constant.ConstVal ℕ)) → and_then (or_fault 4 (unary_folded op a) env n) (λ w. k (folds w)) ≡ and_then (unary_on bytes op a env n) k
  unfolding unary_folded
  unary_then none = refl
  unary_then (some v) = sym (then_then (or_fault 4 (unary_value op v) env n) _ k)

  binary_then : (a b : Option (constant.ConstVal ℕ)) → and_then (or_fault 4 (binary_folded bytes op a b) env n) (λ w. k (folds w)) ≡ and_then (binary_on bytes op a b env n) k
  unfolding binary_folded
  binary_then none b = refl
  binary_then (some v) none = refl
  binary_then (some v) (some w) = sym (then_then (or_fault 4 (binary_value bytes op v w) env n) _ k)

module _ (s : List ℕ) (c : Counts) (f : Frame) (v : Value) (r : State) where
  abbrev Taken : Type 0
  Taken = ((p : List ℕ) → Resumes (image_found s p c) f (value_of v) r) × ((im : Image) → ResumesRoom im f r)

  pub take_unary : (op : ℕ) → f ≡ Unary op → (b z : Folded) → folded_of b ≡ operand (value_of v) → folded_of z ≡ unary_folded op (folded_of b) → IsFolded z r → Taken
  take_unary op e b z g h i =
      rw e (
        λ p base rest k env n. i.0 (image_found s p c) base rest k env n ∙ rw (h, g) (unary_then (text_of (image_found s p c)) op k env n (operand (value_of v))),
        λ im b t l. i.1 im b t,
      )

  pub take_right : (op : ℕ) (l : Value) → f ≡ Right op l → (a b z : Folded) → folded_of a ≡ operand (value_of l) → folded_of b ≡ operand (value_of v) → ((p : List ℕ) → folded_of z ≡ binary_folded (text_of (image_found s p c)) op (folded_of a) (folded_of b)) → IsFolded z r → Taken
  take_right op l e a b z d g h i =
      rw e (
        λ p base rest k env n. i.0 (image_found s p c) base rest k env n ∙ rw (h p, d, g) (binary_then (text_of (image_found s p c)) op k env n (operand (value_of l)) (operand (value_of v))),
        λ im b t u. i.1 im b t,
      )
