-- What the refinement of a parameter that fits says: a text that its operand names is there, and a whole number has 64 bits.
-- Assumes nothing.
use Rattle.std.specs.Prelude.{◌≡◌, ℕ, zero, suc, ◌-◌, ◌^◌, ◌<◌, ◌≤◌, Bool, true, false, cond, pos, negsuc, ◌==◌, ◌≢◌, nat_lt, None}
use Rattle.std.proofs.Math.Path.{refl}
use Rattle.std.proofs.Math.Option.{Option, none, some}
use Rattle.std.proofs.Common.{arith}
use Rattle.std.proofs.lemmas.Bool.{eqb-false}
use Rattle.rl_spec.specs.Answers.{refined}
use Rattle.rl_spec.specs.declared.Section.TheVariants.{Texts, Parameters}
use Rattle.rl_spec.specs.Image.{Rec, Image, size_of, record_of, SortFits, OperandFits}
use Rattle.rl_spec.specs.Tree.{signed, number}
use Rattle.rl_spec.specs.Words.{bits64}
use Rattle.rl_spec.specs.Records.{refine_op, refine_operand, param_at}
use Rattle.rl_spec.specs.FnContracts.{RefineOperand, integer, str, bool, param, ParamRefinement, operand_of, refinement_of, param_of}
use Rattle.rl_images.specs.Images.FunctionFields.{ParameterFits}

abbrev pub OperandSays : Image → RefineOperand ℕ → Type 0
OperandSays im (integer x) = bits64 x < 256 ^ 8
OperandSays im (str t) = t < size_of im Texts
OperandSays im (bool b) = Unit {0}
OperandSays im (param t) = t < size_of im Texts

abbrev pub RefinementSays : Image → Option (ParamRefinement ℕ) → Type 0
RefinementSays im none = Unit {0}
RefinementSays im (some r) = OperandSays im r.operand

signed_below : (x : ℕ) → x < 2 ^ 64 → bits64 (signed 64 x) < 256 ^ 8
signed_below x p = go (nat_lt x (2 ^ 63))
  where
    go : (b : Bool) → bits64 (cond b (pos x) (negsuc (2 ^ 64 - suc x))) < 256 ^ 8
    go true = omega arith
    go false = omega arith

sort_some : (n x : ℕ) → (n ≢ 0) → SortFits n x → 1 ≤ x
sort_some zero x z h = absurd (z refl)
sort_some (suc n) x z h = h.0

module _ (im : Image) where
  operand_says : (sort x : ℕ) → 1 ≤ sort → OperandFits im sort x → OperandSays im (operand_of (refine_operand sort x))
  operand_says zero x l h = absurd (omega arith)
  operand_says (suc zero) x l h = signed_below x h
  operand_says (suc (suc zero)) x l h = omega arith
  operand_says (suc (suc (suc zero))) x l h = tt
  operand_says (suc (suc (suc (suc zero)))) x l h = omega arith
  operand_says (suc (suc (suc (suc (suc n))))) x l h = absurd h

  by_sort : (n sort x : ℕ) → SortFits n sort → OperandFits im sort x → (b : Bool) → (n == 0) ≡ b →
      RefinementSays im (refinement_of (cond b None (refined (refine_op n) (refine_operand sort x))))
  by_sort n sort x h o true e = tt
  by_sort n sort x h o false e = operand_says sort x (sort_some n sort (eqb-false n 0 e) h) o

  pub refinement_says : (i : ℕ) → ParameterFits im (record_of im Parameters i) → RefinementSays im (param_of im i).refinement
  unfolding param_of param_at
  refinement_says i x =
      let r : Rec = record_of im Parameters i in
      by_sort (number r 2) (number r 3) (number r 4) x.sort x.operand (number r 2 == 0) refl
