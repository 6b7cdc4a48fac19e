-- Laws for the default texts.
-- Assumes nothing.
use Prim.Native.Nat.{ℕ, ◌+◌}
use mathlib.Core.Path.{◌≡◌, refl, sym, ap, ◌∙◌, subst}
use mathlib.Core.Bool.{true, false}
use mathlib.Core.List.{List, [], ◌++◌}
use mathlib.Core.Option.{map}
use native.Mathlib.Omega.{arith}
use lib.IntN.{ℤ, pos, negsuc, nat_abs}
use lib.Signed.{lt_z}
use mir.Syntax.{w64}
use mir.Val.{to_z, of_z, SFits}
use mir.Facts.{to_z-of_z}
use borrow.Author.Tests.{ltb-true}
use Rattle.rl_spec.specs.declared.Counts.{Counts}
use Rattle.rl_spec.specs.declared.Param.{Param}
use Rattle.rl_spec.specs.Answers.{ParamRefinement}
use Rattle.std.specs.Prelude.{None, Some}
use Rattle.rl_spec.specs.declared.Refinement as refinement
use Rattle.rl_spec.specs.declared.Violation.{Violation}
use Rattle.rl_spec.specs.declared.Violation.TheVariants.{Refinement, Requires}
use Rattle.rl_spec.specs.Image.{Image, text_of}
use Rattle.rl_spec.specs.Folded.{op_of}
use Rattle.rl_spec.specs.Tree.{ascii}
use Rattle.rl_spec.specs.Records.{param_at, function_at}
use Rattle.rl_spec.specs.FnContracts.{operand_of, refinement_of, param_of}
use Rattle.rl_spec.specs.Found.{image_found}
use Rattle.rl_spec.specs.Mapped.{map_operand, map_refinement}
use Rattle.rl_spec.specs.Message.{decimal, integer_text, refine_op_str, operand_str, refinement_text, default_text}
use Rattle.rl_text_out.specs.declared.Out.{Out}
use Rattle.rl_text_out.specs.Put.{with_text, after_text}
use Rattle.rl_text_out.proofs.Joined.{after_nothing, with_nothing, Puts, puts_as, puts_then}

puts_nothing : (out : List ℕ) (at : ℕ) → Puts out at [] out at
puts_nothing out at = (sym (after_nothing out at), sym (with_nothing out at))

-- ---- numbers

abbrev read : ℤ → ℤ
read x = to_z w64 (of_z w64 x)

minus : (x : ℤ) → lt_z x (pos 0) ≡ true → ascii "-" ++ decimal (nat_abs x) ≡ integer_text x
minus (pos a) t = absurd (omega (arith, ltb-true a 0 t))
minus (negsuc a) t = refl

plain : (x : ℤ) → lt_z x (pos 0) ≡ false → decimal (nat_abs x) ≡ integer_text x
plain (pos a) t = refl
plain (negsuc a) t = let z : ◌≡◌ {A = ℕ} 0 1 = cc in absurd (omega arith)

module _ (x : ℤ) (h : SFits w64 x) (n : ℕ) (e : n ≡ nat_abs (read x)) where
  text_minus : lt_z (read x) (pos 0) ≡ true → ascii "-" ++ decimal n ≡ integer_text x
  text_minus t = rw (e, to_z-of_z h) (minus x (rw (to_z-of_z h) at t))

  text_plain : lt_z (read x) (pos 0) ≡ false → decimal n ≡ integer_text x
  text_plain t = rw (e, to_z-of_z h) (plain x (rw (to_z-of_z h) at t))

  -- the writer o before the digits is that behind the minus, or the first one
  module _ (out o : Out) (v : List ℕ) (r : ℕ) (b : Puts o.bytes.now o.at (decimal n) v r) where
    pub puts_minus : lt_z (read x) (pos 0) ≡ true → (u : Out) → o ≡ u → Puts out.bytes.now out.at (ascii "-") u.bytes.now u.at → Puts out.bytes.now out.at (integer_text x) v r
    puts_minus t u q a =
        puts_as out.bytes.now out.at _ _ v r (puts_then out.bytes.now out.at _ _ u.bytes.now v u.at r a (subst (λ z. Puts z.bytes.now z.at (decimal n) v r) q b)) (text_minus t)

    pub puts_plain : lt_z (read x) (pos 0) ≡ false → o ≡ out → Puts out.bytes.now out.at (integer_text x) v r
    puts_plain t q = puts_as out.bytes.now out.at _ _ v r (subst (λ z. Puts z.bytes.now z.at (decimal n) v r) q b) (text_plain t)

-- ---- a text in quotes

pub puts_quoted : (out t w v u : List ℕ) (at e f r : ℕ) → Puts out at (ascii "\"") w e → Puts w e t v f → Puts v f (ascii "\"") u r → Puts out at (ascii "\"" ++ t ++ ascii "\"") u r
puts_quoted out t w v u at e f r a b c = puts_then out at _ _ v u f r (puts_then out at _ _ w v e f a b) c

-- ---- texts of an image, wherever its expressions and statements start

abbrev PutsIn : List ℕ → Counts → List ℕ → ℕ → (Image → List ℕ) → List ℕ → ℕ → Type 0
PutsIn s c out at text w r =
    ((p : List ℕ) → r ≡ after_text out at (text (image_found s p c))) × ((p : List ℕ) → w ≡ with_text out at (text (image_found s p c)))

module _ (s : List ℕ) (c : Counts) (out : List ℕ) (at : ℕ) where
  puts_same : (text u : Image → List ℕ) (w : List ℕ) (r : ℕ) → PutsIn s c out at u w r → ((p : List ℕ) → u (image_found s p c) ≡ text (image_found s p c)) → PutsIn s c out at text w r
  puts_same text u w r h e = (λ p. h.0 p ∙ ap (after_text out at) (e p), λ p. h.1 p ∙ ap (with_text out at) (e p))

  puts_in : (text : Image → List ℕ) (t w : List ℕ) (r : ℕ) → Puts out at t w r → ((p : List ℕ) → t ≡ text (image_found s p c)) → PutsIn s c out at text w r
  puts_in text t w r h e = puts_same text (λ im. t) w r (λ p. h.0, λ p. h.1) e

-- ---- a refinement

module _ (s : List ℕ) (c : Counts) (out : List ℕ) (at name : ℕ) (q : refinement.Refinement) where
  abbrev pub PutsRefinement : List ℕ → ℕ → Type 0
  PutsRefinement w r = PutsIn s c out at (λ im. refinement_text (text_of im name) (map (map_refinement (text_of im)) (refinement_of (Some q)))) w r

  pub puts_refinement : (t u w₁ w₂ w₃ w₄ w₅ w : List ℕ) (e₁ e₂ e₃ e₄ e₅ r : ℕ) → ((p : List ℕ) → t ≡ text_of (image_found s p c) name)
      → Puts out at (ascii "refinement failed: ") w₁ e₁ → Puts w₁ e₁ t w₂ e₂ → Puts w₂ e₂ (ascii " ") w₃ e₃
      → u ≡ refine_op_str (op_of q.op) → Puts w₃ e₃ u w₄ e₄ → Puts w₄ e₄ (ascii " ") w₅ e₅ → PutsIn s c w₅ e₅ (λ im. operand_str (map_operand (text_of im) (operand_of q.operand))) w r
      → PutsRefinement w r
  puts_refinement t u w₁ w₂ w₃ w₄ w₅ w e₁ e₂ e₃ e₄ e₅ r f a b d o g h k = (λ p. (whole p).0, λ p. (whole p).1)
    where
      whole : (p : List ℕ) → Puts out at (refinement_text (text_of (image_found s p c) name) (map (map_refinement (text_of (image_found s p c))) (refinement_of (Some q)))) w r
      whole p =
          puts_then out at _ _ w₅ w e₅ r
          (puts_then out at _ _ w₄ w₅ e₄ e₅
          (puts_then out at _ _ w₃ w₄ e₃ e₄
          (puts_then out at _ _ w₂ w₃ e₂ e₃
          (puts_then out at _ _ w₁ w₂ e₁ e₂ a (puts_as w₁ e₁ t _ w₂ e₂ b (f p))) d) (puts_as w₃ e₃ u _ w₄ e₄ g o)) h)
          (k.0 p, k.1 p)

-- ---- a violation

module _ (s : List ℕ) (c : Counts) (f : ℕ) where
  module _ (v : Violation) (out : List ℕ) (at : ℕ) where
    abbrev default : Image → List ℕ
    default im = default_text im f v

    pub puts_requires : (w : List ℕ) (r n : ℕ) → v ≡ Requires n → Puts out at (ascii "requires violated") w r → PutsIn s c out at default w r
    puts_requires w r n e a = puts_in s c out at default _ w r a (λ p. rw e refl)

    module _ (n : ℕ) (q : Param) (x : ParamRefinement) (e : v ≡ Refinement n) (g : (p : List ℕ) → q ≡ param_at (image_found s p c) ((function_at (image_found s p c) f).params.first + n)) (h : q.refinement ≡ x) where
      abbrev text_of_lem : Image → List ℕ
      text_of_lem im = refinement_text (text_of im q.name) (map (map_refinement (text_of im)) (refinement_of x))

      by_param : (p : List ℕ) → text_of_lem (image_found s p c) ≡ default (image_found s p c)
      unfolding param_of
      by_param p = rw (e, ← g p, ← h) refl

      pub puts_unrefined : x ≡ None → PutsIn s c out at default out at
      puts_unrefined u = puts_in s c out at default [] out at (puts_nothing out at) (λ p. rw u at (by_param p))

      pub puts_refined : (d : refinement.Refinement) (w : List ℕ) (r : ℕ) → x ≡ Some d → PutsIn s c out at (λ im. refinement_text (text_of im q.name) (map (map_refinement (text_of im)) (refinement_of (Some d)))) w r → PutsIn s c out at default w r
      puts_refined d w r u a = puts_same s c out at default text_of_lem w r (rw u a) by_param
