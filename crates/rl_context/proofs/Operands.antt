-- The operands of a refinement's predicate, as the code makes them.
-- Assumes nothing.
use Rattle.std.proofs.Common.{◌≡◌, ℕ, ◌<◌, ◌≤◌, Bool, true, false, cond, List, [], ◌∷◌, length, take, drop, ℤ, sym, refl, ap, ◌∙◌, subst, arith, length-take-le, to_z-of_z, w64, SFits, to_z, of_z}
use mathlib.Core.Option.{Option, none}
use mir.Val.{bool_byte}
use Rattle.rl_spec.specs.declared.RefineOperand as operand
use Rattle.rl_spec.specs.declared.RefineOperand.TheVariants.{Integer, Str, Bool as Truth, Param as Named}
use Rattle.rl_spec.specs.Schema.{limits, sort_of, schema, fields_in, fields_of}
use Rattle.rl_spec.specs.Image.{num, Image, text_of}
use Rattle.rl_spec.specs.Words.{bits64}
use Rattle.rl_spec.specs.FnContracts.{operand_of}
use Rattle.rl_spec.specs.Make.{Context, and_then, ◌>>=◌, give, new_text}
use Rattle.rl_spec.specs.Lower.{expr, str_lit}
use Rattle.rl_images.specs.Lowering.Gives.{Gives, stops, gives}
use Rattle.rl_images.specs.Lowering.Grows.{text_gives}
use Rattle.rl_schema.specs.Codes.{codes}
use Rattle.rl_encode.specs.Words.{word_fields}
use Rattle.rl_text_out.specs.Put.{fitting, with_text, after_text}
use Rattle.rl_text_out.proofs.Joined.{length_with, room_holds}
use Rattle.rl_laws.specs.Tests.{by_ltb}
use Rattle.rl_context.specs.Does.{State, nothing, Does}
use Rattle.rl_context.proofs.Composed.{does_bind, does_give}
use Rattle.rl_images.specs.Lowering.Adds.{adds_give, adds_bind}
use Rattle.rl_images.specs.Lowering.AddsLower.{adds_expr}
use Rattle.rl_context.proofs.StaysOver.{keeps_more}
use Rattle.rl_context.proofs.Rows.{row_integer, row_string, row_bool, row_identifier}
use Rattle.rl_context.specs.declared.refinements.Operand.{Operand}
use Rattle.rl_context.specs.Guards.{Makes, Leaf, an_integer, a_string, a_bool, an_identifier, leaf_of, copy_of, OperandMade}

abbrev operand_as : ℕ → ℕ → ℕ → Operand
operand_as kind row word = record { kind = record { number = kind; row = row }; word = word }

module _ {im : Image} (image : Image) (x : operand.RefineOperand) {s t : State} where
  of_operand : (r : Operand) (y : operand.RefineOperand) → x ≡ y → OperandMade im (leaf_of image (operand_of y)) s r t → OperandMade im (leaf_of image (operand_of x)) s r t
  of_operand r y e m = subst (λ z. OperandMade im (leaf_of image (operand_of z)) s r t) (sym e) m

  text_made : (kind row : ℕ) (text : List ℕ) (z n : ℕ) → Leaf kind → codes row ≡ fields_of kind → text ≡ text_of image z → Makes im (new_text text) s n t →
      OperandMade im (new_text (text_of image z) >>= λ m. give (kind, m)) s (operand_as kind row n) t
  text_made kind row text z n leaf is e m =
      record {
        does = does_bind (subst (λ l. Makes im (new_text l) s n t) e m) (keeps_more nothing (λ m. adds_give (kind, m))) (does_give im 0 (kind, n) t);
        leaf = leaf;
        row = is;
      }

  pub str_made : (z n : ℕ) (text : List ℕ) → x ≡ Str z → text ≡ text_of image z → Makes im (new_text text) s n t → OperandMade im (leaf_of image (operand_of x)) s (operand_as 25 3075 n) t
  str_made z n text e q m = of_operand _ (Str z) e (text_made 25 3075 text z n a_string row_string q m)

  pub named_made : (z n : ℕ) (text : List ℕ) → x ≡ Named z → text ≡ text_of image z → Makes im (new_text text) s n t → OperandMade im (leaf_of image (operand_of x)) s (operand_as 30 3075 n) t
  named_made z n text e q m = of_operand _ (Named z) e (text_made 30 3075 text z n an_identifier row_identifier q m)

module _ {im : Image} (image : Image) (x : operand.RefineOperand) (s : State) where
  pub integer_made : (v : ℤ) (w : ℕ) → x ≡ Integer v → SFits w64 v → w ≡ bits64 (to_z w64 (of_z w64 v)) → OperandMade im (leaf_of image (operand_of x)) s (operand_as 17 1027 w) s
  integer_made v w e h q =
      of_operand image x (operand_as 17 1027 w) (Integer v) e
      (record { does = subst (λ n. Does {A = ℕ × ℕ} im 0 0 nothing (give (17, bits64 v)) s (17, n) s) (sym (q ∙ ap bits64 (to_z-of_z h))) (does_give im 0 (17, bits64 v) s); leaf = an_integer; row = row_integer })

  pub truth_made : (b : Bool) → x ≡ Truth b → OperandMade im (leaf_of image (operand_of x)) s (operand_as 26 1283 (bool_byte b)) s
  truth_made b e =
      of_operand image x (operand_as 26 1283 (bool_byte b)) (Truth b) e
      (record { does = subst (λ n. Does {A = ℕ × ℕ} im 0 0 nothing (give (26, cond b 1 0)) s (26, n) s) (byte_is b) (does_give im 0 (26, cond b 1 0) s); leaf = a_bool; row = row_bool })
    where
      byte_is : (b : Bool) → cond b 1 0 ≡ bool_byte b
      byte_is true = refl
      byte_is false = refl

-- ---- the nodes: a leaf's fields are its span and its number

leaf_fields : (kind w : ℕ) → Leaf kind → (cs : List ℕ) × ((fields_of kind ≡ 3 ∷ cs) × (word_fields cs (w ∷ 0 ∷ 0 ∷ []) 0 ≡ num w ∷ []))
unfolding word_fields fields_of fields_in schema sort_of
leaf_fields kind w an_integer = (_, (refl, refl))
leaf_fields kind w a_string = (_, (refl, refl))
leaf_fields kind w a_bool = (_, (refl, refl))
leaf_fields kind w an_identifier = (_, (refl, refl))

pub leaf_made : {im : Image} {s t : State} {a : ℕ} (kind w : ℕ) → Leaf kind → ((cs : List ℕ) → fields_of kind ≡ 3 ∷ cs → Makes im (expr kind (word_fields cs (w ∷ 0 ∷ 0 ∷ []) 0)) s a t) →
    Makes im (expr kind (num w ∷ [])) s a t
leaf_made {im} {s} {t} {a} kind w leaf d = let l = leaf_fields kind w leaf in subst (λ fs. Makes im (expr kind fs) s a t) l.1.1 (d l.0 l.1.0)

pub copy_does : {im : Image} {s t u v : State} {left right a : ℕ} (leaf : ℕ × ℕ) (text token : ℕ) → Makes im (expr 30 (num text ∷ [])) s left t → Makes im (expr leaf.0 (num leaf.1 ∷ [])) t right u →
    Makes im (expr 32 (num left ∷ num token ∷ num right ∷ [])) u a v → Makes im (copy_of leaf text token) s a v
copy_does {left = left} leaf text token d e f =
    does_bind d (keeps_more nothing (λ l. adds_bind (adds_expr leaf.0 _) (λ r. adds_expr 32 _))) (does_bind e (keeps_more nothing (λ r. adds_expr 32 _)) f)

-- ---- the message: a text for which there is no room in the buffer is refused, as is what has room of it

never : {A : Type 0} {Q : A → Context → Type 0} {o : Option (A × Context)} → Gives Q o → ((a : A) (x : Context) → Q a x → ⊥) → o ≡ none
never stops h = refl
never (gives {a} {c} q) h = absurd (h a c q)

long_refused : (s : List ℕ) → 16384 < length s → (x : Context) → x.limited ≡ true → new_text s x ≡ none
unfolding limits
long_refused s h x v = never (text_gives s x) (λ n y g. omega (arith, h, g.bytes v))

long_str : (s u : List ℕ) → 16384 < length s → 16384 < length u → (x : Context) → x.limited ≡ true → str_lit s x ≡ str_lit u x
unfolding str_lit
long_str s u h k x v = ap (λ o. and_then o (λ t. expr 25 (num t ∷ []))) (long_refused s h x v ∙ sym (long_refused u k x v))

pub same_str : (room t w text : List ℕ) (n : ℕ) → 16385 ≤ length room → n ≡ after_text room 0 t → w ≡ with_text room 0 t → text ≡ take n (drop 0 w) →
    (x : Context) → x.limited ≡ true → str_lit text x ≡ str_lit t x
unfolding after_text fitting
same_str room t w text n h e f q x v =
    by_ltb (length room) (length t)
    (λ l. long_str text t (rw q (long l)) (omega (arith, h)) x v)
    (λ l. ap (λ z. str_lit z x) (q ∙ room_holds room t w n l e f))
  where
    long : length room < length t → 16384 < length (take n (drop 0 w))
    long l =
        let size : length w ≡ length room = ap length f ∙ length_with room 0 t in
        let all : n ≡ length room = omega (arith, e) in
        rw (length-take-le n (drop 0 w) (omega (arith, size, all))) (omega (arith, all))
