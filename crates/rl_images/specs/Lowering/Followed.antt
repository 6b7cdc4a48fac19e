-- The lowered image is the original's records followed by the new ones, with one function's body list changed.
-- Assumes nothing.
use Rattle.std.specs.Prelude.{ℕ, ◌≤◌, ◌≡◌, Bool, true, false, cond, List, ltb, length, get_or, set}
use Rattle.std.proofs.Math.Path.{refl}
use Rattle.std.proofs.Common.{ap, sym, ◌∙◌, subst, arith, ltb-false}
use Rattle.std.proofs.Math.Option.{Option, none, some, none-ne-some, some-injective}
use Rattle.std.proofs.lemmas.List.{set-get_or}
use Rattle.rl_spec.specs.declared.Section.{Section}
use Rattle.rl_spec.specs.declared.Section.TheVariants.{Texts, Lists, Expressions, Statements, Parameters, Clauses, Functions, Calls}
use Rattle.rl_spec.specs.Image.{Field, Rec, Image, records_of, record_of, field_of, encode, order_of, no_record, no_field}
use Rattle.rl_spec.specs.Make.{Context, made}
use Rattle.rl_spec.specs.Lower as lower
use Rattle.rl_images.specs.Lowering.Gives.{given_is}
use Rattle.rl_images.specs.Lowering.Grows.{Longer, as_long, Grows, Eight, records_own, records_other}
use Rattle.rl_images.specs.Lowering.Adds.{adds_later}
use Rattle.rl_images.specs.Lowering.AddsLower.{adds_new_body}

-- ---- THE LOWERED IMAGE

-- a function's record with another body list, its fifth field
abbrev pub with_body_list : Rec → Field → Rec
with_body_list r list = made r.kind (set r.fields 4 list)

pub record Followed (im : Image) (f : ℕ) (im' : Image) : Type 0 where
  pub arena : im'.arena ≡ im.arena
  pub bytes : Longer im.bytes im'.bytes
  pub texts : Longer (records_of im Texts) (records_of im' Texts)
  pub lists : Longer (records_of im Lists) (records_of im' Lists)
  pub expressions : Longer (records_of im Expressions) (records_of im' Expressions)
  pub statements : Longer (records_of im Statements) (records_of im' Statements)
  pub functions : (list : Field) × (records_of im' Functions ≡ set (records_of im Functions) f (with_body_list (record_of im Functions f) list))
  pub parameters : records_of im' Parameters ≡ records_of im Parameters
  pub clauses : records_of im' Clauses ≡ records_of im Clauses
  pub calls : records_of im' Calls ≡ records_of im Calls

-- where something is lowered, it is the image as it was, or a new body in an image that has grown
pub data Lowering (im : Image) (f : ℕ) : Image → Type 0 where
  untouched : Lowering im f im
  rebuilt : {list : Field} {c : Context} → lower.new_body im f (lower.start im f) ≡ some (list, c) →
      length (encode (lower.with_body c.image f list)) ≤ 65535 → Lowering im f (lower.with_body c.image f list)

module _ (im im' : Image) (f : ℕ) where
  fitting_is : (list : Field) (c : Context) → lower.new_body im f (lower.start im f) ≡ some (list, c) → (b : Bool) →
      ltb 65535 (length (encode (lower.with_body c.image f list))) ≡ b →
      cond b none (some (lower.with_body c.image f list)) ≡ some im' → Lowering im f im'
  fitting_is list c d true l e = absurd (none-ne-some im' e)
  fitting_is list c d false l e =
      let x : Image = lower.with_body c.image f list in
      subst (Lowering im f) (some-injective x im' e) (rebuilt d (ltb-false 65535 (length (encode x)) l))

  finished_is : (o : Option (Field × Context)) → lower.new_body im f (lower.start im f) ≡ o → lower.finished true f o ≡ some im' →
      Lowering im f im'
  unfolding lower.fitting
  finished_is none d e = absurd (none-ne-some im' e)
  finished_is (some r) d e = fitting_is r.0 r.1 d _ refl e

  lowered_by : (b : Bool) → cond b (lower.finished true f (lower.new_body im f (lower.start im f))) (some im) ≡ some im' → Lowering im f im'
  lowered_by true e = finished_is (lower.new_body im f (lower.start im f)) refl e
  lowered_by false e = subst (Lowering im f) (some-injective im im' e) untouched

  pub lowering : lower.lowered im f ≡ some im' → Lowering im f im'
  unfolding lower.lowered_by
  lowering e = lowered_by (lower.has_contracts im f) e

-- where there is a new body the image has grown
pub body_grows : (im : Image) (f : ℕ) (list : Field) (c : Context) → Eight im → lower.new_body im f (lower.start im f) ≡ some (list, c) →
    Grows im c.image
body_grows im f list c e d = (given_is (adds_later (adds_new_body im f) (lower.start im f) e) d).image

same_body : (im : Image) (f : ℕ) →
    records_of im Functions ≡ set (records_of im Functions) f (with_body_list (record_of im Functions f) (field_of (record_of im Functions f) 4))
same_body im f =
    let r : Rec = record_of im Functions f in
    let d : with_body_list r (field_of r 4) ≡ r = ap (made r.kind) (set-get_or r.fields 4 no_field) in
    sym (ap (set (records_of im Functions) f) d ∙ set-get_or (records_of im Functions) f no_record)

followed_by : (im im' : Image) (f : ℕ) → Eight im → Lowering im f im' → Followed im f im'
followed_by im im' f e untouched =
    record {
      arena = refl;
      bytes = as_long refl;
      texts = as_long refl;
      lists = as_long refl;
      expressions = as_long refl;
      statements = as_long refl;
      functions = (field_of (record_of im Functions f) 4, same_body im f);
      parameters = refl;
      clauses = refl;
      calls = refl;
    }
followed_by im im' f e (rebuilt {list} {c} d l) =
    let g : Grows im c.image = body_grows im f list c e d in
    let rs : List Rec = set (records_of c.image Functions) f (with_body_list (record_of c.image Functions f) list) in
    let own : records_of (lower.with_body c.image f list) Functions ≡ rs = records_own c.image Functions rs (g.sections ∙ e) in
    let other : (q : Section) → (order_of q ≡ 6 → ⊥) → records_of (lower.with_body c.image f list) q ≡ records_of c.image q =
    (λ q h. records_other c.image Functions q rs h) in
    record {
      arena = g.arena;
      bytes = g.bytes;
      texts = rw (other Texts (λ h. omega arith)) g.texts;
      lists = rw (other Lists (λ h. omega arith)) g.lists;
      expressions = rw (other Expressions (λ h. omega arith)) g.expressions;
      statements = rw (other Statements (λ h. omega arith)) g.statements;
      functions = (list, own ∙ ap (λ (l : List Rec). set l f (with_body_list (get_or l f no_record) list)) g.functions);
      parameters = other Parameters (λ h. omega arith) ∙ g.parameters;
      clauses = other Clauses (λ h. omega arith) ∙ g.clauses;
      calls = other Calls (λ h. omega arith) ∙ g.calls;
    }

-- THEOREM
pub lowered_followed : (im im' : Image) (f : ℕ) → Eight im → lower.lowered im f ≡ some im' → Followed im f im'
lowered_followed im im' f e d = followed_by im im' f e (lowering im im' f d)
