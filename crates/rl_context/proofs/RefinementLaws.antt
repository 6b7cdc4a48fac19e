-- The guard of a refinement: its predicate, its message, and the copy of the predicate.
-- Assumes nothing.
use Rattle.std.proofs.Common.{◌≡◌, ℕ, ◌+◌, ◌≤◌, true, List, [], ◌∷◌, length, take, drop, sym, refl, ap, ◌∙◌, subst, arith}
use mathlib.Core.Option.{some, map}
use Rattle.rl_spec.specs.declared.Function.{Function}
use Rattle.rl_spec.specs.declared.Param as decl
use Rattle.std.specs.Prelude.{None, Some}
use Rattle.rl_spec.specs.declared.Refinement as refinement
use Rattle.rl_spec.specs.declared.Violation.TheVariants.{Refinement}
use Rattle.rl_spec.specs.Schema.{fields_of}
use Rattle.rl_spec.specs.Image.{num, Image, text_of}
use Rattle.rl_spec.specs.FnContracts.{RefineOperand, integer, str, bool, param, ParamRefinement, refinement_of, param_of}
use Rattle.rl_spec.specs.Records.{param_at, function_at}
use Rattle.rl_spec.specs.Mapped.{map_refinement}
use Rattle.rl_spec.specs.Message.{refinement_text, default_text}
use Rattle.rl_spec.specs.Make.{Context, Make, and_then, ◌>>=◌, give, new_text}
use Rattle.rl_spec.specs.Lower.{expr, ident, str_lit, guard, token_of, operand_expr, refine_predicate, refinement_guard}
use Rattle.rl_images.specs.Lowering.Grows.{Eight}
use Rattle.rl_images.specs.Lowering.Gives.{Gives, gives, after, given_is}
use Rattle.rl_images.specs.Lowering.GrowsTo.{◌⊕◌, eight_later}
use Rattle.rl_schema.specs.Codes.{codes}
use Rattle.rl_context.specs.declared.refinements.Predicate.{Predicate}
use Rattle.rl_context.specs.Does.{State, nothing, all, Does, Pushes}
use Rattle.rl_context.proofs.Composed.{then_give, does_bind, does_give, does_push, does_same}
use Rattle.rl_images.specs.Lowering.Adds.{Adds, adds_later, adds_give, adds_bind, adds_text}
use Rattle.rl_context.proofs.StaysOver.{keeps_more}
use Rattle.rl_images.specs.Lowering.AddsLower.{adds_expr, adds_str, adds_guard, adds_violation, adds_only_if, adds_predicate, adds_refinement}
use Rattle.rl_context.proofs.NodesMade.{assoc, does_none, does_only}
use Rattle.rl_context.specs.Guards.{Makes, Gathers, guard_of, Leaf, leaf_of, predicate_of, copy_of, refined_by, refined_as, PredicateMade, guard_in}
use Rattle.rl_text_out.specs.Put.{with_text, after_text}
use Rattle.rl_context.proofs.Operands.{same_str}
use Rattle.rl_context.proofs.Known.{later_bind, DoesIf, if_start, if_same, if_bind}
use Rattle.rl_context.proofs.ComparisonCopied.{node_later, expr_new, Comparison, comparison_later, comparison_copied}
use Rattle.rl_context.proofs.WrapLaws.{bind_same}

operand_is : (im : Image) (o : RefineOperand ℕ) → operand_expr im o ≡ (leaf_of im o >>= λ p. expr p.0 (num p.1 ∷ []))
unfolding str_lit ident
operand_is im (integer v) = refl
operand_is im (str s) = sym (assoc (new_text (text_of im s)) (λ t. give (25, t)) (λ p. expr p.0 (num p.1 ∷ [])))
operand_is im (bool b) = refl
operand_is im (param p) = sym (assoc (new_text (text_of im p)) (λ t. give (30, t)) (λ p. expr p.0 (num p.1 ∷ [])))

adds_leaf : (im : Image) (o : RefineOperand ℕ) → Adds (leaf_of im o)
adds_leaf im (integer v) = adds_give _
adds_leaf im (str s) = adds_bind (adds_text _) (λ t. adds_give _)
adds_leaf im (bool b) = adds_give _
adds_leaf im (param p) = adds_bind (adds_text _) (λ t. adds_give _)

module _ (image : Image) (name : ℕ) (refinement : ParamRefinement ℕ) where
  abbrev token : ℕ
  token = token_of refinement.op

  -- what is left of the predicate after its left operand, its left operand's text, its right operand
  abbrev from_left : ℕ × ℕ → ℕ → ℕ → ℕ → Make (ℕ × ((ℕ × ℕ) × ℕ))
  from_left leaf right t left = expr 32 (num left ∷ num token ∷ num right ∷ []) >>= λ pred. give (pred, (leaf, t))

  abbrev from_name : ℕ × ℕ → ℕ → ℕ → Make (ℕ × ((ℕ × ℕ) × ℕ))
  from_name leaf right t = expr 30 (num t ∷ []) >>= from_left leaf right t

  abbrev from_right : ℕ × ℕ → ℕ → Make (ℕ × ((ℕ × ℕ) × ℕ))
  from_right leaf right = new_text (text_of image name) >>= from_name leaf right

  abbrev from_leaf : ℕ × ℕ → Make (ℕ × ((ℕ × ℕ) × ℕ))
  from_leaf leaf = expr leaf.0 (num leaf.1 ∷ []) >>= from_right leaf

  more_left : (leaf : ℕ × ℕ) (right t left : ℕ) → Adds (from_left leaf right t left)
  more_left leaf right t left = adds_bind (adds_expr 32 _) (λ pred. adds_give _)

  more_name : (leaf : ℕ × ℕ) (right t : ℕ) → Adds (from_name leaf right t)
  more_name leaf right t = adds_bind (adds_expr 30 _) (more_left leaf right t)

  more_right : (leaf : ℕ × ℕ) (right : ℕ) → Adds (from_right leaf right)
  more_right leaf right = adds_bind (adds_text _) (more_name leaf right)

  more_leaf : (leaf : ℕ × ℕ) → Adds (from_leaf leaf)
  more_leaf leaf = adds_bind (adds_expr leaf.0 _) (more_right leaf)

  -- the predicate itself, and no more
  abbrev first : ℕ × ((ℕ × ℕ) × ℕ) → Make ℕ
  first q = give q.0

  predicate_is : refine_predicate image name refinement ≡ (predicate_of image name refinement >>= first)
  unfolding refine_predicate ident
  predicate_is =
      ap (λ m. m >>= λ right. ident (text_of image name) >>= λ left. expr 32 (num left ∷ num token ∷ num right ∷ [])) (operand_is image refinement.operand)
      ∙ assoc (leaf_of image refinement.operand) (λ p. expr p.0 (num p.1 ∷ [])) (λ right. ident (text_of image name) >>= λ left. expr 32 (num left ∷ num token ∷ num right ∷ []))
      ∙ bind_same (leaf_of image refinement.operand)
      (λ leaf.
      bind_same (expr leaf.0 (num leaf.1 ∷ []))
      (λ right.
      assoc (new_text (text_of image name)) (λ t. expr 30 (num t ∷ [])) (λ left. expr 32 (num left ∷ num token ∷ num right ∷ []))
      ∙ bind_same (new_text (text_of image name))
      (λ t.
      bind_same (expr 30 (num t ∷ [])) (λ left. then_first leaf right t left) ∙ sym (assoc (expr 30 (num t ∷ [])) (from_left leaf right t) first))
      ∙ sym (assoc (new_text (text_of image name)) (from_name leaf right) first))
      ∙ sym (assoc (expr leaf.0 (num leaf.1 ∷ [])) (from_right leaf) first))
      ∙ sym (assoc (leaf_of image refinement.operand) from_leaf first)
    where
      then_first : (leaf : ℕ × ℕ) (right t left : ℕ) → expr 32 (num left ∷ num token ∷ num right ∷ []) ≡ (from_left leaf right t left >>= first)
      then_first leaf right t left = then_give (expr 32 _) ∙ sym (assoc (expr 32 (num left ∷ num token ∷ num right ∷ [])) (λ pred. give (pred, (leaf, t))) first)

  -- THE LAW: the operands and the predicate, with the token and the name as the code has them
  module _ {im : Image} {s₀ s₁ s₂ s₃ s₄ s₅ : State} (p : Predicate) {right left : ℕ} (called : List ℕ) where
    pub predicate_does : p.token ≡ token → called ≡ text_of image name → Leaf p.right.kind.number → codes p.right.kind.row ≡ fields_of p.right.kind.number →
        Does im 0 0 nothing (leaf_of image refinement.operand) s₀ (p.right.kind.number, p.right.word) s₁ → Makes im (expr p.right.kind.number (num p.right.word ∷ [])) s₁ right s₂ →
        Makes im (new_text called) s₂ p.text s₃ → Makes im (expr 30 (num p.text ∷ [])) s₃ left s₄ →
        Makes im (expr 32 (num left ∷ num p.token ∷ num right ∷ [])) s₄ p.index s₅ → PredicateMade im image name refinement s₀ p s₅
    predicate_does e f leaf row d₁ d₂ d₃ d₄ d₅ =
        record {
          does =
              subst (λ m. Makes im m s₀ p.index s₅) (sym predicate_is)
              (does_bind parts (keeps_more nothing (λ q. adds_give q.0)) (does_give im 0 p.index s₅));
          parts = parts;
          token = e;
          leaf = leaf;
          row = row;
        }
      where
        parts : Does im 0 0 nothing (predicate_of image name refinement) s₀ (p.index, ((p.right.kind.number, p.right.word), p.text)) s₅
        parts =
            does_bind d₁ (keeps_more nothing more_leaf)
            (does_bind d₂ (keeps_more nothing (more_right (p.right.kind.number, p.right.word)))
            (does_bind (subst (λ z. Makes im (new_text z) s₂ p.text s₃) f d₃) (keeps_more nothing (more_name (p.right.kind.number, p.right.word) right))
            (does_bind d₄ (keeps_more nothing (more_left (p.right.kind.number, p.right.word) right p.text))
            (does_bind (subst (λ z. Makes im (expr 32 (num left ∷ num z ∷ num right ∷ [])) s₄ p.index s₅) e d₅) (keeps_more nothing (λ pred. adds_give (pred, ((p.right.kind.number, p.right.word), p.text))))
            (does_give im 0 (p.index, ((p.right.kind.number, p.right.word), p.text)) s₅)))))

  -- what is known of the predicate then
  abbrev Compared : ℕ × ((ℕ × ℕ) × ℕ) → Context → Type 0
  Compared q y = Comparison y q.1.0.0 q.1.0.1 q.1.1 token q.0

  compared : (x : Context) → Eight x.image → Gives Compared (predicate_of image name refinement x)
  compared x e =
      after (adds_later (adds_leaf image refinement.operand) x e)
      (λ leaf x₁ l₁.
      after (expr_new leaf.0 (num leaf.1 ∷ []) x₁ (eight_later l₁ e))
      (λ right x₂ n₂.
      let e₂ : Eight x₂.image = eight_later (l₁ ⊕ n₂.later) e in
      after (adds_later (adds_text (text_of image name)) x₂ e₂)
      (λ t x₃ l₃.
      after (expr_new 30 (num t ∷ []) x₃ (eight_later l₃ e₂))
      (λ left x₄ n₄.
      after (expr_new 32 (num left ∷ num token ∷ num right ∷ []) x₄ (eight_later (l₃ ⊕ n₄.later) e₂))
      (λ pred y n.
      let right-here = node_later (l₃ ⊕ n₄.later) n₂.has in
      gives
      (record {
        left = left;
        right = right;
        left_has = node_later n.later n₄.has;
        right_has = node_later n.later right-here;
        has = n.has;
        left_before = omega (arith, n₄.has.inside, n.last);
        right_before = omega (arith, right-here.inside, n.last);
      }))))))

  -- what is left after the message, and after the predicate
  abbrev from_message : ℕ → ℕ → Make (List ℕ)
  from_message pred msg = guard pred msg >>= λ s. give (s ∷ [])

  abbrev from_predicate : List ℕ → ℕ → Make (List ℕ)
  from_predicate text pred = str_lit text >>= λ msg. from_message pred msg

  more_message : (pred msg : ℕ) → Adds (from_message pred msg)
  more_message pred msg = adds_bind (adds_guard pred msg) (λ s. adds_give (s ∷ []))

  more_predicate : (text : List ℕ) (pred : ℕ) → Adds (from_predicate text pred)
  more_predicate text pred = adds_bind (adds_str text) (more_message pred)

  refined_is : (text : List ℕ) → refined_by image name refinement text ≡ (predicate_of image name refinement >>= λ q. from_predicate text q.0)
  refined_is text = ap (λ m. m >>= from_predicate text) predicate_is ∙ assoc (predicate_of image name refinement) first (from_predicate text)

  abbrev Here : Predicate → Context → Type 0
  Here p x = Comparison x p.right.kind.number p.right.word p.text token p.index

  module _ {im : Image} {s₂ s₃ s₄ s₅ : State} (p : Predicate) (msg : ℕ) {copy stm : ℕ} where
    -- the copy and the guard
    guard_done : Leaf p.right.kind.number → Makes im (copy_of (p.right.kind.number, p.right.word) p.text token) s₂ copy s₃ → Makes im (guard_of copy msg) s₃ stm s₄ → Pushes stm s₄ s₅ →
        DoesIf im 0 0 all (Here p) (from_message p.index msg) s₂ (stm ∷ []) s₅
    unfolding guard
    guard_done leaf d g h =
        if_same (from_message p.index msg) (keeps_more all (λ _. more_message p.index msg))
        (λ x e c.
        ap (λ o. and_then (and_then o (λ c. guard_of c msg)) (λ s. give (s ∷ []))) (comparison_copied x p.right.kind.number p.right.word p.text token p.index e leaf c))
        (does_only (does_push
        (does_bind d (keeps_more nothing (λ c. adds_bind (adds_expr 33 _) (λ neg. adds_bind (adds_violation msg) (λ s. adds_only_if neg s)))) g) h))

    -- THE LAW: the predicate, the message, the copy and the guard
    pub refined_does : {s₀ s₁ : State} (text : List ℕ) → PredicateMade im image name refinement s₀ p s₁ → Makes im (str_lit text) s₁ msg s₂ → Makes im (copy_of (p.right.kind.number, p.right.word) p.text p.token) s₂ copy s₃ →
        Makes im (guard_of copy msg) s₃ stm s₄ → Pushes stm s₄ s₅ → Gathers im 0 (refined_by image name refinement text) s₀ s₅
    refined_does {s₀} text m d k g h = (
      stm ∷ [],
      subst (λ n. Does im 0 0 all n s₀ (stm ∷ []) s₅) (sym (refined_is text))
          (if_start
          (if_bind {Q = Here p} m.parts (λ x y e _ is. given_is (compared x e) is) (keeps_more all (λ q. more_predicate text q.0))
          (if_bind {Q = Here p} d (λ x y e c is. comparison_later (given_is (adds_later (adds_str text) x e) is) c) (keeps_more all (more_message p.index))
          (guard_done m.leaf (subst (λ z. Makes im (copy_of (p.right.kind.number, p.right.word) p.text z) s₂ copy s₃) m.token k) g h)))),
    )

-- ---- a parameter's guard

module _ (image : Image) (f n : ℕ) (function : Function) (p : decl.Param) (e : function ≡ function_at image f) (q : p ≡ param_at image (function.params.first + n)) where
  at_number : p ≡ param_at image ((function_at image f).params.first + n)
  at_number = q ∙ ap (λ g. param_at image (g.params.first + n)) e

  guard_is : guard_in image f n ≡ refinement_guard image p.name (refinement_of p.refinement)
  unfolding param_of
  guard_is = ap (λ z. refinement_guard image z.name (refinement_of z.refinement)) (sym at_number)

  pub unrefined_done : (im : Image) (s : State) → p.refinement ≡ None → Gathers im 0 (guard_in image f n) s s
  unrefined_done im s h = subst (λ m. Gathers im 0 m s s) (ap (λ z. refinement_guard image p.name (refinement_of z)) (sym h) ∙ sym guard_is) ([], does_none s)

  default_is : (r : refinement.Refinement) → p.refinement ≡ Some r → default_text image f (Refinement n) ≡ refinement_text (text_of image p.name) (some (map_refinement (text_of image) (refined_as r)))
  unfolding param_of
  default_is r h =
      ap (λ z. refinement_text (text_of image z.name) (map (map_refinement (text_of image)) (refinement_of z.refinement))) (sym at_number)
      ∙ ap (λ z. refinement_text (text_of image p.name) (map (map_refinement (text_of image)) (refinement_of z))) h

  pub refinement_done : {im : Image} {s t : State} (r : refinement.Refinement) (room w text : List ℕ) (size : ℕ) → p.refinement ≡ Some r → 16385 ≤ length room →
      size ≡ after_text room 0 (default_text image f (Refinement n)) → w ≡ with_text room 0 (default_text image f (Refinement n)) → text ≡ take size (drop 0 w) →
      Gathers im 0 (refined_by image p.name (refined_as r) text) s t → Gathers im 0 (guard_in image f n) s t
  refinement_done {im} {s} {t} r room w text size h k a b c g = (
    g.0,
    does_same (guard_in image f n) (keeps_more all (λ _. adds_guard_in))
        (λ y ws l. ap (λ m. m y) (guard_is ∙ ap (λ z. refinement_guard image p.name (refinement_of z)) h) ∙ sym (same_message y (ap (λ z. length z.image.records) l.context) (ap (λ z. z.limited) l.context)))
        g.1,
  )
    where
      adds_guard_in : Adds (guard_in image f n)
      adds_guard_in = subst Adds (sym guard_is) (adds_refinement image p.name (refinement_of p.refinement))

      -- the message that has room, and the whole one
      same_message : (y : Context) → Eight y.image → y.limited ≡ true →
          refined_by image p.name (refined_as r) text y ≡ refinement_guard image p.name (some (refined_as r)) y
      same_message y e v =
          later_bind (adds_predicate image p.name (refined_as r)) y e
          (λ pred z l.
          ap (λ q. and_then q (λ msg. from_message image p.name (refined_as r) pred msg))
          (same_str room (default_text image f (Refinement n)) w text size k a b c z (l.limited ∙ v) ∙ ap (λ q. str_lit q z) (default_is r h)))
