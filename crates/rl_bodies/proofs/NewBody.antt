-- The new body of a function: the guards of refinements, those of requires, and the body or what stands for it, as one list.
-- Assumes nothing.
use Prim.Native.Nat.{ℕ, ◌+◌, ◌<◌}
use mathlib.Core.Path.{◌≡◌, refl, ap, sym, ◌∙◌, subst}
use mathlib.Core.Bool.{cond}
use mathlib.Core.List.{List, [], ◌∷◌, ◌++◌, map, append_assoc}
use mathlib.Core.Option.{Option, none, some}
use native.Mathlib.Omega.{arith}
use lib.ListN.{length}
use Rattle.rl_spec.specs.declared.Clause.{Clause}
use Rattle.rl_spec.specs.declared.Counts.{Counts}
use Rattle.rl_spec.specs.declared.Function.{Function}
use Rattle.rl_spec.specs.declared.Interval.{Interval}
use Rattle.rl_spec.specs.declared.Section.TheVariants.{Expressions, Statements, Functions}
use Rattle.rl_spec.specs.declared.Target.TheVariants.{Statement}
use Rattle.rl_spec.specs.Image.{pair, Image, size_of, entry_of, WellFormed}
use Rattle.rl_spec.specs.Found.{image_found}
use Rattle.rl_spec.specs.Tree.{ascii}
use Rattle.rl_spec.specs.Records.{clause_at, function_at}
use Rattle.rl_spec.specs.Ranges.{up_from}
use Rattle.rl_spec.specs.FnContracts.{is_empty}
use Rattle.rl_spec.specs.Make.{Context, Make, and_then, ◌>>=◌, give, each, flat_map}
use Rattle.rl_spec.specs.Lower.{clause_guard, refinement_guard, ensured_body, desugar_fn_contracts, params_in, requires_in, ensures_in, body_in, new_body}
use Rattle.rl_laws.specs.Found.{size_found}
use Rattle.rl_images.specs.Images.FunctionFields.{function_fits}
use Rattle.rl_schema.specs.Codes.{table}
use Rattle.rl_context.specs.declared.Ctx.{Ctx}
use Rattle.rl_context.specs.Additions.{none_new, grown, Live}
use Rattle.rl_context.specs.Does.{State, at, nothing, all, Does, Listed}
use Rattle.rl_context.proofs.Composed.{Keeps, does_then, does_same, does_list}
use Rattle.rl_images.specs.Lowering.Adds.{Adds, adds_bind, adds_give, adds_cond, adds_each}
use Rattle.rl_context.proofs.StaysOver.{keeps_more, keeps_all}
use Rattle.rl_images.specs.Lowering.AddsLower.{adds_clause, adds_ensured, adds_desugar}
use Rattle.rl_context.specs.Guards.{Gathers, clauses_in, ConditionsIn}
use Rattle.rl_context.proofs.Conditions.{required_in, ensured_in_lem}
use Rattle.rl_transform.specs.Transforms.{Ready}
use Rattle.rl_transform.proofs.Loops.{entries_in_lem}
use Rattle.rl_bodies.specs.Bodies.{Fresh, refined_in, desugared_in, entries_in, Waits, BodyFits, rest_in}
use Rattle.rl_bodies.proofs.Lasts.{not_empty}
use Rattle.rl_bodies.proofs.Nothing.{grown_none}

-- ---- the body itself, or what stands for it

module _ (im : Image) (body ensured : Interval) (s t : State) where
  pub rest_plain : ensured.count ≡ 0 → Waits im (entries_in im body) s t → Gathers im 0 (rest_in im body ensured) s t
  unfolding up_from
  rest_plain z w = (entries_in im body, subst (λ n. Does im 0 0 all (by n) s (entries_in im body) t) (sym z) w)
    where
      by : ℕ → Make (List ℕ)
      by n =
          let es : List Clause = map (clause_at im) (up_from ensured.first n) in
          cond (is_empty es) (give (entries_in im body)) (ensured_body es (entries_in im body))

  pub rest_ensured : (ensured.count ≡ 0 → ⊥) → Gathers im 0 (ensured_body (clauses_in im ensured) (entries_in im body)) s t →
      Gathers im 0 (rest_in im body ensured) s t
  rest_ensured z g = (
    g.0,
    subst (λ b. Does im 0 0 all (cond b (give (entries_in im body)) (ensured_body (clauses_in im ensured) (entries_in im body))) s g.0 t)
        (sym (not_empty (clause_at im) ensured.first ensured.count z)) g.1,
  )

-- ---- what a function of a well-formed image refers to is there

module _ (s p : List ℕ) (c : Counts) (f : ℕ) (there : f < c.functions) (well : WellFormed (image_found s p c)) where
  abbrev im : Image
  im = image_found s p c

  inside : f < size_of im Functions
  inside = subst (λ n. f < n) (sym (size_found s p c Functions)) there

  body_of : BodyFits s p c (function_at im f).body
  unfolding function_at
  body_of i l =
      subst (λ n. entry_of im ((function_at im f).body.first + i) < n) (size_found s p c Statements)
      (entries_in_lem im Functions f (function_at im f).body.count (function_at im f).body.first Statement (function_fits im well f inside).entries i l).earlier

  module _ (g : Function) (e : (q : List ℕ) → g ≡ function_at (image_found s q c) f) where
    pub required_inside : ConditionsIn im g.required c.expressions
    required_inside =
        subst (λ (h : Function). ConditionsIn im h.required c.expressions) (sym (e p))
        (subst (ConditionsIn im (function_at im f).required) (size_found s p c Expressions) (required_in im well f inside))

    pub ready : (rows : List ℕ) → rows ≡ table → Ready s p c rows g.ensured
    ready rows is =
        record {
          rows_are = is;
          well = well;
          conditions =
              subst (λ (h : Function). ConditionsIn im h.ensured c.expressions) (sym (e p))
              (subst (ConditionsIn im (function_at im f).ensured) (size_found s p c Expressions) (ensured_in_lem im well f inside));
        }

    pub body_inside : BodyFits s p c g.body
    body_inside = subst (λ (h : Function). BodyFits s p c h.body) (sym (e p)) body_of

-- ---- three computations, and all that they make

module _ (n o : Make (List ℕ)) (l : List ℕ) where
  last_joined : (y : List ℕ) (q : Option (List ℕ × Context)) → and_then q (λ z. give (l ++ y ++ z)) ≡ and_then (and_then q (λ z. give (y ++ z))) (λ r. give (l ++ r))
  last_joined y none = refl
  last_joined y (some r) = ap (λ k. some (k, r.1)) (append_assoc l y r.0)

  first_joined : (q : Option (List ℕ × Context)) →
      and_then q (λ y. o >>= λ z. give (l ++ y ++ z)) ≡ and_then (and_then q (λ y. o >>= λ z. give (y ++ z))) (λ r. give (l ++ r))
  first_joined none = refl
  first_joined (some r) = last_joined r.0 (o r.1)

  joined : (n >>= λ y. o >>= λ z. give (l ++ y ++ z)) ≡ ((n >>= λ y. o >>= λ z. give (y ++ z)) >>= λ r. give (l ++ r))
  joined = λ i x. first_joined (n x) i

does_three : {im : Image} {s t u v : State} {m n o : Make (List ℕ)} {a b c : List ℕ} → Adds n → Adds o → Does im 0 0 all m s a t → Does im 0 0 all n t b u →
    Does im 0 0 all o u c v → Does im 0 0 all (m >>= λ x. n >>= λ y. o >>= λ z. give (x ++ y ++ z)) s (a ++ (b ++ c)) v
does_three {im} {s} {t} {u} {v} {m} {n} {o} {a} {b} {c} more-n more-o d e g = does_then (λ r. a ++ r) d two keeps (joined n o a) (λ r. refl)
  where
    two : Does im 0 0 all (n >>= λ y. o >>= λ z. give (y ++ z)) t (b ++ c) v
    two = does_then (λ r. b ++ r) e g (keeps_all more-o) refl (λ r. refl)

    keeps : Keeps all (λ x. n >>= λ y. o >>= λ z. give (x ++ y ++ z)) all
    keeps =
        subst (λ (k : List ℕ → Make (List ℕ)). Keeps all k all) (sym (λ i l. joined n o l i))
        (keeps_all (adds_bind more-n (λ y. adds_bind more-o (λ z. adds_give (y ++ z)))))

-- ---- the whole body

empty : {A : Type 0} (l : List A) → length l ≡ 0 → l ≡ []
empty [] e = refl
empty (x ∷ l) e = absurd (omega arith)

module _ (s p : List ℕ) (c : Counts) (f : ℕ) (ctx : Ctx) (fresh : Fresh (image_found s p c) ctx) (scratch waiting : List ℕ) where
  abbrev of : Image
  of = image_found s p c

  same_image : (x : Context) (ws : List ℕ) → Live of 0 x ws ctx scratch waiting → x.image ≡ of
  same_image x ws l = ap (λ y. y.image) l.context ∙ nothing_new ∙ sym (grown_none s p c)
    where
      bytes : l.new.bytes ≡ []
      bytes = empty l.new.bytes (omega (arith, l.counted.bytes, fresh.bytes))

      texts : l.new.texts ≡ []
      texts = empty l.new.texts (omega (arith, l.counted.texts, fresh.texts))

      lists : l.new.lists ≡ []
      lists = empty l.new.lists (omega (arith, l.counted.lists, fresh.lists))

      expressions : l.new.expressions ≡ []
      expressions = empty l.new.expressions (omega (arith, l.counted.expressions, fresh.expressions))

      statements : l.new.statements ≡ []
      statements = empty l.new.statements (omega (arith, l.counted.statements, fresh.statements))

      nothing_new : grown of l.new ≡ grown of none_new
      nothing_new = rw (bytes, texts, lists, expressions, statements) refl

  abbrev required : Make (List ℕ)
  required = each (clause_guard (ascii "requires violated")) (requires_in of f)

  abbrev rest : Make (List ℕ)
  rest = cond (is_empty (ensures_in of f)) (give (body_in of f)) (ensured_body (ensures_in of f) (body_in of f))

  -- with the texts of refinements as they are in an image
  abbrev guarded : Image → Make (List ℕ)
  guarded texts =
      flat_map (λ q. refinement_guard texts q.name q.refinement) (params_in of f)
      >>= λ x. required >>= λ y. rest >>= λ z. give (x ++ y ++ z)

  same_desugared : (x : Context) (ws : List ℕ) → Live of 0 x ws ctx scratch waiting → desugared_in of f x ≡ guarded of x
  unfolding desugar_fn_contracts
  same_desugared x ws l = ap (λ im. guarded im x) (same_image x ws l)

  -- THE LAW
  pub desugared : (g : Function) → ((q : List ℕ) → g ≡ function_at (image_found s q c) f) → (t u v : State) →
      Gathers of 0 (refined_in of f) (at ctx scratch waiting) t →
      Gathers of 0 (each (clause_guard (ascii "requires violated")) (clauses_in of g.required)) t u →
      Gathers of 0 (rest_in of g.body g.ensured) u v → Gathers of 0 (desugared_in of f) (at ctx scratch waiting) v
  desugared g e t u v x y z = (
    x.0 ++ (y.0 ++ z.0),
    does_same (desugared_in of f) (keeps_more all (λ _. adds_desugar _ _ _ _)) same_desugared
        (does_three (adds_each (adds_clause _) (requires_in of f)) (adds_cond (is_empty (ensures_in of f)) (adds_give (body_in of f)) (adds_ensured (ensures_in of f) (body_in of f)))
        x.1
        (subst (λ (h : Function). Does of 0 0 all (each (clause_guard (ascii "requires violated")) (clauses_in of h.required)) t y.0 u) (e p) y.1)
        (subst (λ (h : Function). Does of 0 0 all (rest_in of h.body h.ensured) u z.0 v) (e p) z.1)),
  )

pub body_done : (im : Image) (f : ℕ) (ctx : Ctx) (scratch waiting : List ℕ) (v w : State) (first : ℕ) (list : Interval) → first ≡ ctx.waiting →
    Gathers im 0 (desugared_in im f) (at ctx scratch waiting) v → Listed first v list w →
    Does im 0 0 nothing (new_body im f) (at ctx scratch waiting) (pair list.first list.count) w
unfolding new_body
body_done _ f ctx scratch waiting v w first list same d listed = does_list first same d.1 listed
