-- The copy of a comparison of two leaves that has just been made: the leaves' records again, and the comparison of the new ones.
-- Assumes nothing.
use Rattle.std.proofs.Common.{◌≡◌, ℕ, ◌<◌, List, [], ◌∷◌, ◌++◌, length, get_or, sym, refl, ap, ◌∙◌, subst, arith, length-append}
use mathlib.Core.Option.{Option, none, some}
use Rattle.rl_spec.specs.declared.Section.TheVariants.{Expressions}
use Rattle.rl_spec.specs.Schema.{sort_of, schema, fields_in, fields_of}
use Rattle.rl_spec.specs.Image.{Field, num, Rec, records_of, size_of, no_record, record_of}
use Rattle.rl_spec.specs.Tree.{below}
use Rattle.rl_spec.specs.Make.{Context, Make, and_then, ◌>>=◌, give, image_so_far, append, made}
use Rattle.rl_spec.specs.Lower.{expr, clone_fields, clone_record, deep_clone_expr}
use Rattle.rl_laws.specs.Descend.{descend_is, under_earlier}
use Rattle.rl_images.specs.Lowering.Gives.{Gives, weaker, given_is}
use Rattle.rl_images.specs.Lowering.Grows.{Eight, record_kept, size_grows, records_own, appended_grows, Appended, expr_gives}
use Rattle.rl_images.specs.Lowering.GrowsTo.{Later, eight_later, with_later}
use Rattle.rl_images.specs.Lowering.Adds.{adds_later, adds_append}
use Rattle.rl_context.proofs.Known.{later_bind}
use Rattle.rl_context.specs.Guards.{Leaf, an_integer, a_string, a_bool, an_identifier, copy_of}

-- the expression at an index
pub record Has (x : Context) (n : ℕ) (r : Rec) : Type 0 where
  pub inside : n < size_of x.image Expressions
  pub is : record_of x.image Expressions n ≡ r

pub has_later : {x y : Context} {n : ℕ} {r : Rec} → Later x y → Has x n r → Has y n r
has_later {n = n} l h =
    record { inside = omega (arith, h.inside, size_grows l.image Expressions); is = record_kept l.image Expressions n h.inside ∙ h.is }

-- one with the function's span
pub node_later : {x y : Context} {n kind : ℕ} {fields : List Field} → Later x y → Has x n (made kind (num x.span ∷ fields)) → Has y n (made kind (num y.span ∷ fields))
node_later {y = y} {n} {kind} {fields} l h = subst (λ σ. Has y n (made kind (num σ ∷ fields))) (sym l.span) (has_later l h)

-- the expression that has just been made
pub record New (x : Context) (kind : ℕ) (fields : List Field) (n : ℕ) (y : Context) : Type 0 where
  pub later : Later x y
  pub has : Has y n (made kind (num y.span ∷ fields))
  pub last : n ≡ size_of x.image Expressions

pub expr_new : (kind : ℕ) (fields : List Field) (x : Context) → Eight x.image → Gives (λ n y. New x kind fields n y) (expr kind fields x)
expr_new kind fields x e = weaker (expr_gives kind fields x) is_new
  where
    r : Rec
    r = made kind (num x.span ∷ fields)

    old : List Rec
    old = records_of x.image Expressions

    get_or_at_end : (l : List Rec) → get_or (l ++ r ∷ []) (length l) no_record ≡ r
    get_or_at_end [] = refl
    get_or_at_end (z ∷ l) = get_or_at_end l

    records_are : (n : ℕ) (y : Context) → Appended x Expressions (r ∷ []) n y → records_of y.image Expressions ≡ old ++ r ∷ []
    records_are n y g = ap (λ c. records_of c.image Expressions) g.is ∙ records_own x.image Expressions (old ++ r ∷ []) e

    is_new : (n : ℕ) (y : Context) → Appended x Expressions (r ∷ []) n y → New x kind fields n y
    is_new n y g =
        let l : Later x y = rw g.is (with_later (appended_grows x.image Expressions (r ∷ []) tt e)) in
        record {
          later = l;
          has =
              record {
                inside = rw (records_are n y g, length-append old (r ∷ [])) (omega (arith, g.at));
                is = rw (records_are n y g, g.at, l.span) (get_or_at_end old);
              };
          last = g.at;
        }

-- ---- copies

clone_is : (id : ℕ) (x : Context) (r : Rec) → Has x id r → deep_clone_expr id x ≡ clone_record (below id give deep_clone_expr) id r x
unfolding deep_clone_expr
clone_is id x r h =
    ap (λ m. m x) (descend_is give (λ id clone. image_so_far >>= λ im. clone_record clone id (record_of im Expressions id)) id)
    ∙ ap (λ z. clone_record (below id give deep_clone_expr) id z x) h.is

leaf_record : (clone : ℕ → Make ℕ) (id kind : ℕ) (σ w : ℕ) → Leaf kind → clone_record clone id (made kind (num σ ∷ num w ∷ [])) ≡ append Expressions (made kind (num σ ∷ num w ∷ []) ∷ [])
unfolding clone_fields fields_of fields_in schema sort_of
leaf_record clone id kind σ w an_integer = refl
leaf_record clone id kind σ w a_string = refl
leaf_record clone id kind σ w a_bool = refl
leaf_record clone id kind σ w an_identifier = refl

leaf_copied : (id kind σ w : ℕ) (x : Context) → Leaf kind → Has x id (made kind (num σ ∷ num w ∷ [])) → deep_clone_expr id x ≡ append Expressions (made kind (num σ ∷ num w ∷ []) ∷ []) x
leaf_copied id kind σ w x l h = clone_is id x _ h ∙ ap (λ m. m x) (leaf_record (below id give deep_clone_expr) id kind σ w l)

module _ (clone : ℕ → Make ℕ) (id σ tok l r : ℕ) (left right : Rec) where
  -- the right operand's copy, and the rest
  from_right : (n : ℕ) → Option (ℕ × Context) → Option (ℕ × Context)
  from_right n o =
      and_then (and_then (and_then (and_then (and_then (and_then o (λ m. give (num m))) (λ g. give (g ∷ []))) (λ gs. give (num tok ∷ gs))) (λ gs. give (num n ∷ gs))) (λ gs. give (num σ ∷ gs)))
      (λ fs. append Expressions (made 32 fs ∷ []))

  right_flat : (n : ℕ) (o : Option (ℕ × Context)) → from_right n o ≡ and_then o (λ m. append Expressions (made 32 (num σ ∷ num n ∷ num tok ∷ num m ∷ []) ∷ []))
  unfolding from_right
  right_flat n none = refl
  right_flat n (some p) = refl

  from_left : Option (ℕ × Context) → Option (ℕ × Context)
  from_left o =
      and_then (and_then (and_then (and_then o (λ n. give (num n))) (λ g. clone_fields clone (6 ∷ 13 ∷ []) (num tok ∷ num r ∷ []) >>= λ gs. give (g ∷ gs))) (λ gs. give (num σ ∷ gs)))
      (λ fs. append Expressions (made 32 fs ∷ []))

  left_flat : (o : Option (ℕ × Context)) → ((n : ℕ) (y : Context) → o ≡ some (n, y) → clone r y ≡ append Expressions (right ∷ []) y) →
      from_left o ≡ and_then o (λ n. append Expressions (right ∷ []) >>= λ m. append Expressions (made 32 (num σ ∷ num n ∷ num tok ∷ num m ∷ []) ∷ []))
  unfolding from_left from_right clone_fields sort_of
  left_flat none h = refl
  left_flat (some p) h = ap (from_right p.0) (h p.0 p.1 refl) ∙ right_flat p.0 (append Expressions (right ∷ []) p.1)

  -- the two records, and the comparison of the new ones
  abbrev copied : Make ℕ
  copied = append Expressions (left ∷ []) >>= λ n. append Expressions (right ∷ []) >>= λ m. append Expressions (made 32 (num σ ∷ num n ∷ num tok ∷ num m ∷ []) ∷ [])

  binary_record : (x : Context) → clone l x ≡ append Expressions (left ∷ []) x →
      ((n : ℕ) (y : Context) → append Expressions (left ∷ []) x ≡ some (n, y) → clone r y ≡ append Expressions (right ∷ []) y) →
      clone_record clone id (made 32 (num σ ∷ num l ∷ num tok ∷ num r ∷ [])) x ≡ copied x
  unfolding from_left clone_fields fields_of fields_in schema sort_of
  binary_record x e h = ap from_left e ∙ left_flat (append Expressions (left ∷ []) x) h

-- a comparison whose operands come before it
pub record Comparison (x : Context) (kind w t tok pred : ℕ) : Type 0 where
  pub left : ℕ
  pub right : ℕ
  pub left_has : Has x left (made 30 (num x.span ∷ num t ∷ []))
  pub right_has : Has x right (made kind (num x.span ∷ num w ∷ []))
  pub has : Has x pred (made 32 (num x.span ∷ num left ∷ num tok ∷ num right ∷ []))
  pub left_before : left < pred
  pub right_before : right < pred

pub comparison_later : {x y : Context} {kind w t tok pred : ℕ} → Later x y → Comparison x kind w t tok pred → Comparison y kind w t tok pred
comparison_later l c =
    record {
      left = c.left;
      right = c.right;
      left_has = node_later l c.left_has;
      right_has = node_later l c.right_has;
      has = node_later l c.has;
      left_before = c.left_before;
      right_before = c.right_before;
    }

-- the span is the same all the while
same_span : (clone : ℕ → Make ℕ) (id l r : ℕ) (x : Context) (kind w t tok : ℕ) → Eight x.image →
    copied clone id x.span tok l r (made 30 (num x.span ∷ num t ∷ [])) (made kind (num x.span ∷ num w ∷ [])) x ≡ copy_of (kind, w) t tok x
unfolding expr
same_span clone id l r x kind w t tok e =
    later_bind (adds_append Expressions tt _) x e
    (λ n y p.
    ap (λ σ. (append Expressions (made kind (num σ ∷ num w ∷ []) ∷ []) >>= λ m. append Expressions (made 32 (num σ ∷ num n ∷ num tok ∷ num m ∷ []) ∷ [])) y) (sym p.span)
    ∙ later_bind (adds_append Expressions tt _) y (eight_later p e) (λ m z q. ap (λ σ. append Expressions (made 32 (num σ ∷ num n ∷ num tok ∷ num m ∷ []) ∷ []) z) (sym q.span)))

-- THEOREM: its copy is the two operands again, and the comparison of them
pub comparison_copied : (x : Context) (kind w t tok pred : ℕ) → Eight x.image → Leaf kind → Comparison x kind w t tok pred → deep_clone_expr pred x ≡ copy_of (kind, w) t tok x
comparison_copied x kind w t tok pred e leaf c =
    clone_is pred x _ c.has
    ∙ binary_record (below pred give deep_clone_expr) pred x.span tok c.left c.right _ _ x
    (ap (λ m. m x) (under_earlier give deep_clone_expr pred c.left c.left_before) ∙ leaf_copied c.left 30 x.span t x an_identifier c.left_has)
    (λ n y is.
    ap (λ m. m y) (under_earlier give deep_clone_expr pred c.right c.right_before)
    ∙ leaf_copied c.right kind x.span w y leaf (has_later (given_is (adds_later (adds_append Expressions tt _) x e) is) c.right_has))
    ∙ same_span (below pred give deep_clone_expr) pred c.left c.right x kind w t tok e
