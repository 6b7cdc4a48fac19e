-- What is said of the names in a tree: of those that it looks up, and of those that it assigns. It holds of the tree of an expression
-- where it holds of every record that stands in the expression.
-- Assumes nothing.
use Rattle.std.specs.Prelude.{◌≡◌, ℕ, zero, suc, ◌+◌, ◌<◌, Bool, true, false, cond, ◌==◌, slice_index}
use Rattle.std.proofs.Math.Path.{refl}
use Rattle.std.proofs.Common.{ap, eqb-true}
use native.Mathlib.Omega.{arith}
use Rattle.rl_spec.specs.declared.Form.{Form}
use Rattle.rl_spec.specs.declared.Form.TheVariants.{IsErr, ResultUnwrap, Other}
use Rattle.rl_spec.specs.declared.Section.TheVariants.{Expressions}
use Rattle.rl_spec.specs.declared.Sort.{Sort}
use Rattle.rl_spec.specs.declared.Sort.TheVariants.{One, Many}
use Rattle.rl_spec.specs.declared.Target.TheVariants.{Expression}
use Rattle.rl_spec.specs.Schema.{sort_of, fields_of, fields_in, schema}
use Rattle.rl_spec.specs.Image.{Rec, Image, record_of, field_of, second, entry_of}
use Rattle.rl_spec.specs.Tree.{Expr, null, literal, identifier, unary, binary, grouping, assign, ok_literal, err_literal, is_err, result_unwrap, other, ascii, number, is_res_path, below, call_form, form_by, tree_by, expr_tree}
use Rattle.rl_spec.specs.Mapped.{map_expr}
use Rattle.rl_laws.specs.Tests.{by_ltb}
use Rattle.rl_laws.specs.Descend.{tree_is, below_earlier, below_later}

module _ {T : Type 0} (look store : T → Type 0) where
  abbrev pub NamesIn : Expr T → Type 0
  NamesIn null = Unit {0}
  NamesIn (literal v) = Unit {0}
  NamesIn (identifier x) = look x
  NamesIn (unary op e) = NamesIn e
  NamesIn (binary l op r) = NamesIn l × NamesIn r
  NamesIn (grouping e) = NamesIn e
  NamesIn (assign x e) = store x × NamesIn e
  NamesIn (ok_literal e) = NamesIn e
  NamesIn (err_literal e) = NamesIn e
  NamesIn (is_err e) = NamesIn e
  NamesIn (result_unwrap e) = NamesIn e
  NamesIn other = Unit {0}

-- of another account of the names
pub names_mapped : {A B : Type 0} (f : A → B) (look store : B → Type 0) (e : Expr A) → NamesIn (λ x. look (f x)) (λ x. store (f x)) e →
    NamesIn look store (map_expr f e)
unfolding map_expr
names_mapped f look store null h = tt
names_mapped f look store (literal v) h = tt
names_mapped f look store (identifier x) h = h
names_mapped f look store (unary op e) h = names_mapped f look store e h
names_mapped f look store (binary l op r) h = (names_mapped f look store l h.0, names_mapped f look store r h.1)
names_mapped f look store (grouping e) h = names_mapped f look store e h
names_mapped f look store (assign x e) h = (h.0, names_mapped f look store e h.1)
names_mapped f look store (ok_literal e) h = names_mapped f look store e h
names_mapped f look store (err_literal e) h = names_mapped f look store e h
names_mapped f look store (is_err e) h = names_mapped f look store e h
names_mapped f look store (result_unwrap e) h = names_mapped f look store e h
names_mapped f look store other h = tt

-- ---- from records

-- the sort of the c-th field of a record
abbrev pub sort_in : Rec → ℕ → Sort
sort_in x c = sort_of (slice_index (fields_of x.kind) c)

-- what holds of an expression holds of each that a field of it names, and of the first entry of a list; and it says this of the names in
-- an identifier and in an assignment
module _ (im : Image) (H : ℕ → Type 0)
    (one : (i c : ℕ) → H i → sort_in (record_of im Expressions i) c ≡ One Expression → H (number (record_of im Expressions i) c))
    (entry : (i c : ℕ) → H i → sort_in (record_of im Expressions i) c ≡ Many Expression Expression 1 → 0 < second (field_of (record_of im Expressions i) c) →
    H (entry_of im (number (record_of im Expressions i) c + 0)))
    (look store : ℕ → Type 0) (looks : (i : ℕ) → H i → (record_of im Expressions i).kind ≡ 30 → look (number (record_of im Expressions i) 1))
    (stores : (i : ℕ) → H i → (record_of im Expressions i).kind ≡ 39 → store (number (record_of im Expressions i) 1)) where
  module _ (i : ℕ) (h : H i) (earlier : (n : ℕ) → n < i → H n → NamesIn look store (expr_tree im n)) where
    abbrev r : Rec
    r = record_of im Expressions i

    abbrev tree : ℕ → Expr ℕ
    tree = below i (λ _. other) (expr_tree im)

    record Says (f : Form) : Type 0 where
      says : NamesIn look store (tree_by im f tree)

    child : (n : ℕ) → H n → NamesIn look store (tree n)
    child n x =
        by_ltb n i (λ l. rw (below_earlier im i n l) (earlier n l x)) (λ l. rw (below_later im i n l) tt)

    field : (k c : ℕ) → r.kind ≡ k → sort_of (slice_index (fields_of k) c) ≡ One Expression → NamesIn look store (tree (number r c))
    field k c e o = child (number r c) (one i c h (rw e o))

    by_test : (b : Bool) (x y : Form) → (b ≡ true → Says x) → Says y → Says (cond b x y)
    by_test true x y f g = f refl
    by_test false x y f g = g

    by_kind : (m : ℕ) (x y : Form) → (r.kind ≡ m → Says x) → Says y → Says (cond (r.kind == m) x y)
    by_kind m x y f g = by_test (r.kind == m) x y (λ e. f (eqb-true r.kind m e)) g

    by_tests : (a b c : Bool) (n : ℕ) → (a ≡ true → NamesIn look store (tree n)) → Says (cond a (cond b (IsErr n) (cond c (ResultUnwrap n) Other)) Other)
    by_tests true true c n f = record { says = f refl }
    by_tests true false true n f = record { says = f refl }
    by_tests true false false n f = record { says = tt }
    by_tests false b c n f = record { says = tt }

    argument : r.kind ≡ 41 → second (field_of r 2) ≡ 1 → NamesIn look store (tree (entry_of im (number r 2)))
    unfolding fields_of fields_in schema sort_of
    argument e d =
        let l : 0 < second (field_of r 2) = omega (arith, d) in
        let z : number r 2 + 0 ≡ number r 2 = omega arith in
        let x : H (entry_of im (number r 2 + 0)) = entry i 2 h (ap (λ k. sort_of (slice_index (fields_of k) 2)) e) l in
        child (entry_of im (number r 2)) (rw z at x)

    call_says : r.kind ≡ 41 → Says (call_form im (field_of r 1) (field_of r 2))
    unfolding call_form
    call_says e =
        by_tests (second (field_of r 2) == 1) (is_res_path im (field_of r 1) (ascii "is_err")) (is_res_path im (field_of r 1) (ascii "result_unwrap"))
        (entry_of im (number r 2)) (λ d. argument e (eqb-true (second (field_of r 2)) 1 d))

    form_says : Says (form_by im r)
    unfolding form_by fields_of fields_in schema sort_of
    form_says =
        by_kind 16 _ _ (λ e. record { says = tt })
        (by_kind 17 _ _ (λ e. record { says = tt })
        (by_kind 18 _ _ (λ e. record { says = tt })
        (by_kind 19 _ _ (λ e. record { says = tt })
        (by_kind 20 _ _ (λ e. record { says = tt })
        (by_kind 21 _ _ (λ e. record { says = tt })
        (by_kind 22 _ _ (λ e. record { says = tt })
        (by_kind 23 _ _ (λ e. record { says = tt })
        (by_kind 24 _ _ (λ e. record { says = tt })
        (by_kind 25 _ _ (λ e. record { says = tt })
        (by_kind 26 _ _ (λ e. record { says = tt })
        (by_kind 27 _ _ (λ e. record { says = tt })
        (by_kind 28 _ _ (λ e. record { says = tt })
        (by_kind 30 _ _ (λ e. record { says = looks i h e })
        (by_kind 32 _ _ (λ e. record { says = (field 32 1 e refl, field 32 3 e refl) })
        (by_kind 33 _ _ (λ e. record { says = field 33 2 e refl })
        (by_kind 34 _ _ (λ e. record { says = field 34 1 e refl })
        (by_kind 39 _ _ (λ e. record { says = (stores i h e, field 39 2 e refl) })
        (by_kind 41 _ _ call_says
        (by_kind 49 _ _ (λ e. record { says = field 49 1 e refl })
        (by_kind 50 _ _ (λ e. record { says = field 50 1 e refl }) (record { says = tt })))))))))))))))))))))

  all_below : (b i : ℕ) → i < b → H i → NamesIn look store (expr_tree im i)
  all_below zero i l h = absurd (omega arith)
  all_below (suc b) i l h =
      rw (tree_is im i) (form_says i h (λ n m x. all_below b n (omega arith) x)).says

  -- THEOREM
  pub tree_names : (i : ℕ) → H i → NamesIn look store (expr_tree im i)
  tree_names i h = all_below (suc i) i (omega arith) h
