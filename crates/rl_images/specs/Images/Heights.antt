-- The trees of a well-formed image are no taller than the limit of its expressions.
-- Assumes nothing.
use Prim.Native.Nat.{ℕ, zero, suc, ◌+◌, ◌≤◌, ◌<◌}
use Rattle.std.specs.Prelude.{◌≡◌, refl, Bool, cond, eqb, get_or}
use Rattle.std.proofs.Math.Path.{ap}
use Rattle.std.proofs.Common.{◌∙◌, eqb-true}
use Rattle.std.proofs.Math.Bool.{true, false}
use mathlib.Core.List.{List, [], ◌∷◌, ◌++◌, map}
use native.Mathlib.Omega.{arith}
use Rattle.std.proofs.Math.ListN.{length, length-append, get_or-eq_default}
use Rattle.std.proofs.lemmas.List.{get_or_at}
use Rattle.rl_spec.specs.declared.ArenaNo.{ArenaNo}
use Rattle.rl_spec.specs.declared.Counts.{Counts}
use Rattle.rl_spec.specs.Answers.{accepted}
use Rattle.rl_spec.specs.declared.Form.{Form}
use Rattle.rl_spec.specs.declared.Form.TheVariants.{IsErr, ResultUnwrap, Other}
use Rattle.rl_spec.specs.declared.Section.{Section}
use Rattle.rl_spec.specs.declared.Section.TheVariants.{Expressions}
use Rattle.rl_spec.specs.declared.Target.TheVariants.{Expression}
use Rattle.rl_spec.specs.Schema.{sort_of, fields_of, fields_in, schema}
use Rattle.rl_spec.specs.Read.{answer_of, starts_of}
use Rattle.rl_spec.specs.Image.{Field, no_field, Rec, Image, records_of, size_of, no_record, record_of, field_of, first, second, entry_of, tallest_entry, tallest_child, heights_from, heights, image_of, Entries, a_raw, a_byte, a_reference, a_list, FieldsFit, no_fields, ◌&◌, AllBytes, WellFormed}
use Rattle.rl_spec.specs.Found.{image_found}
use Rattle.rl_spec.specs.Tree.{Expr, other, ascii, number, is_res_path, below, call_form, form_by, tree_by, expr_tree}
use Rattle.rl_laws.specs.Tests.{by_ltb}
use Rattle.rl_laws.specs.Descend.{tree_is, below_earlier}
use Rattle.rl_laws.specs.Heights.{expr_height}
use Rattle.rl_images.specs.Encoding.SectionLoop.{heights_kept}
use Rattle.rl_images.specs.Encoding.Accepted.{accepted_well_formed}
use Rattle.rl_images.specs.Reading.Found.{found_is_image}

-- ---- the height of a record, by the heights of the records before it

module _ (im : Image) (o : Section) where
  abbrev tallest_of : List ℕ → Rec → ℕ
  tallest_of g r = tallest_child im o g (fields_of r.kind) r.fields

  -- `earlier` has the first i heights of `all`, and the next is that of r
  pub record Next (all : List ℕ) (i : ℕ) (r : Rec) : Type 0 where
    pub earlier : List ℕ
    pub same : (n : ℕ) → n < i → get_or all n 0 ≡ get_or earlier n 0
    pub here : get_or all i 0 ≡ tallest_of earlier r + 1

  next_from : (rs : List Rec) (h : List ℕ) (j i : ℕ) → i ≡ length h + j → j < length rs → Next (heights_from im o rs h) i (get_or rs j no_record)
  unfolding heights_from
  next_from [] h j i e p = absurd (omega arith)
  next_from (r ∷ rs) h zero i e p =
      let y : ℕ = tallest_of h r + 1 in
      let l : length h ≡ i = omega arith in
      record {
        earlier = h;
        same = λ n q. heights_kept im o (r ∷ rs) h n (omega arith);
        here = rw (heights_kept im o rs (h ++ y ∷ []) i (rw length-append (omega arith))) (get_or_at h y [] 0 i l);
      }
  next_from (r ∷ rs) h (suc j) i e p = next_from rs (h ++ (tallest_of h r + 1) ∷ []) j i (rw length-append (omega arith)) (omega arith)

  pub next_at_lem : (i : ℕ) → i < size_of im o → Next (heights im o) i (record_of im o i)
  unfolding heights
  next_at_lem i p = next_from (records_of im o) [] i i (omega arith) p

-- ---- the tree of a record that fits, t being the trees of the records before it and h their heights

module _ (im : Image) (i : ℕ) (h : List ℕ) (t : ℕ → Expr ℕ) (low : (n : ℕ) → n < i → expr_height (t n) ≤ get_or h n 0) where
  abbrev Fit : ℕ → List Field → Type 0
  Fit k fs = FieldsFit im Expressions i 0 (map sort_of (fields_of k)) fs

  -- the n-th tree is no taller than the children
  abbrev Under : ℕ → List Field → ℕ → Type 0
  Under k fs n = expr_height (t n) ≤ tallest_child im Expressions h (fields_of k) fs

  binary_low : {fs : List Field} → Fit 32 fs → Under 32 fs (first (get_or fs 1 no_field)) × Under 32 fs (first (get_or fs 3 no_field))
  unfolding fields_of fields_in schema sort_of tallest_child
  binary_low (a_raw w & a_reference {x = m} p & a_byte l u & a_reference {x = n} q & no_fields) =
      (omega (arith, low m p.earlier), omega (arith, low n q.earlier))

  unary_low : {fs : List Field} → Fit 33 fs → Under 33 fs (first (get_or fs 2 no_field))
  unfolding fields_of fields_in schema sort_of tallest_child
  unary_low (a_raw w & a_byte l u & a_reference {x = n} p & no_fields) = omega (arith, low n p.earlier)

  grouping_low : {fs : List Field} → Fit 34 fs → Under 34 fs (first (get_or fs 1 no_field))
  unfolding fields_of fields_in schema sort_of tallest_child
  grouping_low (a_raw w & a_reference {x = n} p & no_fields) = omega (arith, low n p.earlier)

  assign_low : {fs : List Field} → Fit 39 fs → Under 39 fs (first (get_or fs 2 no_field))
  unfolding fields_of fields_in schema sort_of tallest_child
  assign_low (a_raw w & a_reference r & a_reference {x = n} p & no_fields) = omega (arith, low n p.earlier)

  ok_low : {fs : List Field} → Fit 49 fs → Under 49 fs (first (get_or fs 1 no_field))
  unfolding fields_of fields_in schema sort_of tallest_child
  ok_low (a_raw w & a_reference {x = n} p & no_fields) = omega (arith, low n p.earlier)

  err_low : {fs : List Field} → Fit 50 fs → Under 50 fs (first (get_or fs 1 no_field))
  unfolding fields_of fields_in schema sort_of tallest_child
  err_low (a_raw w & a_reference {x = n} p & no_fields) = omega (arith, low n p.earlier)

  -- the argument of a call that has one
  argument_low : {fs : List Field} → Fit 41 fs → second (get_or fs 2 no_field) ≡ 1 → Under 41 fs (entry_of im (first (get_or fs 2 no_field)))
  unfolding fields_of fields_in schema sort_of tallest_child tallest_entry
  argument_low (a_raw w & a_list l m ts & a_list {a = a} p q es & no_fields) d =
      let e : Entries im Expressions i 1 a Expression Expression = rw d at es in
      rw d (omega (arith, low (entry_of im a) e.0.earlier))

  module _ (r : Rec) (fits : Fit r.kind r.fields) where
    abbrev top : ℕ
    top = tallest_child im Expressions h (fields_of r.kind) r.fields + 1

    record Low (f : Form) : Type 0 where
      low_is : expr_height (tree_by im f t) ≤ top

    by_test : (b : Bool) (x y : Form) → (b ≡ true → Low x) → Low y → Low (cond b x y)
    by_test true x y f g = f refl
    by_test false x y f g = g

    by_kind : (m : ℕ) (x y : Form) → (r.kind ≡ m → Low x) → Low y → Low (cond (eqb r.kind m) x y)
    by_kind m x y f g = by_test (eqb r.kind m) x y (λ e. f (eqb-true r.kind m e)) g

    child_low : {k x : ℕ} → r.kind ≡ k → x ≤ tallest_child im Expressions h (fields_of k) r.fields → x + 1 ≤ top
    child_low e p = rw e (omega arith)

    by_tests : (a b c : Bool) (n : ℕ) → (a ≡ true → expr_height (t n) + 1 ≤ top) → Low (cond a (cond b (IsErr n) (cond c (ResultUnwrap n) Other)) Other)
    unfolding expr_height
    by_tests true true c n f = omega (arith, f refl)
    by_tests true false true n f = omega (arith, f refl)
    by_tests true false false n f = omega arith
    by_tests false b c n f = omega arith

    call_low : r.kind ≡ 41 → Low (call_form im (field_of r 1) (field_of r 2))
    unfolding call_form
    call_low e = by_tests (eqb (second (field_of r 2)) 1) (is_res_path im (field_of r 1) (ascii "is_err")) (is_res_path im (field_of r 1) (ascii "result_unwrap")) (entry_of im (number r 2)) (λ d. child_low e (argument_low (rw e at fits) (eqb-true (second (field_of r 2)) 1 d)))

    form_low : Low (form_by im r)
    unfolding form_by expr_height
    form_low =
        by_kind 16 _ _ (λ e. omega arith)
        (by_kind 17 _ _ (λ e. omega arith)
        (by_kind 18 _ _ (λ e. omega arith)
        (by_kind 19 _ _ (λ e. omega arith)
        (by_kind 20 _ _ (λ e. omega arith)
        (by_kind 21 _ _ (λ e. omega arith)
        (by_kind 22 _ _ (λ e. omega arith)
        (by_kind 23 _ _ (λ e. omega arith)
        (by_kind 24 _ _ (λ e. omega arith)
        (by_kind 25 _ _ (λ e. omega arith)
        (by_kind 26 _ _ (λ e. omega arith)
        (by_kind 27 _ _ (λ e. omega arith)
        (by_kind 28 _ _ (λ e. omega arith)
        (by_kind 30 _ _ (λ e. omega arith)
        (by_kind 32 _ _ (λ e. let p = binary_low (rw e at fits) in omega (arith, child_low e p.0, child_low e p.1))
        (by_kind 33 _ _ (λ e. omega (arith, child_low e (unary_low (rw e at fits))))
        (by_kind 34 _ _ (λ e. omega (arith, child_low e (grouping_low (rw e at fits))))
        (by_kind 39 _ _ (λ e. omega (arith, child_low e (assign_low (rw e at fits))))
        (by_kind 41 _ _ call_low
        (by_kind 49 _ _ (λ e. omega (arith, child_low e (ok_low (rw e at fits))))
        (by_kind 50 _ _ (λ e. omega (arith, child_low e (err_low (rw e at fits)))) (omega arith)))))))))))))))))))))

-- ---- the tree at an index

module _ (im : Image) (wf : WellFormed im) where
  abbrev tall : ℕ → ℕ
  tall i = get_or (heights im Expressions) i 0

  -- by induction on a bound of the index
  trees_tall : (n i : ℕ) → i < n → i < size_of im Expressions → expr_height (expr_tree im i) ≤ tall i
  trees_tall zero i p l = absurd (omega arith)
  trees_tall (suc n) i p l =
      let next = next_at_lem im Expressions i l in
      let q = form_low im i next.earlier (below i (λ _. other) (expr_tree im)) (λ m z. rw (below_earlier im i m z, ← next.same m z) (trees_tall n m (omega arith) (omega arith))) (record_of im Expressions i) (wf.fits Expressions i l).fields in
      rw (tree_is im i, next.here) q.low_is

  tree_missing : (i : ℕ) → size_of im Expressions ≤ i → expr_tree im i ≡ other
  unfolding form_by
  tree_missing i l =
      let e : record_of im Expressions i ≡ no_record = get_or-eq_default (records_of im Expressions) no_record l in
      tree_is im i ∙ ap (λ (r : Rec). tree_by im (form_by im r) (below i (λ _. other) (expr_tree im))) e

  -- THEOREM: no tree is taller than an expression may be
  pub trees_low : (i : ℕ) → expr_height (expr_tree im i) ≤ 68
  unfolding expr_height
  trees_low i =
      by_ltb i (size_of im Expressions) (λ l. omega (arith, trees_tall (suc i) i (omega arith) l, (wf.fits Expressions i l).height))
      (λ l. rw (tree_missing i l) (omega arith))

-- THEOREM: so are the trees of the image that accepted bytes, their starts and their counts give
pub found_low : (s : List ℕ) (k : ℕ) (a : ArenaNo) (c : Counts) → AllBytes s → answer_of s k ≡ accepted a c → (i : ℕ) → expr_height (expr_tree (image_found s (starts_of s k) c) i) ≤ 68
found_low s k a c bytes e i = rw (found_is_image s k a c e) (trees_low (image_of s) (accepted_well_formed s k a c bytes e) i)
