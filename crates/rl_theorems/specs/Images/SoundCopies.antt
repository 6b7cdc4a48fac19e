-- A copy of an expression is sound, and no taller than its original.
-- Assumes nothing.
use Rattle.std.specs.Prelude.{◌≡◌, ℕ, zero, suc, ◌+◌, ◌-◌, ◌%◌, ◌≤◌, true, cond, ◌||◌, List, [], ◌∷◌, map, length, nat_lt, refl}
use Rattle.std.proofs.Math.Path.{ap}
use Rattle.std.proofs.Common.{◌∙◌, arith}
use Rattle.std.proofs.lemmas.List.{length-map}
use Rattle.rl_spec.specs.declared.Section.{Section}
use Rattle.rl_spec.specs.declared.Section.TheVariants.{Expressions}
use Rattle.rl_spec.specs.declared.Target.{Target}
use Rattle.rl_spec.specs.declared.Target.TheVariants.{Text, Expression, Statement, Branch, ElseBranch, Arm}
use Rattle.rl_spec.specs.declared.Sort.{Sort}
use Rattle.rl_spec.specs.declared.Sort.TheVariants.{Raw, Byte, Scalar, Part, One, Maybe, Many, Range, OperandSort, Operand}
use Rattle.rl_spec.specs.Schema.{in_section, sort_of, fields_of, fields_in, schema}
use Rattle.rl_spec.specs.Image.{Field, Rec, Image, size_of, record_of, first, second, entry_of, tallest_child, heights, FieldsFit, no_fields, ◌&◌}
use Rattle.rl_spec.specs.Tree.{below, descend_by, descend}
use Rattle.rl_spec.specs.Ranges.{up_from}
use Rattle.rl_spec.specs.Make.{Context, Make, ◌>>=◌, give, image_so_far, append, made, new_list, entries_of}
use Rattle.rl_spec.specs.Lower.{is_node, clone_entries, clone_field, clone_fields, is_lambda, clone_record, deep_clone_expr}
use Rattle.rl_images.specs.Images.FieldFacts.{list_says}
use Rattle.rl_images.specs.Images.SchemaSorts.{all_at, and_left, and_right, kind_range}
use Rattle.rl_images.specs.Images.Reports.{length_up}
use Rattle.rl_theorems.specs.Images.NewReferences.{Ref, ref_there, ref_higher, Refs, no_refs, ref, Held, AllHeld, own_held, own_tall, one_ref, many_refs}
use Rattle.rl_theorems.specs.Images.NewFields.{all_plain, plain, nil_held, cons_held, one_held}
use Rattle.rl_theorems.specs.Images.KeepsSound.{Ready, KeepsSound, ref_on, refs_on, held_on, all_on, Node, sure_given, sure_test, sure_ready, list_sure, node_sure, ◌⇝◌, ◌↠◌}

-- ---- no field of an expression looks at the one before it

expression_plain : (k : ℕ) → in_section Expressions k ≡ true → all_plain (fields_of k) ≡ true
unfolding fields_of fields_in schema sort_of
expression_plain k e =
    let r = kind_range Expressions k e in
    all_at (λ j. all_plain (fields_of j)) 42 16 k refl r.0 (omega (arith, r.1))

-- ---- lists

length_entries : (im : Image) (f : Field) → length (entries_of im f) ≡ second f
length_entries im f = length-map (up_from (first f) (second f)) (entry_of im) ∙ length_up (first f) (second f)

many_turns : {im : Image} {o : Section} {h m : ℕ} {l r : Target} (f : Field) → Held im o h (Many l r m) f → second f % m ≡ 0
many_turns f e = (list_says e.fits).1

-- ---- the copy, where `clone` copies what stands before it

module _ (h : ℕ) (clone : ℕ → Make ℕ) (copies : (n : ℕ) (c : Context) → Node h n c → KeepsSound c (Node h) (clone n c)) where
  entry_sure : (t : Target) (n : ℕ) (c : Context) → Ref c.image Expressions h t n →
      KeepsSound c (λ m d. Ref d.image Expressions h t m) (cond (is_node t) (clone n) (give n) c)
  entry_sure Text n c x = sure_given x
  entry_sure Expression n c x = copies n c x
  entry_sure Statement n c x = sure_given x
  entry_sure Branch n c x = sure_given x
  entry_sure ElseBranch n c x = sure_given x
  entry_sure Arm n c x = sure_given x

  entries_sure : (l r : Target) (ns : List ℕ) (c : Context) → Refs c.image Expressions h l r ns →
      KeepsSound c (λ ms d. Refs d.image Expressions h l r ms × (length ms ≡ length ns)) (clone_entries clone l r ns c)
  unfolding clone_entries
  entries_sure l r [] c no_refs = sure_given (no_refs, refl)
  entries_sure l r (n ∷ ns) c (ref x xs) =
      entry_sure l n c x ⇝ λ m d on y. entries_sure r l ns d (refs_on on xs) ⇝ λ ms e on' ys.
      sure_given (ref (ref_on on' y) ys.0, ap suc ys.1)

  one_sure : (t : Target) (f : Field) (c : Context) → Held c.image Expressions h (One t) f →
      KeepsSound c (λ g d. Held d.image Expressions h (One t) g) (clone_field clone (One t) f c)
  one_sure Text f c x = sure_given x
  one_sure Expression f c x = copies (first f) c (one_ref f x) ⇝ λ m d on y. sure_given (one_held y)
  one_sure Statement f c x = sure_given x
  one_sure Branch f c x = sure_given x
  one_sure ElseBranch f c x = sure_given x
  one_sure Arm f c x = sure_given x

  many_sure : (l r : Target) (m : ℕ) (f : Field) (c : Context) → Held c.image Expressions h (Many l r m) f →
      KeepsSound c (λ g d. Held d.image Expressions h (Many l r m) g) (clone_field clone (Many l r m) f c)
  many_sure l r m f c x =
      sure_test (is_node l || is_node r) (image_so_far >>= λ im. clone_entries clone l r (entries_of im f) >>= new_list) (give f) c
      (λ e. entries_sure l r (entries_of c.image f) c (many_refs f x) ⇝ λ ns d on ys.
      list_sure m ns d (rw (ys.1, length_entries c.image f) (many_turns f x)) ys.0)
      (λ e. sure_given x)

  field_sure : (s : Sort) (f : Field) (c : Context) → Held c.image Expressions h s f →
      KeepsSound c (λ g d. Held d.image Expressions h s g) (clone_field clone s f c)
  field_sure (Raw n) f c x = sure_given x
  field_sure (Byte low high) f c x = sure_given x
  field_sure Scalar f c x = sure_given x
  field_sure Part f c x = sure_given x
  field_sure (One t) f c x = one_sure t f c x
  field_sure (Maybe t) f c x = sure_given x
  field_sure (Many l r n) f c x = many_sure l r n f c x
  field_sure (Range q) f c x = sure_given x
  field_sure OperandSort f c x = sure_given x
  field_sure Operand f c x = sure_given x

  fields_sure : {b : ℕ} {fs : List Field} (cs : List ℕ) (c : Context) → all_plain cs ≡ true →
      FieldsFit c.image Expressions (size_of c.image Expressions) b (map sort_of cs) fs →
      tallest_child c.image Expressions (heights c.image Expressions) cs fs ≤ h →
      KeepsSound c (λ gs d. (a : ℕ) → AllHeld d.image Expressions h a cs gs) (clone_fields clone cs fs c)
  unfolding clone_fields tallest_child
  fields_sure [] c p no_fields low = sure_given (λ a. nil_held)
  fields_sure {b} (k ∷ cs) c p (◌&◌ {f = f} x xs) low =
      field_sure (sort_of k) f c (record { before = b; fits = x; low = omega (arith, low) }) ⇝ λ g d on y.
      let held : AllHeld d.image Expressions h (first f) cs _ = all_on on (record { fits = xs; low = omega (arith, low) }) in
      fields_sure cs d (and_right (plain (sort_of k)) (all_plain cs) p) held.fits held.low ⇝ λ gs e on' ys.
      sure_given (λ a. cons_held (and_left (plain (sort_of k)) (all_plain cs) p) (held_on on' y) (ys (first g)))

-- ---- the whole copy

-- the height of an expression that is there is at least 1
node_tall : {h : ℕ} (c : Context) (id : ℕ) → Ready c → Node h id c → 1 ≤ h
node_tall c id r x = omega (arith, own_tall r.sound Expressions id (ref_there x), x.low)

abbrev Copies : (ℕ → Make ℕ) → Type 0
Copies clone = (h n : ℕ) (c : Context) → h ≤ 68 → Node h n c → KeepsSound c (Node h) (clone n c)

record_sure : (clone : ℕ → Make ℕ) → Copies clone → (h id : ℕ) (c : Context) → h ≤ 68 → Node h id c →
    KeepsSound c (Node h) (clone_record clone id (record_of c.image Expressions id) c)
record_sure clone copies h id c l x =
    let r : Rec = record_of c.image Expressions id in
    sure_ready λ ready.
    let p : 1 ≤ h = node_tall c id ready x in
    let q : h - 1 + 1 ≤ h = omega arith in
    let kind : in_section Expressions r.kind ≡ true = (ready.sound.fits Expressions id (ref_there x)).kind in
    let own : AllHeld c.image Expressions (h - 1) 0 (fields_of r.kind) r.fields =
    own_held ready.sound Expressions id (ref_there x) (omega (arith, x.low)) in
    sure_test (is_lambda r.kind) (give id)
    (clone_fields clone (fields_of r.kind) r.fields >>= λ fs. append Expressions (made r.kind fs ∷ [])) c
    (λ e. sure_given x)
    (λ e. fields_sure (h - 1) clone
    (λ n d y. copies (h - 1) n d (omega arith) y) (fields_of r.kind) c (expression_plain r.kind kind) own.fits own.low ⇝ λ fs d on ys.
    node_sure r.kind fs d kind (omega arith) (ys 0) ↠ λ n z on' y. ref_higher q y)

abbrev copy_step : ℕ → (ℕ → Make ℕ) → Make ℕ
copy_step id clone = image_so_far >>= λ im. clone_record clone id (record_of im Expressions id)

copies_by : (n : ℕ) → Copies (descend_by give copy_step n)
unfolding descend_by
copies_by zero h id c l x = sure_given x
copies_by (suc n) h id c l x =
    record_sure (below id give (descend_by give copy_step n))
    (λ g j d m y. sure_test (nat_lt j id) (descend_by give copy_step n j) (give j) d (λ e. copies_by n g j d m y) (λ e. sure_given y)) h id c l x

pub clone_sure : (h id : ℕ) (c : Context) → h ≤ 68 → Node h id c → KeepsSound c (Node h) (deep_clone_expr id c)
unfolding deep_clone_expr descend
clone_sure h id c l x = copies_by (suc id) h id c l x
