-- For closed examples: tests of what a record names, field by field, of what stands at any depth in an expression, and of texts;
-- and an expression that folds.
-- Assumes nothing.
use Rattle.std.specs.Prelude.{◌≡◌, ℕ, ◌+◌, ◌%◌, ◌<◌, Bool, true, false, cond, not, ◌&&◌, ◌||◌, [], ◌++◌, length, ◌==◌, ◌≢◌, nat_lt, refl}
use Rattle.std.proofs.Math.Path.{ap, sym}
use Rattle.std.proofs.Common.{◌∙◌, subst, arith, eq-eqb}
use Rattle.std.proofs.lemmas.Bool.{false≢true}
use Rattle.std.proofs.Math.Option.{some, some-injective}
use Rattle.std.proofs.Math.ListN.{get_or-eq_default}
use Rattle.rl_spec.specs.declared.Section.TheVariants.{Texts, Expressions}
use Rattle.rl_spec.specs.declared.Target.{Target}
use Rattle.rl_spec.specs.declared.Target.TheVariants.{Expression}
use Rattle.rl_spec.specs.declared.Sort.{Sort}
use Rattle.rl_spec.specs.declared.Sort.TheVariants.{Raw, Byte, Scalar, Part, One, Maybe, Many, Range, OperandSort, Operand}
use Rattle.rl_spec.specs.Schema.{sort_of, fields_of}
use Rattle.rl_spec.specs.Image.{Field, Rec, Image, record_of, size_of, field_of, first, second, entry_of, text_of}
use Rattle.rl_spec.specs.Values.{ConstVal}
use Rattle.rl_spec.specs.Tree.{number, below, descend, expr_tree}
use Rattle.rl_spec.specs.Fold.{const_eval}
use Rattle.rl_spec.specs.Run.{Value, folds}
use Rattle.rl_spec.specs.Mapped.{Text, map_const}
use Rattle.rl_spec.specs.Lower.{is_node}
use Rattle.rl_laws.specs.Tests.{by_ltb}
use Rattle.rl_laws.specs.Descend.{descend_is}
use Rattle.rl_images.specs.Images.SchemaSorts.{and_left, and_right, all, all_at}
use Rattle.rl_theorems.specs.Trees.NamesIn.{sort_in}
use Rattle.rl_theorems.specs.Lowering.LowerFrame.{begins, begins_append}

-- ---- what a record names passes a test

module _ (im : Image) (test : ℕ → Bool) where
  abbrev passes_to : Target → ℕ → Bool
  passes_to t n = not (is_node t) || test n

  abbrev passes_field : Sort → Field → Bool
  passes_field (Raw n) f = true
  passes_field (Byte low high) f = true
  passes_field Scalar f = true
  passes_field Part f = true
  passes_field (One t) f = passes_to t (first f)
  passes_field (Maybe t) f = passes_to t (first f)
  passes_field (Many l r m) f = all (λ k. passes_to (cond (k % 2 == 0) l r) (entry_of im (first f + k))) 0 (second f)
  passes_field (Range o) f = true
  passes_field OperandSort f = true
  passes_field Operand f = true

  unfoldable pub all_named : Rec → Bool
  all_named x = all (λ c. passes_field (sort_in x c) (field_of x c)) 0 (length (fields_of x.kind))

  -- a field that the record does not have is of a sort that names nothing
  abbrev Refers : Sort → Type 0
  Refers (Raw n) = ⊥
  Refers (Byte low high) = ⊥
  Refers Scalar = ⊥
  Refers Part = ⊥
  Refers (One t) = Unit {0}
  Refers (Maybe t) = Unit {0}
  Refers (Many l r m) = Unit {0}
  Refers (Range o) = ⊥
  Refers OperandSort = ⊥
  Refers Operand = ⊥

  field_there : (x : Rec) (c : ℕ) (o : Sort) → sort_in x c ≡ o → Refers o → c < length (fields_of x.kind)
  unfolding sort_of
  field_there x c o e h =
      by_ltb c (length (fields_of x.kind)) (λ l. l)
      (λ l. absurd (subst Refers (sym e ∙ ap sort_of (get_or-eq_default (fields_of x.kind) 0 l)) h))

  field_passes : (x : Rec) (c : ℕ) (o : Sort) → all_named x ≡ true → sort_in x c ≡ o → Refers o → passes_field o (field_of x c) ≡ true
  unfolding all_named
  field_passes x c o h e r =
      let l : c < length (fields_of x.kind) = field_there x c o e r in
      rw e at (all_at _ (length (fields_of x.kind)) 0 c h (omega arith) (omega arith))

  pub one_passes : (x : Rec) (c : ℕ) → all_named x ≡ true → sort_in x c ≡ One Expression → test (number x c) ≡ true
  one_passes x c h e = field_passes x c (One Expression) h e tt

  pub option_passes : (x : Rec) (c : ℕ) → all_named x ≡ true → sort_in x c ≡ Maybe Expression → test (number x c) ≡ true
  option_passes x c h e = field_passes x c (Maybe Expression) h e tt

  pub entry_passes : (x : Rec) (c k : ℕ) (l r : Target) (m : ℕ) → all_named x ≡ true → sort_in x c ≡ Many l r m → cond (k % 2 == 0) l r ≡ Expression →
      k < second (field_of x c) → test (entry_of im (first (field_of x c) + k)) ≡ true
  entry_passes x c k l r m h e t q =
      rw t at (all_at (λ k. passes_to (cond (k % 2 == 0) l r) (entry_of im (first (field_of x c) + k))) (second (field_of x c)) 0 k
      (field_passes x c (Many l r m) h e tt) (omega arith) (omega arith))

-- ---- what stands at any depth in an expression passes a test

module _ (im : Image) (ok : Rec → Bool) where
  abbrev step : ℕ → (ℕ → Bool) → Bool
  step i deeper = ok (record_of im Expressions i) && all_named im deeper (record_of im Expressions i)

  unfoldable pub throughout : ℕ → Bool
  throughout = descend (λ _. false) step

  parts : (i : ℕ) → throughout i ≡ true → step i (below i (λ _. false) throughout) ≡ true
  unfolding throughout
  parts i h = sym (descend_is (λ _. false) step i) ∙ h

  pub ok_itself : (i : ℕ) → throughout i ≡ true → ok (record_of im Expressions i) ≡ true
  ok_itself i h = and_left (ok (record_of im Expressions i)) _ (parts i h)

  earlier : (j : ℕ) (b : Bool) → cond b (throughout j) false ≡ true → throughout j ≡ true
  earlier j true h = h
  earlier j false h = absurd (false≢true h)

  -- of an expression that passes every test that all do which the i-th names
  pub throughout_named : (i j : ℕ) → throughout i ≡ true →
      ((test : ℕ → Bool) → all_named im test (record_of im Expressions i) ≡ true → test j ≡ true) → throughout j ≡ true
  throughout_named i j h x =
      earlier j (nat_lt j i) (x (below i (λ _. false) throughout) (and_right (ok (record_of im Expressions i)) _ (parts i h)))

abbrev pub is_not : ℕ → Rec → Bool
is_not kind x = not (x.kind == kind)

pub is_not_lem : (kind : ℕ) (x : Rec) → is_not kind x ≡ true → x.kind ≢ kind
is_not_lem kind x h e = false≢true (rw (eq-eqb x.kind kind e) at h)

-- ---- no text that begins so

pub not_true : (b : Bool) → not b ≡ true → b ≡ false
not_true true h = absurd (false≢true h)
not_true false h = refl

pub begins_not : (p t : Text) → begins p t ≡ false → (rest : Text) × (p ++ rest ≡ t) → ⊥
begins_not p t h x = false≢true (sym h ∙ subst (λ s. begins p s ≡ true) x.1 (begins_append p x.0))

pub texts_pass : (im : Image) (p : Text) → all (λ t. not (begins p (text_of im t))) 0 (size_of im Texts) ≡ true →
    (t : ℕ) → t < size_of im Texts → (rest : Text) × (p ++ rest ≡ text_of im t) → ⊥
texts_pass im p h t l = begins_not p (text_of im t) (not_true (begins p (text_of im t)) (all_at (λ t. not (begins p (text_of im t))) (size_of im Texts) 0 t h (omega arith) (omega arith)))

-- ---- an expression that folds to a value folds to no other

abbrev pub FoldsTo : Image → ℕ → Value Text → Type 0
FoldsTo im n v = (w : ConstVal ℕ) → const_eval (text_of im) [] (expr_tree im n) ≡ some w → v ≡ folds (map_const (text_of im) w)

pub folds_to : (im : Image) (n : ℕ) (u : ConstVal ℕ) → const_eval (text_of im) [] (expr_tree im n) ≡ some u → FoldsTo im n (folds (map_const (text_of im) u))
folds_to im n u d w e = ap (λ w. folds (map_const (text_of im) w)) (some-injective u w (sym d ∙ e))
