-- A copy stands for the tree that the original stands for.
-- Assumes nothing.
use Rattle.std.specs.Prelude.{◌≡◌, ℕ, zero, suc, ◌<◌, Bool, true, false, cond, not, ◌&&◌, ◌||◌, List, [], ◌∷◌, map, nat_lt}
use Rattle.std.proofs.Math.Path.{refl}
use Rattle.std.proofs.Common.{ap, sym, ◌∙◌, subst, true≢false, arith, ltb-true}
use Rattle.std.proofs.lemmas.Bool.{false≢true}
use Rattle.std.proofs.Math.Option.{Option, some}
use Rattle.rl_spec.specs.declared.Section.TheVariants.{Expressions}
use Rattle.rl_spec.specs.declared.Target.{Target}
use Rattle.rl_spec.specs.declared.Sort.{Sort}
use Rattle.rl_spec.specs.declared.Sort.TheVariants.{Raw, Byte, Scalar, Part, One, Maybe, Many, Range, OperandSort, Operand}
use Rattle.rl_spec.specs.Schema.{schema, sort_of, fields_in, fields_of}
use Rattle.rl_spec.specs.Image.{Field, num, Rec, Image, size_of, record_of, first}
use Rattle.rl_spec.specs.Values.{ConstVal, str}
use Rattle.rl_spec.specs.Tree.{Expr, null, literal, identifier, unary, binary, grouping, assign, ok_literal, err_literal, below}
use Rattle.rl_spec.specs.Mapped.{Text}
use Rattle.rl_spec.specs.Make.{Context, Make, ◌>>=◌, give, image_so_far, made, new_list, entries_of}
use Rattle.rl_spec.specs.Lower.{is_node, clone_entries, clone_field, clone_fields, is_lambda, clone_record, deep_clone_expr}
use Rattle.rl_laws.specs.Descend.{descend_is}
use Rattle.rl_images.specs.Images.SchemaSorts.{and_left, and_right}
use Rattle.rl_images.specs.Lowering.Grows.{Grows, grows_same, size_grows}
use Rattle.rl_images.specs.Lowering.GrowsTo.{GrowsTo, ◌▷◌, ◌▹◌, given, test}
use Rattle.rl_images.specs.Lowering.NewRecords.{At, record_ok}
use Rattle.rl_theorems.specs.Trees.Denotes.{Says, AllSay, Holds, Plain, an_integer, anSInt, aUInt, anSUInt, a_byte, anSByte, aBByte, aBSByte, a_bool, a_float, anSFloat, call_tree, IsExpr, stands, Reads, a_null, a_literal, a_string, an_identifier, a_binary, a_unary, a_grouping, an_assign, a_call, an_ok, an_err, an_other, Args, no_args, an_arg, keep, keep_says, keep_all, keep_holds, keep_args, keep_reads}
use Rattle.rl_theorems.specs.Lowering.MadeTrees.{Turned, list_ok}

infixr 20 ◌▸◌
pub inside_of : {im : Image} {n : ℕ} {e : Expr Text} → IsExpr im n e → n < size_of im Expressions
inside_of (stands k fs h d) = h.inside

-- ---- a field and its copy: a node, or a list of nodes, stands in the second image for what it stands for in the first; all else is kept

abbrev NodeCopy : Image → Image → Field → Field → Type 0
NodeCopy im im' f g = (m : ℕ) × (g ≡ num m) × ((e : Expr Text) → IsExpr im (first f) e → IsExpr im' m e)

abbrev ListCopy : Image → Image → Field → Field → Type 0
ListCopy im im' f g =
    (i : ℕ) (ns : List ℕ) (es : List (Expr Text)) → Holds im f ns → Args im i ns es →
    (ms : List ℕ) × Holds im' g ms × Args im' (size_of im' Expressions) ms es

-- the sorts of nodes, of lists of nodes, and of what is kept; a list of fields and nodes is neither
abbrev node_sort : Sort → Bool
node_sort (Raw n) = false
node_sort (Byte low high) = false
node_sort Scalar = false
node_sort Part = false
node_sort (One t) = is_node t
node_sort (Maybe t) = false
node_sort (Many l r n) = false
node_sort (Range o) = false
node_sort OperandSort = false
node_sort Operand = false

abbrev list_sort : Sort → Bool
list_sort (Raw n) = false
list_sort (Byte low high) = false
list_sort Scalar = false
list_sort Part = false
list_sort (One t) = false
list_sort (Maybe t) = false
list_sort (Many l r n) = is_node l && is_node r
list_sort (Range o) = false
list_sort OperandSort = false
list_sort Operand = false

abbrev kept_sort : Sort → Bool
kept_sort (Raw n) = true
kept_sort (Byte low high) = true
kept_sort Scalar = true
kept_sort Part = true
kept_sort (One t) = not (is_node t)
kept_sort (Maybe t) = true
kept_sort (Many l r n) = not (is_node l || is_node r)
kept_sort (Range o) = true
kept_sort OperandSort = true
kept_sort Operand = true

record CopyOf (im im' : Image) (o : Sort) (f g : Field) : Type 0 where
  pub node : node_sort o ≡ true → NodeCopy im im' f g
  pub list : list_sort o ≡ true → ListCopy im im' f g
  pub kept : kept_sort o ≡ true → g ≡ f

-- more expressions
wider : {a b : Image} → Grows a b → (n : ℕ) → n < size_of a Expressions → n < size_of b Expressions
wider q n h = omega (arith, size_grows q Expressions)

-- from an earlier image, into a later one
copy_shift : {a b c d : Image} {o : Sort} {f g : Field} → Grows a b → Grows c d → CopyOf b c o f g → CopyOf a d o f g
copy_shift p q h = record {
  node = λ t. let r = h.node t in (r.0, r.1, λ e x. keep q (r.2 e (keep p x)));
  list = λ t i ns es x y.
      let r = h.list t i ns es (keep_holds p x) (keep_args p (λ n l. l) y) in
      (r.0, keep_holds q r.1, keep_args q (wider q) r.2);
  kept = h.kept;
}

data Copies (im im' : Image) : List Sort → List Field → List Field → Type 0 where
  no_sorts : {fs : List Field} → Copies im im' [] fs []
  no_more : {o : Sort} {os : List Sort} → Copies im im' (o ∷ os) [] []
  ◌▸◌ : {o : Sort} {os : List Sort} {f g : Field} {fs gs : List Field} → CopyOf im im' o f g → Copies im im' os fs gs →
      Copies im im' (o ∷ os) (f ∷ fs) (g ∷ gs)

copies_shift : {a b c : Image} {os : List Sort} {fs gs : List Field} → Grows a b → Copies b c os fs gs → Copies a c os fs gs
copies_shift p no_sorts = no_sorts
copies_shift p no_more = no_more
copies_shift p (h ▸ hs) = copy_shift p grows_same h ▸ copies_shift p hs

-- ---- what clones the nodes before

abbrev pub Copied : Context → ℕ → ℕ → Context → Type 0
Copied = Turned (λ e. e)

abbrev pub Clones : (ℕ → Make ℕ) → Type 0
Clones clone = (n : ℕ) (ctx : Context) → GrowsTo ctx (Copied ctx n) (clone n ctx)

abbrev ArgsTo : Image → List ℕ → Image → List ℕ → Type 0
ArgsTo im ns im' ms = (i : ℕ) (es : List (Expr Text)) → Args im i ns es → Args im' (size_of im' Expressions) ms es

no_args_lem : (im im' : Image) → ArgsTo im [] im' []
no_args_lem im im' i es no_args = no_args

more_args : {im im' : Image} {n m : ℕ} {ns ms : List ℕ} → ((e : Expr Text) → IsExpr im n e → IsExpr im' m e) → ArgsTo im ns im' ms →
    ArgsTo im (n ∷ ns) im' (m ∷ ms)
more_args h hs i es (an_arg {e = e} {es = ds} l x xs) = an_arg (inside_of (h e x)) (h e x) (hs i ds xs)

args_shift : {a b c : Image} {ns ms : List ℕ} → Grows a b → ArgsTo b ns c ms → ArgsTo a ns c ms
args_shift p h i es x = h i es (keep_args p (λ n l. l) x)

all_kept : {im : Image} {o : Sort} {f : Field} → node_sort o ≡ false → list_sort o ≡ false → CopyOf im im o f f
all_kept p q = record { node = λ t. absurd (false≢true (sym p ∙ t)); list = λ t. absurd (false≢true (sym q ∙ t)); kept = λ t. refl }

module _ (clone : ℕ → Make ℕ) (clones : Clones clone) where
  entries_ok : (l r : Target) (ns : List ℕ) (ctx : Context) →
      GrowsTo ctx (λ ms c. is_node l ≡ true → is_node r ≡ true → ArgsTo ctx.image ns c.image ms) (clone_entries clone l r ns ctx)
  unfolding clone_entries
  entries_ok l r [] ctx = given λ p q. no_args_lem ctx.image ctx.image
  entries_ok l r (n ∷ ns) ctx =
      first_ok ▷ λ m c₁ k₁ h₁. entries_ok r l ns c₁ ▷ λ ms c₂ k₂ h₂.
      given λ p q. more_args (λ e x. keep k₂.image (h₁ p e x)) (args_shift k₁.image (h₂ q p))
    where
      first_ok : GrowsTo ctx (λ m c. is_node l ≡ true → Copied ctx n m c) (cond (is_node l) (clone n) (give n) ctx)
      first_ok = test (is_node l) (clone n) (give n) ctx (λ q. clones n ctx ▹ λ m c k h p. h) (λ q. given λ p. absurd (false≢true (sym q ∙ p)))

  list_copied : (l r : Target) (f : Field) (ctx : Context) →
      GrowsTo ctx (λ g c. is_node l ≡ true → is_node r ≡ true → ListCopy ctx.image c.image f g)
      ((clone_entries clone l r (entries_of ctx.image f) >>= new_list) ctx)
  list_copied l r f ctx =
      entries_ok l r (entries_of ctx.image f) ctx ▷ λ ms c₁ k₁ h₁. list_ok ms c₁ ▹ λ g c₂ k₂ h₂.
      λ p q i ns es x y. (ms, h₂, keep_args k₂.image (wider k₂.image) (h₁ p q i es (rw x.is y)))

  field_ok : (o : Sort) (f : Field) (ctx : Context) → GrowsTo ctx (λ g c. CopyOf ctx.image c.image o f g) (clone_field clone o f ctx)
  field_ok (Raw n) f ctx = given (all_kept refl refl)
  field_ok (Byte low high) f ctx = given (all_kept refl refl)
  field_ok Scalar f ctx = given (all_kept refl refl)
  field_ok Part f ctx = given (all_kept refl refl)
  field_ok (One t) f ctx =
      test (is_node t) (clone (first f) >>= λ n. give (num n)) (give f) ctx
      (λ q. clones (first f) ctx ▷ λ m c k h. given (record {
        node = λ p. (m, refl, h);
        list = λ p. absurd (false≢true p);
        kept = λ p. absurd (false≢true (sym (ap not q) ∙ p));
      }))
      (λ q. given (all_kept q refl))
  field_ok (Maybe t) f ctx = given (all_kept refl refl)
  field_ok (Many l r n) f ctx =
      test (is_node l || is_node r) (image_so_far >>= λ im. clone_entries clone l r (entries_of im f) >>= new_list) (give f) ctx
      (λ q. list_copied l r f ctx ▹ λ g c k h. record {
        node = λ p. absurd (false≢true p);
        list = λ p. h (and_left (is_node l) (is_node r) p) (and_right (is_node l) (is_node r) p);
        kept = λ p. absurd (false≢true (sym (ap not q) ∙ p));
      })
      (λ q. given (all_kept refl (neither (is_node l) (is_node r) q)))
    where
      neither : (s t : Bool) → s || t ≡ false → s && t ≡ false
      neither true t h = absurd (true≢false h)
      neither false t h = refl
  field_ok (Range o) f ctx = given (all_kept refl refl)
  field_ok OperandSort f ctx = given (all_kept refl refl)
  field_ok Operand f ctx = given (all_kept refl refl)

  fields_ok : (cs : List ℕ) (fs : List Field) (ctx : Context) →
      GrowsTo ctx (λ gs c. Copies ctx.image c.image (map sort_of cs) fs gs) (clone_fields clone cs fs ctx)
  unfolding clone_fields
  fields_ok [] fs ctx = given no_sorts
  fields_ok (c ∷ cs) [] ctx = given no_more
  fields_ok (c ∷ cs) (f ∷ fs) ctx =
      field_ok (sort_of c) f ctx ▷ λ g c₁ k₁ h₁. fields_ok cs fs c₁ ▷ λ gs c₂ k₂ h₂.
      given (copy_shift grows_same k₂.image h₁ ▸ copies_shift k₁.image h₂)

-- ---- a record whose fields are copies reads as the original

module _ {im im' : Image} (grown : Grows im im') where
  abbrev CopiesOf : ℕ → List Field → List Field → Type 0
  CopiesOf k fs gs = Copies im im' (map sort_of (fields_of k)) fs gs

  abbrev New : ℕ → List Field → Expr Text → Type 0
  New k gs e = Reads im' (size_of im' Expressions) k gs e

  null_copy : {s : Field} {gs : List Field} → CopiesOf 16 (s ∷ []) gs → New 16 gs null
  unfolding fields_of fields_in schema sort_of
  null_copy (p ▸ no_sorts) = a_null refl

  plain_copy : {k n : ℕ} {v : Option (ConstVal Text)} {s : Field} {gs : List Field} → Plain k n v → CopiesOf k (s ∷ num n ∷ []) gs →
      New k gs (literal v)
  unfolding fields_of fields_in schema sort_of
  plain_copy an_integer (p ▸ q ▸ no_sorts) = rw (q.kept refl) (a_literal an_integer)
  plain_copy anSInt (p ▸ q ▸ no_sorts) = rw (q.kept refl) (a_literal anSInt)
  plain_copy aUInt (p ▸ q ▸ no_sorts) = rw (q.kept refl) (a_literal aUInt)
  plain_copy anSUInt (p ▸ q ▸ no_sorts) = rw (q.kept refl) (a_literal anSUInt)
  plain_copy a_byte (p ▸ q ▸ no_sorts) = rw (q.kept refl) (a_literal a_byte)
  plain_copy anSByte (p ▸ q ▸ no_sorts) = rw (q.kept refl) (a_literal anSByte)
  plain_copy aBByte (p ▸ q ▸ no_sorts) = rw (q.kept refl) (a_literal aBByte)
  plain_copy aBSByte (p ▸ q ▸ no_sorts) = rw (q.kept refl) (a_literal aBSByte)
  plain_copy a_bool (p ▸ q ▸ no_sorts) = rw (q.kept refl) (a_literal a_bool)
  plain_copy a_float (p ▸ q ▸ no_sorts) = rw (q.kept refl) (a_literal a_float)
  plain_copy anSFloat (p ▸ q ▸ no_sorts) = rw (q.kept refl) (a_literal anSFloat)

  string_copy : {t : ℕ} {s : Field} {x : Text} {gs : List Field} → Says im t x → CopiesOf 25 (s ∷ num t ∷ []) gs →
      New 25 gs (literal (some (str x)))
  unfolding fields_of fields_in schema sort_of
  string_copy t (p ▸ q ▸ no_sorts) = rw (q.kept refl) (a_string refl (keep_says grown t))

  identifier_copy : {t : ℕ} {s : Field} {x : Text} {gs : List Field} → Says im t x → CopiesOf 30 (s ∷ num t ∷ []) gs →
      New 30 gs (identifier x)
  unfolding fields_of fields_in schema sort_of
  identifier_copy t (p ▸ q ▸ no_sorts) = rw (q.kept refl) (an_identifier refl (keep_says grown t))

  binary_copy : {l op r : ℕ} {s : Field} {d e : Expr Text} {gs : List Field} → IsExpr im l d → IsExpr im r e →
      CopiesOf 32 (s ∷ num l ∷ num op ∷ num r ∷ []) gs → New 32 gs (binary d op e)
  unfolding fields_of fields_in schema sort_of
  binary_copy {d = d} {e = e} h k (p ▸ a ▸ q ▸ b ▸ no_sorts) =
      let x = a.node refl in
      let y = b.node refl in
      let u = x.2 d h in
      let v = y.2 e k in
      rw (x.1, q.kept refl, y.1) (a_binary refl (inside_of u) (inside_of v) u v)

  unary_copy : {op n : ℕ} {s : Field} {e : Expr Text} {gs : List Field} → IsExpr im n e → CopiesOf 33 (s ∷ num op ∷ num n ∷ []) gs →
      New 33 gs (unary op e)
  unfolding fields_of fields_in schema sort_of
  unary_copy {e = e} h (p ▸ q ▸ a ▸ no_sorts) =
      let x = a.node refl in
      let u = x.2 e h in
      rw (q.kept refl, x.1) (a_unary refl (inside_of u) u)

  grouping_copy : {n : ℕ} {s : Field} {e : Expr Text} {gs : List Field} → IsExpr im n e → CopiesOf 34 (s ∷ num n ∷ []) gs →
      New 34 gs (grouping e)
  unfolding fields_of fields_in schema sort_of
  grouping_copy {e = e} h (p ▸ a ▸ no_sorts) =
      let x = a.node refl in
      let u = x.2 e h in
      rw x.1 (a_grouping refl (inside_of u) u)

  assign_copy : {t n : ℕ} {s : Field} {y : Text} {e : Expr Text} {gs : List Field} → Says im t y → IsExpr im n e →
      CopiesOf 39 (s ∷ num t ∷ num n ∷ []) gs → New 39 gs (assign y e)
  unfolding fields_of fields_in schema sort_of
  assign_copy {e = e} t h (p ▸ q ▸ a ▸ no_sorts) =
      let x = a.node refl in
      let u = x.2 e h in
      rw (q.kept refl, x.1) (an_assign refl (keep_says grown t) (inside_of u) u)

  call_copy : {i : ℕ} {s path args : Field} {ts ns : List ℕ} {xs : List Text} {es : List (Expr Text)} {gs : List Field} → Holds im path ts →
      AllSay im ts xs → Holds im args ns → Args im i ns es → CopiesOf 41 (s ∷ path ∷ args ∷ []) gs → New 41 gs (call_tree xs es)
  unfolding fields_of fields_in schema sort_of
  call_copy {i} {ns = ns} {es = es} h ts a ds (p ▸ q ▸ b ▸ no_sorts) =
      let x = b.list refl i ns es a ds in
      rw (q.kept refl) (a_call refl (keep_holds grown h) (keep_all grown ts) x.1 x.2 refl)

  ok_copy : {n : ℕ} {s : Field} {e : Expr Text} {gs : List Field} → IsExpr im n e → CopiesOf 49 (s ∷ num n ∷ []) gs →
      New 49 gs (ok_literal e)
  unfolding fields_of fields_in schema sort_of
  ok_copy {e = e} h (p ▸ a ▸ no_sorts) =
      let x = a.node refl in
      let u = x.2 e h in
      rw x.1 (an_ok refl (inside_of u) u)

  err_copy : {n : ℕ} {s : Field} {e : Expr Text} {gs : List Field} → IsExpr im n e → CopiesOf 50 (s ∷ num n ∷ []) gs →
      New 50 gs (err_literal e)
  unfolding fields_of fields_in schema sort_of
  err_copy {e = e} h (p ▸ a ▸ no_sorts) =
      let x = a.node refl in
      let u = x.2 e h in
      rw x.1 (an_err refl (inside_of u) u)

  -- where the kind is known
  known : {k K : ℕ} {fs gs : List Field} {e : Expr Text} → k ≡ K → (CopiesOf K fs gs → New K gs e) → CopiesOf k fs gs → New k gs e
  known {fs = fs} {gs = gs} {e = e} q f = subst (λ k. CopiesOf k fs gs → New k gs e) (sym q) f

  reads_copy : {i k : ℕ} {fs gs : List Field} {e : Expr Text} → Reads im i k fs e → CopiesOf k fs gs → New k gs e
  reads_copy (a_null q) = known q null_copy
  reads_copy (a_literal p) = plain_copy p
  reads_copy (a_string q t) = known q (string_copy t)
  reads_copy (an_identifier q t) = known q (identifier_copy t)
  reads_copy (a_binary q l m h k) = known q (binary_copy h k)
  reads_copy (a_unary q l h) = known q (unary_copy h)
  reads_copy (a_grouping q l h) = known q (grouping_copy h)
  reads_copy (an_assign q t l h) = known q (assign_copy t h)
  reads_copy (a_call q p ts a es d) = rw d (known q (call_copy p ts a es))
  reads_copy (an_ok q l h) = known q (ok_copy h)
  reads_copy (an_err q l h) = known q (err_copy h)
  reads_copy (an_other k) = λ c. an_other k

-- ---- the copy

record_copy : {im im' im'' : Image} {i j : ℕ} {r : Rec} {gs : List Field} {e : Expr Text} → record_of im Expressions i ≡ r →
    Grows im im' → Grows im' im'' →
    Copies im im' (map sort_of (fields_of r.kind)) r.fields gs → j ≡ size_of im' Expressions → At im'' Expressions j (made r.kind gs) →
    IsExpr im i e → IsExpr im'' j e
record_copy {im} {i = i} {r = r} {gs = gs} {e = e} q g l c s at (stands k fs h d) =
    let d' : Reads im i r.kind r.fields e = subst (λ r. Reads im i r.kind r.fields e) (sym h.is ∙ q) d in
    stands {e = e} r.kind gs at (rw s (keep_reads l (reads_copy g d' c)))

step_ok : (i : ℕ) (clone : ℕ → Make ℕ) → Clones clone → (ctx : Context) →
    GrowsTo ctx (Copied ctx i) (clone_record clone i (record_of ctx.image Expressions i) ctx)
step_ok i clone clones ctx =
    test (is_lambda r.kind) (give i) _ ctx
    (λ q. given λ e h. h)
    (λ q. fields_ok clone clones (fields_of r.kind) r.fields ctx ▷ λ gs c₁ k₁ h₁.
    record_ok Expressions tt (made r.kind gs) c₁ ▹ λ j c₂ k₂ h₂.
    λ e x. record_copy refl k₁.image k₂.image h₁ h₂.0 h₂.1 x)
  where
    r : Rec
    r = record_of ctx.image Expressions i

clones_below : (i : ℕ) → ((n : ℕ) → n < i → (ctx : Context) → GrowsTo ctx (Copied ctx n) (deep_clone_expr n ctx)) →
    Clones (below i give deep_clone_expr)
clones_below i h n ctx = test (nat_lt n i) (deep_clone_expr n) (give n) ctx (λ q. h n (ltb-true n i q) ctx) (λ q. given λ e x. x)

copy_under : (b i : ℕ) → i < b → (ctx : Context) → GrowsTo ctx (Copied ctx i) (deep_clone_expr i ctx)
unfolding deep_clone_expr
copy_under zero i l ctx = absurd (omega arith)
copy_under (suc b) i l ctx = rw (descend_is give clone_step i)
    (step_ok i (below i give deep_clone_expr) (clones_below i λ n m c. copy_under b n (omega arith) c) ctx)
  where
    clone_step : ℕ → (ℕ → Make ℕ) → Make ℕ
    clone_step = λ id clone. image_so_far >>= λ im. clone_record clone id (record_of im Expressions id)

-- THEOREM: the copy of any expression; where the original stands for a tree the copy does
pub copy_ok : Clones deep_clone_expr
copy_ok i ctx = copy_under (suc i) i (omega arith) ctx
