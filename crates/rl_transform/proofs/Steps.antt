-- What stands for a statement, by its kind.
-- Assumes nothing.
use Prim.Native.Nat.{ℕ, ◌+◌, ◌/◌, ◌%◌, ◌≤◌, ◌<◌}
use mathlib.Core.Path.{◌≡◌, refl, ap, ap₂, sym, ◌∙◌, subst}
use mathlib.Core.Bool.{Bool, true, false, cond}
use mathlib.Core.List.{List, [], ◌∷◌, map}
use mathlib.Core.Logic.{◌⊎◌, inl, inr}
use mathlib.Core.Option.{Option, none, some}
use native.Mathlib.Omega.{arith}
use lib.Dec.{eqb, ltb}
use lib.ListN.{get_or, set, get_or-append}
use borrow.Author.Tests.{ne_eqb, le-ltb, eqb-true}
use Rattle.rl_spec.specs.declared.Counts.{Counts}
use Rattle.rl_spec.specs.declared.Clause.{Clause}
use Rattle.rl_spec.specs.declared.Target.TheVariants.{ElseBranch, Arm}
use Rattle.rl_spec.specs.declared.Interval.{Interval}
use Rattle.rl_spec.specs.Answers.{Optional}
use Rattle.std.specs.Prelude.{None, Some}
use Rattle.rl_spec.specs.declared.Section.TheVariants.{Lists, Statements}
use Rattle.rl_spec.specs.Bytes.{u16_at}
use Rattle.rl_spec.specs.Schema.{sort_of, schema, fields_in, fields_of}
use Rattle.rl_spec.specs.Image.{Field, num, pair, Image, records_of, size_of, no_record, record_of, field_of, first, second, entry_of, fields_at, Refers, FieldsFit, Entries, WellFormed}
use Rattle.rl_spec.specs.Found.{record_as, image_found}
use Rattle.rl_spec.specs.Tree.{number}
use Rattle.rl_spec.specs.Ranges.{up_from, optional, optional_field}
use Rattle.rl_spec.specs.Make.{Context, Make, and_then, ◌>>=◌, give, image_so_far, append, made, new_list, stmt, each, flat_map, entries_of}
use Rattle.rl_spec.specs.Lower.{expr, wrap_return, transform_list, transform_branch_by, transform_branch, transform_else, transform_arm_by, transform_arm, conditional, match, only, transform_statement_by, transform_statement}
use Rattle.rl_laws.specs.Descend.{descend_is}
use Rattle.rl_laws.specs.Found.{size_found}
use Rattle.rl_laws.specs.Tests.{by_eqb}
use Rattle.rl_laws.specs.Optionals.{optional_says, some_says}
use Rattle.rl_transform.proofs.Rebuilding.{statement_is}
use Rattle.rl_images.specs.Images.FieldFacts.{reference_says, option_says, list_says, first_fits, others_fit}
use Rattle.rl_images.specs.Lowering.Gives.{gives}
use Rattle.rl_context.specs.Additions.{Live}
use Rattle.rl_context.specs.Does.{State, nothing, one, all, Does, Pushes, Listed}
use Rattle.rl_context.proofs.Composed.{Keeps, not_both, does_then, does_bind, does_give, does_same, does_push, does_list}
use Rattle.rl_images.specs.Lowering.Adds.{Adds, adds_give, adds_bind, adds_cond, adds_append}
use Rattle.rl_context.proofs.StaysOver.{keeps_more}
use Rattle.rl_images.specs.Lowering.AddsLower.{adds_wrap, adds_body, adds_branch, adds_else, adds_arm, adds_match, adds_statement}
use Rattle.rl_context.proofs.Appends.{stops_does}
use Rattle.rl_context.proofs.Copying.{old_entries}
use Rattle.rl_context.proofs.CopiedEntries.{two}
use Rattle.rl_context.specs.Guards.{Makes, Gathers, clauses_in}
use Rattle.rl_transform.specs.Transforms.{walk_below, rebuilt, list_field, list_place, flag_field, body_of, Ready, ArmsIn, Returns, Below, OneStatement, Conditional, Branch, Match, Arms, Body}
use Rattle.rl_transform.proofs.Loops.{entries_in_lem}

last_loop : (k : ℕ) → 70 ≤ k → k ≤ 74 → (k ≡ 70 → ⊥) → (k ≡ 71 → ⊥) → (k ≡ 72 → ⊥) → (k ≡ 73 → ⊥) → k ≡ 74
last_loop k a b d e f g = omega arith

-- ---- the walk

pub adds_walk : (ensures : List Clause) (id j : ℕ) → Adds (walk_below ensures id j)
adds_walk ensures id j = adds_cond (ltb j id) (adds_statement ensures j) (adds_give (j ∷ []))

module _ (s p : List ℕ) (c : Counts) (ensured : Interval) where
  abbrev im : Image
  im = image_found s p c

  abbrev es : List Clause
  es = clauses_in im ensured

  -- one that waits
  one_waits : (m : Make ℕ) (t u v : State) (n : ℕ) → Makes im m t n u → Pushes n u v → Gathers im 0 (m >>= λ k. give (k ∷ [])) t v
  one_waits m t u v n d q = (
    n ∷ [],
    does_then (λ (_ : Unit {0}). n ∷ []) (does_push d q) (does_give im 0 tt v) keeps_single refl (λ _. refl),
  )
    where
      keeps_single : Keeps one (λ k. give (k ∷ [])) all
      keeps_single = record { keeps = λ ws a x o. gives o }

  pub below_untouched : (limit x : ℕ) (t u : State) → limit ≤ x → Pushes x t u → Below s p c ensured limit x t u
  below_untouched limit x t u h d =
      subst (λ m. Gathers im 0 m t u) (sym (ap (λ b. cond b (transform_statement es x) (give (x ∷ []))) (le-ltb x limit h)))
      (one_waits (give x) t t u x (does_give im 0 x t) d)

  -- ---- the record at hand

  old_statement : {k : ℕ} {x : Context} {ws : List ℕ} {t : State} (id : ℕ) → Live im k x ws t.ctx t.scratch t.waiting → id < c.statements →
      record_of x.image Statements id ≡ record_of im Statements id
  old_statement id l h =
      ap (λ z. record_of z.image Statements id) l.context ∙ get_or-append (records_of im Statements) l.new.statements no_record id (rw (size_found s p c Statements) h)

  statement_step_lem : (id : ℕ) (x : Context) → transform_statement es id x ≡ transform_statement_by (walk_below es id) es id (record_of x.image Statements id) x
  unfolding transform_statement
  statement_step_lem id x = λ i. descend_is (λ n. give (n ∷ [])) (λ n w. image_so_far >>= λ im. transform_statement_by w es n (record_of im Statements n)) id i x

  -- by a computation that the record at hand says
  by_record : (id : ℕ) (t u : State) (m : Make (List ℕ)) → id < c.statements → transform_statement_by (walk_below es id) es id (record_of im Statements id) ≡ m →
      Gathers im 0 m t u → OneStatement s p c ensured id t u
  by_record id t u m h e d = (
    d.0,
    does_same (transform_statement es id) (keeps_more all (λ _. adds_statement es id))
        (λ x ws l. statement_step_lem id x ∙ ap (λ r. transform_statement_by (walk_below es id) es id r x) (old_statement {t = t} id l h) ∙ ap (λ z. z x) e) d.1,
  )

  pub statement_full : (id : ℕ) (t : State) → t.ctx.full ≡ true → OneStatement s p c ensured id t t
  statement_full id t f = ([], stops_does all f (adds_statement es id) (λ x ws v l. not_both f v))

  -- ---- by the kind: the record is `record_as s kind start`

  module _ (id start kind : ℕ) (h : id < c.statements) (e : start ≡ get_or p (c.expressions + id) 0) (q : kind ≡ get_or s start 0) where
    is_record : record_of im Statements id ≡ record_as s kind start
    is_record = statement_is s p c id start kind h e q

    as_kind : (k : ℕ) → kind ≡ k → record_of im Statements id ≡ record_as s k start
    as_kind k g = is_record ∙ ap (λ z. record_as s z start) g

    says : (k : ℕ) → kind ≡ k → (m : Make (List ℕ)) → transform_statement_by (walk_below es id) es id (record_as s k start) ≡ m → (t u : State) → Gathers im 0 m t u → OneStatement s p c ensured id t u
    says k g m f t u d = by_record id t u m h (ap (transform_statement_by (walk_below es id) es id) (as_kind k g) ∙ f) d

    -- a return
    pub statement_return : (t u : State) (value : ℕ) → kind ≡ 66 → value ≡ u16_at s (start + 5) → Gathers im 0 (wrap_return value es) t u → OneStatement s p c ensured id t u
    unfolding record_as fields_at fields_of fields_in schema sort_of
    statement_return t u value g f d = says 66 g (wrap_return value es) (ap (λ v. wrap_return v es) (two s (start + 1 + 4) ∙ ap (u16_at s) place ∙ sym f)) t u d
      where
        place : start + 1 + 4 ≡ start + 5
        place = omega arith

    pub statement_alone : (t u v : State) (null : ℕ) → kind ≡ 67 → Does im 0 0 nothing (expr 16 []) t null u → Gathers im 0 (wrap_return null es) u v → OneStatement s p c ensured id t v
    unfolding record_as fields_at fields_of fields_in schema sort_of
    statement_alone t u v null g d w =
        says 67 g (expr 16 [] >>= λ n. wrap_return n es) refl t v (w.0, does_bind d (keeps_more all (λ n. adds_wrap n es)) w.1)

    pub statement_conditional : (t u v : State) (n : ℕ) → kind ≡ 68 → Conditional s p c ensured id t n u → Pushes n u v → OneStatement s p c ensured id t v
    unfolding record_as fields_at fields_of fields_in schema sort_of
    statement_conditional t u v n g d w =
        says 68 g (only (walk_below es id) (conditional (walk_below es id) (record_as s 68 start))) refl t v
        (one_waits (conditional (walk_below es id) (record_as s 68 start)) t u v n (subst (λ r. Makes im (conditional (walk_below es id) r) t n u) (as_kind 68 g) d) w)

    pub statement_match : (t u v : State) (n : ℕ) → kind ≡ 75 → Match s p c ensured id t n u → Pushes n u v → OneStatement s p c ensured id t v
    unfolding record_as fields_at fields_of fields_in schema sort_of
    statement_match t u v n g d w =
        says 75 g (only (walk_below es id) (match (walk_below es id) (record_as s 75 start))) refl t v
        (one_waits (match (walk_below es id) (record_as s 75 start)) t u v n (subst (λ r. Makes im (match (walk_below es id) r) t n u) (as_kind 75 g) d) w)

    -- a loop
    looped : (k : ℕ) → kind ≡ k → (t u v : State) (n : ℕ) → transform_statement_by (walk_below es id) es id (record_as s k start) ≡ only (walk_below es id) (body_of (walk_below es id) (record_as s k start)) →
        Body s p c ensured id id t n u → Pushes n u v → OneStatement s p c ensured id t v
    looped k g t u v n f d w =
        says k g (only (walk_below es id) (body_of (walk_below es id) (record_as s k start))) f t v
        (one_waits (body_of (walk_below es id) (record_as s k start)) t u v n (subst (λ r. Makes im (body_of (walk_below es id) r) t n u) (as_kind k g) d) w)

    pub statement_loop : (t u v : State) (n : ℕ) → 70 ≤ kind → kind ≤ 74 → Body s p c ensured id id t n u → Pushes n u v → OneStatement s p c ensured id t v
    unfolding record_as fields_at fields_of fields_in schema sort_of stmt
    statement_loop t u v n a b d w =
        by_eqb kind 70 (λ g. looped 70 g t u v n refl d w) (λ g.
        by_eqb kind 71 (λ g. looped 71 g t u v n refl d w) (λ g'.
        by_eqb kind 72 (λ g. looped 72 g t u v n refl d w) (λ g''.
        by_eqb kind 73 (λ g. looped 73 g t u v n refl d w) (λ g'''.
        looped 74 (last_loop kind a b g g' g'' g''') t u v n refl d w))))

    -- any other
    pub statement_kept : (t u : State) → (kind ≡ 66 → ⊥) → (kind ≡ 67 → ⊥) → (kind ≡ 68 → ⊥) → (kind ≡ 75 → ⊥) → (kind < 70) ⊎ (74 < kind) → Pushes id t u → OneStatement s p c ensured id t u
    unfolding record_as
    statement_kept t u a b d f out w =
        says kind refl (give (id ∷ []))
        (rw (ne_eqb kind 66 a, ne_eqb kind 67 b, ne_eqb kind 68 d, ne_eqb kind 70 (apart 70 (omega arith) (omega arith)), ne_eqb kind 71 (apart 71 (omega arith) (omega arith)), ne_eqb kind 72 (apart 72 (omega arith) (omega arith)), ne_eqb kind 73 (apart 73 (omega arith) (omega arith)), ne_eqb kind 74 (apart 74 (omega arith) (omega arith)), ne_eqb kind 75 f) refl)
        t u (one_waits (give id) t t u id (does_give im 0 id t) w)
      where
        apart : (k : ℕ) → 70 ≤ k → k ≤ 74 → kind ≡ k → ⊥
        apart k x y g = elim out [ inl l ↦ omega (arith, g) | inr l ↦ omega (arith, g) ]

-- ---- the lists of statements, by kind

-- what a kind that holds a list says: where its list stands, that a list's word gives it, and that its flag's word 0 is 0
pub record Holds (s : List ℕ) (start k : ℕ) : Type 0 where
  pub stands : field_of (record_as s k start) (list_field k) ≡ pair (u16_at s (start + list_place k)) (u16_at s (start + list_place k + 2))
  pub again : (w : ℕ) → rebuilt (record_as s k start) (list_field k) w (flag_field k) 0
      ≡ made k (set (set (record_as s k start).fields (list_field k) (pair (w % 65536) (w / 65536))) (flag_field k) (num 0))
  pub ranges : (im : Image) (i : ℕ) → FieldsFit im Statements i 0 (map sort_of (fields_of k)) (fields_at s (fields_of k) (start + 1)) →
      first (field_of (record_as s k start) (list_field k)) + second (field_of (record_as s k start) (list_field k)) ≤ size_of im Lists

holds : (s : List ℕ) (start k : ℕ) → (list_field k ≡ 0 → ⊥) → Holds s start k
unfolding record_as fields_at fields_of fields_in schema sort_of
holds s start k h =
    by_eqb k 69 (λ g. subst (Holds s start) (sym g) (record { stands = at_place (start + 1 + 4 + 2) (start + 7) (omega arith); again = λ w. refl; ranges = λ im i f. (list_says (first_fits (others_fit (others_fit f)))).0 })) (λ a.
    by_eqb k 70 (λ g. subst (Holds s start) (sym g) (record { stands = at_place (start + 1 + 4 + 2) (start + 7) (omega arith); again = λ w. refl; ranges = λ im i f. (list_says (first_fits (others_fit (others_fit f)))).0 })) (λ b.
    by_eqb k 71 (λ g. subst (Holds s start) (sym g) (record { stands = at_place (start + 1 + 4) (start + 5) (omega arith); again = λ w. refl; ranges = λ im i f. (list_says (first_fits (others_fit f))).0 })) (λ d.
    by_eqb k 72 (λ g. subst (Holds s start) (sym g) (record { stands = at_place (start + 1 + 4 + 2 + 2 + 2) (start + 11) (omega arith); again = λ w. refl; ranges = λ im i f. (list_says (first_fits (others_fit (others_fit (others_fit (others_fit f)))))).0 })) (λ e.
    by_eqb k 73 (λ g. subst (Holds s start) (sym g) (record { stands = at_place (start + 1 + 4 + 2 + 2) (start + 9) (omega arith); again = λ w. refl; ranges = λ im i f. (list_says (first_fits (others_fit (others_fit (others_fit f))))).0 })) (λ f.
    by_eqb k 74 (λ g. subst (Holds s start) (sym g) (record { stands = at_place (start + 1 + 4 + 2 + 2) (start + 9) (omega arith); again = λ w. refl; ranges = λ im i f. (list_says (first_fits (others_fit (others_fit (others_fit f))))).0 })) (λ i.
    by_eqb k 76 (λ g. subst (Holds s start) (sym g) (record { stands = at_place (start + 1 + 4 + 2) (start + 7) (omega arith); again = λ w. refl; ranges = λ im i f. (list_says (first_fits (others_fit (others_fit f)))).0 })) (λ j.
    absurd (h (rw (ne_eqb k 69 a, ne_eqb k 70 b, ne_eqb k 71 d, ne_eqb k 72 e, ne_eqb k 73 f, ne_eqb k 74 i, ne_eqb k 76 j) refl)))))))))
  where
    at_place : (a b : ℕ) → a ≡ b → pair (u16_at s a) (u16_at s (a + 2)) ≡ pair (u16_at s b) (u16_at s (b + 2))
    at_place a b e = ap (λ z. pair (u16_at s z) (u16_at s (z + 2))) e

-- ---- an index or none

written : (o : Optional) → num (first (optional_field o)) ≡ optional_field o
written None = refl
written (Some n) = refl

-- one computation in another
then_assoc : {A B C : Type 0} (m : Make A) (f : A → Make B) (g : B → Make C) → (m >>= λ a. f a >>= g) ≡ ((m >>= f) >>= g)
then_assoc m f g = λ i x. go (m x) i
  where
    go : (o : Option (_ × Context)) → and_then o (λ a. f a >>= g) ≡ and_then (and_then o f) g
    go none = refl
    go (some r) = refl

module _ (s p : List ℕ) (c : Counts) (rows : List ℕ) (ensured : Interval) (ready : Ready s p c rows ensured) where
  abbrev of : Image
  of = image_found s p c

  abbrev clauses : List Clause
  clauses = clauses_in of ensured

  abbrev wf : WellFormed of
  wf = ready.well

  fits_record : (x start kind : ℕ) → x < c.statements → record_of of Statements x ≡ record_as s kind start → FieldsFit of Statements x 0 (map sort_of (fields_of kind)) (fields_at s (fields_of kind) (start + 1))
  unfolding record_as
  fits_record x start kind h e =
      subst (λ r. FieldsFit of Statements x 0 (map sort_of (fields_of r.kind)) r.fields) e (wf.fits Statements x (rw (size_found s p c Statements) h)).fields

  -- ---- a list transformed, and its record again

  module _ (limit x start kind : ℕ) (h : x < c.statements) (e : start ≡ get_or p (c.expressions + x) 0) (q : kind ≡ get_or s start 0) where
    here : record_of of Statements x ≡ record_as s kind start
    here = statement_is s p c x start kind h e q

    pub holds_list : (list_field (record_of of Statements x).kind ≡ 0 → ⊥) → Holds s start kind
    unfolding record_as
    holds_list n = holds s start kind (λ z. n (ap (λ r. list_field r.kind) here ∙ z))

    pub body_done : (t u v z : State) (a n waits word index : ℕ) (list : Interval) → (list_field (record_of of Statements x).kind ≡ 0 → ⊥) → (place : ℕ) → place ≡ list_place kind →
        a ≡ u16_at s (start + place) → n ≡ u16_at s (start + place + 2) → waits ≡ t.ctx.waiting → Returns s p c ensured limit a n t u → Listed waits u list v →
        pair (word % 65536) (word / 65536) ≡ pair list.first list.count → (j k : ℕ) → j ≡ list_field kind → k ≡ flag_field kind →
        Makes of (append Statements (rebuilt (record_of of Statements x) j word k 0 ∷ [])) v index z → Body s p c ensured limit x t index z
    unfolding record_as
    body_done t u v z a n waits word index list l place o f g w d i is j k jf kf m =
        subst (λ r. Makes of (body_of (walk_below clauses limit) r) t index z) (sym here)
        (does_bind listed (keeps_more nothing (λ b. adds_append Statements tt _)) again)
      where
        kept : Holds s start kind
        kept = holds_list l

        field : field_of (record_as s kind start) (list_field kind) ≡ pair a n
        field = kept.stands ∙ ap₂ pair (ap (λ y. u16_at s (start + y)) (sym o) ∙ sym f) (ap (λ y. u16_at s (start + y + 2)) (sym o) ∙ sym g)

        within : a + n ≤ size_of of Lists
        within = subst (λ y. first y + second y ≤ size_of of Lists) field (kept.ranges of x (fits_record x start kind h here))

        listed : Does of 0 0 nothing (transform_list (walk_below clauses limit) (field_of (record_as s kind start) (list_field kind))) t (pair list.first list.count) v
        listed =
            does_same (transform_list (walk_below clauses limit) (field_of (record_as s kind start) (list_field kind)))
            (keeps_more nothing (λ _. adds_body (walk_below clauses limit) (adds_walk clauses limit) (field_of (record_as s kind start) (list_field kind))))
            (λ y ws m.
            ap (λ b. (flat_map (walk_below clauses limit) (entries_of y.image b) >>= new_list) y) field
            ∙ ap (λ b. (flat_map (walk_below clauses limit) b >>= new_list) y) (old_entries y ws t m a n within)) (does_list waits w d.1 i)

        again : Does of 0 0 nothing (append Statements (made kind (set (set (record_as s kind start).fields (list_field kind) (pair list.first list.count)) (flag_field kind) (num 0)) ∷ [])) v index z
        again =
            subst (λ y. Does of 0 0 nothing (append Statements (y ∷ [])) v index z)
            (ap₂ (λ y i. rebuilt y i word k 0) here jf
            ∙ ap (λ i. rebuilt (record_as s kind start) (list_field kind) word i 0) kf
            ∙ kept.again word
            ∙ ap (λ y. made kind (set (set (record_as s kind start).fields (list_field kind) y) (flag_field kind) (num 0)))
            is) m

  -- ---- a branch

  module _ (limit x : ℕ) (t : State) where
    abbrev walk : ℕ → Make (List ℕ)
    walk = walk_below clauses limit

    branch_by : (u : State) (n : ℕ) (m : Make ℕ) → x < c.statements → transform_branch_by walk x (record_of of Statements x) ≡ m → Makes of m t n u → Branch s p c ensured limit x t n u
    unfolding transform_branch
    branch_by u n m h e d =
        does_same (transform_branch walk x) (keeps_more nothing (λ _. adds_branch walk (adds_walk clauses limit) x))
        (λ y ws l. ap (λ r. transform_branch_by walk x r y) (old_statement s p c ensured {t = t} x l h) ∙ ap (λ z. z y) e) d

    module _ (start kind : ℕ) (h : x < c.statements) (e : start ≡ get_or p (c.expressions + x) 0) (q : kind ≡ get_or s start 0) where
      pub branch_body : (u : State) (n : ℕ) → kind ≡ 69 → Body s p c ensured limit x t n u → Branch s p c ensured limit x t n u
      unfolding record_as fields_at fields_of fields_in schema sort_of stmt
      branch_body u n g d =
          branch_by u n (body_of walk (record_as s 69 start)) h (ap (transform_branch_by walk x) (statement_is s p c x start kind h e q ∙ ap (λ z. record_as s z start) g))
          (subst (λ r. Makes of (body_of walk r) t n u) (statement_is s p c x start kind h e q ∙ ap (λ z. record_as s z start) g) d)

      pub branch_kept : (kind ≡ 69 → ⊥) → Branch s p c ensured limit x t x t
      unfolding record_as
      branch_kept g =
          branch_by t x (give x) h (ap (transform_branch_by walk x) (statement_is s p c x start kind h e q) ∙ ap (λ b. cond b (transform_list walk (field_of (record_as s kind start) 2) >>= λ body. stmt 69 (number (record_as s kind start) 0) (field_of (record_as s kind start) 1 ∷ body ∷ num 0 ∷ [])) (give x)) (ne_eqb kind 69 g)) (does_give of 0 x t)

  pub branch_list : (x start kind : ℕ) (h : x < c.statements) → start ≡ get_or p (c.expressions + x) 0 → kind ≡ get_or s start 0 → kind ≡ 69 → list_field (record_of of Statements x).kind ≡ 0 → ⊥
  unfolding record_as
  branch_list x start kind h e q g z = absurd (omega (arith, sym (ap (λ r. list_field r.kind) (statement_is s p c x start kind h e q ∙ ap (λ y. record_as s y start) g)) ∙ z))

  -- ---- a conditional

  module _ (id start : ℕ) (h : id < c.statements) (e : start ≡ get_or p (c.expressions + id) 0) (k : (record_of of Statements id).kind ≡ 68) where
    is_68 : record_of of Statements id ≡ record_as s 68 start
    unfolding record_as
    is_68 = statement_is s p c id start (get_or s start 0) h e refl ∙ ap (λ z. record_as s z start) (sym (ap (λ r. r.kind) (statement_is s p c id start (get_or s start 0) h e refl)) ∙ k)

    place_five : start + 1 + 4 ≡ start + 5
    place_five = omega arith

    place_seven : start + 1 + 4 + 2 ≡ start + 7
    place_seven = omega arith

    first_is : (a : ℕ) → a ≡ u16_at s (start + 5) → number (record_as s 68 start) 1 ≡ a
    unfolding record_as fields_at fields_of fields_in schema sort_of
    first_is a f = two s (start + 1 + 4) ∙ ap (u16_at s) place_five ∙ sym f

    second_is : (o : Optional) → o ≡ optional (num (u16_at s (start + 7))) → optional (field_of (record_as s 68 start) 2) ≡ o
    unfolding record_as fields_at fields_of fields_in schema sort_of
    second_is o f = ap (λ n. optional (num n)) (two s (start + 1 + 4 + 2) ∙ ap (u16_at s) place_seven) ∙ sym f

    pub branch_earlier : (a : ℕ) → a ≡ u16_at s (start + 5) → a < c.statements
    unfolding record_as fields_at fields_of fields_in schema sort_of
    branch_earlier a f = omega (arith, subst (λ z. z < id) (first_is a f) (reference_says (first_fits (others_fit (fits_record id start 68 h is_68)))).earlier)

    pub else_earlier : (o : Optional) (a : ℕ) → o ≡ optional (num (u16_at s (start + 7))) → o ≡ Some a → a < c.statements
    unfolding record_as fields_at fields_of fields_in schema sort_of
    else_earlier o a f e =
        omega (arith, (some_says {P = Refers of Statements id ElseBranch} (optional_says (field_of (record_as s 68 start) 2) (option_says (first_fits (others_fit (others_fit (fits_record id start 68 h is_68)))))) a (second_is o f ∙ e)).earlier)

    -- what is done where there is no else branch, and where there is one
    abbrev Otherwise : Optional → State → Optional → State → Type 0
    Otherwise b t o u = Does of 0 0 nothing (transform_else (walk_below clauses id) b) t o u

    with_other : (t u v z : State) (a m index : ℕ) (b o : Optional) → a ≡ u16_at s (start + 5) → b ≡ optional (num (u16_at s (start + 7))) → Branch s p c ensured id a t m u → Otherwise b u o v →
        Makes of (append Statements (rebuilt (record_of of Statements id) 1 m 2 (first (optional_field o)) ∷ [])) v index z → Conditional s p c ensured id t index z
    unfolding record_as fields_at fields_of fields_in schema sort_of stmt
    with_other t u v z a m index b o f g d e r =
        subst (λ y. Makes of (conditional (walk_below clauses id) y) t index z) (sym is_68)
        (does_bind (subst (λ y. Makes of (transform_branch (walk_below clauses id) y) t m u) (sym (first_is a f)) d)
        (keeps_more nothing (λ y. adds_bind (adds_else (walk_below clauses id) (adds_walk clauses id) (optional (field_of (record_as s 68 start) 2))) (λ w. adds_append Statements tt _)))
        (does_bind (subst (λ y. Otherwise y u o v) (sym (second_is b g)) e) (keeps_more nothing (λ w. adds_append Statements tt _))
        (subst (λ y. Makes of (append Statements (made 68 (num (number (record_as s 68 start) 0) ∷ num m ∷ y ∷ []) ∷ [])) v index z) (written o)
        (subst (λ y. Makes of (append Statements (rebuilt y 1 m 2 (first (optional_field o)) ∷ [])) v index z) is_68 r))))

    pub conditional_alone : (t u z : State) (a m index : ℕ) (b : Optional) → a ≡ u16_at s (start + 5) → b ≡ optional (num (u16_at s (start + 7))) → b ≡ None → Branch s p c ensured id a t m u →
        Makes of (append Statements (rebuilt (record_of of Statements id) 1 m 2 (first (optional_field None)) ∷ [])) u index z → Conditional s p c ensured id t index z
    conditional_alone t u z a m index b f g e d = with_other t u u z a m index None None f (sym e ∙ g) d (does_give of 0 None u)

    pub conditional_both : (t u v z : State) (a x m n index : ℕ) (b : Optional) → a ≡ u16_at s (start + 5) → b ≡ optional (num (u16_at s (start + 7))) → b ≡ Some x → Branch s p c ensured id a t m u → Branch s p c ensured id x u n v →
        Makes of (append Statements (rebuilt (record_of of Statements id) 1 m 2 (first (optional_field (Some n))) ∷ [])) v index z → Conditional s p c ensured id t index z
    conditional_both t u v z a x m n index b f g e d o =
        with_other t u v z a m index (Some x) (Some n) f (sym e ∙ g) d (does_bind o (keeps_more nothing (λ n. adds_give (Some n))) (does_give of 0 (Some n) v))

  -- ---- a match, and its arms

  arm_body : (limit x : ℕ) → x < c.statements → (record_of of Statements x).kind ≡ 76 → transform_arm_by (walk_below clauses limit) (record_of of Statements x) ≡ body_of (walk_below clauses limit) (record_of of Statements x)
  unfolding record_as fields_at fields_of fields_in schema sort_of stmt
  arm_body limit x h k = subst (λ r. transform_arm_by (walk_below clauses limit) r ≡ body_of (walk_below clauses limit) r) (sym is_76) refl
    where
      start : ℕ
      start = get_or p (c.expressions + x) 0

      found : record_of of Statements x ≡ record_as s (get_or s start 0) start
      found = statement_is s p c x start (get_or s start 0) h refl refl

      is_76 : record_of of Statements x ≡ record_as s 76 start
      is_76 = found ∙ ap (λ z. record_as s z start) (sym (ap (λ r. r.kind) found) ∙ k)

  pub arm_done : (limit x : ℕ) (t u : State) (n : ℕ) → x < c.statements → (record_of of Statements x).kind ≡ 76 → Body s p c ensured limit x t n u → Makes of (transform_arm (walk_below clauses limit) x) t n u
  unfolding transform_arm
  arm_done limit x t u n h k d =
      does_same (transform_arm (walk_below clauses limit) x) (keeps_more nothing (λ _. adds_arm (walk_below clauses limit) (adds_walk clauses limit) x))
      (λ y ws l. ap (λ r. transform_arm_by (walk_below clauses limit) r y) (old_statement s p c ensured {t = t} x l h) ∙ ap (λ z. z y) (arm_body limit x h k)) d

  pub arm_list : (x : ℕ) → (record_of of Statements x).kind ≡ 76 → list_field (record_of of Statements x).kind ≡ 0 → ⊥
  arm_list x k z = omega (arith, sym (ap list_field k) ∙ z)

  pub arm_made : (a n i e limit : ℕ) (t u : State) (m : ℕ) → ArmsIn s p c a n → i < n → e ≡ entry_of of (a + i) →
      (e < c.statements → (list_field (record_of of Statements e).kind ≡ 0 → ⊥) → Body s p c ensured limit e t m u) → Makes of (transform_arm (walk_below clauses limit) e) t m u
  arm_made a n i e limit t u m arms l g d = arm_done limit e t u m small is (d small (arm_list e is))
    where
      small : e < c.statements
      small = subst (λ z. z < c.statements) (sym g) (arms i l).0

      is : (record_of of Statements e).kind ≡ 76
      is = subst (λ z. (record_of of Statements z).kind ≡ 76) (sym g) (arms i l).1

  module _ (id start : ℕ) (h : id < c.statements) (e : start ≡ get_or p (c.expressions + id) 0) (k : (record_of of Statements id).kind ≡ 75) where
    is_75 : record_of of Statements id ≡ record_as s 75 start
    unfolding record_as
    is_75 = statement_is s p c id start (get_or s start 0) h e refl ∙ ap (λ z. record_as s z start) (sym (ap (λ r. r.kind) (statement_is s p c id start (get_or s start 0) h e refl)) ∙ k)

    module _ (place a n : ℕ) (o : place ≡ start + 7) (f : a ≡ u16_at s place) (g : n ≡ u16_at s (place + 2)) where
      arms_field : field_of (record_as s 75 start) 2 ≡ pair a n
      unfolding record_as fields_at fields_of fields_in schema sort_of
      arms_field = ap₂ pair (ap (u16_at s) same ∙ sym f) (ap (λ z. u16_at s (z + 2)) same ∙ sym g)
        where
          same : start + 1 + 4 + 2 ≡ place
          same = omega (arith, o)

      arms_fit : (a + n ≤ size_of of Lists) × Entries of Statements id n a Arm Arm
      unfolding record_as fields_at fields_of fields_in schema sort_of
      arms_fit =
          let q = list_says (first_fits (others_fit (others_fit (fits_record id start 75 h is_75)))) in
          subst (λ z. (first z + second z ≤ size_of of Lists) × Entries of Statements id (second z) (first z) Arm Arm) arms_field (q.0, q.2)

      pub arms_in : ArmsIn s p c a n
      arms_in i l =
          (omega (arith, (entries_in_lem of Statements id n a Arm arms_fit.1 i l).earlier), eqb-true (record_of of Statements (entry_of of (a + i))).kind 76 (entries_in_lem of Statements id n a Arm arms_fit.1 i l).taken)

      pub match_done : (t u v z : State) (waits word index : ℕ) (list : Interval) → waits ≡ t.ctx.waiting → Arms s p c ensured id a n t u → Listed waits u list v →
          pair (word % 65536) (word / 65536) ≡ pair list.first list.count → Makes of (append Statements (rebuilt (record_of of Statements id) 2 word 7 0 ∷ [])) v index z → Match s p c ensured id t index z
      unfolding record_as fields_at fields_of fields_in schema sort_of stmt
      match_done t u v z waits word index list w d i is r =
          subst (λ y. Makes of (match (walk_below clauses id) y) t index z) (sym is_75)
          (does_same (match (walk_below clauses id) (record_as s 75 start)) (keeps_more nothing (λ _. adds_match (walk_below clauses id) (adds_walk clauses id) (record_as s 75 start)))
          (λ y ws m.
          ap (λ b. (each (transform_arm (walk_below clauses id)) (entries_of y.image b) >>= rest) y) arms_field
          ∙ ap (λ b. (each (transform_arm (walk_below clauses id)) b >>= rest) y) (old_entries y ws t m a n arms_fit.0)
          ∙ ap (λ b. b y) (then_assoc (each (transform_arm (walk_below clauses id)) (map (entry_of of) (up_from a n))) new_list again))
          (does_bind (does_list waits w d.1 i) (keeps_more nothing (λ b. adds_append Statements tt _))
          (subst (λ y. Makes of (append Statements (y ∷ [])) v index z)
          (ap (λ y. rebuilt y 2 word 7 0) is_75 ∙ ap (λ y. made 75 (num (number (record_as s 75 start) 0) ∷ field_of (record_as s 75 start) 1 ∷ y ∷ [])) is) r)))
        where
          again : Field → Make ℕ
          again arms = append Statements (made 75 (num (number (record_as s 75 start) 0) ∷ field_of (record_as s 75 start) 1 ∷ arms ∷ []) ∷ [])

          rest : List ℕ → Make ℕ
          rest ss = new_list ss >>= again

  -- ---- the kind of the record at hand

  module _ (id start kind : ℕ) (h : id < c.statements) (e : start ≡ get_or p (c.expressions + id) 0) (q : kind ≡ get_or s start 0) where
    pub kind_here : (k : ℕ) → kind ≡ k → (record_of of Statements id).kind ≡ k
    unfolding record_as
    kind_here k g = ap (λ r. r.kind) (statement_is s p c id start kind h e q) ∙ g

    pub loop_list : 70 ≤ kind → kind ≤ 74 → list_field (record_of of Statements id).kind ≡ 0 → ⊥
    loop_list a b z =
        by_eqb kind 70 (λ g. no 70 g (λ y. omega (arith, y))) (λ d.
        by_eqb kind 71 (λ g. no 71 g (λ y. omega (arith, y))) (λ f.
        by_eqb kind 72 (λ g. no 72 g (λ y. omega (arith, y))) (λ i.
        by_eqb kind 73 (λ g. no 73 g (λ y. omega (arith, y))) (λ j. no 74 (last_loop kind a b d f i j) (λ y. omega (arith, y))))))
      where
        no : (k : ℕ) → kind ≡ k → (list_field k ≡ 0 → ⊥) → ⊥
        no k g n = n (sym (ap list_field (kind_here k g)) ∙ z)

-- ---- the fields that are replaced are among the first eight

pub field_low : (kind j : ℕ) → j ≡ list_field kind → j < 8
field_low kind j e = rw e (low (eqb kind 69) (eqb kind 70) (eqb kind 71) (eqb kind 72) (eqb kind 73) (eqb kind 74) (eqb kind 76))
  where
    low : (a b d f g h i : Bool) → cond a 2 (cond b 2 (cond d 1 (cond f 4 (cond g 3 (cond h 3 (cond i 2 0)))))) < 8
    low true b d f g h i = omega arith
    low false true d f g h i = omega arith
    low false false true f g h i = omega arith
    low false false false true g h i = omega arith
    low false false false false true h i = omega arith
    low false false false false false true i = omega arith
    low false false false false false false true = omega arith
    low false false false false false false false = omega arith

pub flag_low : (kind k : ℕ) → k ≡ flag_field kind → k < 8
flag_low kind k e = rw e (low (eqb kind 69))
  where
    low : (a : Bool) → cond a 3 7 < 8
    low true = omega arith
    low false = omega arith
