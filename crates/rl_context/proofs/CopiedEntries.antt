-- A field's copy by its plan, and the entries of a list one by one.
-- Assumes nothing.
use Rattle.std.proofs.Common.{◌≡◌, ℕ, suc, ◌+◌, ◌-◌, ◌/◌, ◌%◌, ◌<◌, ◌≤◌, Bool, true, false, cond, ◌||◌, List, [], ◌∷◌, ◌++◌, map, sym, refl, ap, ◌∙◌, subst, ap₂, append_assoc, add_assoc, arith, le-ltb, lt-ltb}
use mathlib.Core.Option.{Option}
use Rattle.rl_spec.specs.declared.Counts.{Counts}
use Rattle.rl_spec.specs.declared.Interval.{Interval}
use Rattle.rl_spec.specs.declared.Section.TheVariants.{Lists, Expressions}
use Rattle.rl_spec.specs.declared.Target.{Target}
use Rattle.rl_spec.specs.declared.Sort.{Sort}
use Rattle.rl_spec.specs.declared.Sort.TheVariants.{Raw, Byte, Scalar, Part, One, Maybe, Many, Range, OperandSort, Operand}
use Rattle.rl_spec.specs.Bytes.{num_at, u16_at}
use Rattle.rl_spec.specs.Schema.{sort_of, width_of}
use Rattle.rl_spec.specs.Image.{Field, num, pair, Image, size_of, first, entry_of, is_pair, field_in, FieldFits, WellFormed}
use Rattle.rl_spec.specs.Found.{image_found}
use Rattle.rl_spec.specs.Ranges.{up_from}
use Rattle.rl_spec.specs.Make.{Context, Make, and_then, ◌>>=◌, give, image_so_far, new_list, entries_of}
use Rattle.rl_spec.specs.Lower.{is_node, clone_entries, clone_field, deep_clone_expr}
use Rattle.rl_encode.specs.Words.{word_field}
use Rattle.rl_images.specs.Images.FieldFacts.{list_says}
use Rattle.rl_images.specs.Lowering.Gives.{gives, after}
use Rattle.rl_context.specs.Additions.{Live}
use Rattle.rl_context.specs.Does.{State, at, nothing, one, all, Ends, Start, Does, Pushes, Listed}
use Rattle.rl_context.proofs.Composed.{Keeps, does_then, does_bind, does_give, does_same, does_push, does_list}
use Rattle.rl_images.specs.Lowering.Adds.{adds_give}
use Rattle.rl_context.proofs.StaysOver.{keeps_more, keeps_one}
use Rattle.rl_images.specs.Lowering.AddsLower.{adds_entries, adds_field}
use Rattle.rl_context.specs.declared.copy.Plan.{Plan}
use Rattle.rl_context.specs.declared.copy.Plan.TheVariants as plan
use Rattle.rl_context.specs.Copies.{plan_of, clone_below, Fitting, Copies, CopiesField, CopiesEntry, CopiesEntries}
use Rattle.rl_context.proofs.Copying.{adds_below, old_entries}

pub two : (s : List ℕ) (at : ℕ) → num_at s at 2 ≡ u16_at s at
unfolding num_at u16_at
two s at = omega arith

-- ---- the copy of a child

pub clone_below_lem : (id n : ℕ) → n < id → clone_below id n ≡ deep_clone_expr n
clone_below_lem id n h = ap (λ b. cond b (deep_clone_expr n) (give n)) (lt-ltb n id h)

clone_above : (id n : ℕ) → id ≤ n → clone_below id n ≡ give n
clone_above id n h = ap (λ b. cond b (deep_clone_expr n) (give n)) (le-ltb n id h)

-- ---- what a plan says of a sort

abbrev Said : Sort → Plan → Type 0
Said o plan.Keep = (clone : ℕ → Make ℕ) (f : Field) → clone_field clone o f ≡ give f
Said o plan.Node = (is_pair o ≡ false) × ((width_of o ≡ 2) × ((clone : ℕ → Make ℕ) (f : Field) → clone_field clone o f ≡ (clone (first f) >>= λ n. give (num n))))
Said o (plan.List l r) =
    (is_pair o ≡ true)
    × (((clone : ℕ → Make ℕ) (f : Field) → clone_field clone o f ≡ (image_so_far >>= λ im. clone_entries clone l r (entries_of im f) >>= new_list))
    × ((im : Image) (i before a n : ℕ) → FieldFits im Expressions i before o (pair a n) → a + n ≤ size_of im Lists))

said : (o : Sort) → Said o (plan_of o)
said (Raw n) = λ clone f. refl
said (Byte low high) = λ clone f. refl
said Scalar = λ clone f. refl
said Part = λ clone f. refl
said (One t) = go (is_node t) refl
  where
    go : (b : Bool) → is_node t ≡ b → Said (One t) (cond b plan.Node plan.Keep)
    go true e = (refl, (refl, λ clone f. ap (λ b. cond b (clone (first f) >>= λ n. give (num n)) (give f)) e))
    go false e = λ clone f. ap (λ b. cond b (clone (first f) >>= λ n. give (num n)) (give f)) e
said (Maybe t) = λ clone f. refl
said (Many l r n) = go (is_node l || is_node r) refl
  where
    go : (b : Bool) → is_node l || is_node r ≡ b → Said (Many l r n) (cond b (plan.List l r) plan.Keep)
    go true e =
        (refl, (λ clone f. ap (λ b. cond b (image_so_far >>= λ im. clone_entries clone l r (entries_of im f) >>= new_list) (give f)) e, λ im i before a m h. (list_says h).0))
    go false e = λ clone f. ap (λ b. cond b (image_so_far >>= λ im. clone_entries clone l r (entries_of im f) >>= new_list) (give f)) e
said (Range o) = λ clone f. refl
said OperandSort = λ clone f. refl
said Operand = λ clone f. refl

said_by : (o : Sort) (q : Plan) → q ≡ plan_of o → Said o q
said_by o q e = subst (Said o) (sym e) (said o)

-- ---- a field by its plan

module _ (s p : List ℕ) (c : Counts) (id code place : ℕ) (sort : Sort) (q : Plan) (e : sort ≡ sort_of code) (g : q ≡ plan_of sort) where
  abbrev im : Image
  im = image_found s p c

  abbrev o : Sort
  o = sort_of code

  by_plan : Said o q
  by_plan = said_by o q (g ∙ ap plan_of e)

  field_keeps : Keeps (nothing {A = Unit {0}}) (λ _. clone_field (clone_below id) o (field_in s o place)) (nothing {A = Field})
  field_keeps = keeps_more nothing (λ _. adds_field (clone_below id) (adds_below id) o (field_in s o place))

  pub field_kept : (t : State) (word : ℕ) → q ≡ plan.Keep → word_field o word ≡ field_in s o place → CopiesField im s id code place t word t
  field_kept t word k f =
      does_same (clone_field (clone_below id) o (field_in s o place)) field_keeps (λ x ws l. ap (λ m. m x) (subst (Said o) k by_plan (clone_below id) (field_in s o place) ∙ ap give (sym f)))
      (does_give im 0 (word_field o word) t)

  module _ (child : ℕ) (k : q ≡ plan.Node) (f : child ≡ u16_at s place) where
    node_said : (is_pair o ≡ false) × ((width_of o ≡ 2) × ((clone : ℕ → Make ℕ) (f : Field) → clone_field clone o f ≡ (clone (first f) >>= λ n. give (num n))))
    node_said = subst (Said o) k by_plan

    child_is : first (field_in s o place) ≡ child
    child_is = ap (λ b. first (cond b (pair (u16_at s place) (u16_at s (place + 2))) (num (num_at s place (width_of o))))) node_said.0 ∙ ap (num_at s place) node_said.1.0 ∙ two s place ∙ sym f

    field_is : clone_field (clone_below id) o (field_in s o place) ≡ (clone_below id child >>= λ n. give (num n))
    field_is = node_said.1.1 (clone_below id) (field_in s o place) ∙ ap (λ n. clone_below id n >>= λ m. give (num m)) child_is

    copied : (t u : State) (index word : ℕ) → Does im 0 0 nothing (clone_below id child) t index u → word ≡ index → CopiesField im s id code place t word u
    copied t u index word d w =
        subst (λ z. Does im 0 0 nothing (clone_field (clone_below id) o (field_in s o place)) t z u) (ap num (sym w) ∙ sym (ap (λ b. cond b (pair (word % 65536) (word / 65536)) (num word)) node_said.0))
        (subst (λ m. Does im 0 0 nothing m t (num index) u) (sym field_is) (does_bind d (keeps_more nothing (λ n. adds_give (num n))) (does_give im 0 (num index) u)))

    pub field_shared : (t : State) → id ≤ child → CopiesField im s id code place t child t
    field_shared t h = copied t t child child (subst (λ m. Does im 0 0 nothing m t child t) (sym (clone_above id child h)) (does_give im 0 child t)) refl

    pub field_copied : (t u : State) (index : ℕ) → child < id → Copies im child t index u → CopiesField im s id code place t index u
    field_copied t u index h d = copied t u index index (subst (λ m. Does im 0 0 nothing m t index u) (sym (clone_below_lem id child h)) d) refl

  module _ (left right : Target) (k : q ≡ plan.List left right) (a n : ℕ) (f : a ≡ u16_at s place) (h : n ≡ u16_at s (place + 2)) where
    list_said : Said o (plan.List left right)
    list_said = subst (Said o) k by_plan

    pair_is : field_in s o place ≡ pair a n
    pair_is = ap (λ b. cond b (pair (u16_at s place) (u16_at s (place + 2))) (num (num_at s place (width_of o)))) list_said.0 ∙ ap₂ pair (sym f) (sym h)

    pub list_fits : Fitting im s id code place → WellFormed im → a + n ≤ size_of im Lists
    list_fits fit wf = list_said.1.1 im id (fit wf).0 a n (subst (FieldFits im Expressions id (fit wf).0 o) pair_is (fit wf).1)

    pub field_listed : (t u v : State) (list : Interval) (word waits : ℕ) → Fitting im s id code place → waits ≡ t.ctx.waiting → CopiesEntries im id a n left right t u →
        Listed waits u list v → pair (word % 65536) (word / 65536) ≡ pair list.first list.count → CopiesField im s id code place t word v
    field_listed t u v list word waits fit w d g is =
        subst (λ z. Does im 0 0 nothing (clone_field (clone_below id) o (field_in s o place)) t z v) (sym is ∙ sym (ap (λ b. cond b (pair (word % 65536) (word / 65536)) (num word)) list_said.0))
        (does_same (clone_field (clone_below id) o (field_in s o place)) field_keeps same (does_list waits w d.1 g))
      where
        same : (x : Context) (ws : List ℕ) → Live im 0 x ws t.ctx t.scratch t.waiting →
            clone_field (clone_below id) o (field_in s o place) x ≡ (clone_entries (clone_below id) left right (map (entry_of im) (up_from a n)) >>= new_list) x
        same x ws l =
            ap (λ m. m x) (list_said.1.0 (clone_below id) (field_in s o place))
            ∙ ap (λ z. (clone_entries (clone_below id) left right (entries_of x.image z) >>= new_list) x) pair_is
            ∙ ap (λ z. (clone_entries (clone_below id) left right z >>= new_list) x) (old_entries x ws t l a n (list_fits fit l.image))

pub up_suc : (k m : ℕ) → up_from k (suc m) ≡ k ∷ up_from (k + 1) m
unfolding up_from
up_suc k m = refl

-- nothing is made, and nothing more waits
pub does_nil : (of : Image) (s : State) → Does of 0 0 all (give []) s [] s
does_nil of s = record { does = λ ws o st. ends_nil ws o st }
  where
    ends_nil : (ws : List ℕ) (o : Option (Unit {0} × Context)) → Start of 0 ws o s → Ends of 0 all ws (and_then o (λ _. give [])) [] s
    ends_nil ws o st =
        record {
          full = λ v. after (st.full v) (λ _ x h. gives h);
          live = λ v. record { here = (st.live v).here; is = ap (λ z. and_then z (λ _. give [])) (st.live v).is; live = (st.live v).live };
        }

-- ---- the entries, one by one

pub record CopyingEntries (s p : List ℕ) (c : Counts) (id a n : ℕ) (l r : Target) (start here : State) (i : ℕ) (left right : Target) : Type 0 where
  pub some : i ≤ n
  pub done : List ℕ
  pub follows : (ns : List ℕ) (t : State) → Does (image_found s p c) 0 0 all (clone_entries (clone_below id) left right (map (entry_of (image_found s p c)) (up_from (a + i) (n - i)))) here ns t →
      Does (image_found s p c) 0 0 all (clone_entries (clone_below id) l r (map (entry_of (image_found s p c)) (up_from a n))) start (done ++ ns) t

module _ (s p : List ℕ) (c : Counts) (id a n : ℕ) (l r : Target) (start : State) where
  abbrev of : Image
  of = image_found s p c

  module _ (here : State) (i : ℕ) (left right : Target) (w : CopyingEntries s p c id a n l r start here i left right) where
    next_entry : i < n → up_from (a + i) (n - i) ≡ (a + i) ∷ up_from (a + (i + 1)) (n - (i + 1))
    next_entry h = cons (n - i) (n - (i + 1)) (omega arith) ∙ ap (λ z. (a + i) ∷ up_from z (n - (i + 1))) (add_assoc a i 1)
      where
        cons : (m k : ℕ) → m ≡ suc k → up_from (a + i) m ≡ (a + i) ∷ up_from (a + i + 1) k
        cons m k e = ap (up_from (a + i)) e ∙ up_suc (a + i) k

    -- what is made of the next entry waits, and the rest follows
    entries_next : (h : i < n) (m : ℕ) (next : State) → Does of 0 0 one (cond (is_node left) (clone_below id (entry_of of (a + i))) (give (entry_of of (a + i)))) here m next →
        CopyingEntries s p c id a n l r start next (i + 1) right left
    unfolding clone_entries
    entries_next h m next d =
        record {
          some = omega arith;
          done = w.done ++ m ∷ [];
          follows = λ ns t f.
              subst (λ z. Does of 0 0 all (clone_entries (clone_below id) l r (map (entry_of of) (up_from a n))) start z t) (sym (append_assoc w.done (m ∷ []) ns))
              (w.follows (m ∷ ns) t
              (subst (λ z. Does of 0 0 all (clone_entries (clone_below id) left right (map (entry_of of) z)) here (m ∷ ns) t) (sym (next_entry h))
              (does_then (λ ms. m ∷ ms) d f
              (keeps_one (λ b ms. b ∷ ms) (adds_entries (clone_below id) (adds_below id) right left (map (entry_of of) (up_from (a + (i + 1)) (n - (i + 1))))) (λ b ms. omega arith)) refl (λ ms. refl))));
        }

    pub entries_more : i < n → (e : ℕ) (next : State) → e ≡ entry_of of (a + i) → CopiesEntry of id left e here next → CopyingEntries s p c id a n l r start next (i + 1) right left
    entries_more h e next g d = entries_next h d.0 next (subst (λ z. Does of 0 0 one (cond (is_node left) (clone_below id z) (give z)) here d.0 next) g d.1)

    pub entries_all : n ≤ i → CopiesEntries of id a n l r start here
    unfolding clone_entries up_from
    entries_all h = (w.done ++ [], w.follows [] here (subst (λ z. Does of 0 0 all (clone_entries (clone_below id) left right (map (entry_of of) (up_from (a + i) z))) here [] here) none_left (does_nil of here)))
      where
        none_left : 0 ≡ n - i
        none_left = omega (arith, w.some)

-- ---- an entry

module _ (of : Image) (id : ℕ) (target : Target) (n : ℕ) (here next : State) where
  by_give : cond (is_node target) (clone_below id n) (give n) ≡ give n → Pushes n here next → CopiesEntry of id target n here next
  by_give e o = (n, subst (λ m. Does of 0 0 one m here n next) (sym e) (does_push (does_give of 0 n here) o))

  pub entry_copied : (made : ℕ) (mid : State) (b : Bool) → b ≡ is_node target → b ≡ true → n < id → Copies of n here made mid → Pushes made mid next → CopiesEntry of id target n here next
  entry_copied made mid b q t h d o = (
    made,
    subst (λ m. Does of 0 0 one m here made next) (sym (ap (λ z. cond z (clone_below id n) (give n)) (sym q ∙ t) ∙ clone_below_lem id n h)) (does_push d o),
  )

  pub entry_kept : (b : Bool) → b ≡ is_node target → b ≡ false → Pushes n here next → CopiesEntry of id target n here next
  entry_kept b q f o = by_give (ap (λ z. cond z (clone_below id n) (give n)) (sym q ∙ f)) o

  pub entry_late : id ≤ n → Pushes n here next → CopiesEntry of id target n here next
  entry_late h o = by_give (ap (λ z. cond (is_node target) z (give n)) (clone_above id n h) ∙ same (is_node target)) o
    where
      same : (b : Bool) → cond b (give n) (give n) ≡ give n
      same true = refl
      same false = refl
