-- Statements that wait aside, and what comes of them: a wrapped bare last expression comes ahead of the others.
-- Assumes nothing.
use Prim.Native.Nat.{ℕ, zero, suc, ◌+◌, ◌-◌, ◌≤◌, ◌<◌, min}
use mathlib.Core.Path.{◌≡◌, refl, ap, ap₂, sym, ◌∙◌, subst}
use mathlib.Core.Bool.{Bool, true, false, not, cond, ◌&&◌}
use mathlib.Core.List.{List, [], ◌∷◌, ◌++◌, map, append-nil}
use mathlib.Core.Option.{Option, none, some}
use native.Mathlib.Omega.{arith}
use native.Mathlib.Nat.{add-zero}
use lib.Dec.{T, eqb}
use lib.ListN.{length, get_or, take, length-append, get_or-append}
use lib.Seq.{take-take, length-take-le}
use borrow.Author.Tests.{lt-ltb}
use Rattle.rl_spec.specs.declared.Counts.{Counts}
use Rattle.rl_spec.specs.declared.Clause.{Clause}
use Rattle.rl_spec.specs.declared.Interval.{Interval}
use Rattle.rl_spec.specs.declared.Section.TheVariants.{Lists, Statements}
use Rattle.rl_spec.specs.Image.{Image, records_of, size_of, no_record, entry_of}
use Rattle.rl_spec.specs.Found.{image_found}
use Rattle.rl_spec.specs.Tree.{ascii, number}
use Rattle.rl_spec.specs.Message.{decimal}
use Rattle.rl_spec.specs.Ranges.{up_from}
use Rattle.rl_spec.specs.FnContracts.{is_empty}
use Rattle.rl_spec.specs.Make.{Context, Make, and_then, ◌>>=◌, give, counted, each, flat_map}
use Rattle.rl_spec.specs.Lower.{ident, unwrap_call, clause_guard, declare, return_of, skip_err, wrap_as, wrap_return, transform_statement, last_of, wrap_trailing, ensured_body}
use Rattle.rl_laws.specs.Tests.{by_eqb}
use Rattle.rl_laws.specs.Found.{size_found}
use Rattle.rl_images.specs.Lowering.Gives.{Gives, stops, gives, after, weaker, by_cond, given_is}
use Rattle.rl_images.specs.Lowering.LastBare.{Last, last_bare}
use Rattle.rl_context.specs.declared.Ctx.{Ctx}
use Rattle.rl_context.specs.Additions.{waiting_with, Waiting, Live}
use Rattle.rl_context.specs.Does.{State, at, all, Over, Ends, Start, Does}
use Rattle.rl_context.proofs.Composed.{by_full, ends_full, ends_live, stays_full, does_then}
use Rattle.rl_images.specs.Lowering.Grows.{Eight, size_grows}
use Rattle.rl_images.specs.Lowering.GrowsTo.{Later, now, eight_later}
use Rattle.rl_images.specs.Lowering.Adds.{Adds, adds_later, adds_flat}
use Rattle.rl_images.specs.Lowering.AddsLower.{adds_statement, adds_wrap}
use Rattle.rl_context.proofs.Waits.{counted_same}
use Rattle.rl_context.specs.Guards.{Gathers, clauses_in}
use Rattle.rl_transform.specs.Transforms.{walk_below, Ready, Returns}
use Rattle.std.specs.Prelude.{None, Some}
use Rattle.rl_spec.specs.Answers.{Optional}
use Rattle.rl_bodies.specs.Bodies.{entries_in, Waits, BodyFits, ends_bare, bare_value}
use Rattle.rl_bodies.proofs.Lasts.{length_entries, entry_number, last_number, no_numbers, no_bare, is_bare}

-- ---- what comes of a list is no shorter

any : {A : Type 0} (o : Option (A × Context)) → Gives (λ _ _. Unit {0}) o
any none = stops
any (some r) = gives tt

both : {A : Type 0} {P Q : A → Context → Type 0} {o : Option (A × Context)} → Gives P o → Gives Q o → Gives (λ a x. P a x × Q a x) o
both {o = none} p q = stops
both {o = some r} p q = gives (given_is p refl, given_is q refl)

ends_some : (a : List ℕ) (s : ℕ) → 1 ≤ length (a ++ s ∷ [])
ends_some a s = rw (length-append a (s ∷ [])) (omega arith)

-- a wrapped return is some statements
some_as : (temp : List ℕ) (r : Bool) (value : ℕ) (ensures : List Clause) (x : Context) → Gives (λ (seq : List ℕ) y. 1 ≤ length seq) (wrap_as temp r value ensures x)
unfolding wrap_as
some_as temp r value ensures x =
    after (any (declare temp value x)) (λ dec d _.
    after (any (cond r (skip_err temp) (give []) d)) (λ skip e _.
    after (any (ident temp e)) (λ n f _.
    after (any (cond r (unwrap_call n) (give n) f)) (λ inner g _.
    after (any (declare (ascii "ret") inner g)) (λ ret h _.
    after (any (each (clause_guard (ascii "ensures violated")) ensures h)) (λ guards i _.
    after (any (return_of temp i)) (λ s j _. gives (ends_some (dec ∷ skip ++ ret ∷ guards) s))))))))

some_wrapped : (value : ℕ) (ensures : List Clause) (x : Context) → Gives (λ (seq : List ℕ) y. 1 ≤ length seq) (wrap_return value ensures x)
unfolding wrap_return
some_wrapped value ensures x = some_as (ascii "__ensure_ret_" ++ decimal x.temp_counter) x.is_result value ensures (counted x)

trailing_long : (ensures : List Clause) (b : List ℕ) (y : Context) → Eight y.image → Gives (λ r z. Later y z × (length b ≤ length r)) (wrap_trailing ensures b y)
unfolding wrap_trailing
trailing_long ensures b y e =
    by_cond (ends_bare y.image b) (wrap_return (number (last_of y.image b) 1) ensures >>= λ seq. give (seq ++ take (length b - 1) b)) (give b) y
    (λ _.
    after (both (adds_later (adds_wrap (number (last_of y.image b) 1) ensures) y e) (some_wrapped (number (last_of y.image b) 1) ensures y)) (λ seq z h.
    gives (h.0, rw (length-append seq (take (length b - 1) b), length-take-le (length b - 1) b (omega arith)) (omega (arith, h.1)))))
    (λ _. gives (now, omega arith))

-- ---- aside

-- where nothing waits
none_waits : (ctx : Ctx) (side : List ℕ) → length side ≡ 4096 → Waiting [] (waiting_with ctx 0) side
none_waits ctx side h = record { size = h; count = refl; few = omega arith; entries = refl }

module _ (im : Image) (ctx : Ctx) (scratch waiting side : List ℕ) (long : length side ≡ 4096) (done : Ctx) (scratch' side' : List ℕ) (m : Make (List ℕ)) (ss : List ℕ)
    (d : Does im 0 0 all m (at (waiting_with ctx 0) scratch side) ss (at done scratch' side')) (k : List ℕ → Make (List ℕ))
    (keeps : (b : List ℕ) (y : Context) → Eight y.image → Gives (λ r z. Later y z × (length b ≤ length r)) (k b y)) (res : List ℕ) (t : State)
    (full : done.full ≡ true → t.ctx.full ≡ true) where
  aside : (x : Context) (ws : List ℕ) → Live im 0 x ws ctx scratch waiting → Live im 0 x [] (waiting_with ctx 0) scratch side
  aside x ws l =
      record { new = l.new; context = l.context; image = l.image; counted = counted_same 0 l.counted; kept = l.kept; waits = none_waits ctx side long; temps = l.temps }

  back : (x y : Context) (ws vs : List ℕ) → Live im 0 x ws ctx scratch waiting → Live im 0 y vs done scratch' side' → Live im 0 y ws (waiting_with done ctx.waiting) scratch' waiting
  back x y ws vs l e =
      record {
        new = e.new;
        context = e.context;
        image = e.image;
        counted = counted_same ctx.waiting e.counted;
        kept = e.kept;
        waits = record { size = l.waits.size; count = l.waits.count; few = l.waits.few; entries = l.waits.entries };
        temps = e.temps;
      }

  module _ (next : (x y : Context) (ws : List ℕ) → Live im 0 x ws ctx scratch waiting → m x ≡ some (ss, y) → Live im 0 y ss done scratch' side' → done.full ≡ false →
      Live im 0 y ws (waiting_with done ctx.waiting) scratch' waiting → Ends im 0 all ws (k ss y) res t) where
    over_later : (ws : List ℕ) {o : Option (List ℕ × Context)} → Gives (λ b y. Over ([] ++ b) y) o → Gives (λ r z. Over (ws ++ r) z) (and_then o k)
    over_later ws h =
        after h (λ b y o. weaker (keeps b y o.sections) (λ r z v.
        record { sections = v.0.image.sections ∙ o.sections; more = rw (length-append ws r) (omega (arith, o.more, size_grows v.0.image Lists, v.1)) }))

    from : (ws : List ℕ) (x : Context) → ctx.full ≡ false → Live im 0 x ws ctx scratch waiting → Ends im 0 all ws (and_then (m x) k) res t
    from ws x v l =
        by_full (at done scratch' side') (λ f. ends_full (full f) (over_later ws (e.full f)))
        (λ f.
        subst (λ z. Ends im 0 all ws (and_then z k) res t) (sym (e.live f).is)
        (next x (e.live f).here ws l (e.live f).is (e.live f).live f (back x (e.live f).here ws ss l (e.live f).live)))
      where
        e : Ends im 0 all [] (m x) ss (at done scratch' side')
        e = d.does [] (some (tt, x)) (ends_live v (aside x ws l))

    all_over : (ws : List ℕ) (x : Context) → Over (ws ++ []) x → Adds m → Gives (λ r z. Over (ws ++ r) z) (and_then (m x) k)
    all_over ws x o more =
        after (adds_later more x o.sections) (λ b y a. weaker (keeps b y (eight_later a o.sections)) (λ r z v.
        record {
          sections = v.0.image.sections ∙ a.image.sections ∙ o.sections;
          more = rw (length-append ws r) (omega (arith, o.more, size_grows a.image Lists, size_grows v.0.image Lists, length-append ws []));
        }))

    pub aside_then : Adds m → Does im 0 0 all (m >>= k) (at ctx scratch waiting) res t
    aside_then more = record { does = go }
      where
        go : (ws : List ℕ) (o : Option (Unit {0} × Context)) → Start im 0 ws o (at ctx scratch waiting) → Ends im 0 all ws (and_then o (λ _. m >>= k)) res t
        go ws o st =
            by_full (at ctx scratch waiting)
            (λ f. ends_full (full (stays_full d f)) (after (st.full f) (λ _ x h. all_over ws x h more)))
            (λ f.
            subst (λ z. Ends im 0 all ws (and_then z (λ _. m >>= k)) res t) (sym (st.live f).is)
            (from ws (st.live f).here f (subst (λ z. Live im 0 (st.live f).here z ctx scratch waiting) (append-nil ws) (st.live f).live)))

-- ---- the body under ensures

module _ (s p : List ℕ) (c : Counts) (rows : List ℕ) (body ensured : Interval) (ready : Ready s p c rows ensured) (fit : BodyFits s p c body)
    (ctx : Ctx) (scratch waiting side : List ℕ) (long : length side ≡ 4096) (done : Ctx) (scratch' side' : List ℕ) where
  abbrev of : Image
  of = image_found s p c

  abbrev es : List Clause
  es = clauses_in of ensured

  abbrev numbers : List ℕ
  numbers = entries_in of body

  -- every statement of the body is before the last of all
  walk_same : (n a : ℕ) → ((i : ℕ) → i < n → entry_of of (a + i) < c.statements) →
      flat_map (walk_below es c.statements) (map (entry_of of) (up_from a n)) ≡ flat_map (transform_statement es) (map (entry_of of) (up_from a n))
  unfolding up_from flat_map
  walk_same zero a h = refl
  walk_same (suc n) a h =
      λ i x. and_then (ap (λ b. cond b (transform_statement es (entry_of of a)) (give (entry_of of a ∷ []))) (lt-ltb (entry_of of a) c.statements (subst (λ z. entry_of of z < c.statements) (add-zero a) (h 0 (omega arith)))) i x)
      (λ bs. walk_same n (a + 1) (λ j l. subst (λ z. entry_of of z < c.statements) (next a j) (h (suc j) (omega arith))) i >>= λ cs. give (bs ++ cs))
    where
      next : (a b : ℕ) → a + suc b ≡ a + 1 + b
      next a b = omega arith

  module _ (x : Context) (ws : List ℕ) (l : Live of 0 x ws ctx scratch waiting) where
    in_range : (i : ℕ) → i < length numbers → get_or numbers i 0 < size_of x.image Statements
    in_range i h =
        rw (l.context, entry_number of body.first body.count i k, length-append (records_of of Statements) l.new.statements)
        (omega (arith, fit i k, size_found s p c Statements))
      where
        k : i < body.count
        k = subst (λ z. i < z) (length_entries of body.first body.count) h

    same_last : (body.count ≡ 0 → ⊥) → last_of x.image numbers ≡ last_of of numbers
    same_last z =
        ap (λ y. last_of y.image numbers) l.context
        ∙ get_or-append (records_of of Statements) l.new.statements no_record (get_or numbers (length numbers - 1) 0) (rw (last_number of body.first body.count z, size_found s p c Statements) (subst (λ y. entry_of of y < c.statements) same (fit (body.count - 1) (omega (arith, z)))))
      where
        same : body.first + (body.count - 1) ≡ body.first + body.count - 1
        same = omega (arith, z)

    same_bare : ends_bare x.image numbers ≡ ends_bare of numbers
    same_bare = by_eqb body.count 0 (λ z. empty_bare x.image z ∙ sym (empty_bare of z)) (λ z. ap (λ r. not (is_empty numbers) && eqb r.kind 65) (same_last z))
      where
        empty_bare : (im : Image) → body.count ≡ 0 → ends_bare im numbers ≡ false
        empty_bare im z = no_numbers of im body.first body.count z

    lasts : (y : Context) (ss : List ℕ) → flat_map (transform_statement es) numbers x ≡ some (ss, y) → Last x.image numbers ss y.image
    lasts y ss e = given_is (last_bare es x numbers (record { sections = ap (λ z. length z.image.records) l.context; limits = ap (λ z. z.limited) l.context }) in_range) e

  module _ (ss : List ℕ) (d : Does of 0 0 all (flat_map (walk_below es c.statements) numbers) (at (waiting_with ctx 0) scratch side) ss (at done scratch' side')) where
    through : Does of 0 0 all (flat_map (transform_statement es) numbers) (at (waiting_with ctx 0) scratch side) ss (at done scratch' side')
    through = subst (λ m. Does of 0 0 all m (at (waiting_with ctx 0) scratch side) ss (at done scratch' side')) (walk_same body.count body.first fit) d

    -- what waits aside is what stands for the statements
    stood : (y : Context) → Live of 0 y ss done scratch' side' → (n : ℕ) → n ≤ length ss → take n side' ≡ take n ss
    stood y l n h = sym (take-take n (length ss) side' h) ∙ ap (take n) l.waits.entries

    bare_then : (x y : Context) (ws : List ℕ) → Live of 0 x ws ctx scratch waiting → flat_map (transform_statement es) numbers x ≡ some (ss, y) → ends_bare y.image ss ≡ ends_bare of numbers
    bare_then x y ws l e = (lasts x ws l y ss e).same ∙ same_bare x ws l

    -- no bare last expression
    ensured_plain : (t : State) (count : ℕ) → count ≡ min done.waiting 4096 → ends_bare of numbers ≡ false → Waits of (take count side') (at (waiting_with done ctx.waiting) scratch' waiting) t →
        Does of 0 0 all (ensured_body es numbers) (at ctx scratch waiting) ss t
    unfolding wrap_trailing
    ensured_plain t count cnt b w =
        aside_then of ctx scratch waiting side long done scratch' side' (flat_map (transform_statement es) numbers) ss through (wrap_trailing es) (trailing_long es) ss t
        (λ f. stays_full w f)
        (λ x y ws l e m f v.
        subst (λ z. Ends of 0 all ws z ss t) (sym (ap (λ z. cond z (wrap_return (number (last_of y.image ss) 1) es >>= λ seq. give (seq ++ take (length ss - 1) ss)) (give ss) y) (bare_then x y ws l e ∙ b)))
        (subst (λ z. Ends of 0 all ws (some (z, y)) z t) (whole y m)
        (w.does ws (some (tt, y)) (ends_live f (subst (λ z. Live of 0 y z (waiting_with done ctx.waiting) scratch' waiting) (sym (append-nil ws)) v)))))
        (adds_flat (adds_statement es) numbers)
      where
        whole : (y : Context) → Live of 0 y ss done scratch' side' → take count side' ≡ ss
        whole y m = ap (λ n. take n side') same ∙ m.waits.entries
          where
            same : count ≡ length ss
            same = omega (arith, cnt, m.waits.count, m.waits.few)

    -- a bare last expression, wrapped ahead of the others
    ensured_bare : (u t : State) (value most count : ℕ) (seq : List ℕ) → count ≡ min done.waiting 4096 → ends_bare of numbers ≡ true → value ≡ number (last_of of numbers) 1 → most ≡ count - 1 →
        Does of 0 0 all (wrap_return value es) (at (waiting_with done ctx.waiting) scratch' waiting) seq u → Waits of (take most side') u t →
        Does of 0 0 all (ensured_body es numbers) (at ctx scratch waiting) (seq ++ take most side') t
    unfolding wrap_trailing
    ensured_bare u t value most count seq cnt b g q d' w =
        aside_then of ctx scratch waiting side long done scratch' side' (flat_map (transform_statement es) numbers) ss through (wrap_trailing es) (trailing_long es) (seq ++ take most side') t
        (λ f. stays_full w (stays_full d' f))
        (λ x y ws l e m f v.
        subst (λ z. Ends of 0 all ws z (seq ++ take most side') t) (sym (wrapped x y ws l e m))
        (both_done.does ws (some (tt, y)) (ends_live f (subst (λ z. Live of 0 y z (waiting_with done ctx.waiting) scratch' waiting) (sym (append-nil ws)) v))))
        (adds_flat (adds_statement es) numbers)
      where
        both_done : Does of 0 0 all (wrap_return value es >>= λ z. give (z ++ take most side')) (at (waiting_with done ctx.waiting) scratch' waiting) (seq ++ take most side') t
        both_done = does_then (λ z. seq ++ z) d' w (record { keeps = λ ws a x o. gives (record { sections = o.sections; more = rw (length-append ws (a ++ take most side'), length-append a (take most side')) (omega (arith, o.more, length-append ws a)) }) }) refl (λ z. refl)

        same_value : (x : Context) (ws : List ℕ) → Live of 0 x ws ctx scratch waiting → number (last_of x.image numbers) 1 ≡ number (last_of of numbers) 1
        same_value x ws l = by_eqb body.count 0 (λ z. absurd (none z)) (λ z. ap (λ r. number r 1) (same_last x ws l z))
          where
            none : body.count ≡ 0 → ⊥
            none z = subst T (sym (sym (no_numbers of of body.first body.count z) ∙ b)) tt

        counted_all : (y : Context) → Live of 0 y ss done scratch' side' → count ≡ length ss
        counted_all y m = omega (arith, cnt, m.waits.count, m.waits.few)

        wrapped : (x y : Context) (ws : List ℕ) → Live of 0 x ws ctx scratch waiting → flat_map (transform_statement es) numbers x ≡ some (ss, y) → Live of 0 y ss done scratch' side' →
            wrap_trailing es ss y ≡ (wrap_return value es >>= λ z. give (z ++ take most side')) y
        wrapped x y ws l e m =
            ap (λ z. cond z (wrap_return (number (last_of y.image ss) 1) es >>= λ k. give (k ++ take (length ss - 1) ss)) (give ss) y) (bare_then x y ws l e ∙ b)
            ∙ ap₂ (λ z k. (wrap_return z es >>= λ i. give (i ++ k)) y) (ap (λ r. number r 1) ((lasts x ws l y ss e).kept (same_bare x ws l ∙ b)) ∙ same_value x ws l ∙ sym g)
            (sym (stood y m (length ss - 1) (omega arith)) ∙ ap (λ n. take n side') (sym (q ∙ ap (λ n. n - 1) (counted_all y m))))

  -- as the code has them: the contexts by their equations
  module _ (aside₀ back₀ : Ctx) (a : aside₀ ≡ waiting_with ctx 0) (b : back₀ ≡ waiting_with done ctx.waiting)
      (d : Returns s p c ensured c.statements body.first body.count (at aside₀ scratch side) (at done scratch' side')) (count : ℕ) (cnt : count ≡ min done.waiting 4096) where
    gone : Does of 0 0 all (flat_map (walk_below es c.statements) numbers) (at (waiting_with ctx 0) scratch side) d.0 (at done scratch' side')
    gone = subst (λ z. Does of 0 0 all (flat_map (walk_below es c.statements) numbers) (at z scratch side) d.0 (at done scratch' side')) a d.1

    pub plain_done : (t : State) (o : Optional) → o ≡ bare_value of numbers → o ≡ None → Waits of (take count side') (at back₀ scratch' waiting) t →
        Gathers of 0 (ensured_body es numbers) (at ctx scratch waiting) t
    plain_done t o e f w =
        (d.0, ensured_plain d.0 gone t count cnt (no_bare of numbers o e f) (subst (λ z. Waits of (take count side') (at z scratch' waiting) t) b w))

    pub bare_done : (u t : State) (o : Optional) (value most : ℕ) → o ≡ bare_value of numbers → o ≡ Some value → most ≡ count - 1 →
        Gathers of 0 (wrap_return value es) (at back₀ scratch' waiting) u → Waits of (take most side') u t → Gathers of 0 (ensured_body es numbers) (at ctx scratch waiting) t
    bare_done u t o value most e f q w v =
        let g = is_bare of numbers o e value f in
        (w.0 ++ take most side', ensured_bare d.0 gone u t value most count w.0 cnt g.0 g.1 q (subst (λ z. Does of 0 0 all (wrap_return value es) (at z scratch' waiting) w.0 u) b w.1) v)
