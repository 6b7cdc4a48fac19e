-- Computations that are carried out one after the other.
-- Assumes nothing.
use Rattle.std.proofs.Common.{◌≡◌, ℕ, Bool, true, false, T, List, [], ◌∷◌, ◌++◌, length, sym, refl, ap, ◌∙◌, subst, append_assoc, append-nil}
use mathlib.Core.Option.{Option, none, some}
use Rattle.rl_spec.specs.declared.Interval.{Interval}
use Rattle.rl_spec.specs.Image.{pair, Image}
use Rattle.rl_spec.specs.Make.{Context, Make, and_then, ◌>>=◌, give, new_list, each, flat_map}
use Rattle.rl_images.specs.Lowering.Gives.{Gives, stops, gives, after}
use Rattle.rl_context.specs.Additions.{Live}
use Rattle.rl_context.specs.Does.{State, nothing, one, all, Over, Ends, Start, Does, Pushes, Listed}

pub not_both : {P : Type 0} {b : Bool} → b ≡ true → b ≡ false → P
not_both e f = absurd (subst T (sym e ∙ f) tt)

pub by_full : {P : Type 0} (s : State) → (s.ctx.full ≡ true → P) → (s.ctx.full ≡ false → P) → P
by_full {P} s f g = go s.ctx.full refl
  where
    go : (b : Bool) → s.ctx.full ≡ b → P
    go true e = f e
    go false e = g e

module _ {A : Type 0} {im : Image} {slack : ℕ} {pushed : A → List ℕ} {ws : List ℕ} where
  -- where the code is full, or is not
  pub ends_full : {o : Option (A × Context)} {a : A} {s : State} → s.ctx.full ≡ true → Gives (λ b x. Over (ws ++ pushed b) x) o → Ends im slack pushed ws o a s
  ends_full e g = record { full = λ _. g; live = λ f. not_both e f }

  pub ends_live : {a : A} {x : Context} {s : State} → s.ctx.full ≡ false → Live im slack x (ws ++ pushed a) s.ctx s.scratch s.waiting →
      Ends im slack pushed ws (some (a, x)) a s
  ends_live {x = x} f l = record { full = λ e. not_both e f; live = λ _. record { here = x; is = refl; live = l } }

  pub ends_stopped : {a : A} {s : State} → Ends im slack pushed ws none a s → s.ctx.full ≡ true
  ends_stopped {s = s} e = by_full s (λ f. f) (λ f. absurd (subst T (ap is_none (e.live f).is) tt))
    where
      is_none : Option (A × Context) → Bool
      is_none none = true
      is_none (some x) = false

-- what is over stays over
pub record Keeps {A B : Type 0} (p : A → List ℕ) (f : A → Make B) (q : B → List ℕ) : Type 0 where
  pub keeps : (ws : List ℕ) (a : A) (x : Context) → Over (ws ++ p a) x → Gives (λ b y. Over (ws ++ q b) y) (f a x)

-- a full context stays full
pub stays_full : {A : Type 0} {im : Image} {j k : ℕ} {p : A → List ℕ} {m : Make A} {s : State} {a : A} {t : State} → Does im j k p m s a t → s.ctx.full ≡ true → t.ctx.full ≡ true
stays_full d e = ends_stopped (d.does [] none (ends_full e stops))

pub then_is : {A B : Type 0} (o : Option (Unit {0} × Context)) (m : Make A) (f : A → Make B) → and_then o (λ _. m >>= f) ≡ and_then (and_then o (λ _. m)) f
then_is none m f = refl
then_is (some r) m f = refl

module _ {A B C : Type 0} {im : Image} {k l : ℕ} {p : A → List ℕ} {q : B → List ℕ} {r : C → List ℕ} {f : A → Make C} {n : Make B} {t u : State} {a : A} {b : B} (g : B → C)
    (e : Does im k l q n t b u) (keeps : Keeps p f r) (is : f a ≡ (n >>= λ c. give (g c))) (joins : (c : B) → r (g c) ≡ p a ++ q c) (ws : List ℕ) where
  over_joined : (c : B) (y : Context) → Over (ws ++ p a ++ q c) y → Over (ws ++ r (g c)) y
  over_joined c y h = subst (λ z. Over z y) (append_assoc ws (p a) (q c) ∙ ap (λ z. ws ++ z) (sym (joins c))) h

  there : (x : Context) → Ends im l q (ws ++ p a) (n x) b u → Ends im l r ws (and_then (n x) (λ c. give (g c))) (g b) u
  there x h =
      record {
        full = λ v. after (h.full v) (λ c y w. gives (over_joined c y w));
        live = λ v.
            record {
              here = (h.live v).here;
              is = ap (λ z. and_then z (λ c. give (g c))) (h.live v).is;
              live =
                  subst (λ z. Live im l (h.live v).here z u.ctx u.scratch u.waiting)
                  (append_assoc ws (p a) (q b) ∙ ap (λ z. ws ++ z) (sym (joins b))) (h.live v).live;
            };
      }

  went : (x : Context) → t.ctx.full ≡ false → Live im k x (ws ++ p a) t.ctx t.scratch t.waiting → Ends im l r ws (f a x) (g b) u
  went x v h =
      subst (λ z. Ends im l r ws (z x) (g b) u) (sym is)
      (there x
      (e.does (ws ++ p a) (some (tt, x))
      (ends_live v (subst (λ z. Live im k x z t.ctx t.scratch t.waiting) (sym (append-nil (ws ++ p a))) h))))

  follows : (o : Option (A × Context)) → Ends im k p ws o a t → Ends im l r ws (and_then o f) (g b) u
  follows o h =
      by_full t (λ v. ends_full (stays_full e v) (after (h.full v) (λ c y w. keeps.keeps ws c y w)))
      (λ v. subst (λ z. Ends im l r ws (and_then z f) (g b) u) (sym (h.live v).is) (went (h.live v).here v (h.live v).live))

-- THE LAW: one computation, and then another, whose result is put together with the first's
pub does_then : {A B C : Type 0} {im : Image} {j k l : ℕ} {p : A → List ℕ} {q : B → List ℕ} {r : C → List ℕ} {m : Make A} {f : A → Make C} {n : Make B} {s t u : State} {a : A} {b : B} (g : B → C) →
    Does im j k p m s a t → Does im k l q n t b u → Keeps p f r → f a ≡ (n >>= λ c. give (g c)) → ((c : B) → r (g c) ≡ p a ++ q c) →
    Does im j l r (m >>= f) s (g b) u
does_then {im = im} {l = l} {r = r} {m = m} {f = f} {n = n} {u = u} {b = b} g d e keeps is joins =
    record {
      does = λ ws o st.
          subst (λ z. Ends im l r ws z (g b) u) (sym (then_is o m f)) (follows {n = n} g e keeps is joins ws (and_then o (λ _. m)) (d.does ws o st));
    }

pub then_give : {A : Type 0} (m : Make A) → m ≡ (m >>= λ c. give c)
then_give m = λ i x. go (m x) i
  where
    go : {A : Type 0} (o : Option (A × Context)) → o ≡ and_then o (λ c. give c)
    go none = refl
    go (some r) = refl

pub does_bind : {A B : Type 0} {im : Image} {j k l : ℕ} {q : B → List ℕ} {m : Make A} {f : A → Make B} {s t u : State} {a : A} {b : B} →
    Does im j k nothing m s a t → Keeps (nothing {A = A}) f q → Does im k l q (f a) t b u → Does im j l q (m >>= f) s b u
does_bind {f = f} {a = a} d keeps e = does_then (λ c. c) d e keeps (then_give (f a)) (λ c. refl)

pub does_give : {A : Type 0} (im : Image) (k : ℕ) (a : A) (s : State) → Does im k k nothing (give a) s a s
does_give im k a s =
    record {
      does = λ ws o st.
          record {
            full = λ v. after (st.full v) (λ _ x h. gives h);
            live = λ v. record { here = (st.live v).here; is = ap (λ z. and_then z (λ _. give a)) (st.live v).is; live = (st.live v).live };
          };
    }

-- a computation that is another wherever the code stands
pub does_same : {A : Type 0} {im : Image} {j k : ℕ} {p : A → List ℕ} {n : Make A} {s : State} {a : A} {t : State} (m : Make A) → Keeps (nothing {A = Unit {0}}) (λ _. m) p →
    ((x : Context) (ws : List ℕ) → Live im j x ws s.ctx s.scratch s.waiting → m x ≡ n x) → Does im j k p n s a t → Does im j k p m s a t
does_same {A} {im} {j} {k} {p} {n} {s} {a} {t} m keeps same d = record { does = go }
  where
    go : (ws : List ℕ) (o : Option (Unit {0} × Context)) → Start im j ws o s → Ends im k p ws (and_then o (λ _. m)) a t
    go ws o st =
        by_full s (λ v. ends_full (stays_full d v) (after (st.full v) (λ _ x h. keeps.keeps ws tt x h)))
        (λ v.
        let l = st.live v in
        subst (λ z. Ends im k p ws (and_then z (λ _. m)) a t) (sym l.is)
        (subst (λ z. Ends im k p ws z a t) (sym (same l.here (ws ++ []) l.live)) (subst (λ z. Ends im k p ws (and_then z (λ _. n)) a t) l.is (d.does ws o st))))

-- ---- lists that are being made

pub does_push : {im : Image} {j k : ℕ} {m : Make ℕ} {s t u : State} {n : ℕ} → Does im j k nothing m s n t → Pushes n t u → Does im j k one m s n u
does_push {im} {k = k} d p = record { does = λ ws o st. p.pushes im k ws _ (d.does ws o st) }

pub does_each : {A : Type 0} {im : Image} {j k l : ℕ} {s t u : State} {n : ℕ} {ns : List ℕ} (f : A → Make ℕ) (a : A) (as' : List A) →
    Keeps one (λ b. each f as' >>= λ bs. give (b ∷ bs)) all → Does im j k one (f a) s n t → Does im k l all (each f as') t ns u →
    Does im j l all (each f (a ∷ as')) s (n ∷ ns) u
unfolding each
does_each {n = n} f a as' keeps d e = does_then (λ bs. n ∷ bs) d e keeps refl (λ c. refl)

pub does_flat : {A : Type 0} {im : Image} {j k l : ℕ} {s t u : State} {ns ms : List ℕ} (f : A → Make (List ℕ)) (a : A) (as' : List A) →
    Keeps all (λ bs. flat_map f as' >>= λ cs. give (bs ++ cs)) all → Does im j k all (f a) s ns t → Does im k l all (flat_map f as') t ms u →
    Does im j l all (flat_map f (a ∷ as')) s (ns ++ ms) u
unfolding flat_map
does_flat {ns = ns} f a as' keeps d e = does_then (λ cs. ns ++ cs) d e keeps refl (λ c. refl)

-- the list itself; `first` is how many waited before it
pub does_list : {im : Image} {j k : ℕ} {m : Make (List ℕ)} {s t u : State} {ns : List ℕ} {list : Interval} (first : ℕ) → first ≡ s.ctx.waiting →
    Does im j k all m s ns t → Listed first t list u → Does im j k nothing (m >>= new_list) s (pair list.first list.count) u
does_list {im} {j} {k} {m} {s} {t} {u} {ns} {list} first q d h = record { does = go }
  where
    go : (ws : List ℕ) (o : Option (Unit {0} × Context)) → Start im j ws o s → Ends im k nothing ws (and_then o (λ _. m >>= new_list)) (pair list.first list.count) u
    go ws o st =
        subst (λ z. Ends im k nothing ws z (pair list.first list.count) u) (sym (then_is o m new_list)) (h.listed im k ws ns (and_then o (λ _. m)) waits (d.does ws o st))
      where
        waits : t.ctx.full ≡ false → first ≡ length ws
        waits v =
            by_full s (λ w. not_both (stays_full d w) v)
            (λ w. q ∙ (st.live w).live.waits.count ∙ ap length (append-nil ws))
