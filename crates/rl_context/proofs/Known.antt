-- Computations after others whose results are known: what the code does where a property of the context holds.
-- Assumes nothing.
use Rattle.std.proofs.Common.{◌≡◌, ℕ, true, false, List, length, sym, refl, ap, ◌∙◌, subst}
use mathlib.Core.Option.{Option, none, some}
use Rattle.rl_spec.specs.Image.{Image}
use Rattle.rl_spec.specs.Make.{Context, Make, and_then, ◌>>=◌}
use Rattle.rl_images.specs.Lowering.Gives.{Gives, stops, gives, after}
use Rattle.rl_images.specs.Lowering.Grows.{Eight}
use Rattle.rl_images.specs.Lowering.GrowsTo.{Later}
use Rattle.rl_images.specs.Lowering.Adds.{Adds, adds_later}
use Rattle.rl_context.specs.Does.{State, nothing, Ends, Start, Does}
use Rattle.rl_context.proofs.Composed.{Keeps, not_both, by_full, ends_full, ends_live, stays_full, then_is}

-- what is the same in a later context is so behind what adds to the image
pub later_bind : {A B : Type 0} {m : Make A} {f g : A → Make B} → Adds m → (x : Context) → Eight x.image → ((a : A) (y : Context) → Later x y → f a y ≡ g a y) → (m >>= f) x ≡ (m >>= g) x
later_bind {A} {m = m} {f} {g} h x e same = go (adds_later h x e)
  where
    go : {o : Option (A × Context)} → Gives (λ _ y. Later x y) o → and_then o f ≡ and_then o g
    go stops = refl
    go (gives {a = a} {c = y} l) = same a y l

pub record DoesIf {A : Type 0} (im : Image) (j k : ℕ) (pushed : A → List ℕ) (P : Context → Type 0) (m : Make A) (s : State) (a : A) (t : State) : Type 0 where
  pub does : (ws : List ℕ) (o : Option (Unit {0} × Context)) → Start im j ws o s → ((x : Context) → o ≡ some (tt, x) → P x) →
      Ends im k pushed ws (and_then o (λ _. m)) a t
  pub full : s.ctx.full ≡ true → t.ctx.full ≡ true

abbrev context_in : Context → Option (Unit {0} × Context) → Context
context_in c none = c
context_in c (some r) = r.1

pub if_start : {A : Type 0} {im : Image} {j k : ℕ} {p : A → List ℕ} {m : Make A} {s : State} {a : A} {t : State} → DoesIf im j k p (λ x. Unit {0}) m s a t → Does im j k p m s a t
if_start d = record { does = λ ws o st. d.does ws o st (λ x e. tt) }

-- a computation that is another where the property holds
pub if_same : {A : Type 0} {im : Image} {j k : ℕ} {p : A → List ℕ} {P : Context → Type 0} {n : Make A} {s : State} {a : A} {t : State} (m : Make A) →
    Keeps (nothing {A = Unit {0}}) (λ _. m) p → ((x : Context) → Eight x.image → P x → m x ≡ n x) → Does im j k p n s a t →
    DoesIf im j k p P m s a t
if_same {A} {im} {j} {k} {p} {P} {n} {s} {a} {t} m keeps same d = record { does = go; full = stays_full d }
  where
    go : (ws : List ℕ) (o : Option (Unit {0} × Context)) → Start im j ws o s → ((x : Context) → o ≡ some (tt, x) → P x) → Ends im k p ws (and_then o (λ _. m)) a t
    go ws o st h =
        by_full s (λ v. ends_full (stays_full d v) (after (st.full v) (λ _ x g. keeps.keeps ws tt x g)))
        (λ v.
        let l = st.live v in
        subst (λ z. Ends im k p ws (and_then z (λ _. m)) a t) (sym l.is)
        (subst (λ z. Ends im k p ws z a t)
        (sym (same l.here (ap (λ z. length z.image.records) l.live.context) (h l.here l.is)))
        (subst (λ z. Ends im k p ws (and_then z (λ _. n)) a t) l.is (d.does ws o st))))

-- a computation, what is known after it, and what follows
pub if_bind : {A B : Type 0} {im : Image} {j k l : ℕ} {q : B → List ℕ} {P Q : Context → Type 0} {m : Make A} {f : A → Make B} {s t u : State} {a : A} {b : B} →
    Does im j k nothing m s a t → ((x y : Context) → Eight x.image → P x → m x ≡ some (a, y) → Q y) → Keeps (nothing {A = A}) f q → DoesIf im k l q Q (f a) t b u →
    DoesIf im j l q P (m >>= f) s b u
if_bind {A} {B} {im} {j} {k} {l} {q} {P} {Q} {m} {f} {s} {t} {u} {a} {b} d known keeps e = record { does = go; full = λ v. e.full (stays_full d v) }
  where
    go : (ws : List ℕ) (o : Option (Unit {0} × Context)) → Start im j ws o s → ((x : Context) → o ≡ some (tt, x) → P x) → Ends im l q ws (and_then o (λ _. m >>= f)) b u
    go ws o st h = subst (λ z. Ends im l q ws z b u) (sym (then_is o m f)) (by_full t ended went)
      where
        first : Ends im k nothing ws (and_then o (λ _. m)) a t
        first = d.does ws o st

        ended : t.ctx.full ≡ true → Ends im l q ws (and_then (and_then o (λ _. m)) f) b u
        ended v = ends_full (e.full v) (after (first.full v) (λ c y g. keeps.keeps ws c y g))

        went : t.ctx.full ≡ false → Ends im l q ws (and_then (and_then o (λ _. m)) f) b u
        went v =
            by_full s (λ w. not_both (stays_full d w) v)
            (λ w.
            let r = first.live v in
            let x = st.live w in
            let is : m x.here ≡ some (a, r.here) = ap (λ z. and_then z (λ _. m)) (sym x.is) ∙ r.is in
            let q' : Q r.here = known x.here r.here (ap (λ z. length z.image.records) x.live.context) (h x.here x.is) is in
            subst (λ z. Ends im l q ws (and_then z f) b u) (sym r.is) (e.does ws (some (tt, r.here)) (ends_live v r.live) (λ y i. subst Q (ap (context_in r.here) i) q')))
