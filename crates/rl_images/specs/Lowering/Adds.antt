-- Computations that add to an image: what is made without limits is what is made under them, or is over a limit.
-- Assumes nothing.
use Rattle.std.specs.Prelude.{ℕ, ◌+◌, ◌<◌, ◌≡◌, refl, Bool, true, false, cond, ◌&&◌, List, [], ◌∷◌, ◌++◌, ◌⊎◌, ltb, length}
use Rattle.std.proofs.Math.Option.{Option, none, some}
use Rattle.std.proofs.Common.{inl, inr, arith, length-append, ltb-true}
use Rattle.rl_spec.specs.declared.Section.{Section}
use Rattle.rl_spec.specs.declared.Section.TheVariants.{Texts, Lists, Statements}
use Rattle.rl_spec.specs.Image.{Field, Rec, Image, records_of, size_of}
use Rattle.rl_spec.specs.Make.{Context, Make, and_then, ◌>>=◌, give, image_so_far, result_flag, take_temp, each, flat_map, most, most_bytes, append, append_bytes, new_text, new_list, stmt}
use Rattle.rl_images.specs.Lowering.Gives.{Gives, stops, gives}
use Rattle.rl_images.specs.Lowering.Grows.{size_grows, longer_length, Eight, Growing, records_own, appended_grows, bytes_grow}
use Rattle.rl_images.specs.Lowering.GrowsTo.{Later, now, eight_later, with_later, GrowsTo, Anything, ◌⊕◌}

-- ---- a section, or the text bytes, over their limit

abbrev pub Over : Image → Type 0
Over im = (most_bytes < length im.bytes) ⊎ ((o : Section) × (most o < size_of im o))

over_later : {c d : Context} → Later c d → Over c.image → Over d.image
over_later l (inl h) = inl (omega (arith, h, longer_length l.image.bytes))
over_later l (inr h) = inr (h.0, omega (arith, h.1, size_grows l.image h.0))

-- ---- without limits

abbrev pub freed : Context → Context
freed c =
    record { image = c.image; span = c.span; is_result = c.is_result; temp_counter = c.temp_counter; limited = false }

-- from one context, what is given there and what is given without limits: the same; or nothing, and what is over a limit
pub data Tracks {A : Type 0} (c : Context) : Option (A × Context) → Option (A × Context) → Type 0 where
  alike : {a : A} {d : Context} → Later c d → Tracks c (some (a, d)) (some (a, freed d))
  passed : {a : A} {d : Context} → Later c d → Over d.image → Tracks c none (some (a, freed d))

pub record Adds {A : Type 0} (m : Make A) : Type 0 where
  pub tracks : (c : Context) → Eight c.image → Tracks c (m c) (m (freed c))

-- what is given is later
later_given : {A : Type 0} {c : Context} {o p : Option (A × Context)} → Tracks c o p → Gives (λ _ d. Later c d) o
later_given (alike l) = gives l
later_given (passed l h) = stops

pub adds_later : {A : Type 0} {m : Make A} → Adds m → (c : Context) → Eight c.image → Gives (λ _ d. Later c d) (m c)
adds_later h c e = later_given (h.tracks c e)

pub adds_grows : {A : Type 0} {m : Make A} → Adds m → (c : Context) → GrowsTo c Anything (m c)
adds_grows {m = m} h c = record { makes = λ e. go (adds_later h c e.sections) }
  where
    go : {A : Type 0} {o : Option (A × Context)} → Gives (λ _ d. Later c d) o → Gives (λ a d. Later c d × Unit {0}) o
    go stops = stops
    go (gives l) = gives (l, tt)

-- ---- one after the other

onward : {A : Type 0} {c d : Context} {o p : Option (A × Context)} → Later c d → Tracks d o p → Tracks c o p
onward l (alike k) = alike (l ⊕ k)
onward l (passed k h) = passed (l ⊕ k) h

-- what is over stays over
over_on : {A : Type 0} {c d : Context} {o p : Option (A × Context)} → Later c d → Over d.image → Tracks d o p → Tracks c none p
over_on l h (alike k) = passed (l ⊕ k) (over_later k h)
over_on l h (passed k g) = passed (l ⊕ k) g

pub adds_bind : {A B : Type 0} {m : Make A} {f : A → Make B} → Adds m → ((a : A) → Adds (f a)) → Adds (m >>= f)
adds_bind {A} {B} {m} {f} p q = record { tracks = λ c e. go c e (p.tracks c e) }
  where
    go : (c : Context) → Eight c.image → {o u : Option (A × Context)} → Tracks c o u → Tracks c (and_then o f) (and_then u f)
    go c e (alike {a} {d} l) = onward l ((q a).tracks d (eight_later l e))
    go c e (passed {a} {d} l h) = over_on l h ((q a).tracks d (eight_later l e))

pub adds_give : {A : Type 0} (a : A) → Adds (give a)
adds_give a = record { tracks = λ c e. alike now }

pub adds_here : Adds image_so_far
adds_here = record { tracks = λ c e. alike now }

pub adds_flag : Adds result_flag
adds_flag = record { tracks = λ c e. alike now }

pub adds_temp : Adds take_temp
adds_temp =
    record {
      tracks = λ c e. alike (record { image = (now {c = c}).image; span = refl; is_result = refl; limited = refl });
    }

pub adds_cond : {A : Type 0} (b : Bool) {m n : Make A} → Adds m → Adds n → Adds (cond b m n)
adds_cond true p q = p
adds_cond false p q = q

pub adds_each : {A B : Type 0} {f : A → Make B} → ((a : A) → Adds (f a)) → (l : List A) → Adds (each f l)
unfolding each
adds_each h [] = adds_give []
adds_each h (a ∷ l) = adds_bind (h a) (λ b. adds_bind (adds_each h l) (λ bs. adds_give (b ∷ bs)))

pub adds_flat : {A B : Type 0} {f : A → Make (List B)} → ((a : A) → Adds (f a)) → (l : List A) → Adds (flat_map f l)
unfolding flat_map
adds_flat h [] = adds_give []
adds_flat h (a ∷ l) = adds_bind (h a) (λ bs. adds_bind (adds_flat h l) (λ cs. adds_give (bs ++ cs)))

-- ---- records and text bytes

-- a test under limits, and without
by_limits : {A : Type 0} {c d : Context} (limited b : Bool) (a : A) → Later c d → (b ≡ true → Over d.image) →
    Tracks c (cond (limited && b) none (some (a, d))) (some (a, freed d))
by_limits true true a l h = passed l (h refl)
by_limits true false a l h = alike l
by_limits false b a l h = alike l

pub adds_append : (o : Section) → Growing o → (rs : List Rec) → Adds (append o rs)
unfolding append
adds_append o k rs =
    record {
      tracks = λ c e.
          by_limits c.limited (ltb (most o) (size_of c.image o + length rs)) (size_of c.image o)
          (with_later {ctx = c} (appended_grows c.image o rs k e)) λ h.
          inr (o, rw (records_own c.image o (records_of c.image o ++ rs) e, length-append) (ltb-true (most o) _ h));
    }

pub adds_bytes : (s : List ℕ) → Adds (append_bytes s)
unfolding append_bytes
adds_bytes s =
    record {
      tracks = λ c e.
          by_limits c.limited (ltb most_bytes (length c.image.bytes + length s)) (length c.image.bytes)
          (with_later {ctx = c} (bytes_grow c.image s)) λ h. inl (rw length-append (ltb-true most_bytes _ h));
    }

pub adds_text : (s : List ℕ) → Adds (new_text s)
unfolding new_text
adds_text s = adds_bind (adds_bytes s) (λ at. adds_append Texts tt _)

pub adds_list : (ns : List ℕ) → Adds (new_list ns)
unfolding new_list
adds_list ns = adds_bind (adds_append Lists tt _) (λ at. adds_give _)

pub adds_stmt : (kind span : ℕ) (fields : List Field) → Adds (stmt kind span fields)
unfolding stmt
adds_stmt kind span fields = adds_append Statements tt _
