-- A TABLE OF CAUSES, in the order in which they are checked; and that an answer keeps to one.
-- Assumes nothing.
use Rattle.std.specs.Prelude.{ℕ, ◌≡◌, refl, Bool, true, false, cond, List, [], ◌∷◌, ◌++◌, ◌⊎◌, ◌↔◌}
use Rattle.std.proofs.Common.{sym, ◌∙◌, inl, inr}
use Rattle.rl_spec.specs.declared.Cause.{Cause}

-- a cause, the place where it is refused, and what it says
pub record Row : Type 1 where
  pub cause : Cause
  pub place : ℕ
  pub holds : Type 0

abbrev pub row : Cause → ℕ → Type 0 → Row
row q p P = record { cause = q; place = p; holds = P }

-- no cause of the table holds
abbrev pub Unmet : List Row → Type 0
Unmet [] = Unit {0}
Unmet (r ∷ t) = (r.holds → ⊥) × Unmet t

-- q, at the place p, is the first cause of the table that holds
abbrev pub First : List Row → Cause → ℕ → Type 0
First [] q p = ⊥
First (r ∷ t) q p = (r.holds × (r.cause ≡ q) × (r.place ≡ p)) ⊎ ((r.holds → ⊥) × First t q p)

-- ---- there is one at most

pub never_both : (t : List Row) (q : Cause) (p : ℕ) → Unmet t → First t q p → ⊥
never_both [] q p u f = f
never_both (r ∷ t) q p u (inl f) = u.0 f.0
never_both (r ∷ t) q p u (inr f) = never_both t q p u.1 f.1

only_one : (t : List Row) (q q' : Cause) (p p' : ℕ) → First t q p → First t q' p' → (q ≡ q') × (p ≡ p')
only_one [] q q' p p' f g = absurd f
only_one (r ∷ t) q q' p p' (inl f) (inl g) = (sym f.1 ∙ g.1, sym f.2 ∙ g.2)
only_one (r ∷ t) q q' p p' (inl f) (inr g) = absurd (g.0 f.0)
only_one (r ∷ t) q q' p p' (inr f) (inl g) = absurd (f.0 g.0)
only_one (r ∷ t) q q' p p' (inr f) (inr g) = only_one t q q' p p' f.1 g.1

-- ---- a table behind another

pub unmet_both : (t u : List Row) → Unmet t → Unmet u → Unmet (t ++ u)
unmet_both [] u a b = b
unmet_both (r ∷ t) u a b = (a.0, unmet_both t u a.1 b)

pub unmet_parts : (t u : List Row) → Unmet (t ++ u) → Unmet t × Unmet u
unmet_parts [] u a = (tt, a)
unmet_parts (r ∷ t) u a = let b = unmet_parts t u a.1 in ((a.0, b.0), b.1)

pub first_front : (t u : List Row) (q : Cause) (p : ℕ) → First t q p → First (t ++ u) q p
first_front [] u q p f = absurd f
first_front (r ∷ t) u q p (inl f) = inl f
first_front (r ∷ t) u q p (inr f) = inr (f.0, first_front t u q p f.1)

pub first_behind : (t u : List Row) (q : Cause) (p : ℕ) → Unmet t → First u q p → First (t ++ u) q p
first_behind [] u q p a f = f
first_behind (r ∷ t) u q p a f = inr (a.0, first_behind t u q p a.1 f)

-- by where it stands
pub by_parts : {P : Type 0} (t u : List Row) (q : Cause) (p : ℕ) → (First t q p → P) → (Unmet t → First u q p → P) → First (t ++ u) q p → P
by_parts [] u q p f g x = g tt x
by_parts (r ∷ t) u q p f g (inl x) = f (inl x)
by_parts (r ∷ t) u q p f g (inr x) = by_parts t u q p (λ y. f (inr (x.0, y))) (λ a y. g (x.0, a) y) x.1

-- ---- the last row may be said otherwise where none before it holds

module _ (t u : List Row) {P Q : Type 0} (c : Cause) (d : ℕ) (same : Unmet t → Unmet u → P → Q) where
  at_last : (q : Cause) (p : ℕ) → Unmet t → Unmet u → First (row c d P ∷ []) q p → First (t ++ (u ++ row c d Q ∷ [])) q p
  at_last q p a b (inl x) = first_behind t _ q p a (first_behind u _ q p b (inl (same a b x.0, x.1, x.2)))
  at_last q p a b (inr x) = absurd x.1

  pub first_last : (q : Cause) (p : ℕ) → First (t ++ (u ++ row c d P ∷ [])) q p → First (t ++ (u ++ row c d Q ∷ [])) q p
  first_last q p =
      by_parts t (u ++ row c d P ∷ []) q p (first_front t _ q p) λ a.
      by_parts u (row c d P ∷ []) q p (λ x. first_behind t _ q p a (first_front u _ q p x)) (at_last q p a)

  pub unmet_last : Unmet (t ++ (u ++ row c d Q ∷ [])) → Unmet (t ++ (u ++ row c d P ∷ []))
  unmet_last h =
      let a = unmet_parts t (u ++ row c d Q ∷ []) h in
      let b = unmet_parts u (row c d Q ∷ []) a.1 in
      unmet_both t _ a.0 (unmet_both u _ b.0 (λ x. b.1.0 (same a.0 b.0 x), tt))

-- ---- an answer by a table: it refuses for the first cause that holds, and where none does it is this

pub data By {A : Type 0} (refused : Cause → ℕ → A) (t : List Row) (answer : A) : A → Type 0 where
  refuses : {q : Cause} {p : ℕ} → First t q p → By refused t answer (refused q p)
  accepts : Unmet t → By refused t answer answer

module _ {A : Type 0} {refused : Cause → ℕ → A} {answer : A} where
  -- THEOREMS: so it refuses exactly for the first, and gives another answer exactly where none holds
  pub refuses_exactly : {t : List Row} {a : A} → ((q q' : Cause) (p p' : ℕ) → refused q p ≡ refused q' p' → (q ≡ q') × (p ≡ p')) → (Unmet t → (q : Cause) (p : ℕ) → answer ≡ refused q p → ⊥) → By refused t answer a → (q : Cause) (p : ℕ) → (a ≡ refused q p) ↔ First t q p
  refuses_exactly {t = t} {a = a} same differs b q p = (there b, back b)
    where
      there : {a : A} → By refused t answer a → a ≡ refused q p → First t q p
      there (refuses {q = c} {p = n} f) e = let x = same c q n p e in rw (x.0, x.1) at f
      there (accepts u) e = absurd (differs u q p e)

      back : {a : A} → By refused t answer a → First t q p → a ≡ refused q p
      back (refuses {q = c} {p = n} f) g = let x = only_one t c q n p f g in rw (x.0, x.1) refl
      back (accepts u) g = absurd (never_both t q p u g)

  pub accepts_exactly : {t : List Row} {a : A} (b : A) → ((q : Cause) (p : ℕ) → refused q p ≡ b → ⊥) → By refused t answer a → (a ≡ b) ↔ (Unmet t × (answer ≡ b))
  accepts_exactly {t = t} b differs y = (there y, back y)
    where
      there : {a : A} → By refused t answer a → a ≡ b → Unmet t × (answer ≡ b)
      there (refuses {q = c} {p = n} f) e = absurd (differs c n e)
      there (accepts u) e = (u, e)

      back : {a : A} → By refused t answer a → Unmet t × (answer ≡ b) → a ≡ b
      back (refuses {q = c} {p = n} f) x = absurd (never_both t c n x.0 f)
      back (accepts u) x = x.1

  -- ---- behind checks that pass, and one check ahead of others

  pub behind : (t u : List Row) {a : A} → Unmet t → By refused u answer a → By refused (t ++ u) answer a
  behind t u h (refuses {q = q} {p = p} f) = refuses (first_behind t u q p h f)
  behind t u h (accepts v) = accepts (unmet_both t u h v)

  skips : {r : Row} {t : List Row} {a : A} → (r.holds → ⊥) → By refused t answer a → By refused (r ∷ t) answer a
  skips h (refuses f) = refuses (inr (h, f))
  skips h (accepts u) = accepts (h, u)

  pub checks : {q : Cause} {p : ℕ} {P : Type 0} {t : List Row} {a : A} (b : Bool) → (b ≡ true → P) → (b ≡ false → P → ⊥) → By refused t answer a → By refused (row q p P ∷ t) answer (cond b (refused q p) a)
  checks true h g y = refuses (inl (h refl, refl, refl))
  checks false h g y = skips (g refl) y

  pub checks_not : {q : Cause} {p : ℕ} {P : Type 0} {t : List Row} {a : A} (b : Bool) → (b ≡ false → P) → (b ≡ true → P → ⊥) → By refused t answer a → By refused (row q p P ∷ t) answer (cond b a (refused q p))
  checks_not true h g y = skips (g refl) y
  checks_not false h g y = refuses (inl (h refl, refl, refl))
