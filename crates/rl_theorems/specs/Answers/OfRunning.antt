-- What the runner answers: by the reader's table, then 11, 19, 20 and 21.
-- Assumes nothing.
use Rattle.std.specs.Prelude.{◌≡◌, ℕ, zero, suc, ◌<◌, ◌≤◌, Bool, true, false, not, ◌&&◌, ◌≢◌, ◌⊎◌, ◌↔◌, List, [], ◌∷◌, ◌++◌, ◌==◌, nat_lt, slice_index_or, refl}
use Rattle.std.proofs.Common.{sym, ap, ◌∙◌, inl, inr, ⊎_elim, arith}
use Rattle.std.proofs.lemmas.Bool.{false≢true}
use borrow.Author.Tests.{ltb-true, ltb-false, eqb-true, eqb-false, not-true, not-false}
use Rattle.rl_spec.specs.declared.Counts.{Counts}
use Rattle.rl_spec.specs.declared.Cause.{Cause}
use Rattle.rl_spec.specs.declared.Section.TheVariants.{Texts, Functions}
use Rattle.rl_spec.specs.declared.ConstVal.TheVariants.{Int, Float, Str, Bool as Truth}
use Rattle.rl_spec.specs.declared.Plain.{Plain}
use Rattle.rl_spec.specs.declared.Plain.TheVariants.{Null, Const}
use Rattle.rl_spec.specs.declared.Value.{Value}
use Rattle.rl_spec.specs.declared.Value.TheVariants.{Plain as Bare}
use Rattle.rl_spec.specs.declared.Value.TheVariants as val
use Rattle.rl_spec.specs.declared.Argument.{Argument}
use Rattle.rl_spec.specs.declared.Arguments.{Arguments}
use Rattle.rl_spec.specs.declared.Outcome.{Outcome}
use Rattle.rl_spec.specs.Answers.{ran, refused}
use Rattle.rl_spec.specs.Image.{image_of}
use Rattle.rl_spec.specs.Records.{function_at}
use Rattle.rl_spec.specs.Runner.{plain_has, value_has, all_have, given, ran_in, is_for, run_by, run_of, content_of}
use Rattle.rl_images.specs.Reading.Table.{Unmet, First, By, accepts, checks, refuses_exactly, accepts_exactly}
use Rattle.rl_images.specs.Reading.Rows.{read_rows}
use Rattle.rl_images.specs.Reading.Starts.{sizes_are_counts}
use Rattle.rl_theorems.specs.Answers.Tables.{no_value, run_rows}
use Rattle.rl_theorems.specs.Answers.AfterReading.{after_reading}
use Rattle.rl_laws.specs.AnswerLaws.{same_refusal}

-- ---- 19

count_wrong : (n m : ℕ) → is_for n m ≡ false → (n ≢ m) ⊎ (16 < n)
count_wrong n m e = go (n == m) refl e
  where
    go : (b : Bool) → (n == m) ≡ b → b && not (nat_lt 16 n) ≡ false → (n ≢ m) ⊎ (16 < n)
    go true d f = inr (ltb-true 16 n (not-false (nat_lt 16 n) f))
    go false d f = inl (eqb-false n m d)

count_right : (n m : ℕ) → is_for n m ≡ true → (n ≢ m) ⊎ (16 < n) → ⊥
count_right n m e = go (n == m) refl e
  where
    go : (b : Bool) → (n == m) ≡ b → b && not (nat_lt 16 n) ≡ true → (n ≢ m) ⊎ (16 < n) → ⊥
    go true d f = ⊎_elim (λ h. h (eqb-true n m d)) (λ (h : 16 < n). omega (arith, ltb-false 16 n (not-true (nat_lt 16 n) f), h))
    go false d f = absurd (false≢true f)

-- ---- 20

plain_lacks : (c : Counts) (p : Plain) → plain_has c p ≡ false → (t : ℕ) × (p ≡ Const (Str t)) × (c.texts ≤ t)
plain_lacks c Null e = absurd (false≢true (sym e))
plain_lacks c (Const (Int x)) e = absurd (false≢true (sym e))
plain_lacks c (Const (Float x)) e = absurd (false≢true (sym e))
plain_lacks c (Const (Str t)) e = (t, refl, ltb-false t c.texts e)
plain_lacks c (Const (Truth b)) e = absurd (false≢true (sym e))

-- 20 looks into an Ok and an Err
content_has : (c : Counts) (v : Value) → value_has c v ≡ plain_has c (content_of v)
content_has c (Bare p) = refl
content_has c (val.Ok p) = refl
content_has c (val.Err p) = refl

-- the i-th value has a text that is not there
abbrev Missing : ℕ → List Argument → Type 0
Missing texts vs = (i : ℕ) × (t : ℕ) × (content_of (slice_index_or vs i no_value).value ≡ Const (Str t)) × (texts ≤ t)

all_lack : (c : Counts) (vs : List Argument) → all_have c vs ≡ false → Missing c.texts vs
unfolding all_have
all_lack c [] e = absurd (false≢true (sym e))
all_lack c (v ∷ vs) e = go (value_has c v.value) refl e (all_lack c vs)
  where
    go : (b : Bool) → value_has c v.value ≡ b → b && all_have c vs ≡ false → (all_have c vs ≡ false → Missing c.texts vs) → Missing c.texts (v ∷ vs)
    go true d f g = let r = g f in (suc r.0, r.1, r.2, r.3)
    go false d f g =
        let r = plain_lacks c (content_of v.value) (sym (content_has c v.value) ∙ d) in (zero, r.0, r.1, r.2)

text_there : (c : Counts) (v : Value) (t : ℕ) → content_of v ≡ Const (Str t) → value_has c v ≡ true → t < c.texts
text_there c v t e d = ltb-true t c.texts (sym (ap (plain_has c) e) ∙ sym (content_has c v) ∙ d)

all_have_lem : (c : Counts) (vs : List Argument) → all_have c vs ≡ true → Missing c.texts vs → ⊥
unfolding all_have
all_have_lem c [] e x = let y = x.2 in let z : ◌≡◌ {A = ℕ} 0 1 = cc in omega arith
all_have_lem c (v ∷ vs) e x = go (value_has c v.value) refl e (all_have_lem c vs) x.0 x.1 x.2 x.3
  where
    go : (b : Bool) → value_has c v.value ≡ b → b && all_have c vs ≡ true → (all_have c vs ≡ true → Missing c.texts vs → ⊥) → (i t : ℕ) → content_of (slice_index_or (v ∷ vs) i no_value).value ≡ Const (Str t) → c.texts ≤ t → ⊥
    go true d f g zero t y l = omega (arith, text_there c v.value t y d)
    go true d f g (suc i) t y l = g f (i, t, y, l)
    go false d f g i t y l = false≢true f

-- ---- the answer

differ : {o : Outcome} {n : ℕ} {q : Cause} {p : ℕ} → ran o n ≢ refused q p
differ e = let z : ◌≡◌ {A = ℕ} 0 1 = cc in omega arith

module _ (s : List ℕ) (k f : ℕ) (args : Arguments) (budget : ℕ) where
  -- THEOREM
  pub run_by_lem : By refused (read_rows s k ++ run_rows (image_of s) f args budget) (ran_in (image_of s) f (given args) budget) (run_of s k f args budget)
  unfolding run_of
  run_by_lem =
      after_reading s k (run_rows (image_of s) f args budget) (run_by s f args budget) (λ q n. refl) λ a c e.
      let functions = sizes_are_counts s k a c e Functions in
      let texts = sizes_are_counts s k a c e Texts in
      checks (not (nat_lt f c.functions)) (λ d. omega (arith, functions, ltb-false f c.functions (not-true _ d)))
      (λ d h. omega (arith, functions, ltb-true f c.functions (not-false _ d), h))
      (checks (not (is_for args.count params)) (λ d. count_wrong args.count params (not-true _ d))
      (λ d. count_right args.count params (not-false _ d))
      (checks (not (all_have c (given args)))
      (λ d. let r = all_lack c (given args) (not-true _ d) in (r.0, r.1, r.2, omega (arith, texts, r.3)))
      (λ d h. all_have_lem c (given args) (not-false _ d) (h.0, h.1, h.2, omega (arith, texts, h.3)))
      (checks (nat_lt 1000000 budget) (ltb-true 1000000 budget) (λ d h. omega (arith, ltb-false 1000000 budget d, h)) (accepts tt))))
    where
      params : ℕ
      params = (function_at (image_of s) f).params.count

  -- THEOREMS: so
  pub run_refuses : (q : Cause) (p : ℕ) → (run_of s k f args budget ≡ refused q p) ↔ First (read_rows s k ++ run_rows (image_of s) f args budget) q p
  unfolding ran_in
  run_refuses = refuses_exactly (λ q q' p p' e. same_refusal e) (λ u q p. differ) run_by_lem

  pub run_accepts : (o : Outcome) (n : ℕ) → (run_of s k f args budget ≡ ran o n) ↔ (Unmet (read_rows s k ++ run_rows (image_of s) f args budget) × (ran_in (image_of s) f (given args) budget ≡ ran o n))
  run_accepts o n = accepts_exactly (ran o n) (λ q p e. differ (sym e)) run_by_lem
