-- The parameters are bound in order. Assumes nothing.
use Prim.Native.Nat.{ℕ, zero, suc, ◌+◌, ◌-◌, ◌<◌, ◌≤◌, min}
use mathlib.Core.Path.{◌≡◌, refl, ap, ◌∙◌, sym}
use mathlib.Core.Bool.{Bool, cond}
use mathlib.Core.List.{List, [], ◌∷◌, map}
use native.Mathlib.Omega.{arith}
use lib.Dec.{ltb}
use lib.ListN.{length, get_or, take, drop}
use borrow.Author.Tests.{lt-ltb}
use Rattle.rl_spec.specs.declared.Argument.{Argument}
use Rattle.rl_spec.specs.declared.Arguments.{Arguments}
use Rattle.rl_spec.specs.declared.Counts.{Counts}
use Rattle.rl_spec.specs.declared.Interval.{Interval}
use Rattle.rl_spec.specs.declared.Param.{Param}
use Rattle.rl_spec.specs.declared.Plain.TheVariants.{Null}
use Rattle.rl_spec.specs.declared.Value.TheVariants.{Plain as Bare}
use Rattle.rl_spec.specs.Image.{Image}
use Rattle.rl_spec.specs.Found.{image_found}
use Rattle.rl_spec.specs.Records.{param_at}
use Rattle.rl_spec.specs.Ranges.{up_from}
use Rattle.rl_spec.specs.Run as run
use Rattle.rl_spec.specs.Run.{Env}
use Rattle.rl_spec.specs.Reading.{bind_all}
use Rattle.rl_spec.specs.Runner.{value_of, given, values_of}
use Rattle.rl_runner.specs.Bound.{param_names, BindsAll}

-- ---- lists

abbrev pub no_argument : Argument
no_argument = record { value = Bare Null }

-- the next of the values that are given
next_given : (vs : List Argument) (count i : ℕ) → i < count → count ≤ length vs →
    drop i (take count vs) ≡ get_or vs i no_argument ∷ drop (suc i) (take count vs)
next_given [] count i h l = absurd (omega (arith, h, l))
next_given (v ∷ vs) zero i h l = absurd (omega (arith, h))
next_given (v ∷ vs) (suc count) zero h l = refl
next_given (v ∷ vs) (suc count) (suc i) h l = next_given vs count i (omega (arith, h)) (omega (arith, l))

module _ (im : Image) where
  abbrev names : ℕ → ℕ → List ℕ
  names k n = map (λ i. (param_at im i).name) (up_from k n)

  same_names : (k j m n : ℕ) → k ≡ j → m ≡ n → names k m ≡ names j n
  same_names k j m n e d = ap (λ x. names x m) e ∙ ap (names j) d

  names_suc : (k n : ℕ) → names k (suc n) ≡ (param_at im k).name ∷ names (k + 1) n
  unfolding up_from
  names_suc k n = refl

  names_zero : (k : ℕ) → names k 0 ≡ []
  unfolding up_from
  names_zero k = refl

  next_name : (first count i : ℕ) → i < count → names (first + i) (count - i) ≡ (param_at im (first + i)).name ∷ names (first + (i + 1)) (count - (i + 1))
  next_name first count i h =
      same_names (first + i) (first + i) (count - i) (suc (count - (i + 1))) refl (omega (arith, h))
      ∙ names_suc (first + i) (count - (i + 1))
      ∙ ap (λ l. (param_at im (first + i)).name ∷ l) (same_names (first + i + 1) (first + (i + 1)) (count - (i + 1)) (count - (i + 1)) (omega arith) refl)

-- ---- the parameters that are not bound yet

abbrev names_left : Image → Interval → ℕ → List ℕ
names_left im params i = names im (params.first + i) (params.count - i)

abbrev values_left : Arguments → ℕ → List (run.Value ℕ)
values_left args i = values_of (drop i (given args))

-- the first i parameters are bound
pub record Bound (image : List ℕ) (counts : Counts) (params : Interval) (args : Arguments) (e : Env ℕ) (i : ℕ) : Type 0 where
  pub at : length e ≡ i
  pub left : args.count ≤ 16 → params.count ≤ args.count → (p : List ℕ) (n : ℕ)
      → bind_all (names_left (image_found image p counts) params i) (values_left args i) e n
      ≡ bind_all (param_names (image_found image p counts) params) (values_of (given args)) [] n

module _ (image : List ℕ) (counts : Counts) (params : Interval) (args : Arguments) where
  start : (im : Image) → names_left im params 0 ≡ param_names im params
  start im = same_names im (params.first + 0) params.first (params.count - 0) params.count (omega arith) (omega arith)

  pub bound_none : Bound image counts params args [] 0
  bound_none =
      record { at = refl; left = λ l h p n. ap (λ xs. bind_all xs (values_of (given args)) [] n) (start (image_found image p counts)) }

  pub bound_all : (e : Env ℕ) (i : ℕ) → Bound image counts params args e i → i ≡ min params.count 16
      → (p : List ℕ) → args.count ≤ 16 → params.count ≤ args.count → BindsAll (image_found image p counts) params args e
  bound_all e i h k p l m n =
      sym (h.left l m p n)
      ∙ ap (λ xs. bind_all xs (values_left args i) e n)
      (same_names (image_found image p counts) (params.first + i) (params.first + i) (params.count - i) 0 refl (omega (arith, k, l, m))
      ∙ names_zero (image_found image p counts) (params.first + i))

  plus_one : (n : ℕ) → suc n ≡ n + 1
  plus_one n = omega arith

  -- one more
  bind_one : (x : ℕ) (v : run.Value ℕ) (xs : List ℕ) (vs : List (run.Value ℕ)) (e : Env ℕ) (n : ℕ) → length e < 128
      → bind_all (x ∷ xs) (v ∷ vs) e n ≡ bind_all xs vs (run.named x v ∷ e) n
  bind_one x v xs vs e n h = rw (lt-ltb (length e) 128 h) refl

  bound_step : (im : Image) (e : Env ℕ) (i : ℕ) → length e < 128 → i < params.count → args.count ≤ 16 → params.count ≤ args.count → length args.values ≡ 16 → (n : ℕ)
      → bind_all (names_left im params i) (values_left args i) e n
      ≡ bind_all (names_left im params (i + 1)) (values_left args (i + 1)) (run.named (param_at im (params.first + i)).name (value_of (get_or args.values i no_argument).value) ∷ e) n
  bound_step im e i h k l m z n =
      ap (λ xs. bind_all xs (values_left args i) e n) (next_name im params.first params.count i k)
      ∙ ap (λ vs. bind_all (nm ∷ names_left im params (i + 1)) vs e n)
      (ap values_of (next_given args.values args.count i (omega (arith, k, m)) (omega (arith, l, z)))
      ∙ ap (λ j. v ∷ values_left args j) (plus_one i))
      ∙ bind_one nm v (names_left im params (i + 1)) (values_left args (i + 1)) e n h
    where
      nm : ℕ
      nm = (param_at im (params.first + i)).name

      v : run.Value ℕ
      v = value_of (get_or args.values i no_argument).value

  pub bound_one : (e e' : Env ℕ) (i : ℕ) (x : Param) (b : Bool) → Bound image counts params args e i → i < min params.count 16 → length args.values ≡ 16
      → ((p : List ℕ) → x ≡ param_at (image_found image p counts) (params.first + i)) → b ≡ ltb (length e) 128
      → e' ≡ cond b (run.named x.name (value_of (get_or args.values i no_argument).value) ∷ e) e → Bound image counts params args e' (i + 1)
  bound_one e e' i x b h k z y d g =
      rw (g, d, lt-ltb (length e) 128 (omega (arith, h.at, k)))
      record {
        at = omega (arith, h.at);
        left = λ l m p n. ap (λ q. bind_all (names_left (image_found image p counts) params (i + 1)) (values_left args (i + 1)) (run.named q.name (value_of (get_or args.values i no_argument).value) ∷ e) n) (y p)
            ∙ sym (bound_step (image_found image p counts) e i (omega (arith, h.at, k)) (omega (arith, k)) l m z n) ∙ h.left l m p n;
      }
