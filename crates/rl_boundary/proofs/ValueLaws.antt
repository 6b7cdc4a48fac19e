-- Laws for the values and outcomes in words.
-- Assumes nothing.
use Prim.Native.Nat.{ℕ, zero, suc, ◌+◌, ◌*◌, ◌/◌, ◌≤◌, ◌<◌, min}
use mathlib.Core.Path.{◌≡◌, refl, sym, ap, ◌∙◌}
use mathlib.Core.Bool.{Bool, true, false, cond}
use mathlib.Core.List.{List, [], ◌∷◌, ◌++◌, map}
use native.Mathlib.Omega.{arith}
use native.Mathlib.Numerals.{add-one}
use lib.ListN.{length, get_or, take, set}
use lib.Seq.{take_all, take-suc-set}
use Rattle.rl_spec.specs.declared.Argument.{Argument}
use Rattle.rl_spec.specs.declared.Value.{Value}
use Rattle.rl_spec.specs.Ranges.{up_from}
use Rattle.rl_spec.specs.Runner.{value_of_words}
use Rattle.rl_spec.specs.Boundary.{are_values, argument_at, count_of_words, arguments_of}

-- ---- the first sixteen

up_last : {A : Type 0} (f : ℕ → A) (k n : ℕ) → map f (up_from k (suc n)) ≡ map f (up_from k n) ++ (f (k + n) ∷ [])
unfolding up_from
up_last {A} f k zero = let e : k + zero ≡ k = omega arith in rw e refl
up_last {A} f k (suc n) = let e : k + suc n ≡ k + 1 + n = omega arith in rw e (ap (λ (l : List A). f k ∷ l) (up_last f (k + 1) n))

pub none_yet : (words : List ℕ) → [] ≡ map (argument_at words) (up_from 0 0)
unfolding up_from
none_yet words = refl

module _ (words : List ℕ) (values : List Argument) (i : ℕ) where
  pub argument_next : length values ≡ 16 → i < 16 → take i values ≡ map (argument_at words) (up_from 0 i) → (v : Value) (a b : ℕ) → a ≡ get_or words (i * 2) 0 → b ≡ get_or words (i * 2 + 1) 0 → v ≡ value_of_words a b → take (i + 1) (set values i (record { value = v })) ≡ map (argument_at words) (up_from 0 (i + 1))
  argument_next n h e v a b f g w =
      let z : 0 + i ≡ i = omega arith in
      rw (add-one i, take-suc-set values i (record { value = v }) (omega arith), up_last (argument_at words) 0 i, e, z, w, f, g) refl

  module _ (n : length values ≡ 16) (h : 16 ≤ i) (k : i ≤ 16) (e : take i values ≡ map (argument_at words) (up_from 0 i)) where
    whole : values ≡ map (argument_at words) (up_from 0 16)
    whole =
        let z : i ≡ 16 = omega arith in
        sym (take_all i values (omega arith)) ∙ e ∙ ap (λ (j : ℕ). map (argument_at words) (up_from 0 j)) z

    pub arguments_given : (count : ℕ) → count ≡ count_of_words words → record { values = values; count = count } ≡ arguments_of words
    unfolding arguments_of
    arguments_given count c = rw (whole, c) refl

-- how many

module _ (words : List ℕ) where
  pub count_few : length words / 2 < 17 → (b : Bool) → b ≡ are_values words → b ≡ true → length words / 2 ≡ count_of_words words
  unfolding count_of_words
  count_few h b e f = rw (← e, f) (omega arith)

  pub count_none : (b : Bool) → b ≡ are_values words → b ≡ false → 17 ≡ count_of_words words
  unfolding count_of_words
  count_none b e f = rw (← e, f) refl

  pub count_many : 17 ≤ length words / 2 → 17 ≡ count_of_words words
  unfolding count_of_words
  count_many h = go (are_values words)
    where
      go : (b : Bool) → 17 ≡ cond b (min (length words / 2) 17) 17
      go true = omega arith
      go false = refl

pub ruleset counts = (count_few, count_none, count_many)
