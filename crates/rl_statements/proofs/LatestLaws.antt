-- The first elements of a list, the last of them first: their number, one more, one less. Assumes nothing.
use Prim.Native.Nat.{ℕ, zero, suc, ◌+◌, ◌-◌, ◌<◌, ◌≤◌, min}
use mathlib.Core.Path.{◌≡◌, refl, ap, ◌∙◌, sym}
use mathlib.Core.Bool.{true, false}
use mathlib.Core.List.{List, [], ◌∷◌}
use native.Mathlib.Omega.{arith}
use lib.Dec.{ltb}
use lib.ListN.{length, drop, get_or, set}
use lib.Seq.{get_or-set_same, get_or-set_other}
use borrow.Author.Tests.{lt-ltb, le-ltb}
use Rattle.rl_statements.specs.Latest.{latest}

plus_one : (n : ℕ) → n + 1 ≡ suc n
plus_one n = omega arith

all_but : (k n : ℕ) → n - (n - k) ≡ min n k
all_but k n = omega arith

one_more : (n : ℕ) → (n ≡ 0 → ⊥) → n ≡ suc (n - 1)
one_more n h = omega (arith, h)

less_zero : (n : ℕ) → n ≡ n - 0
less_zero n = omega arith

none_less : (d : ℕ) → 0 ≡ 0 - suc d
none_less d = omega arith

both_less : (k d : ℕ) → k - d ≡ suc k - suc d
both_less k d = omega arith

module _ {A B : Type 0} (f : A → B) (d : A) where
  pub latest_length : (s : List A) (k : ℕ) → length (latest f d s k) ≡ k
  unfolding latest
  latest_length s zero = refl
  latest_length s (suc k) = ap suc (latest_length s k)

  -- a later element is written
  pub latest_kept : (s : List A) (p k : ℕ) (x : A) → k ≤ p → latest f d (set s p x) k ≡ latest f d s k
  unfolding latest
  latest_kept s p zero x h = refl
  latest_kept s p (suc k) x h =
      ap (λ y. f y ∷ latest f d (set s p x) k) (get_or-set_other s p k x d (λ q. absurd (omega arith)))
      ∙ ap (λ e. f (get_or s k d) ∷ e) (latest_kept s p k x (omega arith))

  pub latest_pushed : (s : List A) (n : ℕ) (x : A) → n < length s → latest f d (set s n x) (suc n) ≡ f x ∷ latest f d s n
  unfolding latest
  latest_pushed s n x h =
      ap (λ y. f y ∷ latest f d (set s n x) n) (get_or-set_same s n x d h)
      ∙ ap (λ e. f x ∷ e) (latest_kept s n n x (omega arith))

  -- m of the latest are dropped
  drops : (s : List A) (m k : ℕ) → drop m (latest f d s k) ≡ latest f d s (k - m)
  unfolding latest
  drops s zero k = ap (latest f d s) (less_zero k)
  drops s (suc m) zero = ap (latest f d s) (none_less m)
  drops s (suc m) (suc k) = drops s m k ∙ ap (latest f d s) (both_less k m)

  module _ (s : List A) (len : ℕ) (now : List B) (v : latest f d s len ≡ now) where
    pub now_length : len ≡ length now
    now_length = sym (latest_length s len) ∙ ap length v

    pub now_full : (m : ℕ) → len ≡ m → false ≡ ltb (length now) m
    now_full m e = sym (le-ltb (length now) m (omega (arith, e, now_length)))

    pub now_room : (m : ℕ) → len ≤ m → (len ≡ m → ⊥) → true ≡ ltb (length now) m
    now_room m l e = sym (lt-ltb (length now) m (omega (arith, l, e, now_length)))

    pub now_pushed : (x : A) → len < length s → latest f d (set s len x) (len + 1) ≡ f x ∷ now
    now_pushed x h = ap (latest f d (set s len x)) (plus_one len) ∙ latest_pushed s len x h ∙ ap (λ e. f x ∷ e) v

    pub now_none : len ≡ 0 → now ≡ []
    unfolding latest
    now_none e = sym v ∙ ap (latest f d s) e

    pub now_some : (len ≡ 0 → ⊥) → now ≡ f (get_or s (len - 1) d) ∷ latest f d s (len - 1)
    unfolding latest
    now_some e = sym v ∙ ap (latest f d s) (one_more len e)

    pub now_left : (k n : ℕ) → n ≡ min len k → latest f d s n ≡ drop (length now - k) now
    now_left k n e =
        ap (latest f d s) (e ∙ sym (all_but k len)) ∙ sym (drops s (len - k) len) ∙ ap (λ m. drop (m - k) (latest f d s len)) now_length
        ∙ ap (drop (length now - k)) v
