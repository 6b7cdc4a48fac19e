-- What is right stays right where a name is bound that had no value, and nothing is known in a memory of zeros.
-- Assumes nothing.
use Prim.Native.Nat.{ℕ, zero, suc, ◌+◌, ◌*◌, ◌≤◌}
use mathlib.Core.Path.{◌≡◌, refl, sym, subst, ◌∙◌}
use mathlib.Core.List.{List}
use native.Mathlib.Omega.{arith}
use lib.ListN.{get_or, replicate}
use Rattle.rl_laws.specs.Tests.{by_ltb, by_eqb}
use Rattle.rl_spec.specs.declared.ConstVal.{ConstVal}
use Rattle.rl_spec.specs.Answers.{Folded}
use Rattle.std.specs.Prelude.{None, Some}
use Rattle.rl_spec.specs.Words.{words_value}
use Rattle.rl_memory.specs.Memory.{Recalled}
use Rattle.rl_memory.specs.Memory.{recall_of, Right}
use Rattle.rl_memory.proofs.Laws.{known_is, recalled_unknown, recalled_stale, recalled_value}

apart : {A : Type 0} (v : Folded) → None ≡ Some v → A
apart v e = absurd (subst IsUnknown e tt)
  where
    IsUnknown : Recalled → Type 0
    IsUnknown (Some x) = ⊥
    IsUnknown None = Unit {0}

-- the words of a sort are a value
value_of : (tag payload : ℕ) → (tag ≡ 0 → ⊥) → tag ≤ 4 → (x : ConstVal) × (words_value tag payload ≡ Some x)
unfolding words_value
value_of zero payload z h = absurd (z refl)
value_of (suc zero) payload z h = (_, refl)
value_of (suc (suc zero)) payload z h = (_, refl)
value_of (suc (suc (suc zero))) payload z h = (_, refl)
value_of (suc (suc (suc (suc zero)))) payload z h = (_, refl)
value_of (suc (suc (suc (suc (suc t))))) payload z h = absurd (omega arith)

module _ (f g : ℕ → Folded) (k : ℕ) (m : List ℕ) (r : Right f k m) (stays : (n : ℕ) (v : ConstVal) → f n ≡ Some v → g n ≡ Some v) where
  -- THEOREM: one name more, under which values stay
  pub more_right : Right g (k + 1) m
  unfolding recall_of
  more_right =
      record {
        known =
            λ n v t.
            let tag = get_or m (n * 2) 0 in
            let payload = get_or m (n * 2 + 1) 0 in
            by_eqb (get_or m (n * 2) 0) 0 (λ z. apart v (recalled_unknown (k + 1) (get_or m (n * 2) 0) (get_or m (n * 2 + 1) 0) z ∙ t))
            (λ z.
            by_ltb 4 (get_or m (n * 2) 0)
            (λ h.
            let late : get_or m (n * 2) 0 ≡ 5 + (k + 1) → ⊥ = λ e. omega (arith, r.early n) in
            apart v (recalled_stale (k + 1) (get_or m (n * 2) 0) (get_or m (n * 2 + 1) 0) z h late ∙ t))
            (λ h.
            let x = value_of (get_or m (n * 2) 0) (get_or m (n * 2 + 1) 0) z h in
            let now : Some (words_value (get_or m (n * 2) 0) (get_or m (n * 2 + 1) 0)) ≡ Some v = recalled_value (k + 1) (get_or m (n * 2) 0) (get_or m (n * 2 + 1) 0) z h _ refl ∙ t in
            let was : words_value (get_or m (n * 2) 0) (get_or m (n * 2 + 1) 0) ≡ f n = r.known n _ (sym (recalled_value k (get_or m (n * 2) 0) (get_or m (n * 2 + 1) 0) z h _ refl)) in
            sym (known_is _ v now) ∙ x.1 ∙ sym (stays n x.0 (sym was ∙ x.1))));
        early = λ n. omega (arith, r.early n);
      }

get_or_zeros : (k i : ℕ) → ◌≡◌ {A = ℕ} (get_or (replicate k 0) i 0) 0
get_or_zeros zero i = refl
get_or_zeros (suc k) zero = refl
get_or_zeros (suc k) (suc i) = get_or_zeros k i

pub cleared_right : (f : ℕ → Folded) (k n : ℕ) → Right f k (replicate n 0)
unfolding recall_of
cleared_right f k n =
    record {
      known = λ j v t. apart v (recalled_unknown k (get_or (replicate n 0) (j * 2) 0) (get_or (replicate n 0) (j * 2 + 1) 0) (get_or_zeros n (j * 2)) ∙ t);
      early = λ j. omega (arith, get_or_zeros n (j * 2));
    }
