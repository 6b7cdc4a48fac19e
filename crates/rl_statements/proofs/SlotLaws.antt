-- Names by their classes: finding and changing a binding in its slot. Assumes nothing.
use Prim.Native.Nat.{ℕ, zero, suc, ◌<◌, ◌≤◌}
use mathlib.Core.Path.{◌≡◌, refl, ap, ◌∙◌, sym, subst}
use mathlib.Core.Bool.{Bool, true, false, cond}
use mathlib.Core.List.{List, ◌∷◌}
use mathlib.Core.Option.{Option, none, some}
use native.Mathlib.Omega.{arith}
use lib.Dec.{eqb}
use lib.ListN.{length, get_or, set}
use lib.Seq.{get_or-set_other}
use Rattle.std.specs.Prelude.{None, Some}
use Rattle.rl_spec.specs.Answers.{Optional}
use Rattle.rl_spec.specs.declared.Value.{Value}
use Rattle.rl_spec.specs.Run as run
use Rattle.rl_spec.specs.Run.{find, update, behind}
use Rattle.rl_spec.specs.Runner.{value_of, value_of_words}
use Rattle.rl_names.specs.Names.{Classes}
use Rattle.rl_statements.specs.declared.env.Binding.{Binding}
use Rattle.rl_statements.specs.Latest.{latest}
use Rattle.rl_statements.specs.Bindings.{blank, bound_of}
use Rattle.rl_statements.specs.Slots.{slot_in, valued}
use Rattle.rl_statements.proofs.LatestLaws.{latest_pushed}

abbrev slots : List Binding → ℕ → run.Env ℕ
slots s k = latest bound_of blank s k

abbrev name : List Binding → ℕ → ℕ
name s p = (get_or s p blank).name

abbrev value_in : List Binding → ℕ → Value
value_in s p = value_of_words (get_or s p blank).sort (get_or s p blank).payload

abbrev value_at : List Binding → Optional → Option (run.Value ℕ)
value_at s None = none
value_at s (Some p) = some (value_of (value_in s p))

abbrev Within : ℕ → Optional → Type 0
Within k None = Unit {0}
Within k (Some p) = p < k

within_more : (k : ℕ) (r : Optional) → Within k r → Within (suc k) r
within_more k None h = tt
within_more k (Some p) h = omega (arith, h)

module _ (bytes : ℕ → List ℕ) (cs : List ℕ) (same : Classes bytes cs) (s : List Binding) (t : ℕ) where
  within : (k : ℕ) → Within k (slot_in cs s t k)
  unfolding slot_in
  within zero = tt
  within (suc k) = go (within k) (eqb (get_or cs (name s k) 0) (get_or cs t 0))
    where
      go : Within k (slot_in cs s t k) → (b : Bool) → Within (suc k) (cond b (Some k) (slot_in cs s t k))
      go h true = omega arith
      go h false = within_more k (slot_in cs s t k) h

  pub found_at : (k : ℕ) → find bytes (slots s k) t ≡ value_at s (slot_in cs s t k)
  unfolding latest find slot_in
  found_at zero = refl
  found_at (suc k) = rw (same (name s k) t) (go (found_at k) (eqb (get_or cs (name s k) 0) (get_or cs t 0)))
    where
      go : find bytes (slots s k) t ≡ value_at s (slot_in cs s t k) → (b : Bool)
          → cond b (some (value_of (value_in s k))) (find bytes (slots s k) t) ≡ value_at s (cond b (Some k) (slot_in cs s t k))
      go h true = refl
      go h false = h

  -- the slots where the one of the name has another value
  abbrev Changed : Value → ℕ → Optional → Option (run.Env ℕ) → Type 0
  Changed v k None r = r ≡ none
  Changed v k (Some p) r = (b : Binding) → bound_of b ≡ run.named (name s p) (value_of v) → r ≡ some (slots (set s p b) k)

  pub updated_at : (v : Value) (k : ℕ) → k ≤ length s → Changed v k (slot_in cs s t k) (update bytes (slots s k) t (value_of v))
  unfolding latest update slot_in
  updated_at v zero h = refl
  updated_at v (suc k) h = rw (same (name s k) t) (go (updated_at v k (omega (arith, h))) (eqb (get_or cs (name s k) 0) (get_or cs t 0)))
    where
      -- slot k stays as it is
      kept : (r : Optional) (u : Option (run.Env ℕ)) → Within k r → Changed v k r u → Changed v (suc k) r (behind bytes (bound_of (get_or s k blank)) u)
      kept None u l e = ap (behind bytes (bound_of (get_or s k blank))) e
      kept (Some p) u l e =
          λ b m. ap (behind bytes (bound_of (get_or s k blank))) (e b m)
          ∙ ap (λ x. some (bound_of x ∷ slots (set s p b) k)) (sym (get_or-set_other s p k b blank (λ q. absurd (omega (arith, l, q)))))

      go : Changed v k (slot_in cs s t k) (update bytes (slots s k) t (value_of v)) → (d : Bool)
          → Changed v (suc k) (cond d (Some k) (slot_in cs s t k))
          (cond d (some (run.named (name s k) (value_of v) ∷ slots s k)) (behind bytes (bound_of (get_or s k blank)) (update bytes (slots s k) t (value_of v))))
      go e true = λ b m. ap some (ap (λ x. x ∷ slots s k) (sym m) ∙ sym (latest_pushed bound_of blank s k b (omega (arith, h))))
      go e false = kept (slot_in cs s t k) (update bytes (slots s k) t (value_of v)) (within k) e

module _ (s : List Binding) (len : ℕ) (now : run.Env ℕ) (e : slots s len ≡ now) (cs : List ℕ) (t : ℕ) (r : Optional) (d : r ≡ slot_in cs s t len) (bytes : ℕ → List ℕ)
    (same : Classes bytes cs) where
  pub look_none : r ≡ None → valued None ≡ find bytes now t
  look_none h = sym (ap (λ x. find bytes x t) (sym e) ∙ found_at bytes cs same s t len ∙ ap (value_at s) (sym d ∙ h))

  pub look_some : (p : ℕ) → r ≡ Some p → (v : Value) → v ≡ value_in s p → valued (Some v) ≡ find bytes now t
  look_some p h v w = ap (λ x. valued (Some x)) w ∙ sym (ap (λ x. find bytes x t) (sym e) ∙ found_at bytes cs same s t len ∙ ap (value_at s) (sym d ∙ h))

  module _ (v : Value) (l : len ≤ length s) where
    changed : Changed bytes cs same s t v len r (update bytes now t (value_of v))
    changed = rw (d, ← e) (updated_at bytes cs same s t v len l)

    pub store_none : r ≡ None → update bytes now t (value_of v) ≡ none
    store_none h = subst (λ x. Changed bytes cs same s t v len x (update bytes now t (value_of v))) h changed

    pub store_some : (p : ℕ) → r ≡ Some p → (b : Binding) → bound_of b ≡ run.named (name s p) (value_of v) → update bytes now t (value_of v) ≡ some (slots (set s p b) len)
    store_some p h = subst (λ x. Changed bytes cs same s t v len x (update bytes now t (value_of v))) h changed
