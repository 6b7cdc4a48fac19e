-- One law for each way out of the loop over calls, and the step to classes and scratch of its own.
-- Assumes nothing.
use Prim.Native.Nat.{ℕ, suc, ◌+◌, ◌-◌, ◌*◌, ◌≤◌, ◌<◌}
use mathlib.Core.Path.{◌≡◌, refl, sym, subst, ◌∙◌}
use mathlib.Core.List.{List, [], ◌++◌, append-nil, append_assoc}
use native.Mathlib.Omega.{arith}
use lib.ListN.{length, replicate, length-replicate}
use Rattle.rl_spec.specs.declared.Counts.{Counts}
use Rattle.rl_spec.specs.Image.{Image, text_of}
use Rattle.rl_spec.specs.Records.{function_at}
use Rattle.rl_spec.specs.Found.{image_found}
use Rattle.rl_spec.specs.Prove.{call_entries, all_entries}
use Rattle.rl_names.specs.Names.{Classes}
use Rattle.rl_prover.specs.Reports.{Shown}
use Rattle.rl_prover.specs.Calls.{Room, ProvesCall}
use Rattle.rl_checker.specs.Entries.{Limited, ProvesEach, ProvesCalls}

-- ---- one call

module _ (s p : List ℕ) (c : Counts) (cs : List ℕ) where
  -- the classes of a slice of 2,048 words each
  abbrev Classed : Type 0
  Classed = (q : List ℕ) → c.texts ≤ length (replicate {A = ℕ} 2048 0) → c.texts ≤ length (replicate {A = ℕ} 2048 0) → Classes (text_of (image_found s q c)) cs

  classed : Classed → Limited (image_found s p c) c → Classes (text_of (image_found s p c)) cs
  classed k h =
      let n : c.texts ≤ length (replicate {A = ℕ} 2048 0) = subst (λ (i : ℕ). c.texts ≤ i) (sym (length-replicate {A = ℕ} 2048 0)) h.texts in
      k p n n

  roomy : Limited (image_found s p c) c → Room (image_found s p c) (replicate 768 0)
  roomy h f = subst (λ (i : ℕ). (function_at (image_found s p c) f).params.count * 3 ≤ i) (sym (length-replicate {A = ℕ} 768 0)) (omega (arith, h.parameters f))

-- ---- the loop

-- before a call: what is shown so far, and what is left
pub record Each (im : Image) (cs w₀ m₀ l₀ : List ℕ) (first end : ℕ) (w m l : List ℕ) (at call : ℕ) : Type 0 where
  pub few : end ≤ first + 256
  pub after : first ≤ call
  pub within : call ≤ end
  pub near : at ≤ (call - first) * 524280
  pub width : length w ≡ length w₀
  pub size : length m ≡ length m₀
  pub room : length l ≡ length l₀
  pub so_far : Classes (text_of im) cs → Room im w₀ → Shown l₀ [] 0 → (e : List ℕ) × (Shown l e at × (all_entries im (end - first) first ≡ e ++ all_entries im (end - call) call))

module _ (im : Image) (cs w₀ m₀ l₀ : List ℕ) (first end : ℕ) where
  pub each_start : first ≤ end → end ≤ first + 256 → Each im cs w₀ m₀ l₀ first end w₀ m₀ l₀ 0 first
  each_start h k =
      record {
        few = k;
        after = omega arith;
        within = h;
        near = omega arith;
        width = refl;
        size = refl;
        room = refl;
        so_far = λ cl ro sh. ([], (sh, refl));
      }

  module _ (w m l : List ℕ) (at call : ℕ) (t : Each im cs w₀ m₀ l₀ first end w m l at call) where
    pub each_end : end ≤ call → ProvesEach im cs first end w₀ l₀ l at
    unfolding all_entries
    each_end h cl ro sh =
        let x = t.so_far cl ro sh in
        let z : end - call ≡ 0 = omega arith in
        let whole : all_entries im (end - first) first ≡ x.0 = x.1.1 ∙ rw z (append-nil x.0) in
        subst (λ (e : List ℕ). Shown l e at) (sym whole) x.1.0

    pub each_bound : at ≤ 134215680
    each_bound = let a = t.few in let b = t.within in let d = t.near in omega arith

    pub each_next : call < end → (w₁ m₁ l₁ : List ℕ) (r : ℕ) → ProvesCall im cs call w l at l₁ r → r ≤ at + 524280 → length w₁ ≡ length w → length m₁ ≡ length m → length l₁ ≡ length l → Each im cs w₀ m₀ l₀ first end w₁ m₁ l₁ r (call + 1)
    unfolding all_entries call_entries
    each_next h w₁ m₁ l₁ r f b x y z =
        let few = t.few in
        let a = t.after in
        let d = t.near in
        let n : end - call ≡ suc (end - (call + 1)) = omega arith in
        record {
          few = few;
          after = omega arith;
          within = omega arith;
          near = omega arith;
          width = x ∙ t.width;
          size = y ∙ t.size;
          room = z ∙ t.room;
          so_far =
              λ cl ro sh.
              let q = t.so_far cl ro sh in
              let own : Room im w = λ g. subst (λ (i : ℕ). (function_at im g).params.count * 3 ≤ i) (sym t.width) (ro g) in (
                q.0 ++ call_entries im call,
                (
                  f (omega arith) cl own q.0 q.1.0,
                  q.1.1 ∙ rw n (sym (append_assoc q.0 (call_entries im call) (all_entries im (end - (call + 1)) (call + 1)))),
                ),
              );
        }

pub calls_prove : (s p : List ℕ) (c : Counts) (cs : List ℕ) (first end : ℕ) (l out : List ℕ) (r : ℕ) → Classed s p c cs → ProvesEach (image_found s p c) cs first end (replicate 768 0) l out r → ProvesCalls (image_found s p c) c first end l out r
calls_prove s p c cs first end l out r k f h sh = f (classed s p c cs k h) (roomy s p c cs h) sh
