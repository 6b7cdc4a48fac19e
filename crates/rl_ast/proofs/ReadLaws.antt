-- What is left by reading, at each way out.
-- Assumes nothing.
use Prim.Native.Nat.{ℕ, ◌≤◌, ◌<◌}
use mathlib.Core.Path.{◌≡◌, refl, sym, ap, ◌∙◌}
use mathlib.Core.List.{List}
use lib.ListN.{length, replicate}
use borrow.Author.Tests.{lt-ltb, le-ltb}
use Rattle.rl_spec.specs.declared.Counts.{Counts}
use Rattle.rl_spec.specs.declared.Next.{Next}
use Rattle.rl_spec.specs.declared.Refusal.{Refusal}
use Rattle.rl_spec.specs.declared.Cause.TheVariants.{ImageTooLong, WorkTooShort}
use Rattle.std.specs.Prelude.{Ok, Err}
use Rattle.rl_spec.specs.Answers.{Answer, accepted, at_zero, Step}
use Rattle.rl_spec.specs.Bytes.{u32_at}
use Rattle.rl_spec.specs.Read.{counts_of, bad, out_of, content_of, most_starts, read_of, answer_of, work_of, starts_of}

pub cleared : (v w : List ℕ) (k : ℕ) → w ≡ replicate (length v) 0 → length v ≡ k → w ≡ replicate k 0
cleared v w k e f = e ∙ ap (λ (n : ℕ). replicate n 0) f

-- what is promised of the reader's answer, the work slice of k entries, and the starts
abbrev Promised : List ℕ → ℕ → Answer → List ℕ → List ℕ → Type 0
Promised s k r w p = (r ≡ answer_of s k) × ((w ≡ work_of s k) × (p ≡ starts_of s k))

module _ (s : List ℕ) (k : ℕ) where
  stopped : (r : Refusal) → bad r.cause r.place ≡ read_of s k → (w p : List ℕ) → w ≡ replicate k 0 → p ≡ replicate most_starts 0 → Promised s k (Err r) w p
  unfolding answer_of work_of starts_of
  stopped r e w p f g = rw (← e) (refl, (f, g))

  pub read_long : 65535 < length s → (w p : List ℕ) → w ≡ replicate k 0 → p ≡ replicate most_starts 0 → Promised s k (Err (at_zero ImageTooLong)) w p
  unfolding read_of
  read_long h w p f g = stopped (at_zero ImageTooLong) (rw (lt-ltb 65535 (length s) h) refl) w p f g

  module _ (h : length s ≤ 65535) where
    pub read_short : k < 8192 → (w p : List ℕ) → w ≡ replicate k 0 → p ≡ replicate most_starts 0 → Promised s k (Err (at_zero WorkTooShort)) w p
    unfolding read_of
    read_short q w p f g =
        stopped (at_zero WorkTooShort) (rw (le-ltb 65535 (length s) h, lt-ltb k 8192 q) refl) w p f g

    module _ (q : 8192 ≤ k) (r : Step) (w p w' p' : List ℕ) (f : w ≡ replicate k 0) (g : p ≡ replicate most_starts 0) (e : out_of r w' p' ≡ content_of s w p) where
      read_is : out_of r w' p' ≡ read_of s k
      unfolding read_of
      read_is = rw (le-ltb 65535 (length s) h, le-ltb k 8192 q, ← f, ← g) e

      pub read_stop : (x : Refusal) → r ≡ Err x → (w'' p'' : List ℕ) → w'' ≡ replicate k 0 → p'' ≡ replicate most_starts 0 → Promised s k (Err x) w'' p''
      read_stop x y w'' p'' u v = stopped x (ap (λ (i : Step). out_of i w' p') (sym y) ∙ read_is) w'' p'' u v

      pub read_good : (x : Next) → r ≡ Ok x → (n : ℕ) → n ≡ u32_at s 1 → (c : Counts) → c ≡ counts_of s → Promised s k (accepted (record { 0 = n }) c) w' p'
      unfolding answer_of work_of starts_of
      read_good x y n u c v = rw (← read_is, y, u, v) (refl, (refl, refl))
