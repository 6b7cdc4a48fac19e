-- What the loops that write numbers and records keep.
-- Assumes nothing.
use Prim.Native.Nat.{ℕ, zero, suc, ◌+◌, ◌-◌, ◌/◌, ◌%◌, ◌≤◌, ◌<◌}
use mathlib.Core.Path.{◌≡◌, refl, ap, ap₂, sym, ◌∙◌}
use mathlib.Core.List.{List, [], ◌∷◌, ◌++◌, append_assoc, append-nil}
use native.Mathlib.Omega.{arith}
use native.Mathlib.Nat.{sub-zero}
use lib.ListN.{length, set, length-append}
use Rattle.rl_spec.specs.Image.{bytes_of}
use Rattle.rl_encode.specs.Words.{over}
use Rattle.rl_encode.proofs.Over.{over_none, over_set, length_over}

-- ---- a number: the bytes that are put, and those that are still to be put

pub record Putting (out₀ : List ℕ) (at n width i rest : ℕ) (out : List ℕ) : Type 0 where
  pub put : List ℕ
  pub is : out ≡ over out₀ at put
  pub count : length put ≡ i
  pub whole : bytes_of width n ≡ put ++ bytes_of (width - i) rest

pub putting_none : (out : List ℕ) (at n width : ℕ) → Putting out at n width 0 n out
putting_none out at n width =
    record { put = []; is = sym (over_none out at); count = refl; whole = ap (λ k. bytes_of k n) (sym (sub-zero width)) }

next_byte : (k rest : ℕ) → 0 < k → bytes_of k rest ≡ (rest % 256 ∷ []) ++ bytes_of (k - 1) (rest / 256)
unfolding bytes_of
next_byte zero rest h = absurd (omega arith)
next_byte (suc k) rest h = ap (λ j. rest % 256 ∷ bytes_of j (rest / 256)) q
  where
    q : k ≡ suc k - 1
    q = omega arith

module _ (out₀ : List ℕ) (at n width i rest : ℕ) (out : List ℕ) where
  pub putting_more : Putting out₀ at n width i rest out → i < width → at + width ≤ length out₀ → Putting out₀ at n width (i + 1) (rest / 256) (set out (at + i) (rest % 256))
  putting_more p h room =
      record {
        put = p.put ++ rest % 256 ∷ [];
        is =
            ap₂ (λ o j. set o (at + j) (rest % 256)) p.is (sym p.count)
            ∙ over_set out₀ at p.put (rest % 256) (rw p.count (omega arith));
        count = length-append p.put (rest % 256 ∷ []) ∙ ap (λ j. j + 1) p.count;
        whole =
            p.whole
            ∙ ap (λ s. p.put ++ s) (next_byte (width - i) rest (omega arith) ∙ ap (λ k. rest % 256 ∷ bytes_of k (rest / 256)) one)
            ∙ sym (append_assoc p.put (rest % 256 ∷ []) (bytes_of (width - (i + 1)) (rest / 256)));
      }
    where
      one : width - i - 1 ≡ width - (i + 1)
      one = omega arith

  pub putting_length : Putting out₀ at n width i rest out → i ≤ width → at + width ≤ length out₀ → length out ≡ length out₀
  putting_length p h room = ap length p.is ∙ length_over out₀ at p.put (rw p.count (omega arith))

  pub putting_all : Putting out₀ at n width i rest out → i ≤ width → width ≤ i → out ≡ over out₀ at (bytes_of width n)
  unfolding bytes_of
  putting_all p h k =
      p.is ∙ ap (over out₀ at) (sym (append-nil p.put) ∙ ap (λ j. p.put ++ bytes_of j rest) z ∙ sym p.whole)
    where
      z : 0 ≡ width - i
      z = omega arith

pub ruleset number_laws = (putting_none, putting_more, putting_length)
