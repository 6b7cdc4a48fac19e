-- Pieces that are put one after the other.
-- Assumes nothing.
use Prim.Native.Nat.{ℕ, ◌+◌}
use mathlib.Core.Path.{◌≡◌, ap, ap₂, ◌∙◌}
use mathlib.Core.List.{List, ◌++◌, append-nil}
use native.Mathlib.Omega.{arith}
use lib.ListN.{length, get_or, drop_of_length-le}
use borrow.Author.Tests.{ne_eqb}
use Rattle.rl_spec.specs.declared.Counts.{Counts}
use Rattle.rl_spec.specs.Image.{bytes_of}
use Rattle.rl_spec.specs.Found.{parameters_at}
use Rattle.rl_images.specs.Encoding.BytesAt.{length_bytes}
use Rattle.rl_text_out.specs.Put.{with_text, after_text}
use Rattle.rl_text_out.proofs.Joined.{with_with, after_after}
use Rattle.rl_encode.specs.Words.{over}
use Rattle.rl_text_out.specs.declared.Out.{Out}
use Rattle.rl_assemble.specs.Pieces.{Puts, statements_at}

pub text_put : {a b : Out} {x y : List ℕ} → x ≡ y → b.bytes.now ≡ with_text a.bytes.now a.at x → b.at ≡ after_text a.bytes.now a.at x → Puts a y b
text_put {a} e f g = record { place = g ∙ ap (after_text a.bytes.now a.at) e; bytes = f ∙ ap (with_text a.bytes.now a.at) e }

module _ {a b c : Out} {x y : List ℕ} where
  pub puts_then : Puts a x b → Puts b y c → Puts a (x ++ y) c
  puts_then p q =
      record {
        place = q.place ∙ ap₂ (λ o i. after_text o i y) p.bytes p.place ∙ after_after a.bytes.now a.at x y;
        bytes = q.bytes ∙ ap₂ (λ o i. with_text o i y) p.bytes p.place ∙ with_with a.bytes.now a.at x y;
      }

-- a slice that is filled by a number
pub filled : (l : List ℕ) (n : ℕ) (two : List ℕ) → length l ≡ 2 → two ≡ over l 0 (bytes_of 2 n) → two ≡ bytes_of 2 n
unfolding over
filled l n two h e =
    e ∙ ap (λ r. bytes_of 2 n ++ r) (drop_of_length-le l {i = 0 + length (bytes_of 2 n)} (omega (arith, length_bytes 2 n))) ∙ append-nil (bytes_of 2 n)

-- ---- places and lengths

pub statements_none : (s p : List ℕ) (c : Counts) (r : ℕ) → c.statements ≡ 0 → r ≡ parameters_at s c → r ≡ statements_at s p c
statements_none s p c r e h = rw e h

pub statements_some : (s p : List ℕ) (c : Counts) (r : ℕ) → (c.statements ≡ 0 → ⊥) → r ≡ get_or p c.expressions 0 → r ≡ statements_at s p c
statements_some s p c r e h = rw (ne_eqb c.statements 0 e) h
