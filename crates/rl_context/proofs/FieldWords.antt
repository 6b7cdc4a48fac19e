-- A field as a word.
-- Assumes nothing.
use Rattle.std.proofs.Common.{◌≡◌, ℕ, ◌+◌, ◌*◌, ◌/◌, ◌%◌, ◌<◌, Bool, true, false, cond, T, sym, ap, ◌∙◌, subst, ap₂, arith}
use mathlib.Core.List as list
use Rattle.rl_spec.specs.declared.Sort.{Sort}
use Rattle.rl_spec.specs.Bytes.{num_at, u16_at}
use Rattle.rl_spec.specs.Schema.{sort_of, width_of}
use Rattle.rl_spec.specs.Image.{num, pair, first, is_pair, field_in}
use Rattle.rl_arena.specs.Find.{number_in}
use Rattle.rl_arena.proofs.Laws.{first_number}
use Rattle.rl_encode.specs.Words.{word_field}

pub two_words : (x y : ℕ) → x < 65536 → pair ((x + y * 65536) % 65536) ((x + y * 65536) / 65536) ≡ pair x y
two_words x y h = ap₂ pair a b
  where
    a : (x + y * 65536) % 65536 ≡ x
    a = omega arith

    b : (x + y * 65536) / 65536 ≡ y
    b = omega arith

module _ (s : list.List ℕ) (code place : ℕ) (o : Sort) (e : o ≡ sort_of code) (b : Bool) (f : b ≡ is_pair o) where
  pub word_pair : (x y : ℕ) → b ≡ true → x < 65536 → x ≡ u16_at s place → y ≡ u16_at s (place + 2) → word_field (sort_of code) (x + y * 65536) ≡ field_in s (sort_of code) place
  word_pair x y t h p q =
      rw (← e, ← f, t) (two_words x y h ∙ ap₂ pair p q)

  pub word_number : (m : ℕ) → b ≡ false → m ≡ width_of o → (r : ℕ) → r ≡ number_in s place m → word_field (sort_of code) r ≡ field_in s (sort_of code) place
  word_number m t g r h = go (is_pair (sort_of code)) (ap is_pair (sym e) ∙ sym f ∙ t) (first_number s code place o e b f t m g r h)
    where
      go : (d : Bool) → d ≡ false → r ≡ first (cond d (pair (u16_at s place) (u16_at s (place + 2))) (num (num_at s place (width_of (sort_of code))))) →
          cond d (pair (r % 65536) (r / 65536)) (num r) ≡ cond d (pair (u16_at s place) (u16_at s (place + 2))) (num (num_at s place (width_of (sort_of code))))
      go true q k = absurd (subst T q tt)
      go false q k = ap num k
