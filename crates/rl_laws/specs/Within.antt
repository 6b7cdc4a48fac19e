-- A number in a range, or outside it.
-- Assumes nothing.
use Rattle.std.specs.Prelude.{ℕ, ◌≤◌, ◌<◌, ◌≡◌, true, false, leb}
use Rattle.std.proofs.Math.Path.{refl}
use borrow.Author.Tests.{le-leb, lt-leb}
use Rattle.rl_spec.specs.Utf8.{◌to◌, within}
use Rattle.rl_laws.specs.Tests.{and_false}

module _ (l h n : ℕ) where
  pub within_yes : l ≤ n → n ≤ h → within (l to h) n ≡ true
  unfolding within
  within_yes p q = rw (le-leb l n p, le-leb n h q) refl

  pub within_low : n < l → within (l to h) n ≡ false
  unfolding within
  within_low p = rw (lt-leb l n p) refl

  pub within_high : h < n → within (l to h) n ≡ false
  unfolding within
  within_high p = rw (lt-leb n h p) (and_false (leb l n))
