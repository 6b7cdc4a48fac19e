-- Laws for texts and list entries.
-- Assumes nothing.
use Rattle.std.proofs.Common.{◌≡◌, ℕ, ◌+◌, ◌*◌, ◌<◌, ◌≤◌, List, take, drop, sym, refl, ◌∙◌, ne_eqb}
use Rattle.rl_spec.specs.declared.Counts.{Counts}
use Rattle.std.specs.Prelude.{None, Some}
use Rattle.rl_spec.specs.Bytes.{u16_at}
use Rattle.rl_spec.specs.Image.{num, pair, entry_of, text_of}
use Rattle.rl_spec.specs.Ranges.{interval, optional}
use Rattle.rl_spec.specs.Found.{image_found}
use Rattle.rl_spec.specs.Texts.{text_part}
use Rattle.rl_laws.specs.Found.{entry_found, entry_missing, text_found, text_missing, part_found, part_missing}

module _ (s : List ℕ) (c : Counts) where
  pub entry_none : (k : ℕ) → c.lists ≤ k → (p : List ℕ) → 0 ≡ entry_of (image_found s p c) k
  entry_none k h p = sym (entry_missing s p c k h)

  pub entry_is : (k r : ℕ) → k < c.lists → r ≡ u16_at s (23 + c.bytes + c.texts * 5 + k * 3 + 1) → (p : List ℕ) → r ≡ entry_of (image_found s p c) k
  entry_is k r h e p = e ∙ sym (entry_found s p c k h)

  pub part_none : (t : ℕ) → c.texts ≤ t → (p : List ℕ) → record { start = 23; length = 0 } ≡ text_part (image_found s p c) t
  part_none t h p = sym (part_missing s p c t h)

  pub part_is : (t offset size : ℕ) → t < c.texts → offset ≡ u16_at s (23 + c.bytes + t * 5 + 1) → size ≡ u16_at s (23 + c.bytes + t * 5 + 1 + 2) → (p : List ℕ) → record { start = 23 + offset; length = size } ≡ text_part (image_found s p c) t
  part_is t offset size h f g p = rw (f, g) (sym (part_found s p c t h))

  pub text_none : (t : ℕ) (b r : List ℕ) → c.texts ≤ t → r ≡ take 0 (drop 0 b) → (p : List ℕ) → r ≡ text_of (image_found s p c) t
  text_none t b r h e p = e ∙ sym (text_missing s p c t h)

  pub text_is : (t offset size : ℕ) (b r : List ℕ) → t < c.texts → b ≡ take c.bytes (drop 23 s) → offset ≡ u16_at s (23 + c.bytes + t * 5 + 1) → size ≡ u16_at s (23 + c.bytes + t * 5 + 1 + 2) → r ≡ take size (drop offset b) → (p : List ℕ) → r ≡ text_of (image_found s p c) t
  text_is t offset size b r h e f g q p = q ∙ rw (e, f, g) (sym (text_found s p c t h))

pub interval_is : (s : List ℕ) (at first count : ℕ) → first ≡ u16_at s at → count ≡ u16_at s (at + 2) → record { first = first; count = count } ≡ interval (pair (u16_at s at) (u16_at s (at + 2)))
interval_is s at first count e f = cc

pub optional_none : (n : ℕ) (s : List ℕ) (at : ℕ) → n ≡ u16_at s at → n ≡ 65535 → None ≡ optional (num (u16_at s at))
optional_none n s at e h = rw (← e, h) refl

pub optional_some : (n : ℕ) (s : List ℕ) (at : ℕ) → n ≡ u16_at s at → (n ≡ 65535 → ⊥) → Some n ≡ optional (num (u16_at s at))
optional_some n s at e h = rw (← e, ne_eqb n 65535 h) refl
