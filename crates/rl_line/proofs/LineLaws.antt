-- Laws for the lines.
-- Assumes nothing.
use Prim.Native.Nat.{ℕ, ◌+◌, ◌≤◌}
use mathlib.Core.Path.{◌≡◌, ap, sym, subst, ◌∙◌}
use mathlib.Core.List.{List, ◌++◌, append_assoc}
use lib.ListN.{length, take, drop}
use Rattle.rl_spec.specs.declared.Cause.{Cause}
use Rattle.rl_spec.specs.declared.Counts.{Counts}
use Rattle.rl_spec.specs.declared.Violation.{Violation}
use Rattle.rl_spec.specs.Read.{number_of}
use Rattle.rl_spec.specs.Image.{Image}
use Rattle.rl_spec.specs.Found.{image_found}
use Rattle.rl_spec.specs.Tree.{ascii}
use Rattle.rl_spec.specs.Message.{decimal, opening, default_text, message_with, message_by}
use Rattle.rl_spec.specs.Printed.{refused_line, line_with, line_of}
use Rattle.rl_text_out.specs.Put.{with_text, after_text}
use Rattle.rl_text_out.proofs.Joined.{Puts, puts_then, room_holds}

-- ---- a refusal

pub puts_refused : (out : List ℕ) (q : Cause) (n place : ℕ) (w₁ w₂ w₃ w₄ w : List ℕ) (e₁ e₂ e₃ e₄ r : ℕ)
    → n ≡ number_of q → Puts out 0 (ascii "refused ") w₁ e₁ → Puts w₁ e₁ (decimal n) w₂ e₂ → Puts w₂ e₂ (ascii " at ") w₃ e₃
    → Puts w₃ e₃ (decimal place) w₄ e₄ → Puts w₄ e₄ (ascii "\n") w r → Puts out 0 (refused_line q place) w r
unfolding refused_line
puts_refused out q n place w₁ w₂ w₃ w₄ w e₁ e₂ e₃ e₄ r f a b d g h =
    puts_then out 0 _ _ w₄ w e₄ r
    (puts_then out 0 _ _ w₃ w₄ e₃ e₄
    (puts_then out 0 _ _ w₂ w₃ e₂ e₃
    (puts_then out 0 _ _ w₁ w₂ e₁ e₂ a (rw f at b)) d) g) h

-- ---- a message and a line with a text

pub puts_message : (out t w v : List ℕ) (at e r : ℕ) → Puts out at opening w e → Puts w e t v r → Puts out at (opening ++ t) v r
puts_message out t w v at e r = puts_then out at opening t w v e r

pub puts_line : (out t : List ℕ) (call span : ℕ) (w₁ w₂ w₃ w₄ w₅ w : List ℕ) (e₁ e₂ e₃ e₄ e₅ r : ℕ)
    → Puts out 0 (decimal call) w₁ e₁ → Puts w₁ e₁ (ascii " ") w₂ e₂ → Puts w₂ e₂ (decimal span) w₃ e₃
    → Puts w₃ e₃ (ascii " ") w₄ e₄ → Puts w₄ e₄ (opening ++ t) w₅ e₅ → Puts w₅ e₅ (ascii "\n") w r
    → Puts out 0 (line_with call span t) w r
unfolding line_with
puts_line out t call span w₁ w₂ w₃ w₄ w₅ w e₁ e₂ e₃ e₄ e₅ r a b d f g k =
    let heading : List ℕ = decimal call ++ ascii " " ++ decimal span ++ ascii " " in
    puts_then out 0 _ _ w₅ w e₅ r
    (subst (λ x. Puts out 0 x w₅ e₅) (sym (append_assoc heading opening t))
    (puts_then out 0 _ _ w₄ w₅ e₄ e₅
    (puts_then out 0 _ _ w₃ w₄ e₃ e₄
    (puts_then out 0 _ _ w₂ w₃ e₂ e₃ (puts_then out 0 _ _ w₁ w₂ e₁ e₂ a b) d) f) g)) k

-- ---- the message, where the default text has room

module _ (im : Image) (f : ℕ) (v : Violation) where
  abbrev default : List ℕ
  default = default_text im f v

  message_is : (room u d m : List ℕ) (n : ℕ) → length default ≤ length room → Puts room 0 default u n → d ≡ take n (drop 0 u)
      → m ≡ message_with im f v d → m ≡ message_by im f v
  unfolding message_by
  message_is room u d m n h a e g = g ∙ ap (message_with im f v) (e ∙ room_holds room default u n h a.0 a.1)

  line_is : (room u d m : List ℕ) (call span n : ℕ) → length default ≤ length room → Puts room 0 default u n → d ≡ take n (drop 0 u)
      → m ≡ message_with im f v d → line_with call span m ≡ line_of im f call span v
  unfolding line_of
  line_is room u d m call span n h a e g = ap (line_with call span) (message_is room u d m n h a e g)

module _ (s : List ℕ) (c : Counts) (p : List ℕ) (f : ℕ) (v : Violation) (room u d m out w : List ℕ) (n r : ℕ) where
  abbrev im : Image
  im = image_found s p c

  abbrev PutsDefault : Type 0
  PutsDefault =
      ((q : List ℕ) → n ≡ after_text room 0 (default_text (image_found s q c) f v)) × ((q : List ℕ) → u ≡ with_text room 0 (default_text (image_found s q c) f v))

  abbrev HasRoom : Type 0
  HasRoom = length (default_text im f v) ≤ length room

  -- what is made of the message, where the default text has room
  abbrev PutsMade : List ℕ → Type 0
  PutsMade to = (HasRoom → r ≡ after_text out 0 to) × ((HasRoom → w ≡ with_text out 0 to) × (u ≡ with_text room 0 (default_text im f v)))

  puts_made : (from to : List ℕ) → (HasRoom → from ≡ to) → PutsDefault → Puts out 0 from w r → PutsMade to
  puts_made from to made a k = (λ h. k.0 ∙ ap (after_text out 0) (made h), (λ h. k.1 ∙ ap (with_text out 0) (made h), a.1 p))

  module _ (a : PutsDefault) (e : d ≡ take n (drop 0 u)) (g : m ≡ message_with im f v d) where
    pub puts_report : (call span : ℕ) → Puts out 0 (line_with call span m) w r → PutsMade (line_of im f call span v)
    puts_report call span = puts_made _ _ (λ h. line_is im f v room u d m call span n h (a.0 p, a.1 p) e g) a

    pub puts_told : Puts out 0 (opening ++ m) w r → PutsMade (opening ++ message_by im f v)
    puts_told = puts_made _ _ (λ h. ap (λ x. opening ++ x) (message_is im f v room u d m n h (a.0 p, a.1 p) e g)) a
