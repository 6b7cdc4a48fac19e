-- The ways out of `text` and `message`. Assumes nothing.
use Prim.Native.Nat.{ℕ, ◌≤◌, ◌<◌}
use mathlib.Core.Path.{◌≡◌, refl, sym, ap, ◌∙◌}
use mathlib.Core.List.{List}
use lib.ListN.{length, replicate}
use borrow.Author.Tests.{lt-ltb, le-ltb}
use Rattle.rl_spec.specs.Answers.{Answer, accepted, refused, MessageAnswer, TextAnswer}
use Rattle.std.specs.Prelude.{Ok}
use Rattle.rl_spec.specs.declared.ArenaNo.{ArenaNo}
use Rattle.rl_spec.specs.declared.Cause.{Cause}
use Rattle.rl_spec.specs.declared.Cause.TheVariants.{NoSuchCall, NoSuchText}
use Rattle.rl_spec.specs.declared.Counts.{Counts}
use Rattle.rl_spec.specs.declared.TextPart.{TextPart}
use Rattle.rl_spec.specs.Read.{answer_of, work_of, starts_of}
use Rattle.rl_spec.specs.Image.{Image, image_of}
use Rattle.rl_spec.specs.Fold.{work_unless}
use Rattle.rl_spec.specs.Found.{image_found}
use Rattle.rl_spec.specs.Texts.{text_part, text_by, text_for, text_number, message_at, message_from, message_answer, message_bytes, message_out, message_number}
use Rattle.rl_images.specs.Reading.Found.{found_is_image}
use Rattle.rl_images.specs.Reading.Refusals.{zeros_unless, refused_work}
use Rattle.rl_lines.specs.Lines.{padded}

module _ (s : List ℕ) (k : ℕ) (a : Answer) (e : a ≡ answer_of s k) where
  -- ---- texts

  module _ (t : ℕ) where
    text_by_lem : (x : Answer) → a ≡ x → text_for s k t ≡ text_by s t x
    unfolding text_for
    text_by_lem x f = ap (text_by s t) (sym e ∙ f)

    text_work : (x : TextAnswer) → text_for s k t ≡ x → (w : List ℕ) → w ≡ work_unless (text_number x) s k → w ≡ work_unless (text_number (text_for s k t)) s k
    text_work x f w g = g ∙ ap (λ y. work_unless (text_number y) s k) (sym f)

    module _ (q : Cause) (n : ℕ) (f : a ≡ refused q n) where
      pub text_unread_work : (w : List ℕ) → w ≡ work_of s k → w ≡ work_unless (text_number (text_for s k t)) s k
      text_unread_work w g = text_work (refused q n) (text_by_lem _ f) w (g ∙ refused_work s k q n (sym e ∙ f) ∙ zeros_unless q s k)

    module _ (no : ArenaNo) (c : Counts) (f : a ≡ accepted no c) where
      module _ (h : c.texts ≤ t) where
        text_none : text_for s k t ≡ refused NoSuchText 0
        text_none = text_by_lem _ f ∙ rw (le-ltb t c.texts h) refl

        pub text_missing_work : (v w : List ℕ) → length v ≡ k → w ≡ replicate (length v) 0 → w ≡ work_unless (text_number (text_for s k t)) s k
        text_missing_work v w n z = text_work _ text_none w (z ∙ ap (λ (i : ℕ). replicate i 0) n ∙ zeros_unless NoSuchText s k)

      module _ (h : t < c.texts) (part : TextPart) (g : (p : List ℕ) → part ≡ text_part (image_found s p c) t) where
        text_some : text_for s k t ≡ Ok part
        text_some =
            text_by_lem _ f ∙ rw (lt-ltb t c.texts h)
            (ap Ok (sym (g (starts_of s k) ∙ ap (λ (im : Image). text_part im t) (found_is_image s k no c (sym e ∙ f)))))

        pub text_found : Ok part ≡ text_for s k t
        text_found = sym text_some

        pub text_found_work : (w : List ℕ) → w ≡ work_of s k → w ≡ work_unless (text_number (text_for s k t)) s k
        text_found_work w y = text_work _ text_some w y

  -- ---- messages

  module _ (call number : ℕ) where
    message_by_lem : (x : Answer) → a ≡ x → message_answer s k call number ≡ message_from s call number x
    unfolding message_answer
    message_by_lem x f = ap (message_from s call number) (sym e ∙ f)

    module _ (x : MessageAnswer) (f : message_answer s k call number ≡ x) where
      message_work : (w : List ℕ) → w ≡ work_unless (message_number x) s k → w ≡ work_unless (message_number (message_answer s k call number)) s k
      message_work w g = g ∙ ap (λ y. work_unless (message_number y) s k) (sym f)

      message_bytes_lem : (o : List ℕ) → o ≡ message_bytes s call number x → o ≡ message_out s k call number
      unfolding message_out
      message_bytes_lem o g = g ∙ ap (message_bytes s call number) (sym f)

    module _ (q : Cause) (n : ℕ) (f : a ≡ refused q n) where
      pub message_unread_out : (m : ℕ) (o : List ℕ) → m ≡ 65535 → o ≡ replicate m 0 → o ≡ message_out s k call number
      message_unread_out m o l z = message_bytes_lem _ (message_by_lem _ f) o (z ∙ ap (λ (i : ℕ). replicate i 0) l)

      pub message_unread_work : (w : List ℕ) → w ≡ work_of s k → w ≡ work_unless (message_number (message_answer s k call number)) s k
      message_unread_work w g = message_work _ (message_by_lem _ f) w (g ∙ refused_work s k q n (sym e ∙ f) ∙ zeros_unless q s k)

    module _ (no : ArenaNo) (c : Counts) (f : a ≡ accepted no c) where
      module _ (h : c.calls ≤ call) where
        message_none : message_answer s k call number ≡ refused NoSuchCall 0
        message_none = message_by_lem _ f ∙ rw (le-ltb call c.calls h) refl

        pub message_missing_out : (m : ℕ) (o : List ℕ) → m ≡ 65535 → o ≡ replicate m 0 → o ≡ message_out s k call number
        message_missing_out m o l z = message_bytes_lem _ message_none o (z ∙ ap (λ (i : ℕ). replicate i 0) l)

        pub message_missing_work : (v w : List ℕ) → length v ≡ k → w ≡ replicate (length v) 0 → w ≡ work_unless (message_number (message_answer s k call number)) s k
        message_missing_work v w n z = message_work _ message_none w (z ∙ ap (λ (i : ℕ). replicate i 0) n ∙ zeros_unless NoSuchCall s k)

      module _ (h : call < c.calls) (n : ℕ) (g : n ≡ length (message_at (image_of s) call number)) where
        message_some : message_answer s k call number ≡ Ok n
        message_some = message_by_lem _ f ∙ rw (lt-ltb call c.calls h, ← g) refl

        pub message_found : Ok n ≡ message_answer s k call number
        message_found = sym message_some

        pub message_found_out : (o : List ℕ) → o ≡ padded 65535 (message_at (image_of s) call number) → o ≡ message_out s k call number
        message_found_out o y = message_bytes_lem _ message_some o (y ∙ rw (← g) refl)

        pub message_found_work : (w : List ℕ) → w ≡ work_of s k → w ≡ work_unless (message_number (message_answer s k call number)) s k
        message_found_work w y = message_work _ message_some w y
