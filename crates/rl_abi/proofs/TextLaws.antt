-- One law for each way out of texts, messages and pages for C and Rust.
-- Assumes nothing.
use Prim.Native.Nat.{ℕ, ◌+◌, ◌*◌, ◌^◌, ◌≤◌}
use mathlib.Core.Path.{◌≡◌, refl, sym, ap, subst, ◌∙◌}
use mathlib.Core.Bool.{Bool, true, false, cond}
use mathlib.Core.List.{List}
use native.Mathlib.Omega.{arith}
use lib.Dec.{ltb}
use lib.ListN.{length}
use Rattle.rl_spec.specs.Answers.{Answer, refused, MessageAnswer, PagesAnswer, TextAnswer}
use Rattle.std.specs.Prelude.{Ok, Err}
use Rattle.rl_spec.specs.declared.Cause.TheVariants.{NoSuchCall, NoSuchText, PagesTooShort}
use Rattle.rl_spec.specs.declared.TextPart.{TextPart}
use Rattle.rl_spec.specs.Read.{answer_of}
use Rattle.rl_spec.specs.Image.{image_of}
use Rattle.rl_spec.specs.Texts.{text_part, text_by, text_for, message_at, message_from, message_answer}
use Rattle.rl_spec.specs.Pages.{pages_of, pages_from, pages_answer}
use Rattle.rl_spec.specs.Boundary.{text_packed, message_packed, pages_packed}
use Rattle.rl_boundary.specs.Packing.{packed_by, place_of}
use Rattle.rl_abi.proofs.Laws.{count_packed}
use Rattle.rl_images.specs.Reading.Places.{place_small}

-- ---- texts

text_placed : (s : List ℕ) (k t : ℕ) → place_of (text_for s k t) ≤ 65535
unfolding text_for
text_placed s k t = go (answer_of s k) refl
  where
    chosen : (x : Bool) (part : TextPart) → place_of (cond x (Ok part) (refused NoSuchText 0)) ≤ 65535
    chosen true part = omega arith
    chosen false part = omega arith

    go : (a : Answer) → answer_of s k ≡ a → place_of (text_by s t a) ≤ 65535
    go (Err r) e = place_small s k r.cause r.place e
    go (Ok h) e = chosen (ltb t h.counts.texts) (text_part (image_of s) t)

module _ (s : List ℕ) (k t : ℕ) (a : TextAnswer) (e : a ≡ text_for s k t) where
  pub text_near : place_of a ≤ 65535
  text_near = subst (λ (x : TextAnswer). place_of x ≤ 65535) (sym e) (text_placed s k t)

  pub text_packed_lem : (r : ℕ) → r ≡ packed_by (λ (part : TextPart). part.start + part.length * 2 ^ 16) a → r ≡ text_packed (text_for s k t)
  text_packed_lem r g = g ∙ go a ∙ ap text_packed e
    where
      go : (x : TextAnswer) → packed_by (λ (part : TextPart). part.start + part.length * 2 ^ 16) x ≡ text_packed x
      go (Ok part) = refl
      go (Err q) = refl

-- ---- messages

message_placed : (s : List ℕ) (k call number : ℕ) → place_of (message_answer s k call number) ≤ 65535
unfolding message_answer
message_placed s k call number = go (answer_of s k) refl
  where
    chosen : (x : Bool) (n : ℕ) → place_of (cond x (Ok n) (refused NoSuchCall 0)) ≤ 65535
    chosen true n = omega arith
    chosen false n = omega arith

    go : (a : Answer) → answer_of s k ≡ a → place_of (message_from s call number a) ≤ 65535
    go (Err r) e = place_small s k r.cause r.place e
    go (Ok h) e = chosen (ltb call h.counts.calls) (length (message_at (image_of s) call number))

module _ (s : List ℕ) (k call number : ℕ) (a : MessageAnswer) (e : a ≡ message_answer s k call number) where
  pub message_near : place_of a ≤ 65535
  message_near = subst (λ (x : MessageAnswer). place_of x ≤ 65535) (sym e) (message_placed s k call number)

  pub message_packed_lem : (r : ℕ) → r ≡ packed_by (λ n. n) a → r ≡ message_packed (message_answer s k call number)
  message_packed_lem r g = g ∙ count_packed a ∙ ap message_packed e

-- ---- pages

pages_placed : (s : List ℕ) (k room : ℕ) → place_of (pages_answer s k room) ≤ 65535
unfolding pages_answer
pages_placed s k room = go (answer_of s k) refl
  where
    chosen : (x : Bool) (n : ℕ) → place_of (cond x (refused PagesTooShort 0) (Ok n)) ≤ 65535
    chosen true n = omega arith
    chosen false n = omega arith

    go : (a : Answer) → answer_of s k ≡ a → place_of (pages_from s room a) ≤ 65535
    go (Err r) e = place_small s k r.cause r.place e
    go (Ok h) e = chosen (ltb room (length (pages_of (image_of s) h.counts.calls))) (length (pages_of (image_of s) h.counts.calls))

module _ (s : List ℕ) (k room : ℕ) (a : PagesAnswer) (e : a ≡ pages_answer s k room) where
  pub pages_near : place_of a ≤ 65535
  pages_near = subst (λ (x : PagesAnswer). place_of x ≤ 65535) (sym e) (pages_placed s k room)

  pub pages_packed_lem : (r : ℕ) → r ≡ packed_by (λ n. n) a → r ≡ pages_packed (pages_answer s k room)
  pages_packed_lem r g = g ∙ count_packed a ∙ ap pages_packed e
