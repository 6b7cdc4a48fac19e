-- The ways out of `pages`.
-- Assumes nothing.
use Prim.Native.Nat.{ℕ, ◌≤◌, ◌<◌}
use mathlib.Core.Path.{◌≡◌, refl, sym, ap, ◌∙◌}
use mathlib.Core.List.{List, []}
use native.Mathlib.Omega.{arith}
use lib.ListN.{length, replicate, length-replicate}
use borrow.Author.Tests.{lt-ltb, le-ltb}
use Rattle.rl_spec.specs.Answers.{Answer, accepted, refused, PagesAnswer}
use Rattle.std.specs.Prelude.{Ok}
use Rattle.rl_spec.specs.declared.ArenaNo.{ArenaNo}
use Rattle.rl_spec.specs.declared.Cause.{Cause}
use Rattle.rl_spec.specs.declared.Cause.TheVariants.{PagesTooShort}
use Rattle.rl_spec.specs.declared.Counts.{Counts}
use Rattle.rl_spec.specs.declared.Section.TheVariants.{Calls}
use Rattle.rl_spec.specs.Read.{counts_of, answer_of, work_of}
use Rattle.rl_spec.specs.Image.{image_of}
use Rattle.rl_spec.specs.Fold.{work_unless}
use Rattle.rl_spec.specs.Pages.{pages_of, pages_from, pages_answer, pages_slice, pages_out, pages_number}
use Rattle.rl_laws.specs.Tests.{by_ltb}
use Rattle.rl_images.specs.Reading.Refusals.{zeros_unless, refused_work}
use Rattle.rl_images.specs.Reading.Starts.{section_size, sizes_are_counts}
use Rattle.rl_prover.specs.Reports.{Shown, kept_at}
use Rattle.rl_prover.proofs.ShownLaws.{none_shown, all_shown}
use Rattle.rl_pages.specs.Added.{Adds, answer_at}

module _ (s : List ℕ) (k room : ℕ) (a : Answer) (e : a ≡ answer_of s k) where
  pages_by_lem : (x : Answer) → a ≡ x → pages_answer s k room ≡ pages_from s room x
  unfolding pages_answer
  pages_by_lem x f = ap (pages_from s room) (sym e ∙ f)

  module _ (x : PagesAnswer) (f : pages_answer s k room ≡ x) where
    work_by_lem : (w : List ℕ) → w ≡ work_unless (pages_number x) s k → w ≡ work_unless (pages_number (pages_answer s k room)) s k
    work_by_lem w g = g ∙ ap (λ (y : PagesAnswer). work_unless (pages_number y) s k) (sym f)

    out_by : (o : List ℕ) → o ≡ pages_slice s room x → o ≡ pages_out s k room
    unfolding pages_out
    out_by o g = g ∙ ap (pages_slice s room) (sym f)

  -- ---- the image is refused

  module _ (q : Cause) (n : ℕ) (f : a ≡ refused q n) where
    pub unread_out : (o : List ℕ) → o ≡ replicate room 0 → o ≡ pages_out s k room
    unread_out o z = out_by _ (pages_by_lem _ f) o z

    pub unread_work : (w : List ℕ) → w ≡ work_of s k → w ≡ work_unless (pages_number (pages_answer s k room)) s k
    unread_work w g = work_by_lem _ (pages_by_lem _ f) w (g ∙ refused_work s k q n (sym e ∙ f) ∙ zeros_unless q s k)

  -- ---- the pages are put into a slice of zeros

  module _ (no : ArenaNo) (c : Counts) (f : a ≡ accepted no c) (l : List ℕ) (z : l ≡ replicate room 0)
      (out : List ℕ) (at : ℕ) (adds : Adds l 0 (pages_of (image_of s) c.calls) out at) (n : length out ≡ length l) where
    abbrev bytes : List ℕ
    bytes = pages_of (image_of s) c.calls

    shown : Shown out bytes at
    shown = adds [] (none_shown l room z)

    wide : length out ≡ room
    wide = n ∙ ap length z ∙ length-replicate room 0

    own_calls : (counts_of s).calls ≡ c.calls
    own_calls = sym (section_size s Calls) ∙ sizes_are_counts s k no c (sym e ∙ f) Calls

    long : room < length bytes → pages_answer s k room ≡ refused PagesTooShort 0
    long h = pages_by_lem _ f ∙ rw (lt-ltb room (length bytes) h) refl

    fits : length bytes ≤ room → pages_answer s k room ≡ Ok (length bytes)
    fits h = pages_by_lem _ f ∙ rw (le-ltb room (length bytes) h) refl

    place : length bytes ≡ at
    place = shown.place

    answer_is : answer_at (length out) at ≡ pages_answer s k room
    unfolding answer_at
    answer_is =
        by_ltb room (length bytes)
        (λ h. rw (wide, ← place, lt-ltb room (length bytes) h) (sym (long h)))
        (λ h. rw (wide, ← place, le-ltb room (length bytes) h) (sym (fits h)))

    pub put_answer : (r : PagesAnswer) → r ≡ answer_at (length out) at → r ≡ pages_answer s k room
    put_answer r g = g ∙ answer_is

    kept_is : kept_at (length out) at out ≡ pages_out s k room
    unfolding kept_at
    kept_is =
        by_ltb room (length bytes)
        (λ h. out_by _ (long h) _ (rw (wide, ← place, lt-ltb room (length bytes) h) refl))
        (λ h.
        let w : length out ≡ room = wide in
        let rest = shown.slice ∙ all_shown (length out) (length out) bytes (omega arith) (omega arith) in
        out_by _ (fits h) _ (rw (wide, ← place, le-ltb room (length bytes) h) (rest ∙ rw (own_calls, wide) refl)))

    pub put_out : (last : List ℕ) → last ≡ kept_at (length out) at out → last ≡ pages_out s k room
    put_out last g = g ∙ kept_is

    pub put_work : (v w : List ℕ) → v ≡ work_of s k → length v ≡ k → w ≡ kept_at (length out) at v → w ≡ work_unless (pages_number (pages_answer s k room)) s k
    unfolding kept_at
    put_work v w g m i =
        by_ltb room (length bytes)
        (λ h. work_by_lem _ (long h) w (i ∙ rw (wide, ← place, lt-ltb room (length bytes) h, m) (zeros_unless PagesTooShort s k)))
        (λ h. work_by_lem _ (fits h) w (i ∙ rw (wide, ← place, le-ltb room (length bytes) h) g))
