-- Putting a text and then another is putting both; what has no room is left out.
-- Assumes nothing.
use Prim.Native.Nat.{ℕ, ◌+◌, ◌≤◌, ◌<◌, min}
use mathlib.Core.Path.{◌≡◌, refl, sym, ap, ◌∙◌}
use mathlib.Core.List.{List, [], ◌++◌, append_assoc, append-nil}
use native.Mathlib.Omega.{arith}
use lib.ListN.{length, take, drop, length-append}
use lib.Seq.{paste, paste-zero, length-paste, take-paste, drop-paste, drop-drop, take-append-add, take-append-le, take-length, take_all}
use Rattle.rl_laws.specs.Tests.{by_ltb}
use Rattle.rl_text_out.specs.Put.{fitting, with_text, after_text}

-- ---- how much fits

module _ (out : List ℕ) (at : ℕ) (a : List ℕ) where
  within_text : fitting out at a ≤ length a
  unfolding fitting
  within_text = omega arith

  within_room : at ≤ length out → at + fitting out at a ≤ length out
  unfolding fitting
  within_room h = omega arith

  none_past : length out ≤ at → fitting out at a ≡ 0
  unfolding fitting
  none_past h = omega arith

  -- a part of the text fits only where that fills the buffer
  fills : at ≤ length out → fitting out at a < length a → at + fitting out at a ≡ length out
  unfolding fitting
  fills h l = omega arith

  -- ---- the buffer keeps its length

  pub length_with : length (with_text out at a) ≡ length out
  unfolding with_text
  length_with =
      by_ltb (length out) at (λ l. rw (none_past (omega arith)) (sym (ap length (paste-zero out at a))))
      (λ l. length-paste out at a _ (within_room l) within_text)

  pub with_past : length out ≤ at → with_text out at a ≡ out
  unfolding with_text
  with_past h = rw (none_past h) (sym (paste-zero out at a))

  pub after_past : length out ≤ at → after_text out at a ≡ at
  unfolding after_text
  after_past h = omega (arith, none_past h)

-- ---- no text

module _ (out : List ℕ) (at : ℕ) where
  none_of_none : fitting out at [] ≡ 0
  unfolding fitting
  none_of_none = omega arith

  pub after_nothing : after_text out at [] ≡ at
  unfolding after_text
  after_nothing = omega (arith, none_of_none)

  pub with_nothing : with_text out at [] ≡ out
  unfolding with_text
  with_nothing = rw none_of_none (sym (paste-zero out at []))

-- ---- two texts

-- the beginning of two texts, where only the end of the second is left out, or all of it
take_two : (a b : List ℕ) (f g : ℕ) → f ≤ length a → (f < length a → g ≡ 0) → take (f + g) (a ++ b) ≡ take f a ++ take g b
take_two a b f g h k =
    by_ltb f (length a)
    (λ l. let z : g ≡ 0 = k l in let y : f + 0 ≡ f = omega arith in rw (z, y) (take-append-le f a b h ∙ sym (append-nil (take f a))))
    (λ l. let e : f ≡ length a = omega arith in rw e (take-append-add a b g ∙ ap (λ (t : List ℕ). t ++ take g b) (sym (take-length a))))

module _ (out a b : List ℕ) (at f g : ℕ) (h : at ≤ length out) (k : f ≤ length a) where
  after_both : drop (at + f + g) (paste out at a f) ≡ drop (at + (f + g)) out
  after_both =
      let e : at + f + g ≡ at + (f + g) = omega arith in
      sym (drop-drop g (at + f) (paste out at a f)) ∙ ap (drop g) (drop-paste out at a f h k) ∙ drop-drop g (at + f) out ∙ ap (λ (n : ℕ). drop n out) e

  paste_two : (f < length a → g ≡ 0) → paste (paste out at a f) (at + f) b g ≡ paste out at (a ++ b) (f + g)
  paste_two l = rw (take-paste out at a f h k, after_both, take_two a b f g k l, append_assoc (take at out) (take f a) (take g b)) refl

module _ (out : List ℕ) (at : ℕ) (a b : List ℕ) where
  rest : ℕ
  rest = fitting (with_text out at a) (after_text out at a) b

  both_fit : fitting out at (a ++ b) ≡ fitting out at a + rest
  unfolding fitting after_text rest
  both_fit = rw (length-append, length_with) (omega arith)

  pub after_after : after_text (with_text out at a) (after_text out at a) b ≡ after_text out at (a ++ b)
  unfolding after_text rest
  after_after = omega (arith, both_fit)

  none_rests : at ≤ length out → fitting out at a < length a → rest ≡ 0
  unfolding rest after_text
  none_rests h l = none_past (with_text out at a) (at + fitting out at a) b (rw length_with (omega (arith, fills out at a h l)))

  two_pasted : at ≤ length out → with_text (with_text out at a) (after_text out at a) b ≡ with_text out at (a ++ b)
  unfolding with_text after_text rest
  two_pasted h = paste_two out a b at (fitting out at a) rest h (within_text out at a) (none_rests h) ∙ ap (λ (n : ℕ). paste out at (a ++ b) n) (sym both_fit)

  pub with_with : with_text (with_text out at a) (after_text out at a) b ≡ with_text out at (a ++ b)
  with_with = by_ltb (length out) at past two_pasted
    where
      past : length out < at → with_text (with_text out at a) (after_text out at a) b ≡ with_text out at (a ++ b)
      past l =
          let h : length out ≤ at = omega arith in
          rw (with_past out at a h, after_past out at a h) (with_past out at b h ∙ sym (with_past out at (a ++ b) h))

-- the place and the buffer after a text
abbrev pub Puts : List ℕ → ℕ → List ℕ → List ℕ → ℕ → Type 0
Puts out at text w r = (r ≡ after_text out at text) × (w ≡ with_text out at text)

-- a text, as another account of it has it; and a text after another
module _ (out : List ℕ) (at : ℕ) where
  pub after_as : (t u : List ℕ) (r : ℕ) → r ≡ after_text out at t → t ≡ u → r ≡ after_text out at u
  after_as t u r e f = e ∙ ap (after_text out at) f

  pub with_as : (t u w : List ℕ) → w ≡ with_text out at t → t ≡ u → w ≡ with_text out at u
  with_as t u w e f = e ∙ ap (with_text out at) f

  pub puts_as : (t u w : List ℕ) (r : ℕ) → Puts out at t w r → t ≡ u → Puts out at u w r
  puts_as t u w r h e = rw e at h

  pub puts_then : (a b w v : List ℕ) (e r : ℕ) → Puts out at a w e → Puts w e b v r → Puts out at (a ++ b) v r
  puts_then a b w v e r f g =
      (g.0 ∙ rw (f.0, f.1) (after_after out at a b), g.1 ∙ rw (f.0, f.1) (with_with out at a b))

-- ---- from the start

pub take_least : (n : ℕ) (t : List ℕ) → take (min (length t) n) t ≡ take n t
take_least n t =
    by_ltb (length t) n
    (λ l. let z : min (length t) n ≡ length t = omega arith in rw z (take-length t ∙ sym (take_all n t (omega arith))))
    (λ l. let z : min (length t) n ≡ n = omega arith in rw z refl)

-- a text stands there as far as there is room, and whole where there is room for it
module _ (room t w : List ℕ) (n : ℕ) where
  pub room_begins : n ≡ after_text room 0 t → w ≡ with_text room 0 t → take n (drop 0 w) ≡ take (length room) t
  unfolding with_text after_text fitting
  room_begins e f =
      let g : fitting room 0 t ≡ min (length t) (length room) = omega arith in
      let k : n ≡ 0 + min (length t) (length room) = omega arith in
      rw (f, k, g) (take-paste room 0 t (min (length t) (length room)) (omega arith) (omega arith) ∙ take_least (length room) t)

  pub room_holds : length t ≤ length room → n ≡ after_text room 0 t → w ≡ with_text room 0 t → take n (drop 0 w) ≡ t
  room_holds h e f = room_begins e f ∙ take_all (length room) t h
