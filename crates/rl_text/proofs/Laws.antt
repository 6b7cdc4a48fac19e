-- The laws that the functions' proofs cite: one for each way out.
-- Assumes nothing.
use Prim.Native.Nat.{ℕ, zero, suc, ◌+◌, ◌-◌, ◌^◌, ◌≤◌, ◌<◌}
use mathlib.Core.Path.{◌≡◌, refl, sym, ap, ◌∙◌}
use mathlib.Core.Bool.{Bool, true, false, cond, ◌&&◌, false≢true}
use mathlib.Core.List.{List, [], ◌∷◌, ◌++◌}
use native.Mathlib.Omega.{arith}
use native.Mathlib.Numerals.{add-one}
use lib.ListN.{length, get_or, take, drop, drop_of_length-le, length-drop}
use lib.Seq.{drop-cons, drop-drop}
use lib.Dec.{T, ltb, leb}
use borrow.Author.Tests.{ltb-true, le-leb, ne_eqb}
use mir.Val.{Fits}
use mir.Syntax.{w64}
use Rattle.rl_laws.specs.Tests.{by_ltb}
use Rattle.rl_laws.specs.Within.{within_yes, within_low, within_high}
use Rattle.rl_text.specs.Highest.{highest_of}
use Rattle.rl_spec.specs.Utf8.{Range, ◌to◌, within, utf8_tail, utf8_char, begins, width_by, char_width, octets, utf8}

-- ---- tests
and_true : (a : Bool) → a && true ≡ a
and_true true = refl
and_true false = refl

-- ---- one octet
module _ (r : Range) (rs : List Range) (s : List ℕ) (at : ℕ) where
  begins_past : length s ≤ at → begins (r ∷ rs) (drop at s) ≡ false
  unfolding begins
  begins_past p = rw (drop_of_length-le s p) refl

  begins_here : at < length s → begins (r ∷ rs) (drop at s) ≡ within r (get_or s at 0) && begins rs (drop (at + 1) s)
  unfolding begins
  begins_here p = rw (drop-cons s at 0 p, add-one at) refl

module _ (s : List ℕ) (at low high : ℕ) where
  pub octet_past : length s ≤ at → false ≡ begins (low to high ∷ []) (drop at s)
  octet_past p = sym (begins_past (low to high) [] s at p)

  module _ (p : at < length s) where
    pub octet_low : get_or s at 0 < low → false ≡ begins (low to high ∷ []) (drop at s)
    octet_low q = rw (begins_here (low to high) [] s at p, within_low low high (get_or s at 0) q) refl

    pub octet_high : low ≤ get_or s at 0 → leb (get_or s at 0) high ≡ begins (low to high ∷ []) (drop at s)
    unfolding within begins
    octet_high q = rw (begins_here (low to high) [] s at p, le-leb low (get_or s at 0) q) (sym (and_true (leb (get_or s at 0) high)))

-- ---- the octets after the first
begins_split : (r : Range) (rs : List Range) (t : List ℕ) → begins (r ∷ rs) t ≡ begins (r ∷ []) t && begins rs (drop 1 t)
unfolding begins
begins_split r rs [] = refl
begins_split r rs (b ∷ t) = rw (and_true (within r b)) refl

begins_next : (r : Range) (rs : List Range) (s : List ℕ) (m n : ℕ) → m + 1 ≡ n → begins (r ∷ rs) (drop m s) ≡ begins (r ∷ []) (drop m s) && begins rs (drop n s)
begins_next r rs s m n e = rw (← e, ← drop-drop 1 m s) (begins_split r rs (drop m s))

-- n where octets of these ranges follow, else 0
abbrev after : ℕ → List Range → List ℕ → ℕ
after n rs t = cond (begins rs t) n 0

abbrev three : Range → List Range
three r = r ∷ utf8_tail ∷ []

abbrev four : Range → List Range
four r = r ∷ utf8_tail ∷ utf8_tail ∷ []

module _ (s : List ℕ) (at : ℕ) (r : Range) where
  three_is : begins (three r) (drop (at + 1) s) ≡ begins (r ∷ []) (drop (at + 1) s) && begins (utf8_tail ∷ []) (drop (at + 2) s)
  three_is = begins_next r (utf8_tail ∷ []) s (at + 1) (at + 2) (omega arith)

  four_is : begins (four r) (drop (at + 1) s) ≡ begins (r ∷ []) (drop (at + 1) s) && (begins (utf8_tail ∷ []) (drop (at + 2) s) && begins (utf8_tail ∷ []) (drop (at + 3) s))
  four_is =
      rw (← begins_next utf8_tail (utf8_tail ∷ []) s (at + 2) (at + 3) (omega arith))
      (begins_next r (utf8_tail ∷ utf8_tail ∷ []) s (at + 1) (at + 2) (omega arith))

  module _ {a : Bool} (x : a ≡ begins (r ∷ []) (drop (at + 1) s)) where
    pub three_second : a ≡ false → 0 ≡ after 3 (three r) (drop (at + 1) s)
    three_second p = rw (three_is, ← x, p) refl

    pub four_second : a ≡ false → 0 ≡ after 4 (four r) (drop (at + 1) s)
    four_second p = rw (four_is, ← x, p) refl

    module _ (p : a ≡ true) {b : Bool} (y : b ≡ begins (utf8_tail ∷ []) (drop (at + 2) s)) where
      pub three_third : b ≡ false → 0 ≡ after 3 (three r) (drop (at + 1) s)
      three_third q = rw (three_is, ← x, p, ← y, q) refl

      pub three_yes : b ≡ true → 3 ≡ after 3 (three r) (drop (at + 1) s)
      three_yes q = rw (three_is, ← x, p, ← y, q) refl

      pub four_third : b ≡ false → 0 ≡ after 4 (four r) (drop (at + 1) s)
      four_third q = rw (four_is, ← x, p, ← y, q) refl

      module _ (q : b ≡ true) {c : Bool} (z : c ≡ begins (utf8_tail ∷ []) (drop (at + 3) s)) where
        pub four_fourth : c ≡ false → 0 ≡ after 4 (four r) (drop (at + 1) s)
        four_fourth f = rw (four_is, ← x, p, ← y, q, ← z, f) refl

        pub four_yes : c ≡ true → 4 ≡ after 4 (four r) (drop (at + 1) s)
        four_yes f = rw (four_is, ← x, p, ← y, q, ← z, f) refl

-- ---- the alternatives, of which at most one takes b as its first octet
abbrev pub every : (List Range → Bool) → List (List Range) → Bool
every f [] = true
every f (r ∷ rs) = cond (f r) (every f rs) false

abbrev pub above : ℕ → List Range → Bool
above m [] = false
above m ((l to h) ∷ rs) = ltb m l

abbrev below : ℕ → List Range → Bool
below m [] = false
below m ((l to h) ∷ rs) = ltb h m

pub by : {P : Type 0} (x : Bool) (y : Bool) → T (cond x y false) → (x ≡ true → T y → P) → P
by true y t f = f refl t
by false y t f = absurd t

module _ (m b : ℕ) (t : List ℕ) where
  pub none_above : (fs : List (List Range)) → T (every (above m) fs) → b ≤ m → width_by fs (b ∷ t) ≡ 0
  unfolding width_by begins
  none_above [] w p = refl
  none_above ([] ∷ fs) w p = absurd w
  none_above (((l to h) ∷ rs) ∷ fs) w p =
      by (ltb m l) (every (above m) fs) w
      (λ e v. rw (within_low l h b (omega (arith, ltb-true m l e))) (none_above fs v p))

  none_below : (fs gs : List (List Range)) → T (every (below m) fs) → m ≤ b → width_by (fs ++ gs) (b ∷ t) ≡ width_by gs (b ∷ t)
  unfolding width_by begins
  none_below [] gs w p = refl
  none_below ([] ∷ fs) gs w p = absurd w
  none_below (((l to h) ∷ rs) ∷ fs) gs w p =
      by (ltb h m) (every (below m) fs) w
      (λ e v. rw (within_high l h b (omega (arith, ltb-true h m e))) (none_below fs gs v p))

-- the alternative l to h ∷ rs, between fs and gs
row : (fs : List (List Range)) (l h : ℕ) (rs : List Range) (gs : List (List Range)) → T (every (below l) fs) → T (every (above h) gs) → (b : ℕ) (t : List ℕ) → l ≤ b → b ≤ h → width_by (fs ++ (l to h ∷ rs) ∷ gs) (b ∷ t) ≡ after (suc (length rs)) rs t
unfolding width_by begins
row fs l h rs gs v w b t p q =
    none_below l b t fs ((l to h ∷ rs) ∷ gs) v p ∙ rw (within_yes l h b p q, none_above h b t gs w q) refl

pub width_past : (s : List ℕ) (at : ℕ) → length s ≤ at → 0 ≡ char_width s at
unfolding char_width width_by begins utf8_char
width_past s at p = rw (drop_of_length-le s p) refl

module _ (s : List ℕ) (at : ℕ) (p : at < length s) where
  width_at : width_by utf8_char (get_or s at 0 ∷ drop (at + 1) s) ≡ char_width s at
  unfolding char_width
  width_at = rw (drop-cons s at 0 p, add-one at) refl

  -- the alternative at k
  width_row : (k l h : ℕ) (rs : List Range) → T (every (below l) (take k utf8_char)) → T (every (above h) (drop (suc k) utf8_char)) →
      utf8_char ≡ take k utf8_char ++ (l to h ∷ rs) ∷ drop (suc k) utf8_char → l ≤ get_or s at 0 → get_or s at 0 ≤ h → (r : ℕ) → r ≡ after (suc (length rs)) rs (drop (at + 1) s) → r ≡ char_width s at
  width_row k l h rs v w e x y r f =
      let z = row (take k utf8_char) l h rs (drop (suc k) utf8_char) v w (get_or s at 0) (drop (at + 1) s) x y in
      f ∙ sym (rw (← e) at z) ∙ width_at

  pub width_one : get_or s at 0 < 0x80 → 1 ≡ char_width s at
  unfolding utf8_char begins
  width_one q = width_row 0 0 0x7F [] tt tt refl (omega arith) (omega arith) 1 refl

  pub width_two : 0xC2 ≤ get_or s at 0 → get_or s at 0 < 0xE0 → (r : ℕ) → r ≡ after 2 (utf8_tail ∷ []) (drop (at + 1) s) → r ≡ char_width s at
  unfolding utf8_char
  width_two x y r f = width_row 1 0xC2 0xDF (utf8_tail ∷ []) tt tt refl x (omega arith) r f

  pub width_e0 : get_or s at 0 ≡ 0xE0 → (r : ℕ) → r ≡ after 3 (three (0xA0 to 0xBF)) (drop (at + 1) s) → r ≡ char_width s at
  unfolding utf8_char
  width_e0 x r f = width_row 2 0xE0 0xE0 (three (0xA0 to 0xBF)) tt tt refl (omega arith) (omega arith) r f

  pub width_ed : get_or s at 0 ≡ 0xED → (r : ℕ) → r ≡ after 3 (three (0x80 to 0x9F)) (drop (at + 1) s) → r ≡ char_width s at
  unfolding utf8_char
  width_ed x r f = width_row 4 0xED 0xED (three (0x80 to 0x9F)) tt tt refl (omega arith) (omega arith) r f

  pub width_three : 0xE0 ≤ get_or s at 0 → (get_or s at 0 ≡ 0xE0 → ⊥) → (get_or s at 0 ≡ 0xED → ⊥) → get_or s at 0 < 0xF0 → (r : ℕ) → r ≡ after 3 (three utf8_tail) (drop (at + 1) s) → r ≡ char_width s at
  unfolding utf8_char
  width_three x y z q r f =
      by_ltb (get_or s at 0) 0xED
      (λ i. width_row 3 0xE1 0xEC (three utf8_tail) tt tt refl (omega arith) (omega arith) r f)
      (λ i. width_row 5 0xEE 0xEF (three utf8_tail) tt tt refl (omega arith) (omega arith) r f)

  pub width_f0 : get_or s at 0 ≡ 0xF0 → (r : ℕ) → r ≡ after 4 (four (0x90 to 0xBF)) (drop (at + 1) s) → r ≡ char_width s at
  unfolding utf8_char
  width_f0 x r f = width_row 6 0xF0 0xF0 (four (0x90 to 0xBF)) tt tt refl (omega arith) (omega arith) r f

  pub width_four : 0xF0 ≤ get_or s at 0 → (get_or s at 0 ≡ 0xF0 → ⊥) → get_or s at 0 < 0xF4 → (r : ℕ) → r ≡ after 4 (four utf8_tail) (drop (at + 1) s) → r ≡ char_width s at
  unfolding utf8_char
  width_four x y z r f = width_row 7 0xF1 0xF3 (four utf8_tail) tt tt refl (omega arith) (omega arith) r f

  pub width_f4 : get_or s at 0 ≡ 0xF4 → (r : ℕ) → r ≡ after 4 (four (0x80 to 0x8F)) (drop (at + 1) s) → r ≡ char_width s at
  unfolding utf8_char
  width_f4 x r f = width_row 8 0xF4 0xF4 (four (0x80 to 0x8F)) tt tt refl (omega arith) (omega arith) r f

  -- between the alternatives
  width_none : (k m n : ℕ) → T (every (below m) (take k utf8_char)) → T (every (above n) (drop k utf8_char)) → utf8_char ≡ take k utf8_char ++ drop k utf8_char → m ≤ get_or s at 0 → get_or s at 0 ≤ n → 0 ≡ char_width s at
  width_none k m n v w e x y =
      let z = none_below m (get_or s at 0) (drop (at + 1) s) (take k utf8_char) (drop k utf8_char) v x in
      sym (none_above n (get_or s at 0) (drop (at + 1) s) (drop k utf8_char) w y) ∙ sym (rw (← e) at z) ∙ width_at

  pub width_gap : 0x80 ≤ get_or s at 0 → get_or s at 0 < 0xC2 → 0 ≡ char_width s at
  unfolding utf8_char
  width_gap x y = width_none 1 0x80 0xC1 tt tt refl x (omega arith)

  pub width_far : 0xF4 ≤ get_or s at 0 → (get_or s at 0 ≡ 0xF4 → ⊥) → 0 ≡ char_width s at
  unfolding utf8_char
  width_far x y = width_none 9 0xF5 (get_or s at 0) tt tt refl (omega arith) (omega arith)

-- ---- the text. whole is what the loop has to answer, and v its invariant
pub begins_length : (rs : List Range) (t : List ℕ) → begins rs t ≡ true → length rs ≤ length t
unfolding begins
begins_length [] t e = omega arith
begins_length (r ∷ rs) [] e = absurd (false≢true e)
begins_length (r ∷ rs) (b ∷ t) e = go (within r b) e (begins_length rs t)
  where
    go : (x : Bool) → x && begins rs t ≡ true → (begins rs t ≡ true → length rs ≤ length t) → suc (length rs) ≤ suc (length t)
    go true f k = omega (arith, k f)
    go false f k = absurd (false≢true f)

pub width_length : (fs : List (List Range)) (t : List ℕ) → width_by fs t ≤ length t
unfolding width_by
width_length [] t = omega arith
width_length (f ∷ fs) t = go (begins f t) (begins_length f t) (width_length fs t)
  where
    go : (x : Bool) → (x ≡ true → length f ≤ length t) → width_by fs t ≤ length t → cond x (length f) (width_by fs t) ≤ length t
    go true g k = g refl
    go false g k = k

pub octets_skip : (n : ℕ) (t : List ℕ) → n ≤ length t → octets n t ≡ utf8 (drop n t)
unfolding octets utf8
octets_skip zero t p = refl
octets_skip (suc n) [] p = absurd (omega arith)
octets_skip (suc n) (b ∷ t) p = octets_skip n t (omega arith)

-- a text goes on after its first character
pub utf8_next : (t : List ℕ) (n : ℕ) → n ≡ width_by utf8_char t → (n ≡ 0 → ⊥) → utf8 t ≡ utf8 (drop n t)
unfolding octets utf8 char_width
utf8_next t zero e p = absurd (p refl)
utf8_next [] (suc n) e p = absurd (omega (arith, width_length utf8_char []))
utf8_next (b ∷ t) (suc n) e p =
    let z : suc n - 1 ≡ n = omega arith in
    rw (← e, ne_eqb (suc n) 0 p, z) (octets_skip n t (omega (arith, width_length utf8_char (b ∷ t))))

module _ (s : List ℕ) (i : ℕ) (whole : Bool) (v : whole ≡ utf8 (drop i s)) where
  pub text_end : length s ≤ i → true ≡ whole
  unfolding utf8 octets
  text_end p = rw (v, drop_of_length-le s p) refl

  module _ (p : i < length s) where
    pub text_bad : (n : ℕ) → n ≡ char_width s i → n ≡ 0 → false ≡ whole
    unfolding utf8 octets char_width
    text_bad n e q =
        let z : width_by utf8_char (drop i s) ≡ 0 = sym e ∙ q in
        let w : width_by utf8_char (get_or s i 0 ∷ drop (suc i) s) ≡ 0 = rw (drop-cons s i 0 p) at z in
        rw (v, drop-cons s i 0 p, w) refl

    pub text_more : (n : ℕ) → n ≡ char_width s i → (n ≡ 0 → ⊥) → whole ≡ utf8 (drop (i + n) s)
    unfolding char_width
    text_more n e q = v ∙ utf8_next (drop i s) n e q ∙ ap utf8 (drop-drop n i s)

    pub text_ascii : get_or s i 0 < 0x80 → whole ≡ utf8 (drop (i + 1) s)
    text_ascii q = text_more 1 (width_one s i p q) (λ e. omega arith)

-- ---- all of it ASCII
module _ (s : List ℕ) where
  ascii : (n : ℕ) → n ≤ length s → highest_of s n < 0x80 → utf8 s ≡ utf8 (drop n s)
  unfolding highest_of
  ascii zero p q = refl
  ascii (suc n) p q =
      ascii n (omega arith) (omega arith)
      ∙ text_ascii s n (utf8 (drop n s)) refl (omega arith) (omega arith)
      ∙ rw (add-one n) refl

  pub text_all_ascii : (m : ℕ) → m ≡ highest_of s (length s) → m < 0x80 → true ≡ utf8 s
  text_all_ascii m e h =
      text_end s (length s) (utf8 s) (ascii (length s) (omega arith) (omega arith)) (omega arith)

pub text_within : (s : List ℕ) (i n : ℕ) → i ≤ length s → n ≡ char_width s i → i + n ≤ length s
unfolding char_width
text_within s i n p e = omega (arith, width_length utf8_char (drop i s), length-drop i s)

pub text_fits : (s : List ℕ) (i n : ℕ) → i < length s → length s < 2 ^ 64 → n ≡ char_width s i → Fits w64 (i + n)
text_fits s i n p q e = omega (arith, text_within s i n (omega arith) e)

-- ---- by function
pub ruleset octet_laws = (octet_past, octet_low, octet_high)

pub ruleset three_laws = (three_second, three_third, three_yes)

pub ruleset four_laws = (four_second, four_third, four_fourth, four_yes)

pub ruleset width_laws = (width_past, width_one, width_gap, width_two, width_e0, width_ed, width_three, width_f0, width_four, width_f4, width_far)

pub ruleset text_laws = (text_all_ascii, text_end, text_bad, text_more, text_ascii, text_within, text_fits)
