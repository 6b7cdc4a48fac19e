-- The scalars of a text: encoding and reading back undo each other, and the first scalars of a text are found in its first octets.
-- Assumes nothing.
use Rattle.std.specs.Prelude.{ℕ, zero, suc, ◌+◌, ◌-◌, ◌*◌, ◌/◌, ◌%◌, ◌≤◌, ◌<◌, ◌≡◌, Bool, ◌&&◌, take, drop, T, leb}
use Rattle.std.proofs.Math.Path.{refl, subst}
use Rattle.std.proofs.Common.{sym, ap, ◌∙◌, length-append, length-drop, take-take, lt-ltb, le-ltb, leb-true, le-leb, ne_eqb}
use Rattle.std.proofs.Math.Bool.{true, false, cond}
use mathlib.Core.List.{List, [], ◌∷◌, ◌++◌}
use native.Mathlib.Omega.{arith}
use Rattle.std.proofs.Math.ListN.{length}
use Rattle.std.proofs.Math.Seq.{take-append_seam, drop-append_seam}
use Rattle.std.proofs.lemmas.Bool.{lt-leb}
use Rattle.rl_laws.specs.Tests.{by_ltb, by_eqb}
use Rattle.rl_spec.specs.Utf8.{Range, utf8_char, begins, width_by, char_width, utf8, is_scalar, encode_scalar, encode_text, scalar_of, scalars_by, scalars_of}
use Rattle.rl_spec.specs.Message.{decimal_by, decimal}
use Rattle.rl_images.specs.Reading.Utf8.{All, scalar_low, encode_one, width_scalar, some_octets, Starts, starts, utf8_is_encoded}

-- ---- a character

above : (a b : ℕ) → a + b - a ≡ b
above a b = omega arith

pub scalar_back : (c : ℕ) → scalar_of (encode_scalar c) ≡ c
unfolding scalar_of encode_scalar
scalar_back c =
    by_ltb c 0x80 (λ x. rw (le-leb c 0x7F (omega arith)) refl) λ x.
    by_ltb c 0x800
    (λ y. rw (lt-leb c 0x7F x, le-leb c 0x7FF (omega arith), above 0xC0 (c / 0x40), above 0x80 (c % 0x40)) (omega arith)) λ y.
    by_ltb c 0x10000
    (λ z. rw (
      lt-leb c 0x7F x,
      lt-leb c 0x7FF y,
      le-leb c 0xFFFF (omega arith),
      above 0xE0 (c / 0x1000),
      above 0x80 (c / 0x40 % 0x40),
      above 0x80 (c % 0x40),
    ) (omega arith))
    (λ z. rw (
      lt-leb c 0x7F x,
      lt-leb c 0x7FF y,
      lt-leb c 0xFFFF z,
      above 0xF0 (c / 0x40000),
      above 0x80 (c / 0x1000 % 0x40),
      above 0x80 (c / 0x40 % 0x40),
      above 0x80 (c % 0x40),
    ) (omega arith))

-- at the front of a text that goes on
module _ (c : ℕ) (t : List ℕ) (p : is_scalar c ≡ true) where
  front_taken : take (char_width (encode_scalar c ++ t) 0) (encode_scalar c ++ t) ≡ encode_scalar c
  front_taken = rw (width_scalar c t p) (take-append_seam (encode_scalar c) t)

  front_dropped : drop (char_width (encode_scalar c ++ t) 0) (encode_scalar c ++ t) ≡ t
  front_dropped = rw (width_scalar c t p) (drop-append_seam (encode_scalar c) t)

-- where a character starts, its octets encode its number
abbrev Fronted : List ℕ → Type 0
Fronted s =
    (is_scalar (scalar_of (take (char_width s 0) s)) ≡ true)
    × (encode_scalar (scalar_of (take (char_width s 0) s)) ≡ take (char_width s 0) s)
    × (char_width s 0 ≤ length s)

fronted : (c : ℕ) (t : List ℕ) → is_scalar c ≡ true → Fronted (encode_scalar c ++ t)
fronted c t p =
    let e : scalar_of (take (char_width (encode_scalar c ++ t) 0) (encode_scalar c ++ t)) ≡ c = ap scalar_of (front_taken c t p) ∙ scalar_back c in (
      rw e p,
      rw e (sym (front_taken c t p)),
      rw (width_scalar c t p, length-append (encode_scalar c) t) (omega arith),
    )

module _ (s : List ℕ) (h : char_width s 0 ≡ 0 → ⊥) where
  at_front : Fronted s
  unfolding Starts
  at_front = let (c, t, p, q, l) = starts s h in subst Fronted q (fronted c t p)

  pub front_scalar : is_scalar (scalar_of (take (char_width s 0) s)) ≡ true
  front_scalar = at_front.0

  pub front_octets : encode_scalar (scalar_of (take (char_width s 0) s)) ≡ take (char_width s 0) s
  front_octets = at_front.1

  pub front_within : char_width s 0 ≤ length s
  front_within = at_front.2

-- ---- a text

-- none where no character starts
module _ (n : ℕ) (s : List ℕ) where
  pub no_scalars : char_width s 0 ≡ 0 → scalars_by (suc n) s ≡ []
  unfolding scalars_by
  no_scalars e = rw e refl

  pub more_scalars : (char_width s 0 ≡ 0 → ⊥) → scalars_by (suc n) s ≡ scalar_of (take (char_width s 0) s) ∷ scalars_by n (drop (char_width s 0) s)
  unfolding scalars_by
  more_scalars h = rw (ne_eqb (char_width s 0) 0 h) refl

  -- what stands behind it is shorter
  behind : (char_width s 0 ≡ 0 → ⊥) → length s ≤ suc n → length (drop (char_width s 0) s) ≤ n
  behind h l = simp (length-drop (char_width s 0) s) (omega arith)

-- THEOREM: they are scalars, whatever the octets are
pub all_scalars : (n : ℕ) (s : List ℕ) → All is_scalar (scalars_by n s)
unfolding scalars_by
all_scalars zero s = tt
all_scalars (suc n) s =
    by_eqb (char_width s 0) 0
    (λ e. subst (All is_scalar) (sym (no_scalars n s e)) tt)
    (λ h. subst (All is_scalar) (sym (more_scalars n s h)) (front_scalar s h, all_scalars n (drop (char_width s 0) s)))

pub no_width : char_width [] 0 ≡ 0
unfolding char_width width_by begins utf8_char
no_width = refl

-- THEOREM: the scalars of what encodes scalars are these
pub encoded_back : (n : ℕ) (cs : List ℕ) → All is_scalar cs → length (encode_text cs) ≤ n → scalars_by n (encode_text cs) ≡ cs
unfolding encode_text scalars_by
encoded_back zero [] a l = refl
encoded_back zero (c ∷ cs) a l = absurd (omega (arith, some_octets c, length-append (encode_scalar c) (encode_text cs)))
encoded_back (suc n) [] a l = no_scalars n [] no_width
encoded_back (suc n) (c ∷ cs) a l =
    let t : List ℕ = encode_text cs in
    let w : char_width (encode_scalar c ++ t) 0 ≡ length (encode_scalar c) = width_scalar c t a.0 in
    more_scalars n (encode_scalar c ++ t) (λ e. omega (arith, some_octets c))
    ∙ rw (front_taken c t a.0, front_dropped c t a.0, scalar_back c)
    (ap (λ (x : List ℕ). c ∷ x) (encoded_back n cs a.1 (omega (arith, some_octets c, length-append (encode_scalar c) t))))

pub scalars_encoded : (cs : List ℕ) → All is_scalar cs → scalars_of (encode_text cs) ≡ cs
unfolding scalars_of
scalars_encoded cs a = encoded_back (length (encode_text cs)) cs a (omega arith)

-- THEOREM: and what encodes the scalars of UTF-8 is that text
pub encoded_scalars : (s : List ℕ) → utf8 s ≡ true → encode_text (scalars_of s) ≡ s
encoded_scalars s u = let (cs, (a, e)) = utf8_is_encoded s u in rw (← e) (ap encode_text (scalars_encoded cs a))

-- ---- ASCII: each octet is a scalar

abbrev pub Ascii : List ℕ → Type 0
Ascii [] = Unit {0}
Ascii (b ∷ s) = (b < 128) × Ascii s

pub ascii_append : (s t : List ℕ) → Ascii s → Ascii t → Ascii (s ++ t)
ascii_append [] t p q = q
ascii_append (b ∷ s) t p q = (p.0, ascii_append s t p.1 q)

pub ascii_encoded : (s : List ℕ) → Ascii s → encode_text s ≡ s
unfolding encode_text
ascii_encoded [] p = refl
ascii_encoded (b ∷ s) p = rw (encode_one b (omega (arith, p.0)), ascii_encoded s p.1) refl

ascii_all : (s : List ℕ) → Ascii s → All is_scalar s
ascii_all [] p = tt
ascii_all (b ∷ s) p = (scalar_low b (omega (arith, p.0)), ascii_all s p.1)

pub ascii_scalars : (s : List ℕ) → Ascii s → scalars_of s ≡ s
ascii_scalars s p = rw (ascii_encoded s p) at (scalars_encoded s (ascii_all s p))

decimal_by_lem : (k n : ℕ) → Ascii (decimal_by k n)
unfolding decimal_by
decimal_by_lem zero n = tt
decimal_by_lem (suc k) n =
    by_ltb n 10
    (λ l. rw (lt-ltb n 10 l) (omega arith, tt))
    (λ l. rw (le-ltb n 10 l) (ascii_append (decimal_by k (n / 10)) _ (decimal_by_lem k (n / 10)) (omega arith, tt)))

pub decimal_ascii : (n : ℕ) → Ascii (decimal n)
unfolding decimal
decimal_ascii n = decimal_by_lem 20 n

-- ---- the first n of them

-- THEOREM: they are the same, however many are asked for at first
pub first_scalars : (n m : ℕ) (s : List ℕ) → length s ≤ m → take n (scalars_by m s) ≡ scalars_by n s
unfolding scalars_by
first_scalars zero m s l = refl
first_scalars (suc n) zero [] l = sym (no_scalars n [] no_width)
first_scalars (suc n) zero (b ∷ s) l = absurd (omega arith)
first_scalars (suc n) (suc m) s l =
    by_eqb (char_width s 0) 0
    (λ e. rw (no_scalars m s e, no_scalars n s e) refl)
    (λ h. rw (more_scalars m s h, more_scalars n s h)
    (ap (λ (x : List ℕ). scalar_of (take (char_width s 0) s) ∷ x) (first_scalars n m (drop (char_width s 0) s) (behind m s h l))))

-- a character has at most four octets
abbrev short : ℕ → List (List Range) → Bool
short m [] = true
short m (f ∷ fs) = leb (length f) m && short m fs

short_first : {P : Type 0} (a b : Bool) → T (a && b) → (a ≡ true → T b → P) → P
short_first true b t f = f refl t
short_first false b t f = absurd t

module _ (s : List ℕ) (m : ℕ) where
  width_most : (fs : List (List Range)) → T (short m fs) → width_by fs s ≤ m
  unfolding width_by
  width_most [] t = omega arith
  width_most (f ∷ fs) t =
      short_first (leb (length f) m) (short m fs) t λ x y.
      go (begins f s) (leb-true (length f) m x) (width_most fs y)
    where
      go : (b : Bool) → length f ≤ m → width_by fs s ≤ m → cond b (length f) (width_by fs s) ≤ m
      go true p q = p
      go false p q = q

pub width_four : (s : List ℕ) → char_width s 0 ≤ 4
unfolding char_width utf8_char
width_four s = width_most s 4 utf8_char tt

begins_taken : (f : List Range) (m : ℕ) (s : List ℕ) → length f ≤ m → begins f (take m s) ≡ begins f s
unfolding begins
begins_taken [] m s l = refl
begins_taken (r ∷ rs) zero s l = absurd (omega arith)
begins_taken (r ∷ rs) (suc m) [] l = refl
begins_taken (r ∷ rs) (suc m) (b ∷ s) l = rw (begins_taken rs m s (omega arith)) refl

width_by_taken : (k m : ℕ) (s : List ℕ) (fs : List (List Range)) → T (short k fs) → k ≤ m → width_by fs (take m s) ≡ width_by fs s
unfolding width_by
width_by_taken k m s [] t l = refl
width_by_taken k m s (f ∷ fs) t l =
    short_first (leb (length f) k) (short k fs) t λ x y.
    rw (begins_taken f m s (omega (arith, leb-true (length f) k x)), width_by_taken k m s fs y l) refl

width_taken : (m : ℕ) (s : List ℕ) → 4 ≤ m → char_width (take m s) 0 ≡ char_width s 0
unfolding char_width utf8_char
width_taken m s l = width_by_taken 4 m s utf8_char tt l

drop_taken : (w m : ℕ) (s : List ℕ) → drop w (take m s) ≡ take (m - w) (drop w s)
drop_taken zero m s = let z : m - zero ≡ m = omega arith in rw z refl
drop_taken (suc w) zero s = let z : zero - suc w ≡ zero = omega arith in rw z refl
drop_taken (suc w) (suc m) [] = sym (nothing (suc m - suc w))
  where
    nothing : (n : ℕ) → take {A = ℕ} n [] ≡ []
    nothing zero = refl
    nothing (suc n) = refl
drop_taken (suc w) (suc m) (b ∷ s) = let z : suc m - suc w ≡ m - w = omega arith in drop_taken w m s ∙ rw z refl

-- THEOREM: so n of them stand in the first 4 n octets
pub scalars_taken : (n m : ℕ) (s : List ℕ) → n * 4 ≤ m → scalars_by n (take m s) ≡ scalars_by n s
unfolding scalars_by
scalars_taken zero m s l = refl
scalars_taken (suc n) m s l =
    let w : ℕ = char_width s 0 in
    let four : w ≤ 4 = width_four s in
    rw (width_taken m s (omega arith), take-take w m s (omega arith), drop_taken w m s)
    (rw (scalars_taken n (m - w) (drop w s) (omega arith)) refl)
