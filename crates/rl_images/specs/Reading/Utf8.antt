-- The two accounts of UTF-8 agree: utf8 accepts what encode_text makes of scalars (encoded-is-utf8), and nothing else (utf8-is-encoded).
-- Assumes nothing.
use Prim.Native.Nat.{ℕ, zero, suc, ◌+◌, ◌-◌, ◌*◌, ◌/◌, ◌%◌, ◌≤◌, ◌<◌}
use Rattle.std.specs.Prelude.{◌≡◌, Bool, false, cond, ◌&&◌, ◌||◌, length, take, drop, T, ltb, leb}
use Rattle.std.proofs.Math.Path.{refl, ap}
use Rattle.std.proofs.Common.{sym, ◌∙◌}
use Rattle.std.proofs.Math.Bool.{true}
use Rattle.std.proofs.lemmas.Bool.{false≢true}
use mathlib.Core.List.{List, [], ◌∷◌, ◌++◌, append_assoc}
use native.Mathlib.Omega.{arith}
use borrow.Author.Tests.{ltb-true, leb-true, le-leb, lt-leb, ne_eqb}
use Rattle.rl_laws.specs.Tests.{by_ltb}
use Rattle.rl_laws.specs.Within.{within_yes, within_high}
use Rattle.rl_spec.specs.Utf8.{Range, ◌to◌, within, utf8_tail, utf8_char, begins, width_by, char_width, octets, utf8, is_scalar, encode_scalar, encode_text}

abbrev pub All : (ℕ → Bool) → List ℕ → Type 0
All f [] = Unit {0}
All f (c ∷ cs) = (f c ≡ true) × All f cs

-- ---- tests
both : {P : Type 0} (a b : Bool) → a && b ≡ true → (a ≡ true → b ≡ true → P) → P
both true b e f = f refl e
both false b e f = absurd (false≢true e)

module _ (l h n : ℕ) where
  bounds : {P : Type 0} → within (l to h) n ≡ true → (l ≤ n → n ≤ h → P) → P
  unfolding within
  bounds e f = both (leb l n) (leb n h) e (λ p q. f (leb-true l n p) (leb-true n h q))

tail_in : (b : ℕ) → b < 0x40 → within utf8_tail (0x80 + b) ≡ true
tail_in b p = within_yes 0x80 0xBF (0x80 + b) (omega arith) (omega arith)

-- ---- scalars
pub scalar_low : (c : ℕ) → c ≤ 0xD7FF → is_scalar c ≡ true
unfolding is_scalar
scalar_low c p = rw (within_yes 0 0xD7FF c (omega arith) p) refl

scalar_high : (c : ℕ) → 0xE000 ≤ c → c ≤ 0x10FFFF → is_scalar c ≡ true
unfolding is_scalar
scalar_high c p q = rw (within_high 0 0xD7FF c (omega arith), within_yes 0xE000 0x10FFFF c p q) refl

pub scalar_cases : {P : Type 0} (c : ℕ) → is_scalar c ≡ true → (c ≤ 0xD7FF → P) → (0xE000 ≤ c → c ≤ 0x10FFFF → P) → P
unfolding is_scalar
scalar_cases {P} c e f g = go (within (0 to 0xD7FF) c) refl e
  where
    go : (b : Bool) → within (0 to 0xD7FF) c ≡ b → b || within (0xE000 to 0x10FFFF) c ≡ true → P
    go true x y = bounds 0 0xD7FF c x (λ p q. f q)
    go false x y = bounds 0xE000 0x10FFFF c y g

-- ---- the octets of a scalar, from the bits that each holds
abbrev two : ℕ → ℕ → ℕ
two x y = x * 0x40 + y

abbrev three : ℕ → ℕ → ℕ → ℕ
three x y z = x * 0x1000 + y * 0x40 + z

abbrev four : ℕ → ℕ → ℕ → ℕ → ℕ
four x y z w = x * 0x40000 + y * 0x1000 + z * 0x40 + w

pub encode_one : (c : ℕ) → c ≤ 0x7F → encode_scalar c ≡ c ∷ []
unfolding encode_scalar
encode_one c p = rw (le-leb c 0x7F p) refl

module _ (c x y : ℕ) (b : y < 0x40) where
  encode_two : c ≡ two x y → 0x80 ≤ c → c ≤ 0x7FF → encode_scalar c ≡ (0xC0 + x) ∷ (0x80 + y) ∷ []
  unfolding encode_scalar
  encode_two e p q =
      let i : c / 0x40 ≡ x = omega arith in
      let j : c % 0x40 ≡ y = omega arith in
      rw (lt-leb c 0x7F p, le-leb c 0x7FF q, i, j) refl

  module _ (z : ℕ) (d : z < 0x40) where
    encode_three : c ≡ three x y z → 0x800 ≤ c → c ≤ 0xFFFF → encode_scalar c ≡ (0xE0 + x) ∷ (0x80 + y) ∷ (0x80 + z) ∷ []
    unfolding encode_scalar
    encode_three e p q =
        let i : c / 0x1000 ≡ x = omega arith in
        let j : c / 0x40 % 0x40 ≡ y = omega arith in
        let k : c % 0x40 ≡ z = omega arith in
        rw (lt-leb c 0x7F (omega arith), lt-leb c 0x7FF p, le-leb c 0xFFFF q, i, j, k) refl

    module _ (w : ℕ) (f : w < 0x40) where
      encode_four : c ≡ four x y z w → 0x10000 ≤ c → encode_scalar c ≡ (0xF0 + x) ∷ (0x80 + y) ∷ (0x80 + z) ∷ (0x80 + w) ∷ []
      unfolding encode_scalar
      encode_four e p =
          let i : c / 0x40000 ≡ x = omega arith in
          let j : c / 0x1000 % 0x40 ≡ y = omega arith in
          let k : c / 0x40 % 0x40 ≡ z = omega arith in
          let m : c % 0x40 ≡ w = omega arith in
          rw (lt-leb c 0x7F (omega arith), lt-leb c 0x7FF (omega arith), lt-leb c 0xFFFF p, i, j, k, m) refl

-- ---- the alternatives
-- each ends, in its first octet, below m
abbrev below : ℕ → List (List Range) → Bool
below m [] = true
below m ([] ∷ fs) = false
below m (((l to h) ∷ rs) ∷ fs) = ltb h m && below m fs

under : {P : Type 0} (a b : Bool) → T (a && b) → (a ≡ true → T b → P) → P
under true b t f = f refl t
under false b t f = absurd t

module _ (l h : ℕ) (rs : List Range) (gs : List (List Range)) (b : ℕ) (t : List ℕ) (p : l ≤ b) (q : b ≤ h) (e : begins rs t ≡ true) where
  row : (fs : List (List Range)) → T (below l fs) → width_by (fs ++ (l to h ∷ rs) ∷ gs) (b ∷ t) ≡ suc (length rs)
  unfolding width_by begins
  row [] v = rw (within_yes l h b p q, e) refl
  row ([] ∷ fs) v = absurd v
  row (((m to n) ∷ xs) ∷ fs) v =
      under (ltb n l) (below l fs) v
      (λ x y. rw (within_high m n b (omega (arith, ltb-true n l x))) (row fs y))

-- the alternative at k is f
abbrev At : ℕ → List Range → Type 0
At k f = utf8_char ≡ take k utf8_char ++ f ∷ drop (suc k) utf8_char

-- ---- what encode_text makes is accepted
module _ (k l h : ℕ) (v : T (below l (take k utf8_char))) where
  width_row : (rs : List Range) → At k (l to h ∷ rs) → (b : ℕ) (t : List ℕ) → l ≤ b → b ≤ h → begins rs t ≡ true → char_width (b ∷ t) 0 ≡ suc (length rs)
  unfolding char_width
  width_row rs e b t p q x =
      ap (λ (fs : List (List Range)). width_by fs (b ∷ t)) e ∙ row l h rs (drop (suc k) utf8_char) b t p q x (take k utf8_char) v

  module _ (c : ℕ) (t : List ℕ) where
    width_one : At k (l to h ∷ []) → c ≤ 0x7F → l ≤ c → c ≤ h → char_width (encode_scalar c ++ t) 0 ≡ length (encode_scalar c)
    unfolding begins
    width_one e a p q = rw (encode_one c a, width_row [] e c t p q refl) refl

    width_two : At k (l to h ∷ utf8_tail ∷ []) → 0x80 ≤ c → c ≤ 0x7FF → l ≤ 0xC0 + c / 0x40 → 0xC0 + c / 0x40 ≤ h → char_width (encode_scalar c ++ t) 0 ≡ length (encode_scalar c)
    unfolding begins
    width_two e a b p q =
        let y : c % 0x40 < 0x40 = omega arith in
        let u : List ℕ = (0x80 + c % 0x40) ∷ t in
        let x : begins (utf8_tail ∷ []) u ≡ true = rw (tail_in (c % 0x40) y) refl in
        rw (
          encode_two c (c / 0x40) (c % 0x40) y (omega arith) a b,
          width_row (utf8_tail ∷ []) e (0xC0 + c / 0x40) u p q x,
        ) refl

    module _ (m n : ℕ) where
      width_three : At k (l to h ∷ m to n ∷ utf8_tail ∷ []) → 0x800 ≤ c → c ≤ 0xFFFF → l ≤ 0xE0 + c / 0x1000 → 0xE0 + c / 0x1000 ≤ h → m ≤ 0x80 + c / 0x40 % 0x40 → 0x80 + c / 0x40 % 0x40 ≤ n → char_width (encode_scalar c ++ t) 0 ≡ length (encode_scalar c)
      unfolding begins
      width_three e a b p q i j =
          let y : c / 0x40 % 0x40 < 0x40 = omega arith in
          let z : c % 0x40 < 0x40 = omega arith in
          let u : List ℕ = (0x80 + c / 0x40 % 0x40) ∷ (0x80 + c % 0x40) ∷ t in
          let x : begins (m to n ∷ utf8_tail ∷ []) u ≡ true = rw (within_yes m n (0x80 + c / 0x40 % 0x40) i j, tail_in (c % 0x40) z) refl in
          rw (
            encode_three c (c / 0x1000) (c / 0x40 % 0x40) y (c % 0x40) z (omega arith) a b,
            width_row (m to n ∷ utf8_tail ∷ []) e (0xE0 + c / 0x1000) u p q x,
          ) refl

      width_four : At k (l to h ∷ m to n ∷ utf8_tail ∷ utf8_tail ∷ []) → 0x10000 ≤ c → l ≤ 0xF0 + c / 0x40000 → 0xF0 + c / 0x40000 ≤ h → m ≤ 0x80 + c / 0x1000 % 0x40 → 0x80 + c / 0x1000 % 0x40 ≤ n → char_width (encode_scalar c ++ t) 0 ≡ length (encode_scalar c)
      unfolding begins
      width_four e a p q i j =
          let y : c / 0x1000 % 0x40 < 0x40 = omega arith in
          let z : c / 0x40 % 0x40 < 0x40 = omega arith in
          let w : c % 0x40 < 0x40 = omega arith in
          let u : List ℕ = (0x80 + c / 0x1000 % 0x40) ∷ (0x80 + c / 0x40 % 0x40) ∷ (0x80 + c % 0x40) ∷ t in
          let x : begins (m to n ∷ utf8_tail ∷ utf8_tail ∷ []) u ≡ true = rw (within_yes m n (0x80 + c / 0x1000 % 0x40) i j, tail_in (c / 0x40 % 0x40) z, tail_in (c % 0x40) w) refl in
          rw (
            encode_four c (c / 0x40000) (c / 0x1000 % 0x40) y (c / 0x40 % 0x40) z (c % 0x40) w (omega arith) a,
            width_row (m to n ∷ utf8_tail ∷ utf8_tail ∷ []) e (0xF0 + c / 0x40000) u p q x,
          ) refl

-- a scalar's octets are a character
pub width_scalar : (c : ℕ) (t : List ℕ) → is_scalar c ≡ true → char_width (encode_scalar c ++ t) 0 ≡ length (encode_scalar c)
unfolding utf8_char
width_scalar c t s =
    scalar_cases c s
    (λ p.
    by_ltb c 0x80 (λ x. width_one 0 0 0x7F tt c t refl (omega arith) (omega arith) (omega arith)) λ a.
    by_ltb c 0x800 (λ x. width_two 1 0xC2 0xDF tt c t refl a (omega arith) (omega arith) (omega arith)) λ b.
    by_ltb c 0x1000 (λ x. width_three 2 0xE0 0xE0 tt c t 0xA0 0xBF refl b (omega arith) (omega arith) (omega arith) (omega arith) (omega arith)) λ d.
    by_ltb c 0xD000 (λ x. width_three 3 0xE1 0xEC tt c t 0x80 0xBF refl b (omega arith) (omega arith) (omega arith) (omega arith) (omega arith)) λ f.
    width_three 4 0xED 0xED tt c t 0x80 0x9F refl b (omega arith) (omega arith) (omega arith) (omega arith) (omega arith))
    (λ p q.
    by_ltb c 0x10000 (λ x. width_three 5 0xEE 0xEF tt c t 0x80 0xBF refl (omega arith) (omega arith) (omega arith) (omega arith) (omega arith) (omega arith)) λ a.
    by_ltb c 0x40000 (λ x. width_four 6 0xF0 0xF0 tt c t 0x90 0xBF refl a (omega arith) (omega arith) (omega arith) (omega arith)) λ b.
    by_ltb c 0x100000 (λ x. width_four 7 0xF1 0xF3 tt c t 0x80 0xBF refl a (omega arith) (omega arith) (omega arith) (omega arith)) λ d.
    width_four 8 0xF4 0xF4 tt c t 0x80 0x8F refl a (omega arith) (omega arith) (omega arith) (omega arith))

-- a text goes on after the octets of a character
octets_after : (r t : List ℕ) → octets (length r) (r ++ t) ≡ octets 0 t
unfolding octets
octets_after [] t = refl
octets_after (b ∷ r) t = octets_after r t

character_after : (o t : List ℕ) → char_width (o ++ t) 0 ≡ length o → (length o ≡ 0 → ⊥) → utf8 (o ++ t) ≡ utf8 t
unfolding utf8 octets
character_after [] t w h = absurd (h refl)
character_after (b ∷ r) t w h =
    let z : suc (length r) - 1 ≡ length r = omega arith in
    rw (w, ne_eqb (suc (length r)) 0 (λ e. h e), z) (octets_after r t)

pub some_octets : (c : ℕ) → 0 < length (encode_scalar c)
unfolding encode_scalar
some_octets c =
    by_ltb c 0x80 (λ x. rw (le-leb c 0x7F (omega arith)) (omega arith)) λ x.
    by_ltb c 0x800 (λ y. rw (lt-leb c 0x7F x, le-leb c 0x7FF (omega arith)) (omega arith)) λ y.
    by_ltb c 0x10000
    (λ z. rw (lt-leb c 0x7F x, lt-leb c 0x7FF y, le-leb c 0xFFFF (omega arith)) (omega arith))
    (λ z. rw (lt-leb c 0x7F x, lt-leb c 0x7FF y, lt-leb c 0xFFFF z) (omega arith))

pub utf8_scalar : (c : ℕ) (t : List ℕ) → is_scalar c ≡ true → utf8 (encode_scalar c ++ t) ≡ utf8 t
utf8_scalar c t s = character_after (encode_scalar c) t (width_scalar c t s) (λ e. omega (arith, some_octets c))

-- and after the octets of scalars
pub utf8_text : (cs : List ℕ) (t : List ℕ) → All is_scalar cs → utf8 (encode_text cs ++ t) ≡ utf8 t
unfolding encode_text
utf8_text [] t h = refl
utf8_text (c ∷ cs) t h =
    rw (append_assoc (encode_scalar c) (encode_text cs) t) (utf8_scalar c (encode_text cs ++ t) h.0 ∙ utf8_text cs t h.1)

-- THEOREM: the octets of scalars are UTF-8
pub encoded_is_utf8 : (cs : List ℕ) → All is_scalar cs → utf8 (encode_text cs) ≡ true
unfolding encode_text utf8 octets
encoded_is_utf8 [] h = refl
encoded_is_utf8 (c ∷ cs) h = utf8_scalar c (encode_text cs) h.0 ∙ encoded_is_utf8 cs h.1

-- ---- what utf8 accepts is made by encode_text
abbrev Each : (List Range → Type 0) → List (List Range) → Type 0
Each P [] = Unit {0}
Each P (f ∷ fs) = P f × Each P fs

-- one of the alternatives stands at the front
found : {P : Type 0} (s : List ℕ) (fs : List (List Range)) → (width_by fs s ≡ 0 → ⊥) → Each (λ f. begins f s ≡ true → P) fs → P
unfolding width_by
found s [] n k = absurd (n refl)
found {P} s (f ∷ fs) n k = go (begins f s) refl n (λ m. found s fs m k.1)
  where
    go : (b : Bool) → begins f s ≡ b → (cond b (length f) (width_by fs s) ≡ 0 → ⊥) → ((width_by fs s ≡ 0 → ⊥) → P) → P
    go true e m next = k.0 e
    go false e m next = next m

-- the octet at the front, as what it is above a base
octet : {P : Type 0} (base l h : ℕ) (rs : List Range) (s : List ℕ) → base ≤ l → begins (l to h ∷ rs) s ≡ true → ((x : ℕ) (t : List ℕ) → s ≡ (base + x) ∷ t → l ≤ base + x → base + x ≤ h → begins rs t ≡ true → P) → P
unfolding begins
octet base l h rs [] a e f = absurd (false≢true e)
octet base l h rs (b ∷ t) a e f =
    both (within (l to h) b) (begins rs t) e λ p q.
    bounds l h b p λ i j.
    let w : b ≡ base + (b - base) = omega arith in
    f (b - base) t (ap (λ (n : ℕ). n ∷ t) w) (omega arith) (omega arith) q

-- a scalar's octets stand at the front
unfoldable pub Starts : List ℕ → Type 0
Starts s = (c : ℕ) × (t : List ℕ) × (is_scalar c ≡ true) × (encode_scalar c ++ t ≡ s) × (length t < length s)

abbrev Between : ℕ → ℕ → ℕ → Type 0
Between low high c = (low ≤ c) × (c ≤ high)

module _ (s : List ℕ) where
  starts_one : begins (0 to 0x7F ∷ []) s ≡ true → Starts s
  unfolding Starts
  starts_one e =
      octet 0 0 0x7F [] s (omega arith) e λ c t a p q f.
      let z : 0 + c ≡ c = omega arith in
      (c, t, scalar_low c (omega arith), rw (encode_one c (omega arith), a, z) refl, rw a (omega arith))

  starts_two : begins (0xC2 to 0xDF ∷ utf8_tail ∷ []) s ≡ true → Starts s
  unfolding Starts
  starts_two e =
      octet 0xC0 0xC2 0xDF (utf8_tail ∷ []) s (omega arith) e λ x t a p q f.
      octet 0x80 0x80 0xBF [] t (omega arith) f λ y u b i j g.
      let c : ℕ = two x y in (
        c,
        u,
        scalar_low c (omega arith),
        rw (encode_two c x y (omega arith) refl (omega arith) (omega arith), a, b) refl,
        rw (a, b) (omega arith),
      )

  -- the first octet from l to h, the second from m to n, and so the number from low to high
  module _ (l h m n low high : ℕ) (sc : (c : ℕ) → low ≤ c → c ≤ high → is_scalar c ≡ true) (a : 0x80 ≤ m) (b : n ≤ 0xBF) where
    starts_three : 0xE0 ≤ l → ((x y z : ℕ) → l ≤ 0xE0 + x → 0xE0 + x ≤ h → m ≤ 0x80 + y → 0x80 + y ≤ n → z < 0x40 → Between low high (three x y z)) → 0x800 ≤ low → high ≤ 0xFFFF → begins (l to h ∷ m to n ∷ utf8_tail ∷ []) s ≡ true → Starts s
    unfolding Starts
    starts_three k range low-in high-in e =
        octet 0xE0 l h (m to n ∷ utf8_tail ∷ []) s k e λ x t d p q f.
        octet 0x80 m n (utf8_tail ∷ []) t a f λ y u g i j v.
        octet 0x80 0x80 0xBF [] u (omega arith) v λ z w o r r' v'.
        let c : ℕ = three x y z in
        let c-in = range x y z p q i j (omega arith) in (
          c,
          w,
          sc c c-in.0 c-in.1,
          rw (encode_three c x y (omega arith) z (omega arith) refl (omega arith) (omega arith), d, g, o) refl,
          rw (d, g, o) (omega arith),
        )

    starts_four : 0xF0 ≤ l → ((x y z w : ℕ) → l ≤ 0xF0 + x → 0xF0 + x ≤ h → m ≤ 0x80 + y → 0x80 + y ≤ n → z < 0x40 → w < 0x40 → Between low high (four x y z w)) → 0x10000 ≤ low → begins (l to h ∷ m to n ∷ utf8_tail ∷ utf8_tail ∷ []) s ≡ true → Starts s
    unfolding Starts
    starts_four k range low-in e =
        octet 0xF0 l h (m to n ∷ utf8_tail ∷ utf8_tail ∷ []) s k e λ x t d p q f.
        octet 0x80 m n (utf8_tail ∷ utf8_tail ∷ []) t a f λ y u g i j v.
        octet 0x80 0x80 0xBF (utf8_tail ∷ []) u (omega arith) v λ z w o r r' v'.
        octet 0x80 0x80 0xBF [] w (omega arith) v' λ z' w' o' q' q'' v''.
        let c : ℕ = four x y z z' in
        let c-in = range x y z z' p q i j (omega arith) (omega arith) in (
          c,
          w',
          sc c c-in.0 c-in.1,
          rw (encode_four c x y (omega arith) z (omega arith) z' (omega arith) refl (omega arith), d, g, o, o') refl,
          rw (d, g, o, o') (omega arith),
        )

  pub starts : (char_width s 0 ≡ 0 → ⊥) → Starts s
  unfolding char_width utf8_char
  starts h =
      found s utf8_char h (
        starts_one,
        (
          starts_two,
          (
            starts_three 0xE0 0xE0 0xA0 0xBF 0x800 0xFFF (λ c p q. scalar_low c (omega arith)) (omega arith) (omega arith) (omega arith) (omega arith) (omega arith) (omega arith),
            (
              starts_three 0xE1 0xEC 0x80 0xBF 0x1000 0xCFFF (λ c p q. scalar_low c (omega arith)) (omega arith) (omega arith) (omega arith) (omega arith) (omega arith) (omega arith),
              (
                starts_three 0xED 0xED 0x80 0x9F 0xD000 0xD7FF (λ c p q. scalar_low c q) (omega arith) (omega arith) (omega arith) (omega arith) (omega arith) (omega arith),
                (
                  starts_three 0xEE 0xEF 0x80 0xBF 0xE000 0xFFFF (λ c p q. scalar_high c p (omega arith)) (omega arith) (omega arith) (omega arith) (omega arith) (omega arith) (omega arith),
                  (
                    starts_four 0xF0 0xF0 0x90 0xBF 0x10000 0x3FFFF (λ c p q. scalar_high c (omega arith) (omega arith)) (omega arith) (omega arith) (omega arith) (omega arith) (omega arith),
                    (
                      starts_four 0xF1 0xF3 0x80 0xBF 0x40000 0xFFFFF (λ c p q. scalar_high c (omega arith) (omega arith)) (omega arith) (omega arith) (omega arith) (omega arith) (omega arith),
                      (
                        starts_four 0xF4 0xF4 0x80 0x8F 0x100000 0x10FFFF (λ c p q. scalar_high c (omega arith) q) (omega arith) (omega arith) (omega arith) (omega arith) (omega arith),
                        tt,
                      ),
                    ),
                  ),
                ),
              ),
            ),
          ),
        ),
      )

-- a text that is not empty starts with a scalar's octets
utf8_starts : (b : ℕ) (t : List ℕ) → utf8 (b ∷ t) ≡ true → Starts (b ∷ t)
unfolding utf8 octets
utf8_starts b t e = starts (b ∷ t) (λ z. false≢true (rw z at e))

-- by the length
decode : (n : ℕ) (s : List ℕ) → length s ≤ n → utf8 s ≡ true → (cs : List ℕ) × (All is_scalar cs × (encode_text cs ≡ s))
unfolding encode_text Starts
decode zero [] h e = ([], (tt, refl))
decode zero (b ∷ t) h e = absurd (omega arith)
decode (suc n) [] h e = ([], (tt, refl))
decode (suc n) (b ∷ t) h e =
    let (c, u, p, q, l) = utf8_starts b t e in
    let (cs, r) = decode n u (omega arith) (sym (utf8_scalar c u p) ∙ ap utf8 q ∙ e) in
    (c ∷ cs, ((p, r.0), ap (λ (v : List ℕ). encode_scalar c ++ v) r.1 ∙ q))

-- THEOREM: UTF-8 is the octets of scalars
pub utf8_is_encoded : (s : List ℕ) → utf8 s ≡ true → (cs : List ℕ) × (All is_scalar cs × (encode_text cs ≡ s))
utf8_is_encoded s e = decode (length s) s (omega arith) e

-- a text goes on after a text
pub utf8_append : (s t : List ℕ) → utf8 s ≡ true → utf8 (s ++ t) ≡ utf8 t
utf8_append s t e =
    let (cs, r) = utf8_is_encoded s e in
    rw (← r.1) (utf8_text cs t r.0)
