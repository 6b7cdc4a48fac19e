-- Bytes that stand at a place of an image, and the numbers read there.
-- Assumes nothing.
use Rattle.std.specs.Prelude.{ℕ, zero, suc, ◌+◌, ◌/◌, ◌^◌, ◌≤◌, ◌<◌, ◌≡◌, refl, true, false, List, [], ◌∷◌, ◌++◌, length, get_or, take, drop}
use Rattle.std.proofs.Common.{ap, ◌∙◌, append_assoc, pow-suc, div-lt_iff_lt-mul, length-append, length-drop, drop_at, drop-drop, lit<}
use native.Mathlib.Omega.{arith}
use Rattle.std.proofs.lemmas.List.{get_or_at, take-append-le, drop-append-le}
use borrow.Author.Tests.{le-ltb, eq-eqb}
use Rattle.rl_spec.specs.Bytes.{num_at, u16_at, u32_at, past}
use Rattle.rl_spec.specs.Fields.{zeros}
use Rattle.rl_spec.specs.Image.{bytes_of}

-- x stands at `at` of s
pub record BytesAt (s : List ℕ) (at : ℕ) (x : List ℕ) : Type 0 where
  pub before : List ℕ
  pub rest : List ℕ
  pub whole : s ≡ before ++ (x ++ rest)
  pub place : length before ≡ at

module _ {s : List ℕ} {at : ℕ} where
  inside : {x : List ℕ} → BytesAt s at x → at + length x ≤ length s
  inside {x} st = omega (arith, simp length-append at (ap length st.whole), st.place)

  pub left : (x y : List ℕ) → BytesAt s at (x ++ y) → BytesAt s at x
  left x y st =
      record { before = st.before; rest = y ++ st.rest; whole = st.whole ∙ simp append_assoc; place = st.place }

  pub right : (x y : List ℕ) → BytesAt s at (x ++ y) → BytesAt s (at + length x) y
  right x y st =
      record {
        before = st.before ++ x;
        rest = st.rest;
        whole = st.whole ∙ simp append_assoc;
        place = rw length-append (ap (λ (n : ℕ). n + length x) st.place);
      }

  pub head : {b : ℕ} {x : List ℕ} → BytesAt s at (b ∷ x) → get_or s at 0 ≡ b
  head {b} {x} st = rw st.whole (get_or_at st.before b (x ++ st.rest) 0 at st.place)

  pub tail : {b : ℕ} {x : List ℕ} → BytesAt s at (b ∷ x) → BytesAt s (at + 1) x
  tail {b} {x} st = right (b ∷ []) x st

  -- n bytes that are there
  pub there : {x : List ℕ} → BytesAt s at x → (n : ℕ) → length x ≡ n → past s at n ≡ false
  unfolding past
  there {x} st n e = le-ltb (length s) (at + n) (omega (arith, inside st))

  -- n bytes of x from its a-th on
  pub piece : {x : List ℕ} → BytesAt s at x → (a n : ℕ) → a + n ≤ length x → take n (drop (at + a) s) ≡ take n (drop a x)
  piece {x} st a n p =
      let e : drop (at + a) s ≡ drop a (x ++ st.rest) = rw (← drop-drop, st.whole, drop_at st.before (x ++ st.rest) at st.place) in
      let d : a ≤ length x = omega arith in
      let t : n ≤ length (drop a x) = simp length-drop (omega arith) in
      rw (e, drop-append-le, take-append-le)

  -- the same place by another name
  pub moved : {x : List ℕ} → BytesAt s at x → (to : ℕ) → at ≡ to → BytesAt s to x
  moved {x} st to e = record { before = st.before; rest = st.rest; whole = st.whole; place = st.place ∙ e }

-- ---- numbers

pub length_bytes : (n x : ℕ) → length (bytes_of n x) ≡ n
unfolding bytes_of
length_bytes zero x = refl
length_bytes (suc n) x = ap suc (length_bytes n (x / 256))

-- a number is read back from its bytes
pub number : {s : List ℕ} {at : ℕ} (n x : ℕ) → x < 256 ^ n → BytesAt s at (bytes_of n x) → num_at s at n ≡ x
unfolding num_at bytes_of
number zero x p st = omega arith
number {s} {at} (suc n) x p st =
    let q : x / 256 < 256 ^ n = (div-lt_iff_lt-mul (lit< tt)).1 (rw pow-suc at p) in
    rw (head st, number {at = at + 1} n (x / 256) q (tail st)) (omega arith)

-- the other ways to read a number
module _ (s : List ℕ) (at : ℕ) where
  pub byte_number : get_or s at 0 ≡ num_at s at 1
  unfolding num_at
  byte_number = omega arith

  pub u16_number : u16_at s at ≡ num_at s at 2
  unfolding u16_at num_at
  u16_number = omega arith

  pub u32_number : u32_at s at ≡ num_at s at 4
  unfolding u32_at u16_at num_at
  u32_number =
      let a : at + 1 + 1 ≡ at + 2 = omega arith in
      rw a (omega arith)

-- zero in n bytes
pub zeros_stand : {s : List ℕ} {at : ℕ} (n : ℕ) → BytesAt s at (bytes_of n 0) → zeros s at n ≡ true
unfolding zeros bytes_of
zeros_stand zero st = refl
zeros_stand {s} {at} (suc n) st = rw (eq-eqb (get_or s at 0) 0 (head st)) (zeros_stand {at = at + 1} n (tail st))
