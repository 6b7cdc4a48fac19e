-- Laws on the schema's table and the sections.
-- Assumes nothing.
use Prim.Native.Nat.{ℕ, zero, suc, ◌/◌, ◌%◌, ◌^◌, ◌≤◌, ◌<◌}
use mathlib.Core.Path.{◌≡◌, refl, sym, ap, ◌∙◌}
use mathlib.Core.Bool.{Bool, true, false, cond}
use mathlib.Core.List.{List, [], ◌∷◌}
use native.Mathlib.Omega.{arith}
use native.Mathlib.Nat.{pow-zero, pow-suc}
use lib.Dec.{T, ltb, eqb}
use lib.ListN.{length, get_or}
use borrow.Author.Tests.{lt-ltb, le-ltb, ne_eqb, eqb-true}
use Rattle.rl_spec.specs.Schema.{Row, schema, fields_in, fields_of}
use Rattle.rl_laws.specs.Tests.{by_ltb}
use Rattle.std.proofs.lemmas.List.{get_or_past}
use Rattle.rl_schema.specs.Codes.{codes_in, codes, table}
use Rattle.rl_schema.proofs.Table.{at}

-- ---- the codes of a row

codes_fuel : (f n : ℕ) → n < 256 ^ f → codes_in f n ≡ codes_in (suc f) n
unfolding codes_in
codes_fuel zero zero h = refl
codes_fuel zero (suc n) h = absurd (omega (arith, pow-zero 256))
codes_fuel (suc f) zero h = refl
codes_fuel (suc f) (suc n) h =
    simp (ne_eqb (suc n) 0 (λ e. omega arith))
    (ap (λ (l : List ℕ). suc n % 256 ∷ l) (codes_fuel f (suc n / 256) (omega (arith, pow-suc 256 f))))

pub codes_none : (n : ℕ) → n ≡ 0 → codes n ≡ []
unfolding codes codes_in
codes_none n e = rw e refl

pub codes_more : (n : ℕ) → n < 2 ^ 64 → (n ≡ 0 → ⊥) → codes n ≡ n % 256 ∷ codes (n / 256)
unfolding codes codes_in
codes_more n b h =
    simp (ne_eqb n 0 h) (ap (λ (l : List ℕ). n % 256 ∷ l) (codes_fuel 7 (n / 256) (omega arith)))

-- ---- a test that two lists are equal

abbrev pub same : List ℕ → List ℕ → Bool
same [] [] = true
same [] (y ∷ ys) = false
same (x ∷ xs) [] = false
same (x ∷ xs) (y ∷ ys) = cond (eqb x y) (same xs ys) false

pub same_eq : (xs ys : List ℕ) → T (same xs ys) → xs ≡ ys
same_eq [] [] t = refl
same_eq [] (y ∷ ys) t = absurd t
same_eq (x ∷ xs) [] t = absurd t
same_eq (x ∷ xs) (y ∷ ys) t = go (eqb x y) refl t (same_eq xs ys)
  where
    go : (b : Bool) → eqb x y ≡ b → T (cond b (same xs ys) false) → (T (same xs ys) → xs ≡ ys) → x ∷ xs ≡ y ∷ ys
    go true e u f =
        let p : x ≡ y = eqb-true x y e in
        let q : xs ≡ ys = f u in
        cc
    go false e u f = absurd u

-- ---- no kind above the table

abbrev every_row : (Row → Bool) → List Row → Bool
every_row f [] = true
every_row f (r ∷ rs) = cond (f r) (every_row f rs) false

fields_above : (k : ℕ) (rs : List Row) → T (every_row (λ r. ltb r.kind 84) rs) → 84 ≤ k → fields_in k rs ≡ []
unfolding fields_in
fields_above k [] t h = refl
fields_above k (r ∷ rs) t h =
    by_ltb r.kind 84
    (λ p. simp (ne_eqb k r.kind (λ e. omega arith)) (fields_above k rs (rw (lt-ltb r.kind 84 p) at t) h))
    (λ p. absurd (rw (le-ltb r.kind 84 p) at t))

row_none : (k : ℕ) → 84 ≤ k → codes 0 ≡ fields_of k
unfolding fields_of schema
row_none k h = codes_none 0 refl ∙ sym (fields_above k schema tt h)

-- ---- THE TABLE AGREES WITH THE SCHEMA: one test of its rows, which antt computes

right : ℕ → ℕ → Bool
right k x = same (codes x) (fields_of k)

row_below : (k : ℕ) → k < 84 → codes (get_or table k 0) ≡ fields_of k
unfolding right codes codes_in schema fields_in fields_of table
row_below k h = same_eq (codes (get_or table k 0)) (fields_of k) (at right table tt k h)

table_rows : length table ≡ 84
unfolding table
table_rows = refl

pub row_codes : (rows : List ℕ) (k r : ℕ) → rows ≡ table → r ≡ get_or rows k 0 → codes r ≡ fields_of k
row_codes rows k r e f =
    ap codes (f ∙ ap (λ (l : List ℕ). get_or l k 0) e)
    ∙ by_ltb k 84 (λ h. row_below k h) (λ h. ap codes (get_or_past table k 0 (omega (arith, table_rows))) ∙ row_none k h)

-- a row by itself
pub row_is : (k r : ℕ) → r ≡ get_or table k 0 → codes r ≡ fields_of k
row_is k r e = row_codes table k r refl e
