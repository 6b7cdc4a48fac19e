-- Texts have the same class exactly where their bytes are the same.
-- Assumes nothing.
use Prim.Native.Nat.{ℕ, zero, suc, ◌+◌, ◌≤◌}
use mathlib.Core.Path.{◌≡◌, refl, sym, ap, subst, ◌∙◌}
use mathlib.Core.Bool.{Bool, true, false, cond}
use mathlib.Core.List.{List, [], ◌∷◌}
use native.Mathlib.Omega.{arith}
use lib.Dec.{T, eqb}
use lib.ListN.{length}
use borrow.Author.Tests.{eq-eqb, ne_eqb}
use Rattle.rl_laws.specs.Tests.{by_eqb}
use Rattle.rl_spec.specs.Values.{same_text}
use Rattle.rl_classes.specs.Classes.{first_from, class_of}

pub never : {A : Type 0} → false ≡ true → A
never p = absurd (subst T (sym p) tt)

-- ---- same_text is equality

same_self : (x : List ℕ) → same_text x x ≡ true
unfolding same_text
same_self [] = refl
same_self (a ∷ x) = rw (eq-eqb a a refl) (same_self x)

pub same_equal : (x y : List ℕ) → same_text x y ≡ true → x ≡ y
unfolding same_text
same_equal [] [] e = refl
same_equal [] (b ∷ y) e = never e
same_equal (a ∷ x) [] e = never e
same_equal (a ∷ x) (b ∷ y) e =
    by_eqb a b
    (λ p. let q : x ≡ y = same_equal x y (rw (eq-eqb a b p) at e) in cc)
    (λ p. never (rw (ne_eqb a b p) at e))

pub equal_same : (x y : List ℕ) → x ≡ y → same_text x y ≡ true
equal_same x y e = rw e (same_self y)

pub apart_same : (x y : List ℕ) → (x ≡ y → ⊥) → same_text x y ≡ false
apart_same x y n = go (same_text x y) refl
  where
    go : (b : Bool) → same_text x y ≡ b → same_text x y ≡ false
    go true e = absurd (n (same_equal x y e))
    go false e = e

-- ---- the first text with the same bytes

module _ (bytes : ℕ → List ℕ) where
  record First (t m : ℕ) : Type 0 where
    same : bytes m ≡ bytes t
    least : (k : ℕ) → bytes k ≡ bytes t → m ≤ k

  first_is : (t n u : ℕ) → u + n ≡ t → ((k : ℕ) → bytes k ≡ bytes t → u ≤ k) → First t (first_from bytes t n u)
  unfolding first_from
  first_is t zero u e l = record { same = ap bytes (omega arith); least = l }
  first_is t (suc n) u e l =
      either (same_text (bytes u) (bytes t)) refl
      (λ f. first_is t n (u + 1) (omega arith)
      (λ k g. by_eqb u k
      (λ q. never (sym f ∙ equal_same (bytes u) (bytes t) (ap bytes q ∙ g)))
      (λ q. let h : u ≤ k = l k g in omega arith)))
    where
      either : (b : Bool) → same_text (bytes u) (bytes t) ≡ b → (same_text (bytes u) (bytes t) ≡ false → First t (first_from bytes t n (u + 1))) → First t (cond b u (first_from bytes t n (u + 1)))
      either true f more = record { same = same_equal (bytes u) (bytes t) f; least = l }
      either false f more = more f

  first : ℕ → ℕ
  first t = first_from bytes t t 0

  is_first : (t : ℕ) → First t (first t)
  unfolding first
  is_first t = first_is t t 0 (omega arith) (λ k e. omega arith)

  same_first : (a b : ℕ) → bytes a ≡ bytes b → first a ≡ first b
  same_first a b e =
      let p = is_first a in
      let q = is_first b in
      let x : first a ≤ first b = p.least (first b) (q.same ∙ sym e) in
      let y : first b ≤ first a = q.least (first a) (p.same ∙ e) in
      omega arith

  -- where the search meets the same text, that is the first
  met_same : (t n u : ℕ) → bytes u ≡ bytes t → first_from bytes t n u ≡ u
  unfolding first_from
  met_same t zero u e = refl
  met_same t (suc n) u e = rw (equal_same (bytes u) (bytes t) e) refl

  -- ---- the classes

  class_same : (a b : ℕ) → bytes a ≡ bytes b → class_of bytes a ≡ class_of bytes b
  unfolding class_of first
  class_same a b e = rw (e, same_first a b e) refl

  pub met_first : (t n u : ℕ) → class_of bytes t ≡ first_from bytes t n u + 1 → bytes u ≡ bytes t → class_of bytes u ≡ u + 1
  met_first t n u v e = class_same u t e ∙ v ∙ ap (λ (k : ℕ). k + 1) (met_same t n u e)

  empty_is : (x : List ℕ) → length x ≡ 0 → x ≡ []
  empty_is [] e = refl
  empty_is (a ∷ x) e = absurd (omega arith)

  class_empty : (t : ℕ) → length (bytes t) ≡ 0 → class_of bytes t ≡ 0
  unfolding class_of
  class_empty t e = rw (eq-eqb (length (bytes t)) 0 e) refl

  class_other : (t : ℕ) → (length (bytes t) ≡ 0 → ⊥) → class_of bytes t ≡ first t + 1
  unfolding class_of first
  class_other t n = rw (ne_eqb (length (bytes t)) 0 n) refl

  class_apart : (a b : ℕ) → class_of bytes a ≡ class_of bytes b → bytes a ≡ bytes b
  class_apart a b e =
      by_eqb (length (bytes a)) 0
      (λ p. by_eqb (length (bytes b)) 0
      (λ q. empty_is (bytes a) p ∙ sym (empty_is (bytes b) q))
      (λ q. absurd (omega (arith, class_empty a p, class_other b q))))
      (λ p. by_eqb (length (bytes b)) 0
      (λ q. absurd (omega (arith, class_other a p, class_empty b q)))
      (λ q.
      let f : first a ≡ first b = omega (arith, class_other a p, class_other b q) in
      sym (is_first a).same ∙ ap bytes f ∙ (is_first b).same))

  -- THEOREM: texts have the same class exactly where their bytes are the same
  pub classes_tell : (a b : ℕ) → same_text (bytes a) (bytes b) ≡ eqb (class_of bytes a) (class_of bytes b)
  classes_tell a b =
      by_eqb (class_of bytes a) (class_of bytes b)
      (λ p. equal_same (bytes a) (bytes b) (class_apart a b p) ∙ sym (eq-eqb _ _ p))
      (λ p. apart_same (bytes a) (bytes b) (λ q. p (class_same a b q)) ∙ sym (ne_eqb _ _ p))
