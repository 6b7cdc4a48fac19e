-- What reading one record comes to: it is by the record's rows.
-- Assumes nothing.
use Prim.Native.Nat.{ℕ, zero, suc, ◌+◌, ◌-◌, ◌%◌, ◌≤◌, ◌<◌, max}
use Rattle.std.specs.Prelude.{◌≡◌, Bool, ◌⊎◌, ◌≢◌, leb, eqb, take, drop, Ok, Err}
use Rattle.std.proofs.Math.Path.{refl, subst}
use Rattle.std.proofs.Common.{sym, ◌∙◌}
use Rattle.std.proofs.Math.Bool.{true, false, cond}
use Rattle.std.proofs.lemmas.Bool.{false≢true}
use mathlib.Core.List.{List, [], ◌∷◌, ◌++◌}
use Rattle.std.proofs.Math.Logic.{inl, inr, ⊎_elim}
use native.Mathlib.Omega.{arith}
use Rattle.std.proofs.Math.Nat.{add-zero}
use Rattle.std.proofs.Math.Dec.{ltb}
use Rattle.std.proofs.Math.ListN.{length, get_or}
use borrow.Author.Tests.{ltb-true, ltb-false, leb-true, leb-false, eqb-true, eqb-false}
use Rattle.rl_spec.specs.declared.Counts.{Counts}
use Rattle.rl_spec.specs.declared.Cause.{Cause}
use Rattle.rl_spec.specs.declared.Cause.TheVariants.{BadValue, BadReference, TooHigh}
use Rattle.rl_spec.specs.declared.Section.{Section}
use Rattle.rl_spec.specs.declared.Target.{Target}
use Rattle.rl_spec.specs.declared.Target.TheVariants.{Text}
use Rattle.rl_spec.specs.declared.Sort.{Sort}
use Rattle.rl_spec.specs.declared.Sort.TheVariants.{Raw, Byte, Scalar, Part, One, Maybe, Many, Range, OperandSort, Operand}
use Rattle.rl_spec.specs.Answers.{Check, goes_on, refused, Step}
use Rattle.rl_spec.specs.Bytes.{u16_at, u32_at, past}
use Rattle.rl_spec.specs.Schema.{text_bytes_at, count_of, lowest, highest, in_section, tallest, sort_of, width_of, fields_of}
use Rattle.rl_spec.specs.Utf8.{utf8, is_scalar}
use Rattle.rl_spec.specs.Fields.{takes, within, kind_of_statement, allowed, entry_at, zeros, range_of, part_of, byte_in, operand_sort_of, refer_to, refer_or_none, entries_from, list_of, operand_of, value_of, field_at, checked, fields_from, height_step, record_at}
use Rattle.rl_spec.specs.Image.{widths_of, next_at}
use Rattle.rl_images.specs.Reading.Table.{Row, row, Unmet, First, first_front, By, refuses, accepts, behind, checks, checks_not}
use Rattle.rl_images.specs.Reading.Rows.{WrongTarget, turn, WrongList, list_leaves, list_uneven, entry_wrong, WrongSort, sort_of_none, sort_outside, IsText, WrongOperand, none_not_zero, bool_outside, text_not_zero, value_rows, field_rows, fields_rows, field_tall, fields_tall, height_at, record_rows}
use Rattle.rl_images.specs.Reading.Tall.{field_tall_lem}

-- ---- a check is by its rows, which are all at n

data CheckBy (t : List Row) (n : ℕ) : Check → Type 0 where
  holds : {tall : ℕ} → Unmet t → CheckBy t n (Ok tall)
  fails : {c : Cause} → First t c n → CheckBy t n (Err c)

wrong : {c : Cause} {n : ℕ} {P : Type 0} {t : List Row} → P → CheckBy (row c n P ∷ t) n (Err c)
wrong h = fails (inl (h, refl, refl))

right : {c : Cause} {n tall : ℕ} {P : Type 0} → (P → ⊥) → CheckBy (row c n P ∷ []) n (Ok tall)
right h = holds (h, tt)

skips : {r : Row} {t : List Row} {n : ℕ} {x : Check} → (r.holds → ⊥) → CheckBy t n x → CheckBy (r ∷ t) n x
skips h (holds u) = holds (h, u)
skips h (fails f) = fails (inr (h, f))

by_test : {t : List Row} {n : ℕ} (b : Bool) (x y : Check) → (b ≡ true → CheckBy t n x) → (b ≡ false → CheckBy t n y) → CheckBy t n (cond b x y)
by_test true x y f g = f refl
by_test false x y f g = g refl

-- a test that is true is not false
not_false : {b : Bool} → b ≡ true → b ≡ false → ⊥
not_false e f = false≢true (sym f ∙ e)

byte_to : {P : Type 0} (n low high b tall : ℕ) → ((b < low) ⊎ (high < b) → P) → (P → (b < low) ⊎ (high < b)) → CheckBy (row BadValue n P ∷ []) n (byte_in low high b tall)
unfolding byte_in
byte_to n low high b tall f g =
    by_test (ltb b low) _ _ (λ e. wrong (f (inl (ltb-true b low e)))) λ e.
    by_test (leb b high) _ _
    (λ d.
    right (λ x.
    ⊎_elim (λ (h : b < low). omega (arith, ltb-false b low e, h)) (λ (h : high < b). omega (arith, leb-true b high d, h)) (g x)))
    (λ d. wrong (f (inr (leb-false b high d))))

bool_wrong : (x : ℕ) (z : Bool) → cond (leb x 1) z false ≡ false → (1 < x) ⊎ (z ≡ false)
bool_wrong x z e = go (leb x 1) refl e
  where
    go : (b : Bool) → leb x 1 ≡ b → cond b z false ≡ false → (1 < x) ⊎ (z ≡ false)
    go true f g = inr g
    go false f g = inl (leb-false x 1 f)

bool_right : (x : ℕ) (z : Bool) → cond (leb x 1) z false ≡ true → (1 < x) ⊎ (z ≡ false) → ⊥
bool_right x z e = go (leb x 1) refl e
  where
    go : (b : Bool) → leb x 1 ≡ b → cond b z false ≡ true → (1 < x) ⊎ (z ≡ false) → ⊥
    go true f g = ⊎_elim (λ (h : 1 < x). omega (arith, leb-true x 1 f, h)) (not_false g)
    go false f g = absurd (false≢true g)

-- ---- kinds

pub kind_outside : (o : Section) (k : ℕ) → in_section o k ≡ false → (k < lowest o) ⊎ (highest o < k)
unfolding in_section
kind_outside o k e = go (ltb k (lowest o)) refl e
  where
    go : (b : Bool) → ltb k (lowest o) ≡ b → cond b false (leb k (highest o)) ≡ false → (k < lowest o) ⊎ (highest o < k)
    go true f g = inl (ltb-true k (lowest o) f)
    go false f g = inr (leb-false k (highest o) g)

kind_inside : (o : Section) (k : ℕ) → in_section o k ≡ true → (k < lowest o) ⊎ (highest o < k) → ⊥
unfolding in_section
kind_inside o k e = go (ltb k (lowest o)) refl e
  where
    go : (b : Bool) → ltb k (lowest o) ≡ b → cond b false (leb k (highest o)) ≡ true → (k < lowest o) ⊎ (highest o < k) → ⊥
    go true f g = absurd (false≢true g)
    go false f g =
        ⊎_elim (λ (h : k < lowest o). omega (arith, ltb-false k (lowest o) f, h)) (λ (h : highest o < k). omega (arith, leb-true k (highest o) g, h))

-- ---- one record

module _ (s w p : List ℕ) (seen : Counts) (own : Section) where
  not_allowed : (t : Target) (n : ℕ) → allowed s p seen t n ≡ false → WrongTarget s p seen t n
  unfolding allowed
  not_allowed t n e = go (ltb n (within seen t)) refl e
    where
      go : (b : Bool) → ltb n (within seen t) ≡ b → cond b (takes t (kind_of_statement s p seen n)) false ≡ false → WrongTarget s p seen t n
      go true f g = inr g
      go false f g = inl (ltb-false n (within seen t) f)

  is_allowed : (t : Target) (n : ℕ) → allowed s p seen t n ≡ true → WrongTarget s p seen t n → ⊥
  unfolding allowed
  is_allowed t n e = go (ltb n (within seen t)) refl e
    where
      go : (b : Bool) → ltb n (within seen t) ≡ b → cond b (takes t (kind_of_statement s p seen n)) false ≡ true → WrongTarget s p seen t n → ⊥
      go true f g = ⊎_elim (λ (h : within seen t ≤ n). omega (arith, ltb-true n (within seen t) f, h)) (not_false g)
      go false f g = absurd (false≢true g)

  refer_to_lem : {P : Type 0} (at : ℕ) (t : Target) (n tall : ℕ) → (WrongTarget s p seen t n → P) → (P → WrongTarget s p seen t n) → CheckBy (row BadReference at P ∷ []) at (refer_to s w p seen own t n tall)
  unfolding refer_to
  refer_to_lem at t n tall f g =
      by_test (allowed s p seen t n) _ _ (λ e. right (λ x. is_allowed t n e (g x))) (λ e. wrong (f (not_allowed t n e)))

  -- of n entries from the k-th on, the i-th is wrong
  abbrev EntryWrong : ℕ → ℕ → Target → Target → Type 0
  EntryWrong n k l r = (i : ℕ) × (i < n) × WrongTarget s p seen (turn i l r) (entry_at s seen (k + i))

  entry_later : (n k : ℕ) (l r : Target) → EntryWrong n (k + 1) r l → EntryWrong (suc n) k l r
  entry_later n k l r x = let q : k + 1 + x.0 ≡ k + suc x.0 = omega arith in (suc x.0, omega (arith, x.1), rw q at x.2)

  entry_rest : (n k : ℕ) (l r : Target) → (WrongTarget s p seen l (entry_at s seen k) → ⊥) → EntryWrong (suc n) k l r → EntryWrong n (k + 1) r l
  entry_rest n k l r h x = go x.0 x.1 x.2
    where
      go : (i : ℕ) → i < suc n → WrongTarget s p seen (turn i l r) (entry_at s seen (k + i)) → EntryWrong n (k + 1) r l
      go zero a b = absurd (h (rw (add-zero k) at b))
      go (suc i) a b = let q : k + suc i ≡ k + 1 + i = omega arith in (i, omega arith, rw q at b)

  entries_to : {P : Type 0} (at n k : ℕ) (l r : Target) (tall : ℕ) → (EntryWrong n k l r → P) → (P → EntryWrong n k l r) → CheckBy (row BadReference at P ∷ []) at (entries_from s w p seen own n k l r tall)
  unfolding entries_from
  entries_to at zero k l r tall f g = right (λ x. omega (arith, (g x).1))
  entries_to at (suc n) k l r tall f g =
      by_test (allowed s p seen l (entry_at s seen k)) _ _
      (λ e.
      entries_to at n (k + 1) r l _ (λ x. f (entry_later n k l r x))
      (λ x. entry_rest n k l r (is_allowed l (entry_at s seen k) e) (g x)))
      (λ e. wrong (f (0, omega arith, rw add-zero (not_allowed l (entry_at s seen k) e))))

  -- the value, once its bytes are there
  value_to : (o : Sort) (at tall : ℕ) → CheckBy (value_rows s p seen o at) at (value_of s w p seen own o at tall)
  unfolding value_of part_of range_of operand_sort_of refer_or_none list_of operand_of
  value_to (Raw n) at tall = holds tt
  value_to (Byte low high) at tall = byte_to at low high (get_or s at 0) tall (λ x. x) (λ x. x)
  value_to Scalar at tall = by_test (is_scalar (u32_at s at)) _ _ (λ e. right (not_false e)) (λ e. wrong e)
  value_to Part at tall =
      by_test (ltb seen.bytes (u16_at s at + u16_at s (at + 2))) _ _ (λ e. wrong (inl (ltb-true _ _ e))) λ e.
      by_test (utf8 (take (u16_at s (at + 2)) (drop (text_bytes_at + u16_at s at) s))) _ _
      (λ f.
      right
      (⊎_elim
      (λ (h : seen.bytes < u16_at s at + u16_at s (at + 2)). omega (arith, ltb-false seen.bytes (u16_at s at + u16_at s (at + 2)) e, h))
      (not_false f)))
      (λ f. wrong (inr f))
  value_to (One t) at tall = refer_to_lem at t (u16_at s at) tall (λ x. x) (λ x. x)
  value_to (Maybe t) at tall =
      by_test (eqb (u16_at s at) 65535) _ _ (λ e. right (λ x. x.0 (eqb-true _ _ e)))
      (λ e. refer_to_lem at t (u16_at s at) tall (λ x. (eqb-false _ _ e, x)) (λ x. x.1))
  value_to (Many l r n) at tall =
      by_test (ltb seen.lists (u16_at s at + u16_at s (at + 2))) _ _ (λ e. wrong (list_leaves (ltb-true _ _ e))) λ e.
      by_test (eqb (u16_at s (at + 2) % n) 0) _ _
      (λ f.
      entries_to at (u16_at s (at + 2)) (u16_at s at) l r tall (λ x. entry_wrong x.0 x.1 x.2)
      (entry (ltb-false _ _ e) (eqb-true _ _ f)))
      (λ f. wrong (list_uneven (eqb-false _ _ f)))
    where
      entry : u16_at s at + u16_at s (at + 2) ≤ seen.lists → u16_at s (at + 2) % n ≡ 0 → WrongList s p seen l r n at → EntryWrong (u16_at s (at + 2)) (u16_at s at) l r
      entry h e (list_leaves x) = absurd (omega arith)
      entry h e (list_uneven x) = absurd (x e)
      entry h e (entry_wrong i x y) = (i, x, y)
  value_to (Range o) at tall =
      by_test (leb (u16_at s at + u16_at s (at + 2)) (count_of seen o)) _ _
      (λ e. right (λ (h : count_of seen o < u16_at s at + u16_at s (at + 2)). omega (arith, leb-true (u16_at s at + u16_at s (at + 2)) (count_of seen o) e, h)))
      (λ e. wrong (leb-false _ _ e))
  value_to OperandSort at tall =
      by_test (eqb (get_or s (at - 1) 0) 0) _ _
      (λ e.
      by_test (eqb (get_or s at 0) 0) _ _ (λ f. right (none (eqb-true _ _ e) (eqb-true _ _ f)))
      (λ f. wrong (sort_of_none (eqb-true _ _ e) (eqb-false _ _ f))))
      (λ e. byte_to at 1 4 (get_or s at 0) tall (sort_outside (eqb-false _ _ e)) (some (eqb-false _ _ e)))
    where
      none : get_or s (at - 1) 0 ≡ 0 → get_or s at 0 ≡ 0 → WrongSort (get_or s (at - 1) 0) (get_or s at 0) → ⊥
      none e f (sort_of_none x y) = y f
      none e f (sort_outside x y) = x e

      some : get_or s (at - 1) 0 ≢ 0 → WrongSort (get_or s (at - 1) 0) (get_or s at 0) → (get_or s at 0 < 1) ⊎ (4 < get_or s at 0)
      some e (sort_of_none x y) = absurd (e x)
      some e (sort_outside x y) = y
  value_to Operand at tall =
      by_test (eqb b 0) _ _
      (λ e.
      by_test (zeros s at 8) _ _ (λ f. holds (none (eqb-true _ _ e) f, (λ x. x.0.some (eqb-true _ _ e), tt)))
      (λ f. wrong (none_not_zero (eqb-true _ _ e) f))) λ e.
      by_test (eqb b 1) _ _ (λ f. holds (integer (eqb-true _ _ f), (λ x. x.0.not_integer (eqb-true _ _ f), tt))) λ f.
      by_test (eqb b 3) _ _
      (λ g.
      by_test (cond (leb (get_or s at 0) 1) (zeros s (at + 1) 7) false) _ _
      (λ h.
      holds (bool (eqb-true _ _ g) (bool_right (get_or s at 0) (zeros s (at + 1) 7) h), (λ x. x.0.not_bool (eqb-true _ _ g), tt)))
      (λ h. wrong (bool_outside (eqb-true _ _ g) (bool_wrong (get_or s at 0) (zeros s (at + 1) 7) h)))) λ g.
      let t : IsText b = record { some = eqb-false _ _ e; not_integer = eqb-false _ _ f; not_bool = eqb-false _ _ g } in
      by_test (zeros s (at + 2) 6) _ _ (λ h. skips (text t h) (refer_to_lem at Text (u16_at s at) tall (λ x. (t, x)) (λ x. x.1)))
      (λ h. wrong (text_not_zero t h))
    where
      b : ℕ
      b = get_or s (at - 1) 0

      none : b ≡ 0 → zeros s at 8 ≡ true → WrongOperand s b at → ⊥
      none e f (none_not_zero x y) = not_false f y
      none e f (bool_outside x y) = omega arith
      none e f (text_not_zero x y) = x.some e

      integer : b ≡ 1 → WrongOperand s b at → ⊥
      integer e (none_not_zero x y) = omega arith
      integer e (bool_outside x y) = omega arith
      integer e (text_not_zero x y) = x.not_integer e

      bool : b ≡ 3 → ((1 < get_or s at 0) ⊎ (zeros s (at + 1) 7 ≡ false) → ⊥) → WrongOperand s b at → ⊥
      bool e f (none_not_zero x y) = omega arith
      bool e f (bool_outside x y) = f y
      bool e f (text_not_zero x y) = x.not_bool e

      text : IsText b → zeros s (at + 2) 6 ≡ true → WrongOperand s b at → ⊥
      text t f (none_not_zero x y) = t.some x
      text t f (bool_outside x y) = t.not_bool x
      text t f (text_not_zero x y) = not_false f y

  field_to : (o : Sort) (at tall : ℕ) → CheckBy (field_rows s p seen o at) at (field_at s w p seen own o at tall)
  unfolding field_at past
  field_to o at tall =
      by_test (ltb (length s) (at + width_of o)) _ _ (λ e. wrong (ltb-true _ _ e))
      (λ e. skips (λ (h : length s < at + width_of o). omega (arith, ltb-false (length s) (at + width_of o) e, h)) (value_to o at tall))

  -- the fields
  fields_by : (os : List ℕ) (at tall : ℕ) → By refused (fields_rows s p seen os at) (goes_on (at + widths_of os) (max tall (fields_tall s w seen own os at))) (fields_from s w p seen own os at tall)
  unfolding fields_from fields_rows widths_of fields_tall
  fields_by [] at tall =
      let e : tall ≡ max tall 0 = omega arith in
      subst (λ i. By refused [] (goes_on i (max tall 0)) (goes_on at tall)) (sym (add-zero at)) (subst (λ t. By refused [] (goes_on at t) (goes_on at tall)) e (accepts tt))
  fields_by (o ∷ os) at tall = go (field_at s w p seen own (sort_of o) at tall) refl (field_to (sort_of o) at tall) (fields_by os next)
    where
      next : ℕ
      next = at + width_of (sort_of o)

      rest : ℕ → Step
      rest t = fields_from s w p seen own os next t

      most : ℕ
      most = max (field_tall s w seen own (sort_of o) at) (fields_tall s w seen own os next)

      go : (r : Check) → field_at s w p seen own (sort_of o) at tall ≡ r → CheckBy (field_rows s p seen (sort_of o) at) at r → ((t : ℕ) → By refused (fields_rows s p seen os next) (goes_on (next + widths_of os) (max t (fields_tall s w seen own os next))) (rest t)) → By refused (field_rows s p seen (sort_of o) at ++ fields_rows s p seen os next) (goes_on (at + (width_of (sort_of o) + widths_of os)) (max tall most)) (checked r at rest)
      go (Ok t) d (holds u) f =
          let e : next + widths_of os ≡ at + (width_of (sort_of o) + widths_of os) = omega arith in
          let g : max t (fields_tall s w seen own os next) ≡ max tall most = omega (arith, field_tall_lem s w p seen own (sort_of o) at tall t d) in
          behind (field_rows s p seen (sort_of o) at) (fields_rows s p seen os next) u
          (subst (λ m. By refused (fields_rows s p seen os next) (goes_on (at + (width_of (sort_of o) + widths_of os)) m) (rest t)) g
          (subst (λ i. By refused (fields_rows s p seen os next) (goes_on i (max t (fields_tall s w seen own os next))) (rest t)) e (f t)))
      go (Err c) d (fails x) f = refuses (first_front (field_rows s p seen (sort_of o) at) (fields_rows s p seen os next) c at x)

  height_by : (rows : List Row) (at a tall : ℕ) {x : Step} → By refused rows (goes_on a tall) x → By refused (rows ++ row TooHigh at (tallest own < tall + 1) ∷ []) (goes_on a (tall + 1)) (height_step own at x)
  height_by rows at a tall (refuses {q = c} {p = n} f) = refuses (first_front rows _ c n f)
  height_by rows at a tall (accepts u) =
      behind rows (row TooHigh at (tallest own < tall + 1) ∷ []) u
      (checks_not (ltb tall (tallest own)) (λ e. omega (arith, ltb-false tall (tallest own) e))
      (λ e h. omega (arith, ltb-true tall (tallest own) e)) (accepts tt))

  -- THEOREM: a record is read, or refused for the first of its rows that holds
  pub record_by_lem : (at : ℕ) → By refused (record_rows s w p seen own at) (goes_on (next_at s at) (height_at s w seen own at)) (record_at s w p seen own at)
  unfolding record_at next_at height_at past
  record_by_lem at =
      checks (ltb (length s) (at + 1)) (λ e. omega (arith, ltb-true (length s) (at + 1) e))
      (λ e h. omega (arith, ltb-false (length s) (at + 1) e))
      (checks_not (in_section own (get_or s at 0)) (kind_outside own (get_or s at 0)) (kind_inside own (get_or s at 0))
      (height_by (fields_rows s p seen fields (at + 1)) at (at + 1 + widths_of fields) (fields_tall s w seen own fields (at + 1))
      (subst (λ t. By refused (fields_rows s p seen fields (at + 1)) (goes_on (at + 1 + widths_of fields) t) (fields_from s w p seen own fields (at + 1) 0)) none (fields_by fields (at + 1) 0))))
    where
      fields : List ℕ
      fields = fields_of (get_or s at 0)

      none : max 0 (fields_tall s w seen own fields (at + 1)) ≡ fields_tall s w seen own fields (at + 1)
      none = omega arith
