-- The section of list entries is read as the definition has it.
-- Assumes nothing.
use Prim.Native.Nat.{ℕ, zero, suc, ◌+◌, ◌≤◌}
use mathlib.Core.Path.{◌≡◌, refl}
use mathlib.Core.Bool.{Bool, true, false, cond}
use mathlib.Core.List.{List}
use native.Mathlib.Omega.{arith}
use lib.Dec.{ltb, leb, eqb}
use lib.ListN.{get_or}
use borrow.Author.Tests.{lt-ltb, le-ltb, le-leb, lt-leb, eq-eqb, ne_eqb, eqb-true}
use Rattle.rl_spec.specs.declared.Counts.{Counts}
use Rattle.rl_spec.specs.declared.Cause.TheVariants.{BytesEnd, WrongKind}
use Rattle.rl_spec.specs.declared.Section.{Section}
use Rattle.rl_spec.specs.declared.Section.TheVariants.{Lists}
use Rattle.rl_spec.specs.Answers.{Step, goes_on, refused}
use Rattle.rl_spec.specs.Bytes.{past}
use Rattle.rl_spec.specs.Schema.{in_section, fields_of, fields_in, schema, sort_of}
use Rattle.rl_spec.specs.Fields.{height_step, record_at, fields_from, field_at, value_of}
use Rattle.rl_spec.specs.Read.{after, bad, out_of, records_from}
use Rattle.rl_laws.specs.Tests.{by_ltb}
use Rattle.rl_ast.specs.Lists.{lists_from}

-- ---- against the definition

kind_only : (k : ℕ) → in_section Lists k ≡ eqb k 3
unfolding in_section
kind_only k = by_ltb k 3 (λ p. rw (lt-ltb k 3 p, ne_eqb k 3 (λ e. omega arith)) refl) (λ p. above p)
  where
    above : 3 ≤ k → cond (ltb k 3) false (leb k 3) ≡ eqb k 3
    above p =
        by_ltb 3 k (λ q. rw (le-ltb k 3 p, lt-leb k 3 q, ne_eqb k 3 (λ e. omega arith)) refl)
        (λ q. let e : k ≡ 3 = omega arith in rw (le-ltb k 3 p, le-leb k 3 q, eq-eqb k 3 e) refl)

module _ (s w p : List ℕ) (c : Counts) (at : ℕ) where
  only_field : (b : Bool) → past s (at + 1) 2 ≡ b → height_step Lists at (fields_from s w p c Lists (fields_of 3) (at + 1) 0) ≡ cond b (refused BytesEnd (at + 1)) (goes_on (at + 1 + 2) 1)
  unfolding fields_of fields_in schema sort_of fields_from field_at value_of
  only_field true e = rw e refl
  only_field false e = rw e refl

  entry : record_at s w p c Lists at ≡ cond (past s at 1) (refused BytesEnd at) (cond (eqb (get_or s at 0) 3) (cond (past s (at + 1) 2) (refused BytesEnd (at + 1)) (goes_on (at + 1 + 2) 1)) (refused WrongKind at))
  unfolding record_at
  entry = rw (kind_only (get_or s at 0)) (go (eqb (get_or s at 0) 3) refl)
    where
      go : (b : Bool) → eqb (get_or s at 0) 3 ≡ b → cond (past s at 1) (refused BytesEnd at) (cond b (height_step Lists at (fields_from s w p c Lists (fields_of (get_or s at 0)) (at + 1) 0)) (refused WrongKind at)) ≡ cond (past s at 1) (refused BytesEnd at) (cond b (cond (past s (at + 1) 2) (refused BytesEnd (at + 1)) (goes_on (at + 1 + 2) 1)) (refused WrongKind at))
      go true e = rw (eqb-true (get_or s at 0) 3 e, only_field (past s (at + 1) 2) refl) refl
      go false e = refl

lists_are : (s : List ℕ) (c : Counts) (n i at : ℕ) (w p : List ℕ) → out_of (lists_from s n at) w p ≡ records_from s c Lists n i at w p
unfolding lists_from records_from
lists_are s c zero i at w p = refl
lists_are s c (suc n) i at w p =
    rw (entry s w p c at) (go (past s at 1) (eqb (get_or s at 0) 3) (past s (at + 1) 2) (lists_are s c n (i + 1) (at + 1 + 2) w p))
  where
    go : (x y z : Bool) → out_of (lists_from s n (at + 1 + 2)) w p ≡ records_from s c Lists n (i + 1) (at + 1 + 2) w p → out_of (cond x (refused BytesEnd at) (cond y (cond z (refused BytesEnd (at + 1)) (lists_from s n (at + 1 + 2))) (refused WrongKind at))) w p ≡ after (cond x (refused BytesEnd at) (cond y (cond z (refused BytesEnd (at + 1)) (goes_on (at + 1 + 2) 1)) (refused WrongKind at))) (λ a t. records_from s c Lists n (i + 1) a w p) bad
    go true y z f = refl
    go false true true f = refl
    go false true false f = f
    go false false z f = refl

pub lists_section : (s : List ℕ) (c : Counts) (o : Section) (n at : ℕ) (w p : List ℕ) (r : Step) → o ≡ Lists → r ≡ lists_from s n at → out_of r w p ≡ records_from s c o n 0 at w p
lists_section s c o n at w p r e f = rw (f, e) (lists_are s c n 0 at w p)
