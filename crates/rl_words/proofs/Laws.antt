-- The laws that the functions' proofs cite.
-- Assumes nothing.
use Prim.Native.Nat.{ℕ, ◌-◌, ◌≤◌, ◌<◌}
use mathlib.Core.Path.{◌≡◌, refl, sym}
use native.Mathlib.Omega.{arith}
use lib.Dec.{T}
use lib.Ieee.{Float, binary64, to_bits, of_bits, fits}
use lib.Ieee.Bits.{of_bits-to_bits}
use borrow.Author.Tests.{lt-ltb, le-ltb}
use Rattle.rl_spec.specs.declared.ConstVal.TheVariants as kind
use Rattle.rl_spec.specs.Answers.{Folded}
use Rattle.rl_spec.specs.declared.Plain.{Plain}
use Rattle.rl_spec.specs.declared.Plain.TheVariants.{Null, Const}
use Rattle.rl_spec.specs.declared.Value.{Value}
use Rattle.rl_spec.specs.declared.Value.TheVariants.{Plain as Bare}
use Rattle.rl_spec.specs.declared.Value.TheVariants as val
use Rattle.rl_spec.specs.Words.{sort_word_of, words_value}
use Rattle.rl_spec.specs.Runner.{folded_in, plain_in, content_of, value_sort, plain_of_words, value_of_words}

-- ---- a float's bits

pub float_back : (x : Float) → T (fits binary64 x) → of_bits binary64 (to_bits binary64 x) ≡ x
float_back x h = of_bits-to_bits binary64 x h

-- ---- the runner's values

module _ (sort payload : ℕ) (p : Plain) where
  words_bare : sort < 8 → p ≡ plain_of_words sort payload → Bare p ≡ value_of_words sort payload
  unfolding value_of_words
  words_bare h e = rw (lt-ltb sort 8 h, e) refl

  module _ (h : 8 ≤ sort) where
    words_ok : sort < 16 → p ≡ plain_of_words (sort - 8) payload → val.Ok p ≡ value_of_words sort payload
    unfolding value_of_words
    words_ok k e = rw (le-ltb sort 8 h, lt-ltb sort 16 k, e) refl

    words_err : 16 ≤ sort → p ≡ plain_of_words (sort - 16) payload → val.Err p ≡ value_of_words sort payload
    unfolding value_of_words
    words_err k e = rw (le-ltb sort 8 h, le-ltb sort 16 k, e) refl

sort_small : (p : Plain) → sort_word_of (folded_in p) ≤ 4
sort_small Null = omega arith
sort_small (Const (kind.Int x)) = omega arith
sort_small (Const (kind.Float x)) = omega arith
sort_small (Const (kind.Str t)) = omega arith
sort_small (Const (kind.Bool b)) = omega arith

plain_back : (p : Plain) → p ≡ plain_in (folded_in p)
plain_back Null = refl
plain_back (Const w) = refl

-- the content is found by its sort
by_sort : (p : Plain) (n s : ℕ) → words_value (sort_word_of (folded_in p)) n ≡ folded_in p → s ≡ sort_word_of (folded_in p) → p ≡ plain_of_words s n
by_sort p n s f e = rw (e, f) (plain_back p)

back : (v : Value) (n : ℕ) → words_value (sort_word_of (folded_in (content_of v))) n ≡ folded_in (content_of v) → value_of_words (value_sort v) n ≡ v
back (Bare p) n f = let h = sort_small p in sym (words_bare _ n p (omega arith) (by_sort p n _ f (omega arith)))
back (val.Ok p) n f = let h = sort_small p in sym (words_ok _ n p (omega arith) (omega arith) (by_sort p n _ f (omega arith)))
back (val.Err p) n f = let h = sort_small p in sym (words_err _ n p (omega arith) (omega arith) (by_sort p n _ f (omega arith)))

-- a value is found by its words, if what it is or holds is
pub value_back : (v : Value) (r : Folded) (n : ℕ) → r ≡ folded_in (content_of v) → words_value (sort_word_of r) n ≡ r → value_of_words (value_sort v) n ≡ v
value_back v r n e f = back v n (rw e at f)
