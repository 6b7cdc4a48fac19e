-- The name of a temporary.
-- Assumes nothing.
use Rattle.std.proofs.Common.{◌≡◌, ℕ, zero, suc, ◌+◌, ◌/◌, ◌%◌, ◌≤◌, Bool, true, false, cond, ltb, List, [], ◌∷◌, ◌++◌, length, take, drop, ◌∙◌, arith, length-append}
use Rattle.rl_spec.specs.Tree.{ascii}
use Rattle.rl_spec.specs.Message.{decimal_by, decimal}
use Rattle.rl_text_out.specs.Put.{with_text, after_text}
use Rattle.rl_text_out.proofs.Joined.{after_after, with_with, room_holds}

few_digits : (k n : ℕ) → length (decimal_by k n) ≤ k
unfolding decimal_by
few_digits zero n = omega arith
few_digits (suc k) n = go (few_digits k (n / 10)) (ltb n 10)
  where
    go : length (decimal_by k (n / 10)) ≤ k → (b : Bool) → length (cond b ((48 + n) ∷ []) (decimal_by k (n / 10) ++ ((48 + n % 10) ∷ []))) ≤ suc k
    go h true = omega arith
    go h false = rw (length-append (decimal_by k (n / 10)) ((48 + n % 10) ∷ [])) (omega (arith, h))

-- 13 bytes and at most 20
pub temp_name : (room r₁ r₂ name : List ℕ) (start end n : ℕ) → length room ≡ 33 →
    start ≡ after_text room 0 (95 ∷ 95 ∷ 101 ∷ 110 ∷ 115 ∷ 117 ∷ 114 ∷ 101 ∷ 95 ∷ 114 ∷ 101 ∷ 116 ∷ 95 ∷ []) →
    r₁ ≡ with_text room 0 (95 ∷ 95 ∷ 101 ∷ 110 ∷ 115 ∷ 117 ∷ 114 ∷ 101 ∷ 95 ∷ 114 ∷ 101 ∷ 116 ∷ 95 ∷ []) →
    end ≡ after_text r₁ start (decimal n) → r₂ ≡ with_text r₁ start (decimal n) → name ≡ take end (drop 0 r₂) → name ≡ ascii "__ensure_ret_" ++ decimal n
unfolding ascii decimal
temp_name room r₁ r₂ name start end n h a b c d e =
    e
    ∙ room_holds room (ascii "__ensure_ret_" ++ decimal n) r₂ end
    (rw (h, length-append (ascii "__ensure_ret_") (decimal n)) (omega (arith, few_digits 20 n)))
    (c ∙ rw (a, b) (after_after room 0 (ascii "__ensure_ret_") (decimal n))) (d ∙ rw (a, b) (with_with room 0 (ascii "__ensure_ret_") (decimal n)))
