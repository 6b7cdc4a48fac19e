-- Laws for numbers, and for a line from its fields.
-- Assumes nothing.
use Prim.Native.Nat.{ℕ, ◌-◌, min}
use mathlib.Core.Path.{◌≡◌, refl, sym, ap, ◌∙◌}
use mathlib.Core.List.{List, [], ◌∷◌, ◌++◌, append-nil}
use native.Mathlib.Omega.{arith}
use lib.ListN.{length, take, drop, length-map, length-take}
use Rattle.rl_spec.specs.Utf8.{encode_scalar, encode_text, scalars_of}
use Rattle.rl_spec.specs.Message.{decimal}
use Rattle.rl_spec.specs.Pages.{spaces, printed, fitted, left, right, page_line, ended}
use Rattle.rl_images.specs.Reading.Scalars.{ascii_scalars, decimal_ascii, no_width}
use Rattle.rl_images.specs.Images.Reports.{digits_most}
use Rattle.rl_images.specs.Images.PageLines.{encoded_append}
use Rattle.rl_columns.proofs.ColumnLaws.{left_spaces}
use Rattle.rl_text_out.specs.Put.{after_text, fitting}
use Rattle.rl_text_out.proofs.Joined.{take_least, Puts, puts_as, puts_then, room_holds}

-- ---- encoding one after another

module _ (out : List ℕ) (at : ℕ) where
  puts_both : (a b w v : List ℕ) (e r : ℕ) → Puts out at (encode_text a) w e → Puts w e (encode_text b) v r → Puts out at (encode_text (a ++ b)) v r
  puts_both a b w v e r f g = puts_as out at _ _ v r (puts_then out at _ _ w v e r f g) (sym (encoded_append a b))

-- ---- a number to the right

module _ (columns : ℕ) (t : List ℕ) (e : scalars_of t ≡ t) where
  abbrev shown : ℕ
  shown = min (length t) columns

  fitted_length : (n : ℕ) → length (fitted n t) ≡ min n (length t)
  unfolding fitted
  fitted_length n = rw e (length-map (take n t) printed ∙ length-take n t)

  fitted_same : fitted shown t ≡ fitted columns t
  unfolding fitted
  fitted_same = rw (e, take_least columns t) refl

  no_spaces : left shown t ≡ fitted columns t
  unfolding left
  no_spaces =
      let z : shown - length (fitted shown t) ≡ 0 = omega (arith, fitted_length shown) in
      rw z (append-nil (fitted shown t) ∙ fitted_same)

  right_is : left (columns - shown) [] ++ left shown t ≡ right columns t
  unfolding right
  right_is =
      let z : columns - length (fitted columns t) ≡ columns - shown = omega (arith, fitted_length columns) in
      rw (left_spaces [] (columns - shown) no_width, no_spaces, z) refl

module _ (n columns : ℕ) (zeros digits text : List ℕ) (count shown : ℕ) (room : length zeros ≡ 20) (put : Puts zeros 0 (decimal n) digits count)
    (least : shown ≡ min count columns) (part : text ≡ take count (drop 0 digits)) where
  text_is : text ≡ decimal n
  text_is = part ∙ room_holds zeros (decimal n) digits count (omega (arith, digits_most n)) put.0 put.1

  count_is : count ≡ length (decimal n)
  unfolding after_text fitting
  count_is = omega (arith, digits_most n, put.0)

  pub puts_right : (out w v : List ℕ) (at start r : ℕ) → Puts out at (encode_text (left (columns - shown) [])) w start
      → Puts w start (encode_text (left shown text)) v r → Puts out at (encode_text (right columns (decimal n))) v r
  puts_right out w v at start r f g =
      let e : shown ≡ min (length (decimal n)) columns = least ∙ ap (λ (k : ℕ). min k columns) count_is in
      puts_as out at _ _ v r
      (puts_both out at _ _ w v start r f g)
      (rw (text_is, e) (ap encode_text (right_is columns (decimal n) (ascii_scalars (decimal n) (decimal_ascii n)))))

-- ---- a line

one_space : 32 ∷ [] ≡ encode_text (spaces 1)
unfolding encode_text encode_scalar
one_space = refl

a_newline : 10 ∷ [] ≡ encode_text (10 ∷ [])
unfolding encode_text encode_scalar
a_newline = refl

module _ (out : List ℕ) (at : ℕ) where
  puts_space : (a w v : List ℕ) (e r : ℕ) → Puts out at (encode_text a) w e → Puts w e (32 ∷ []) v r → Puts out at (encode_text (a ++ spaces 1)) v r
  puts_space a w v e r f g = puts_both out at a (spaces 1) w v e r f (puts_as w e _ _ v r g one_space)

  pub puts_ended : (a w v : List ℕ) (e r : ℕ) → Puts out at (encode_text a) w e → Puts w e (10 ∷ []) v r → Puts out at (encode_text (ended a)) v r
  puts_ended a w v e r f g = puts_both out at a (10 ∷ []) w v e r f (puts_as w e _ _ v r g a_newline)

abbrev pub place_text : ℕ → ℕ → List ℕ
place_text call span = right 4 (decimal call) ++ spaces 1 ++ right 10 (decimal span) ++ spaces 1

pub puts_place : (out : List ℕ) (call span : ℕ) (w₁ w₂ w₃ w : List ℕ) (e₁ e₂ e₃ r : ℕ)
    → Puts out 0 (encode_text (right 4 (decimal call))) w₁ e₁ → Puts w₁ e₁ (32 ∷ []) w₂ e₂
    → Puts w₂ e₂ (encode_text (right 10 (decimal span))) w₃ e₃ → Puts w₃ e₃ (32 ∷ []) w r
    → Puts out 0 (encode_text (place_text call span)) w r
puts_place out call span w₁ w₂ w₃ w e₁ e₂ e₃ r a b d f =
    puts_space out 0 _ w₃ w e₃ r (puts_both out 0 _ _ w₂ w₃ e₂ e₃ (puts_space out 0 _ w₁ w₂ e₁ e₂ a b) d) f

pub puts_line : (out callee message : List ℕ) (call span : ℕ) (w₁ w₂ w₃ w₄ w : List ℕ) (e₁ e₂ e₃ e₄ r : ℕ)
    → Puts out 0 (encode_text (place_text call span)) w₁ e₁ → Puts w₁ e₁ (encode_text (left 16 callee)) w₂ e₂ → Puts w₂ e₂ (32 ∷ []) w₃ e₃
    → Puts w₃ e₃ (encode_text (left 39 message)) w₄ e₄ → Puts w₄ e₄ (10 ∷ []) w r
    → Puts out 0 (encode_text (ended (page_line call span callee message))) w r
unfolding page_line
puts_line out callee message call span w₁ w₂ w₃ w₄ w e₁ e₂ e₃ e₄ r a b d f g =
    puts_ended out 0 _ w₄ w e₄ r
    (puts_both out 0 _ _ w₃ w₄ e₃ e₄ (puts_space out 0 _ w₂ w₃ e₂ e₃ (puts_both out 0 _ _ w₁ w₂ e₁ e₂ a b) d) f) g

pub puts_blank : (out w v : List ℕ) (e r : ℕ) → Puts out 0 (encode_text (left 72 [])) w e → Puts w e (10 ∷ []) v r → Puts out 0 (encode_text (ended (spaces 72))) v r
puts_blank out w v e r f g = puts_ended out 0 (spaces 72) w v e r (puts_as out 0 _ _ w e f (ap encode_text (left_spaces [] 72 no_width))) g
