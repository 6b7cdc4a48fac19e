-- The texts that lowering makes are UTF-8 and consist of bytes.
-- Assumes nothing.
use Rattle.std.specs.Prelude.{◌≡◌, ℕ, zero, suc, ◌+◌, ◌/◌, ◌%◌, ◌^◌, ◌<◌, Bool, true, false, cond, ◌&&◌, List, [], ◌∷◌, ◌++◌, map, take, drop, ℤ, pos, negsuc, nat_lt, slice_index_or, refl}
use Rattle.std.proofs.Common.{ap, ◌∙◌, arith, ltb-true}
use Rattle.std.proofs.Math.Option.{some}
use Rattle.rl_spec.specs.declared.Section.TheVariants.{Texts}
use Rattle.rl_spec.specs.Schema.{sort_of, fields_of, fields_in, schema}
use Rattle.rl_spec.specs.Utf8.{utf8, octets, encode_text}
use Rattle.rl_spec.specs.Image.{Field, no_field, Rec, Image, record_of, first, second, text_of, a_part, FieldsFit, no_fields, ◌&◌, RecordFits, AllBytes}
use Rattle.rl_spec.specs.Values.{RefineOp, gt, ge, lt, le, eq, ne}
use Rattle.rl_spec.specs.Tree.{ascii}
use Rattle.rl_spec.specs.Words.{bits64}
use Rattle.rl_spec.specs.FnContracts.{RefineOperand, integer, str, bool, param, ParamRefinement}
use Rattle.rl_spec.specs.Mapped.{map_operand, map_refinement}
use Rattle.rl_spec.specs.Message.{decimal_by, decimal, integer_text, refine_op_str, operand_str, refinement_text}
use Rattle.rl_images.specs.Encoding.AcceptedParts.{take_bytes, drop_bytes}
use Rattle.rl_theorems.specs.Reading.EncodedBytes.{append_bytes_lem}
use Rattle.rl_images.specs.Images.SchemaSorts.{kind_range, and_left, and_right}
use Rattle.rl_images.specs.Reading.Utf8.{utf8_append, encode_one, scalar_low, encoded_is_utf8}

pub record Proper (s : List ℕ) : Type 0 where
  pub bytes : AllBytes s
  pub is_utf8 : utf8 s ≡ true

infixl 5 ◌with◌
pub ◌with◌ : {s t : List ℕ} → Proper s → Proper t → Proper (s ++ t)
◌with◌ {s} {t} p q = record { bytes = append_bytes_lem s t p.bytes q.bytes; is_utf8 = utf8_append s t p.is_utf8 ∙ q.is_utf8 }

-- ---- ASCII

abbrev all_ascii : List ℕ → Bool
all_ascii [] = true
all_ascii (c ∷ s) = nat_lt c 128 && all_ascii s

ascii_below : (c : ℕ) (s : List ℕ) → all_ascii (c ∷ s) ≡ true → c < 128
ascii_below c s e = ltb-true c 128 (and_left (nat_lt c 128) (all_ascii s) e)

one_proper : (c : ℕ) → c < 128 → Proper (c ∷ [])
unfolding encode_text
one_proper c p =
    let e : encode_text (c ∷ []) ≡ c ∷ [] = ap (λ (s : List ℕ). s ++ []) (encode_one c (omega arith)) in
    record { bytes = (omega arith, tt); is_utf8 = rw e at (encoded_is_utf8 (c ∷ []) (scalar_low c (omega arith), tt)) }

none_proper : Proper []
unfolding utf8 octets
none_proper = record { bytes = tt; is_utf8 = refl }

ascii_proper : (s : List ℕ) → all_ascii s ≡ true → Proper s
ascii_proper [] e = none_proper
ascii_proper (c ∷ s) e = one_proper c (ascii_below c s e) with ascii_proper s (and_right (nat_lt c 128) (all_ascii s) e)

-- ---- decimal digits

digit_proper : (b : Bool) (n : ℕ) → nat_lt n 10 ≡ b → (rest : List ℕ) → Proper rest →
    Proper (cond b ((48 + n) ∷ []) (rest ++ ((48 + n % 10) ∷ [])))
digit_proper true n e rest p = one_proper (48 + n) (omega (arith, ltb-true n 10 e))
digit_proper false n e rest p = p with one_proper (48 + n % 10) (omega arith)

decimal_by_lem : (k n : ℕ) → Proper (decimal_by k n)
unfolding decimal_by
decimal_by_lem zero n = none_proper
decimal_by_lem (suc k) n = digit_proper (nat_lt n 10) n refl (decimal_by k (n / 10)) (decimal_by_lem k (n / 10))

pub decimal_proper : (n : ℕ) → Proper (decimal n)
unfolding decimal
decimal_proper n = decimal_by_lem 20 n

-- ---- a text of the image

module _ (im : Image) (bytes : AllBytes im.bytes) where
  part_proper : {t : ℕ} {fs : List Field} → FieldsFit im Texts t 0 (map sort_of (fields_of 2)) fs →
      Proper (take (second (slice_index_or fs 0 no_field)) (drop (first (slice_index_or fs 0 no_field)) im.bytes))
  unfolding fields_of fields_in schema sort_of
  part_proper (a_part {a} {n} p u & no_fields) = record { bytes = take_bytes n (drop a im.bytes) (drop_bytes a im.bytes bytes); is_utf8 = u }

  pub text_proper : (t : ℕ) → RecordFits im Texts t (record_of im Texts t) → Proper (text_of im t)
  text_proper t h =
      let r : Rec = record_of im Texts t in
      let e : r.kind ≡ 2 = omega (arith, kind_range Texts r.kind h.kind) in
      part_proper (rw e at h.fields)

-- ---- the text of a refinement

integer_proper : (x : ℤ) → Proper (integer_text x)
unfolding ascii
integer_proper (pos n) = decimal_proper n
integer_proper (negsuc n) = ascii_proper (ascii "-") refl with decimal_proper (suc n)

op_proper : (op : RefineOp) → Proper (refine_op_str op)
unfolding ascii
op_proper gt = ascii_proper (ascii ">") refl
op_proper ge = ascii_proper (ascii ">=") refl
op_proper lt = ascii_proper (ascii "<") refl
op_proper le = ascii_proper (ascii "<=") refl
op_proper eq = ascii_proper (ascii "==") refl
op_proper ne = ascii_proper (ascii "!=") refl

-- an operand as an image has it
abbrev pub OperandReady : Image → RefineOperand ℕ → Type 0
OperandReady im (integer x) = bits64 x < 256 ^ 8
OperandReady im (str t) = Proper (text_of im t)
OperandReady im (bool b) = Unit {0}
OperandReady im (param t) = Proper (text_of im t)

operand_proper : (im : Image) (x : RefineOperand ℕ) → OperandReady im x → Proper (operand_str (map_operand (text_of im) x))
unfolding ascii
operand_proper im (integer x) h = integer_proper x
operand_proper im (str t) h = ascii_proper (ascii "\"") refl with h with ascii_proper (ascii "\"") refl
operand_proper im (bool true) h = ascii_proper (ascii "true") refl
operand_proper im (bool false) h = ascii_proper (ascii "false") refl
operand_proper im (param t) h = h

pub refinement_proper : (im : Image) (name : ℕ) (r : ParamRefinement ℕ) → Proper (text_of im name) → OperandReady im r.operand →
    Proper (refinement_text (text_of im name) (some (map_refinement (text_of im) r)))
unfolding ascii
refinement_proper im name r p q =
    ascii_proper (ascii "refinement failed: ") refl with p with ascii_proper (ascii " ") refl with op_proper r.op
    with ascii_proper (ascii " ") refl with operand_proper im r.operand q

-- ---- the texts of lowering itself

pub std_proper : Proper (ascii "std")
unfolding ascii
std_proper = ascii_proper (ascii "std") refl

pub res_proper : Proper (ascii "res")
unfolding ascii
res_proper = ascii_proper (ascii "res") refl

pub unwrap_proper : Proper (ascii "result_unwrap")
unfolding ascii
unwrap_proper = ascii_proper (ascii "result_unwrap") refl

pub is_err_proper : Proper (ascii "is_err")
unfolding ascii
is_err_proper = ascii_proper (ascii "is_err") refl

pub ret_proper : Proper (ascii "ret")
unfolding ascii
ret_proper = ascii_proper (ascii "ret") refl

pub temp_proper : (n : ℕ) → Proper (ascii "__ensure_ret_" ++ decimal n)
unfolding ascii
temp_proper n = ascii_proper (ascii "__ensure_ret_") refl with decimal_proper n

pub requires_proper : Proper (ascii "requires violated")
unfolding ascii
requires_proper = ascii_proper (ascii "requires violated") refl

pub ensures_proper : Proper (ascii "ensures violated")
unfolding ascii
ensures_proper = ascii_proper (ascii "ensures violated") refl
