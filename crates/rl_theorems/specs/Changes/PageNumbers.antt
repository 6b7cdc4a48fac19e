-- The numbers on printed pages of a well-formed image: its calls have at most four digits and their spans at most ten, so that a line shows
-- them whole.
-- Assumes nothing.
use Rattle.std.specs.Prelude.{◌≡◌, ℕ, zero, suc, ◌+◌, ◌-◌, ◌*◌, ◌/◌, ◌%◌, ◌^◌, ◌<◌, ◌≤◌, List, [], ◌∷◌, ◌++◌, map, length, refl}
use Rattle.std.proofs.Common.{arith, lt-ltb, le-ltb, length-append, take_all}
use Rattle.rl_spec.specs.declared.Section.TheVariants.{Calls}
use Rattle.rl_spec.specs.Schema.{limits, schema, sort_of, fields_in, fields_of}
use Rattle.rl_spec.specs.Image.{Field, Rec, Image, size_of, record_of, a_raw, a_reference, a_list, FieldsFit, no_fields, ◌&◌, RecordFits, WellFormed}
use Rattle.rl_spec.specs.Tree.{number}
use Rattle.rl_spec.specs.Records.{call_at}
use Rattle.rl_spec.specs.Make.{made}
use Rattle.rl_spec.specs.Message.{decimal_by, decimal}
use Rattle.rl_spec.specs.Pages.{spaces, fitted, right}
use Rattle.rl_laws.specs.Tests.{by_ltb}
use Rattle.rl_images.specs.Images.SchemaSorts.{kind_range}
use Rattle.rl_images.specs.Images.Limits.{size_within}
use Rattle.rl_images.specs.Reading.Scalars.{ascii_scalars, decimal_ascii}
use Rattle.rl_theorems.specs.Changes.PrintedPages.{Every, every_append, printed_same}

-- ---- how many digits

-- the least number of more than so many digits and one
abbrev tens : ℕ → ℕ
tens zero = 10
tens (suc k) = 10 * tens k

digits_by : (m k n : ℕ) → n < tens k → length (decimal_by m n) ≤ suc k
unfolding decimal_by
digits_by zero k n l = omega arith
digits_by (suc m) zero n l = rw (lt-ltb n 10 l) (omega arith)
digits_by (suc m) (suc k) n l =
    by_ltb n 10
    (λ few. rw (lt-ltb n 10 few) (omega arith))
    (λ many. rw (le-ltb n 10 many, length-append (decimal_by m (n / 10)) ((48 + n % 10) ∷ [])) (omega (arith, digits_by m k (n / 10) (omega arith))))

abbrev Visible : List ℕ → Type 0
Visible = Every (λ (c : ℕ). 32 ≤ c)

digits_shown : (m n : ℕ) → Visible (decimal_by m n)
unfolding decimal_by
digits_shown zero n = tt
digits_shown (suc m) n =
    by_ltb n 10
    (λ few. rw (lt-ltb n 10 few) (omega arith, tt))
    (λ many. rw (le-ltb n 10 many)
    (every_append (λ (c : ℕ). 32 ≤ c) (decimal_by m (n / 10)) _ (digits_shown m (n / 10)) (omega arith, tt)))

decimal_shown : (n : ℕ) → Visible (decimal n)
unfolding decimal
decimal_shown n = digits_shown 20 n

-- ---- in a field that is wide enough

number_whole : (columns n : ℕ) → length (decimal n) ≤ columns → right columns (decimal n) ≡ spaces (columns - length (decimal n)) ++ decimal n
unfolding right fitted
number_whole columns n l =
    rw (ascii_scalars (decimal n) (decimal_ascii n), take_all columns (decimal n) l, printed_same (decimal n) (decimal_shown n)) refl

few_digits : (k n : ℕ) → n < tens k → length (decimal n) ≤ suc k
unfolding decimal
few_digits k n l = digits_by 20 k n l

-- ---- those of a well-formed image

module _ {im : Image} {i : ℕ} where
  call_view : {fs : List Field} → FieldsFit im Calls i 0 (map sort_of (fields_of 83)) fs → number (made 83 fs) 1 < 256 ^ 4
  unfolding fields_of fields_in schema sort_of
  call_view (a_reference t & a_raw w & a_list p e es & no_fields) = w

  call_says : (r : Rec) → RecordFits im Calls i r → number r 1 < 256 ^ 4
  call_says r f =
      let q : r.kind ≡ 83 = omega (arith, kind_range Calls r.kind f.kind) in
      call_view (rw q at f.fields)

module _ (im : Image) (wf : WellFormed im) (call : ℕ) (there : call < size_of im Calls) where
  -- THEOREMS: a line shows the call and the span whole
  pub call_whole : right 4 (decimal call) ≡ spaces (4 - length (decimal call)) ++ decimal call
  unfolding limits
  call_whole = number_whole 4 call (few_digits 3 call (omega (arith, size_within im wf Calls)))

  span_small : (call_at im call).span < 256 ^ 4
  unfolding call_at
  span_small = call_says (record_of im Calls call) (wf.fits Calls call there)

  pub span_whole : right 10 (decimal (call_at im call).span) ≡ spaces (10 - length (decimal (call_at im call).span)) ++ decimal (call_at im call).span
  span_whole = number_whole 10 (call_at im call).span (few_digits 9 (call_at im call).span (omega (arith, span_small)))
