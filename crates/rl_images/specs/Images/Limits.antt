-- What a well-formed image keeps to: the limits of its sections, and the ranges of its functions.
-- Assumes nothing.
use Rattle.std.specs.Prelude.{ℕ, zero, suc, ◌≤◌, ◌<◌, ◌≡◌, refl, List, [], ◌∷◌, map, length, get_or}
use Rattle.std.proofs.Common.{sym, subst, arith, le_refl}
use Rattle.std.proofs.Math.ListN.{get_or-eq_default}
use Rattle.rl_laws.specs.Tests.{by_ltb}
use Rattle.rl_spec.specs.declared.Section.{Section}
use Rattle.rl_spec.specs.declared.Section.TheVariants.{Texts, Parameters, Clauses, Functions}
use Rattle.rl_spec.specs.Schema.{limits}
use Rattle.rl_spec.specs.Image.{Rec, Image, order_of, records_of, size_of, no_record, record_of, field_of, second, AllBytes, AllWithin, WellFormed}
use Rattle.rl_spec.specs.Records.{function_at}
use Rattle.rl_images.specs.Images.FunctionFields.{function_fits}

-- ---- the limits

pub within_at : (ns ms : List ℕ) → AllWithin ns ms → (j : ℕ) → get_or ns j 0 ≤ get_or ms j 0
within_at [] [] h j = le_refl 0
within_at [] (m ∷ ms) h j = absurd h
within_at (n ∷ ns) [] h j = absurd h
within_at (n ∷ ns) (m ∷ ms) h zero = h.0
within_at (n ∷ ns) (m ∷ ms) h (suc j) = within_at ns ms h.1 j

length_at : (rss : List (List Rec)) (j : ℕ) → get_or (map length rss) j 0 ≡ length (get_or rss j [])
length_at [] j = refl
length_at (rs ∷ rss) zero = refl
length_at (rs ∷ rss) (suc j) = length_at rss j

-- THEOREM: no section is larger than its limit
pub size_within : (im : Image) → WellFormed im → (o : Section) → size_of im o ≤ get_or limits (suc (order_of o)) 0
size_within im wf o =
    subst (λ (n : ℕ). n ≤ get_or limits (suc (order_of o)) 0) (length_at im.records (order_of o))
    (within_at (length im.bytes ∷ map length im.records) limits wf.counts (suc (order_of o)))

module _ (im : Image) (wf : WellFormed im) where
  -- the ranges of a function that is missing are empty
  range_within : (j most f : ℕ) → (f < size_of im Functions → second (field_of (record_of im Functions f) j) ≤ most) →
      second (field_of (record_of im Functions f) j) ≤ most
  range_within j most f h =
      by_ltb f (size_of im Functions) h
      (λ l.
      let e : record_of im Functions f ≡ no_record = get_or-eq_default (records_of im Functions) no_record l in
      subst (λ (r : Rec). second (field_of r j) ≤ most) (sym e) (omega arith))

  -- THEOREMS: there are at most 2,048 texts, and a function has at most 256 parameters and 256 requires
  pub texts_within : size_of im Texts ≤ 2048
  unfolding limits
  texts_within = size_within im wf Texts

  pub parameters_within : (f : ℕ) → (function_at im f).params.count ≤ 256
  unfolding function_at limits
  parameters_within f =
      range_within 2 256 f (λ l. omega (arith, (function_fits im wf f l).params, size_within im wf Parameters))

  pub required_within : (f : ℕ) → (function_at im f).required.count ≤ 256
  unfolding function_at limits
  required_within f =
      range_within 5 256 f (λ l. omega (arith, (function_fits im wf f l).required, size_within im wf Clauses))

-- ---- bytes that are below 256 one by one

pub all_bytes : (s : List ℕ) → ((i : ℕ) → get_or s i 0 < 256) → AllBytes s
all_bytes [] h = tt
all_bytes (b ∷ s) h = (h 0, all_bytes s (λ i. h (suc i)))
