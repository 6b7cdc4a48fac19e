-- What the runner answers for values in words: 19 for words that are no values and for more than sixteen, 20 for a Str whose payload is no
-- text's number, however large.
-- Assumes nothing.
use Rattle.std.specs.Prelude.{◌≡◌, ℕ, zero, suc, ◌+◌, ◌*◌, ◌/◌, ◌<◌, ◌≤◌, min, Bool, true, false, cond, ◌⊎◌, List, map, length, get_or, slice_index, slice_index_or}
use Rattle.std.proofs.Math.Path.{refl, ap}
use Rattle.std.proofs.Common.{◌∙◌, inl, inr, ⊎_elim}
use native.Mathlib.Omega.{arith}
use Rattle.std.proofs.Math.Seq.{get_or-take}
use Rattle.rl_spec.specs.Answers.{accepted, refused}
use Rattle.rl_spec.specs.declared.ArenaNo.{ArenaNo}
use Rattle.rl_spec.specs.declared.Cause.TheVariants.{WrongValues, NoSuchText}
use Rattle.rl_spec.specs.declared.ConstVal.TheVariants.{Str}
use Rattle.rl_spec.specs.declared.Counts.{Counts}
use Rattle.rl_spec.specs.declared.Plain.TheVariants.{Const}
use Rattle.rl_spec.specs.declared.Section.TheVariants.{Texts, Functions}
use Rattle.rl_spec.specs.Schema.{limits}
use Rattle.rl_spec.specs.Read.{counts_of, answer_of}
use Rattle.rl_spec.specs.Image.{image_of}
use Rattle.rl_spec.specs.Words.{words_value}
use Rattle.rl_spec.specs.Records.{function_at}
use Rattle.rl_spec.specs.Ranges.{up_from}
use Rattle.rl_spec.specs.Runner.{given, content_of, value_of_words, run_of}
use Rattle.rl_spec.specs.Boundary.{are_values, argument_at, count_of_words, arguments_of}
use Rattle.rl_images.specs.Reading.ReadOutcome.{read_accepts, accepted_header, accepted_reads}
use Rattle.rl_images.specs.Reading.Table.{first_behind}
use Rattle.rl_images.specs.Reading.Rows.{read_rows}
use Rattle.rl_images.specs.Reading.Starts.{sizes_are_counts}
use Rattle.rl_theorems.specs.Answers.Tables.{no_value, TextMissing}
use Rattle.rl_theorems.specs.Answers.OfRunning.{run_refuses}

-- ---- how many

module _ (words : List ℕ) where
  count_none : are_values words ≡ false → (arguments_of words).count ≡ 17
  unfolding arguments_of count_of_words
  count_none e = rw e refl

  count_many : 17 ≤ length words / 2 → (arguments_of words).count ≡ 17
  unfolding arguments_of count_of_words
  count_many l = go (are_values words)
    where
      go : (b : Bool) → cond b (min (length words / 2) 17) 17 ≡ 17
      go true = omega arith
      go false = refl

  count_few : are_values words ≡ true → length words / 2 ≤ 16 → (arguments_of words).count ≡ length words / 2
  unfolding arguments_of count_of_words
  count_few e l = rw e (omega arith)

-- ---- the i-th value

up_at : {A : Type 0} (f : ℕ → A) (d : A) (n k i : ℕ) → i < n → slice_index_or (map f (up_from k n)) i d ≡ f (k + i)
unfolding up_from
up_at f d zero k i l = absurd (omega arith)
up_at f d (suc n) k zero l = let e : k + 0 ≡ k = omega arith in rw e refl
up_at f d (suc n) k (suc i) l = let e : k + suc i ≡ k + 1 + i = omega arith in rw e (up_at f d n (k + 1) i (omega arith))

-- a Str, bare, in an Ok or in an Err
abbrev pub IsStr : ℕ → Type 0
IsStr sort = (sort ≡ 3) ⊎ ((sort ≡ 11) ⊎ (sort ≡ 19))

str_content : (sort payload : ℕ) → IsStr sort → content_of (value_of_words sort payload) ≡ Const (Str (min payload 65535))
unfolding value_of_words words_value
str_content sort payload =
    ⊎_elim (λ (e : sort ≡ 3). rw e refl) (⊎_elim (λ (e : sort ≡ 11). rw e refl) (λ (e : sort ≡ 19). rw e refl))

module _ (words : List ℕ) (values : are_values words ≡ true) (few : length words / 2 ≤ 16) (i : ℕ) (l : i < length words / 2) where
  given_at : get_or (given (arguments_of words)) i no_value ≡ argument_at words i
  unfolding arguments_of
  given_at =
      let e : count_of_words words ≡ length words / 2 = count_few words values few in
      let z : 0 + i ≡ i = omega arith in
      get_or-take (count_of_words words) (map (argument_at words) (up_from 0 16)) i no_value (omega (arith, e))
      ∙ up_at (argument_at words) no_value 16 0 i (omega arith)
      ∙ ap (argument_at words) z

-- ---- the answer

module _ (s : List ℕ) (k f : ℕ) (words : List ℕ) (budget : ℕ) (a : ArenaNo) (c : Counts) (read : answer_of s k ≡ accepted a c) (there : f < c.functions) where
  -- behind the reader's table, and behind 11
  wrong : (arguments_of words).count ≡ 17 → run_of s k f (arguments_of words) budget ≡ refused WrongValues 0
  wrong e =
      let functions = sizes_are_counts s k a c read Functions in
      (run_refuses s k f (arguments_of words) budget WrongValues 0).1
      (first_behind (read_rows s k) _ _ _ ((read_accepts s k).0 (a, c, read))
      (inr (λ h. omega (arith, functions, h), inl (inr (omega (arith, e)), refl, refl))))

  -- THEOREMS: words that are no values are 19, and so are more than sixteen values
  pub no_values_lem : are_values words ≡ false → run_of s k f (arguments_of words) budget ≡ refused WrongValues 0
  no_values_lem e = wrong (count_none words e)

  pub many_values : 17 ≤ length words / 2 → run_of s k f (arguments_of words) budget ≡ refused WrongValues 0
  many_values l = wrong (count_many words l)

  few_texts : c.texts ≤ 2048
  unfolding counts_of limits
  few_texts = rw (accepted_header s k a c read).1 (accepted_reads s k a c read).header.counts.1.0

  module _ (values : are_values words ≡ true) (few : length words / 2 ≤ 16) (all : length words / 2 ≡ (function_at (image_of s) f).params.count) where
    -- THEOREM: as many values as parameters, of which the i-th is a Str with a payload that is no text's number, are 20
    pub str_missing : (i : ℕ) → i < length words / 2 → IsStr (slice_index words (i * 2)) → c.texts ≤ slice_index words (i * 2 + 1) → run_of s k f (arguments_of words) budget ≡ refused NoSuchText 0
    str_missing i l str past =
        let functions = sizes_are_counts s k a c read Functions in
        let texts = sizes_are_counts s k a c read Texts in
        let count = count_few words values few in
        let payload : ℕ = get_or words (i * 2 + 1) 0 in
        let missing : TextMissing (image_of s) (arguments_of words) = (
          i,
          min payload 65535,
          rw (given_at words values few i l) (str_content (slice_index words (i * 2)) payload str),
          omega (arith, texts, few_texts),
        ) in
        (run_refuses s k f (arguments_of words) budget NoSuchText 0).1
        (first_behind (read_rows s k) _ _ _ ((read_accepts s k).0 (a, c, read))
        (inr (λ h. omega (arith, functions, h), inr (⊎_elim (λ h. h (count ∙ all)) (λ h. omega (arith, count, h)), inl (missing, refl, refl)))))
