-- What the schema keeps to: which sorts of field stand in the records of a section.
-- Assumes nothing.
use Rattle.std.specs.Prelude.{ℕ, zero, suc, ◌+◌, ◌≤◌, ◌<◌, ◌≡◌, Bool, true, false, cond, ◌&&◌, ◌||◌, List, [], ◌∷◌, ltb, leb, eqb}
use Rattle.std.proofs.Math.Path.{refl}
use Rattle.std.proofs.lemmas.Bool.{false≢true}
use Rattle.std.proofs.Common.{arith, ltb-false, leb-true}
use Rattle.rl_spec.specs.declared.Section.{Section}
use Rattle.rl_spec.specs.declared.Section.TheVariants.{Texts, Lists, Expressions, Statements, Parameters, Clauses, Functions, Calls}
use Rattle.rl_spec.specs.declared.Target.{Target}
use Rattle.rl_spec.specs.declared.Sort.{Sort}
use Rattle.rl_spec.specs.declared.Sort.TheVariants.{Raw, Byte, Scalar, Part, One, Maybe, Many, Range, OperandSort, Operand}
use Rattle.rl_spec.specs.Schema.{lowest, highest, in_section, operand_sort, sort_of, width_of, fields_of, fields_in, schema}
use Rattle.rl_spec.specs.Image.{order_of, section_of}
use Rattle.rl_laws.specs.Tests.{by_ltb}

-- a record of the section may refer to the target: from the expressions on, to its own section and the earlier ones
abbrev pub refers : Section → Target → Bool
refers o t = ltb 1 (order_of o) && leb (order_of (section_of t)) (order_of o)

-- a field of the sort may stand in the section; `narrow` says that the field before it is one byte
abbrev pub suits : Section → Bool → Sort → Bool
suits o narrow (Raw n) = true
suits o narrow (Byte low high) = ltb high 256
suits o narrow Scalar = true
suits o narrow Part = true
suits o narrow (One t) = refers o t
suits o narrow (Maybe t) = refers o t
suits o narrow (Many l r n) = refers o l && refers o r
suits o narrow (Range q) = ltb 3 (order_of o)
suits o narrow OperandSort = narrow
suits o narrow Operand = narrow

abbrev pub is_narrow : Sort → Bool
is_narrow k = eqb (width_of k) 1

abbrev pub all_suit : Section → Bool → List ℕ → Bool
all_suit o narrow [] = true
all_suit o narrow (c ∷ cs) = suits o narrow (sort_of c) && all_suit o (is_narrow (sort_of c)) cs

-- of the fields wider than a byte only an operand looks at the byte before it; `sorted` says that this is an operand's sort
abbrev pub in_turn : Section → Bool → List ℕ → Bool
in_turn o sorted [] = true
in_turn o sorted (c ∷ cs) = (is_narrow (sort_of c) || suits o sorted (sort_of c)) && in_turn o (eqb c operand_sort) cs

abbrev keeps : Section → ℕ → Bool
keeps o k = all_suit o false (fields_of k) && in_turn o false (fields_of k)

-- ---- tests

pub and_left : (a b : Bool) → a && b ≡ true → a ≡ true
and_left true b e = refl
and_left false b e = e

pub and_right : (a b : Bool) → a && b ≡ true → b ≡ true
and_right true b e = e
and_right false b e = absurd (false≢true e)

-- a test of n numbers from k on
abbrev pub all : (ℕ → Bool) → ℕ → ℕ → Bool
all f k zero = true
all f k (suc n) = f k && all f (suc k) n

pub all_at : (f : ℕ → Bool) (n k j : ℕ) → all f k n ≡ true → k ≤ j → j < k + n → f j ≡ true
all_at f zero k j e p q = absurd (omega arith)
all_at f (suc n) k j e p q =
    by_ltb k j (λ d. all_at f n (suc k) j (and_right (f k) (all f (suc k) n) e) d (omega arith))
    (λ d.
    let i : j ≡ k = omega arith in
    rw i (and_left (f k) (all f (suc k) n) e))

-- ---- the kinds of a section

module _ (o : Section) (k : ℕ) (e : in_section o k ≡ true) where
  not_below : (b : Bool) → ltb k (lowest o) ≡ b → cond b false (leb k (highest o)) ≡ true → (lowest o ≤ k) × (k ≤ highest o)
  not_below true d f = absurd (false≢true f)
  not_below false d f = (ltb-false k (lowest o) d, leb-true k (highest o) f)

  pub kind_range : (lowest o ≤ k) × (k ≤ highest o)
  unfolding in_section
  kind_range = not_below (ltb k (lowest o)) refl e

module _ (o : Section) (n : ℕ) (e : all (keeps o) (lowest o) n ≡ true) (d : highest o < lowest o + n) where
  keeps_at : (k : ℕ) → in_section o k ≡ true → keeps o k ≡ true
  keeps_at k i =
      let r : (lowest o ≤ k) × (k ≤ highest o) = kind_range o k i in
      all_at (keeps o) n (lowest o) k e r.0 (omega arith)

-- every row of the schema, by computation
schema_keeps : (o : Section) (k : ℕ) → in_section o k ≡ true → keeps o k ≡ true
unfolding fields_of fields_in schema sort_of
schema_keeps Texts = keeps_at Texts 1 refl (omega arith)
schema_keeps Lists = keeps_at Lists 1 refl (omega arith)
schema_keeps Expressions = keeps_at Expressions 42 refl (omega arith)
schema_keeps Statements = keeps_at Statements 16 refl (omega arith)
schema_keeps Parameters = keeps_at Parameters 1 refl (omega arith)
schema_keeps Clauses = keeps_at Clauses 1 refl (omega arith)
schema_keeps Functions = keeps_at Functions 1 refl (omega arith)
schema_keeps Calls = keeps_at Calls 1 refl (omega arith)

module _ (o : Section) (k : ℕ) (e : in_section o k ≡ true) where
  pub schema_suits : all_suit o false (fields_of k) ≡ true
  schema_suits = and_left (all_suit o false (fields_of k)) (in_turn o false (fields_of k)) (schema_keeps o k e)

  pub schema_turns : in_turn o false (fields_of k) ≡ true
  schema_turns = and_right (all_suit o false (fields_of k)) (in_turn o false (fields_of k)) (schema_keeps o k e)
