-- What transforming promises.
use Rattle.std.specs.Prelude.{ℕ, ◌+◌, ◌<◌, ◌≡◌, cond, List, [], ◌∷◌, map, get_or, set, eqb}
use Rattle.rl_spec.specs.declared.Section.TheVariants.{Statements}
use Rattle.rl_spec.specs.declared.Counts.{Counts}
use Rattle.rl_spec.specs.declared.Interval.{Interval}
use Rattle.rl_spec.specs.declared.Clause.{Clause}
use Rattle.rl_spec.specs.Schema.{sort_of, fields_of}
use Rattle.rl_spec.specs.Image.{Field, num, Rec, Image, record_of, field_of, entry_of, WellFormed}
use Rattle.rl_spec.specs.Tree.{below}
use Rattle.rl_spec.specs.Ranges.{up_from}
use Rattle.rl_spec.specs.Make.{Make, ◌>>=◌, give, append, made, each, flat_map}
use Rattle.rl_spec.specs.Lower.{transform_list, transform_branch, transform_arm, conditional, match, transform_statement}
use Rattle.rl_encode.specs.Words.{word_field}
use Rattle.rl_spec.specs.Found.{image_found}
use Rattle.rl_schema.specs.Codes.{table}
use Rattle.rl_context.specs.Does.{State}
use Rattle.rl_transform.specs.declared.Walk.{Walk}
use Rattle.rl_context.specs.Guards.{Makes, Gathers, clauses_in, ConditionsIn}

-- the transform of a statement before the one at hand
abbrev pub walk_below : List Clause → ℕ → ℕ → Make (List ℕ)
walk_below ensures id = below id (λ s. give (s ∷ [])) (transform_statement ensures)

-- a field of a kind, from a word
abbrev pub field_of_word : ℕ → ℕ → ℕ → Field
field_of_word kind j w = word_field (sort_of (get_or (fields_of kind) j 0)) w

-- a record with two fields replaced; one that is not there is not
abbrev pub rebuilt : Rec → ℕ → ℕ → ℕ → ℕ → Rec
rebuilt r j w k v = made r.kind (set (set r.fields j (field_of_word r.kind j w)) k (field_of_word r.kind k v))

-- the list among the fields of a kind that holds statements: its number, and its place behind the record's start
abbrev pub list_field : ℕ → ℕ
list_field kind =
    cond (eqb kind 69) 2
    (cond (eqb kind 70) 2 (cond (eqb kind 71) 1 (cond (eqb kind 72) 4 (cond (eqb kind 73) 3 (cond (eqb kind 74) 3 (cond (eqb kind 76) 2 0))))))

abbrev pub list_place : ℕ → ℕ
list_place kind =
    cond (eqb kind 69) 7
    (cond (eqb kind 70) 7 (cond (eqb kind 71) 5 (cond (eqb kind 72) 11 (cond (eqb kind 73) 9 (cond (eqb kind 74) 9 (cond (eqb kind 76) 7 0))))))

-- needs_scope of a branch
abbrev pub flag_field : ℕ → ℕ
flag_field kind = cond (eqb kind 69) 3 7

-- a record with its list transformed
abbrev pub body_of : (ℕ → Make (List ℕ)) → Rec → Make ℕ
body_of walk r =
    transform_list walk (field_of r (list_field r.kind))
    >>= λ body. append Statements (made r.kind (set (set r.fields (list_field r.kind) body) (flag_field r.kind) (num 0)) ∷ [])

-- ---- an image that is ready, and what each function does with it

pub record Ready (s p : List ℕ) (c : Counts) (rows : List ℕ) (ensured : Interval) : Type 0 where
  pub rows_are : rows ≡ table
  pub well : WellFormed (image_found s p c)
  pub conditions : ConditionsIn (image_found s p c) ensured c.expressions

-- arms in the list
abbrev pub ArmsIn : List ℕ → List ℕ → Counts → ℕ → ℕ → Type 0
ArmsIn s p c first count =
    (i : ℕ) → i < count → (entry_of (image_found s p c) (first + i) < c.statements) × ((record_of (image_found s p c) Statements (entry_of (image_found s p c) (first + i))).kind ≡ 76)

module _ (s p : List ℕ) (c : Counts) (ensured : Interval) where
  abbrev pub of : Image
  of = image_found s p c

  abbrev pub walk : ℕ → ℕ → Make (List ℕ)
  walk limit = walk_below (clauses_in of ensured) limit

  abbrev pub Returns : ℕ → ℕ → ℕ → State → State → Type 0
  Returns limit first count t u = Gathers of 0 (flat_map (walk limit) (map (entry_of of) (up_from first count))) t u

  abbrev pub Below : ℕ → ℕ → State → State → Type 0
  Below limit x t u = Gathers of 0 (walk limit x) t u

  abbrev pub OneStatement : ℕ → State → State → Type 0
  OneStatement id t u = Gathers of 0 (transform_statement (clauses_in of ensured) id) t u

  abbrev pub Conditional : ℕ → State → ℕ → State → Type 0
  Conditional id t n u = Makes of (conditional (walk id) (record_of of Statements id)) t n u

  abbrev pub Branch : ℕ → ℕ → State → ℕ → State → Type 0
  Branch limit x t n u = Makes of (transform_branch (walk limit) x) t n u

  abbrev pub Match : ℕ → State → ℕ → State → Type 0
  Match id t n u = Makes of (match (walk id) (record_of of Statements id)) t n u

  abbrev pub Arms : ℕ → ℕ → ℕ → State → State → Type 0
  Arms limit first count t u = Gathers of 0 (each (transform_arm (walk limit)) (map (entry_of of) (up_from first count))) t u

  abbrev pub Body : ℕ → ℕ → State → ℕ → State → Type 0
  Body limit x t n u = Makes of (body_of (walk limit) (record_of of Statements x)) t n u

-- ---- by what a transform reads

abbrev pub by : {A : Type 1} → Walk → (List ℕ → List ℕ → Counts → Interval → A) → A
by walk what = what walk.image.bytes.now walk.image.starts.now walk.image.counts walk.ensured

abbrev pub ready : Walk → Type 0
ready walk = Ready walk.image.bytes.now walk.image.starts.now walk.image.counts walk.rows.now walk.ensured

abbrev pub arms_in : Walk → Interval → Type 0
arms_in walk list = ArmsIn walk.image.bytes.now walk.image.starts.now walk.image.counts list.first list.count
