-- What the functions read of an accepted image is what its abstract image holds.
-- Assumes nothing.
use Rattle.std.specs.Prelude.{ℕ, ◌+◌, ◌≤◌, ◌<◌, Bool, List, get_or, Ok, Err}
use Rattle.std.proofs.Math.Path.{◌≡◌, refl}
use Rattle.std.proofs.Math.Bool.{true, false, cond}
use Rattle.std.proofs.Common.{arith}
use Rattle.std.proofs.Math.Dec.{ltb, eqb}
use borrow.Author.Tests.{ltb-true, le-ltb, eqb-true, eq-eqb, ne_eqb}
use Rattle.rl_spec.specs.declared.ArenaNo.{ArenaNo}
use Rattle.rl_spec.specs.declared.Counts.{Counts}
use Rattle.rl_spec.specs.declared.Id.{Id}
use Rattle.rl_spec.specs.Answers.{accepted}
use Rattle.rl_spec.specs.declared.Section.{Section}
use Rattle.rl_spec.specs.declared.Section.TheVariants.{Expressions, Statements}
use Rattle.rl_spec.specs.Bytes.{num_at}
use Rattle.rl_spec.specs.Read.{answer_of, starts_of}
use Rattle.rl_spec.specs.Image.{no_field, record_of, field_of, fields_at, record_in, image_of}
use Rattle.rl_schema.specs.Codes.{codes, table}
use Rattle.rl_schema.proofs.Rows.{row_codes}
use Rattle.rl_images.specs.Reading.Starts.{StandsAt, starts_expression, starts_statement}
use Rattle.rl_spec.specs.declared.Cause.TheVariants.{OtherArena, NoSuchNode}
use Rattle.rl_arena.specs.Find.{is_width, number_in, lookup}

-- THEOREM: at the widths of fields the number is that of the bytes
pub number_wide : (s : List ℕ) (at n : ℕ) → is_width n ≡ true → number_in s at n ≡ num_at s at n
unfolding number_in
number_wide s at n e = rw e refl

-- ---- a record: its kind, the schema's row of it, and its fields

module _ (s : List ℕ) (at kind : ℕ) (k : kind ≡ (record_in s at).kind) where
  module _ (rows : List ℕ) (row : ℕ) (e : rows ≡ table) (f : row ≡ get_or rows kind 0) where
    -- THEOREM: the fields by the row of the kind are the record's
    pub fields_of_row : fields_at s (codes row) (at + 1) ≡ (record_in s at).fields
    unfolding record_in
    fields_of_row = rw (row_codes rows kind row e f, k) refl

    pub field_of_row : (j : ℕ) → get_or (fields_at s (codes row) (at + 1)) j no_field ≡ field_of (record_in s at) j
    field_of_row j = rw fields_of_row refl

  module _ (o : Section) (i : ℕ) (h : StandsAt s o i at) where
    -- THEOREMS: the kind and the fields of the record that stands at a place
    pub kind_of : kind ≡ (record_of (image_of s) o i).kind
    kind_of = rw (← h.found) k

    pub field_of_lem : (rows : List ℕ) (row : ℕ) → rows ≡ table → row ≡ get_or rows kind 0 → (j : ℕ) → get_or (fields_at s (codes row) (at + 1)) j no_field ≡ field_of (record_of (image_of s) o i) j
    field_of_lem rows row e f j = rw (← h.found) (field_of_row rows row e f j)

-- ---- accepted images

module _ (s : List ℕ) (k : ℕ) (a : ArenaNo) (c : Counts) (e : answer_of s k ≡ accepted a c) where
  module _ (i at kind : ℕ) (q : kind ≡ (record_in s at).kind) where
    module _ (l : i < c.expressions) (p : at ≡ get_or (starts_of s k) i 0) where
      expression_stands : StandsAt s Expressions i at
      expression_stands = rw p (starts_expression s k a c e i l)

      -- THEOREMS: the kind and the fields of an expression
      pub expression_kind : kind ≡ (record_of (image_of s) Expressions i).kind
      expression_kind = kind_of s at kind q Expressions i expression_stands

      pub expression_field : (rows : List ℕ) (row : ℕ) → rows ≡ table → row ≡ get_or rows kind 0 → (j : ℕ) → get_or (fields_at s (codes row) (at + 1)) j no_field ≡ field_of (record_of (image_of s) Expressions i) j
      expression_field rows row f g j = field_of_lem s at kind q Expressions i expression_stands rows row f g j

    module _ (l : i < c.statements) (p : at ≡ get_or (starts_of s k) (c.expressions + i) 0) where
      statement_stands : StandsAt s Statements i at
      statement_stands = rw p (starts_statement s k a c e i l)

      -- THEOREMS: the same of a statement
      pub statement_kind : kind ≡ (record_of (image_of s) Statements i).kind
      statement_kind = kind_of s at kind q Statements i statement_stands

      pub statement_field : (rows : List ℕ) (row : ℕ) → rows ≡ table → row ≡ get_or rows kind 0 → (j : ℕ) → get_or (fields_at s (codes row) (at + 1)) j no_field ≡ field_of (record_of (image_of s) Statements i) j
      statement_field rows row f g j = field_of_lem s at kind q Statements i statement_stands rows row f g j

-- ---- ids

module _ (arena : ArenaNo) (c : Counts) (id : Id) where
  -- THEOREM: a foreign id finds no node, whatever its node number
  pub lookup_foreign : (id.arena.0 ≡ arena.0 → ⊥) → lookup arena c id ≡ Err OtherArena
  unfolding lookup
  lookup_foreign h = rw (ne_eqb id.arena.0 arena.0 h) refl

  -- THEOREM: an id of this arena whose node number is past the expressions finds no node
  pub lookup_missing : id.arena.0 ≡ arena.0 → c.expressions ≤ id.node.0 → lookup arena c id ≡ Err NoSuchNode
  unfolding lookup
  lookup_missing e h = rw (eq-eqb id.arena.0 arena.0 e, le-ltb id.node.0 c.expressions h) refl

  -- THEOREM: a node that is found is the id's, of this arena, and there is such an expression
  pub lookup_node : (n : ℕ) → lookup arena c id ≡ Ok n → (id.arena.0 ≡ arena.0) × ((n ≡ id.node.0) × (n < c.expressions))
  unfolding lookup
  lookup_node n e = go (eqb id.arena.0 arena.0) (ltb id.node.0 c.expressions) refl refl e
    where
      go : (x y : Bool) → eqb id.arena.0 arena.0 ≡ x → ltb id.node.0 c.expressions ≡ y → cond x (cond y (Ok id.node.0) (Err NoSuchNode)) (Err OtherArena) ≡ Ok n → (id.arena.0 ≡ arena.0) × ((n ≡ id.node.0) × (n < c.expressions))
      go true true p q f =
          let m : n ≡ id.node.0 = cc in
          (eqb-true id.arena.0 arena.0 p, (m, omega (arith, ltb-true id.node.0 c.expressions q)))
      go true false p q f = let z : ◌≡◌ {A = ℕ} 0 1 = cc in absurd (omega arith)
      go false y p q f = let z : ◌≡◌ {A = ℕ} 0 1 = cc in absurd (omega arith)
