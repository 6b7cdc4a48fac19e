-- Laws for the forms of statements.
-- Assumes nothing.
use Rattle.std.proofs.Common.{◌≡◌, ℕ, ◌+◌, ◌<◌, ◌≤◌, List, get_or, refl, ne_eqb}
use Rattle.rl_spec.specs.declared.Counts.{Counts}
use Rattle.rl_spec.specs.declared.Interval.{Interval}
use Rattle.rl_spec.specs.Answers.{Optional}
use Rattle.rl_spec.specs.declared.Section.TheVariants.{Statements}
use Rattle.rl_spec.specs.declared.StatementForm.{StatementForm}
use Rattle.rl_spec.specs.declared.StatementForm.TheVariants.{Declaration, Expression, Return, ReturnAlone, Conditional, Branch, While, Loop, Break, Continue, Other}
use Rattle.rl_spec.specs.Bytes.{u16_at}
use Rattle.rl_spec.specs.Schema.{sort_of, schema, fields_in, fields_of}
use Rattle.rl_spec.specs.Image.{num, pair, fields_at}
use Rattle.rl_spec.specs.Statement.{statement_by, statement_of}
use Rattle.rl_spec.specs.Ranges.{interval, optional}
use Rattle.rl_spec.specs.Found.{record_as, record_found, image_found}
use Rattle.rl_laws.specs.Found.{record_found_lem, record_missing}
use Rattle.rl_bytes.proofs.Laws.{two}

module _ (s : List ℕ) where
  -- ---- the form of the record that starts at a place; k is its kind

  module _ (start k : ℕ) (e : k ≡ get_or s start 0) where
    abbrev at : ℕ
    at = start + 1 + 4

    abbrev form : StatementForm
    form = statement_by (record_as s (get_or s start 0) start)

    abbrev list_at : ℕ → Interval
    list_at i = interval (pair (u16_at s i) (u16_at s (i + 2)))

    pub form_alone : k ≡ 67 → ReturnAlone ≡ form
    unfolding statement_by record_as
    form_alone q = rw (← e, q) refl

    pub form_break : k ≡ 77 → Break ≡ form
    unfolding statement_by record_as
    form_break q = rw (← e, q) refl

    pub form_continue : k ≡ 78 → Continue ≡ form
    unfolding statement_by record_as
    form_continue q = rw (← e, q) refl

    pub form_loop : k ≡ 71 → (list : Interval) → list ≡ list_at at → Loop list ≡ form
    unfolding statement_by record_as fields_at fields_of fields_in schema sort_of
    form_loop q list f = rw (← e, q, f) refl

    module _ (x : ℕ) (f : x ≡ u16_at s at) where
      pub form_expression : k ≡ 65 → Expression x ≡ form
      unfolding statement_by record_as fields_at fields_of fields_in schema sort_of
      form_expression q = rw (← e, q, ← two s at, ← f) refl

      pub form_return : k ≡ 66 → Return x ≡ form
      unfolding statement_by record_as fields_at fields_of fields_in schema sort_of
      form_return q = rw (← e, q, ← two s at, ← f) refl

      module _ (y : ℕ) where
        pub form_declaration : k ≡ 64 → y ≡ u16_at s (at + 2 + 4) → Declaration x y ≡ form
        unfolding statement_by record_as fields_at fields_of fields_in schema sort_of
        form_declaration q g = rw (← e, q, ← two s at, ← two s (at + 2 + 4), ← f, ← g) refl

      module _ (o : Optional) where
        pub form_conditional : k ≡ 68 → o ≡ optional (num (u16_at s (at + 2))) → Conditional x o ≡ form
        unfolding statement_by record_as fields_at fields_of fields_in schema sort_of
        form_conditional q g = rw (← e, q, ← two s at, ← two s (at + 2), ← f, g) refl

      module _ (list : Interval) (g : list ≡ list_at (at + 2)) where
        pub form_while : k ≡ 70 → While x list ≡ form
        unfolding statement_by record_as fields_at fields_of fields_in schema sort_of
        form_while q = rw (← e, q, ← two s at, ← f, g) refl

    pub form_branch : k ≡ 69 → (o : Optional) → o ≡ optional (num (u16_at s at)) → (list : Interval) → list ≡ list_at (at + 2) → Branch o list ≡ form
    unfolding statement_by record_as fields_at fields_of fields_in schema sort_of
    form_branch q o f list g = rw (← e, q, ← two s at, f, g) refl

    pub form_other : (k ≡ 64 → ⊥) → (k ≡ 65 → ⊥) → (k ≡ 66 → ⊥) → (k ≡ 67 → ⊥) → (k ≡ 68 → ⊥) → (k ≡ 69 → ⊥) → (k ≡ 70 → ⊥) → (k ≡ 71 → ⊥) → (k ≡ 77 → ⊥) → (k ≡ 78 → ⊥) → Other ≡ form
    unfolding statement_by record_as
    form_other h64 h65 h66 h67 h68 h69 h70 h71 h77 h78 =
        rw (
          ← e,
          ne_eqb k 64 h64,
          ne_eqb k 65 h65,
          ne_eqb k 66 h66,
          ne_eqb k 67 h67,
          ne_eqb k 68 h68,
          ne_eqb k 69 h69,
          ne_eqb k 70 h70,
          ne_eqb k 71 h71,
          ne_eqb k 77 h77,
          ne_eqb k 78 h78,
        ) refl

  -- ---- the n-th statement

  module _ (p : List ℕ) (c : Counts) (n : ℕ) where
    pub statement_missing : c.statements ≤ n → Other ≡ statement_of (image_found s p c) n
    unfolding statement_by
    statement_missing h = rw (record_missing s p c Statements n h) refl

    pub statement_found : n < c.statements → (start : ℕ) → start ≡ get_or p (c.expressions + n) 0 → (r : StatementForm) → r ≡ statement_by (record_as s (get_or s start 0) start) → r ≡ statement_of (image_found s p c) n
    unfolding record_found
    statement_found h start e r f = rw (record_found_lem s p c Statements n h, ← e) f
