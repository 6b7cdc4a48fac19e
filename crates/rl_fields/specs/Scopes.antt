-- A definition of what is checked, on the parts of a scope.
use Rattle.std.specs.Prelude.{ℕ, List}
use Rattle.rl_spec.specs.declared.Counts.{Counts}
use Rattle.rl_spec.specs.declared.Section.{Section}
use Rattle.rl_fields.specs.declared.Scope.{Scope}

abbrev pub in_scope : {A : Type 0} → Scope → (List ℕ → List ℕ → List ℕ → Counts → Section → A) → A
in_scope o f = f o.image.now o.heights.now o.starts.now o.seen o.own
