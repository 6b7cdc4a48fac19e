-- What copying promises.
use Rattle.std.specs.Prelude.{ℕ, cond, ◌||◌, map}
use mathlib.Core.List as list
use Rattle.rl_spec.specs.declared.Section.TheVariants.{Expressions}
use Rattle.rl_spec.specs.declared.Target.{Target}
use Rattle.rl_spec.specs.declared.Sort.{Sort}
use Rattle.rl_spec.specs.declared.Sort.TheVariants.{Raw, Byte, Scalar, Part, One, Maybe, Many, Range, OperandSort, Operand}
use Rattle.rl_spec.specs.Schema.{sort_of}
use Rattle.rl_spec.specs.Image.{Image, entry_of, field_in, FieldFits, WellFormed}
use Rattle.rl_spec.specs.Tree.{below}
use Rattle.rl_spec.specs.Ranges.{up_from}
use Rattle.rl_spec.specs.Make.{Make, give}
use Rattle.rl_spec.specs.Lower.{is_node, clone_entries, clone_field, deep_clone_expr}
use Rattle.rl_encode.specs.Words.{word_field}
use Rattle.rl_context.specs.declared.copy.Plan.{Plan}
use Rattle.rl_context.specs.declared.copy.Plan.TheVariants.{Keep, Node, List}
use Rattle.rl_context.specs.Does.{State, nothing, one, all, Does}

-- what is done with a field of a sort
abbrev pub plan_of : Sort → Plan
plan_of (Raw n) = Keep
plan_of (Byte low high) = Keep
plan_of Scalar = Keep
plan_of Part = Keep
plan_of (One t) = cond (is_node t) Node Keep
plan_of (Maybe t) = Keep
plan_of (Many l r n) = cond (is_node l || is_node r) (List l r) Keep
plan_of (Range o) = Keep
plan_of OperandSort = Keep
plan_of Operand = Keep

-- the copy of an expression before the one at hand
abbrev pub clone_below : ℕ → ℕ → Make ℕ
clone_below id = below id give deep_clone_expr

-- a field of the expression at hand, in a well-formed image
abbrev pub Fitting : Image → list.List ℕ → ℕ → ℕ → ℕ → Type 0
Fitting im s id code place = WellFormed im → (before : ℕ) × FieldFits im Expressions id before (sort_of code) (field_in s (sort_of code) place)

abbrev pub Copies : Image → ℕ → State → ℕ → State → Type 0
Copies im id s index t = Does im 0 0 nothing (deep_clone_expr id) s index t

-- a field's copy, as a word
abbrev pub CopiesField : Image → list.List ℕ → ℕ → ℕ → ℕ → State → ℕ → State → Type 0
CopiesField im bytes id code place s word t =
    Does im 0 0 nothing (clone_field (clone_below id) (sort_of code) (field_in bytes (sort_of code) place)) s (word_field (sort_of code) word) t

-- an entry's copy, which waits then
abbrev pub CopiesEntry : Image → ℕ → Target → ℕ → State → State → Type 0
CopiesEntry im id target n s t = (m : ℕ) × Does im 0 0 one (cond (is_node target) (clone_below id n) (give n)) s m t

-- entries' copies, which wait then
abbrev pub CopiesEntries : Image → ℕ → ℕ → ℕ → Target → Target → State → State → Type 0
CopiesEntries im id first count left right s t =
    (ns : list.List ℕ) × Does im 0 0 all (clone_entries (clone_below id) left right (map (entry_of im) (up_from first count))) s ns t
