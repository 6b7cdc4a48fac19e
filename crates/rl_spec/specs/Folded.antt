-- The declared types of values and operators, as those of the definitions.
use Rattle.std.specs.Prelude.{ℕ, Bool, List, None, Some}
use Rattle.std.proofs.Math.Option.{Option, none, some}
use Rattle.rl_spec.specs.Values as defined
use Rattle.rl_spec.specs.declared.ConstVal.{ConstVal}
use Rattle.rl_spec.specs.declared.ConstVal.TheVariants as kind
use Rattle.rl_spec.specs.declared.RefineOp.{RefineOp}
use Rattle.rl_spec.specs.declared.RefineOp.TheVariants.{Gt, Ge, Lt, Le, Eq, Ne}
use Rattle.rl_spec.specs.declared.ArithOp.{ArithOp}
use Rattle.rl_spec.specs.declared.ArithOp.TheVariants.{Plus, Minus, Star, Slash}
use Rattle.rl_spec.specs.Answers.{Folded, Verdict}

-- a text as t of its index
abbrev pub value_by : {T : Type 0} → (ℕ → T) → ConstVal → defined.ConstVal T
value_by t (kind.Int x) = defined.int x
value_by t (kind.Float x) = defined.float x
value_by t (kind.Str n) = defined.str (t n)
value_by t (kind.Bool x) = defined.bool x

abbrev pub const_of : ConstVal → defined.ConstVal ℕ
const_of v = value_by (λ n. n) v

-- a text as its bytes, which are given beside the value
abbrev pub with_text : ConstVal → List ℕ → defined.ConstVal (List ℕ)
with_text v bytes = value_by (λ n. bytes) v

abbrev pub op_of : RefineOp → defined.RefineOp
op_of Gt = defined.gt
op_of Ge = defined.ge
op_of Lt = defined.lt
op_of Le = defined.le
op_of Eq = defined.eq
op_of Ne = defined.ne

abbrev pub arith_of : ArithOp → defined.ArithOp
arith_of Plus = defined.plus
arith_of Minus = defined.minus
arith_of Star = defined.star
arith_of Slash = defined.slash

abbrev pub folded_of : Folded → Option (defined.ConstVal ℕ)
folded_of (Some v) = some (const_of v)
folded_of None = none

-- the same from the definitions' side
abbrev pub as_const : defined.ConstVal ℕ → ConstVal
as_const (defined.int x) = kind.Int x
as_const (defined.float x) = kind.Float x
as_const (defined.str n) = kind.Str n
as_const (defined.bool x) = kind.Bool x

abbrev pub as_folded : Option (defined.ConstVal ℕ) → Folded
as_folded (some v) = Some (as_const v)
as_folded none = None

abbrev pub verdict_of : Verdict → Option Bool
verdict_of (Some b) = some b
verdict_of None = none
