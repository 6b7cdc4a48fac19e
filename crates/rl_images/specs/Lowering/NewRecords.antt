-- The record that was added last is there, and its number is the old size of its section.
-- Assumes nothing.
use Rattle.std.specs.Prelude.{ℕ, ◌<◌, ◌≡◌, [], ◌∷◌, ◌++◌, get_or}
use Rattle.std.proofs.Common.{ap, ◌∙◌, arith, length-append}
use Rattle.std.proofs.Math.Seq.{get_or-append_seam}
use Rattle.rl_spec.specs.declared.Section.{Section}
use Rattle.rl_spec.specs.declared.Section.TheVariants.{Texts, Lists, Expressions, Statements, Parameters, Clauses, Functions, Calls}
use Rattle.rl_spec.specs.Schema.{limits}
use Rattle.rl_spec.specs.Image.{Rec, Image, records_of, size_of, no_record, record_of}
use Rattle.rl_spec.specs.Make.{Context, most, append}
use Rattle.rl_images.specs.Lowering.Gives.{weaker}
use Rattle.rl_images.specs.Lowering.Grows.{records_own, Growing, appended, Appended}
use Rattle.rl_images.specs.Lowering.GrowsTo.{Limited, GrowsTo, append_good}

-- the record at an index, which no field takes for none
pub record At (im : Image) (o : Section) (i : ℕ) (r : Rec) : Type 0 where
  pub inside : i < size_of im o
  pub small : i < 65535
  pub is : record_of im o i ≡ r

limit_small : (o : Section) → most o < 65535
unfolding limits
limit_small Texts = omega arith
limit_small Lists = omega arith
limit_small Expressions = omega arith
limit_small Statements = omega arith
limit_small Parameters = omega arith
limit_small Clauses = omega arith
limit_small Functions = omega arith
limit_small Calls = omega arith

-- the new record is there
at_end_lem : (o : Section) (ctx : Context) (r : Rec) (n : ℕ) (c : Context) → Limited ctx → Appended ctx o (r ∷ []) n c →
    At c.image o n r
at_end_lem o ctx r n c e h = rw (h.is, h.at) (record {
  inside = rw (own, length-append) (omega arith);
  small = omega (arith, h.within e.limits, limit_small o);
  is = ap (λ l. get_or l (size_of ctx.image o) no_record) own ∙ get_or-append_seam (records_of ctx.image o) r [] no_record;
})
  where
    own : records_of (appended ctx.image o (r ∷ [])) o ≡ records_of ctx.image o ++ r ∷ []
    own = records_own ctx.image o (records_of ctx.image o ++ r ∷ []) e.sections

-- its number is the old size
pub record_ok : (o : Section) → Growing o → (r : Rec) (ctx : Context) →
    GrowsTo ctx (λ n c. (n ≡ size_of ctx.image o) × At c.image o n r) (append o (r ∷ []) ctx)
record_ok o k r ctx =
    record { makes = λ e. weaker ((append_good o k (r ∷ []) ctx).makes e) λ n c h. (h.0, (h.1.at, at_end_lem o ctx r n c e h.1)) }
