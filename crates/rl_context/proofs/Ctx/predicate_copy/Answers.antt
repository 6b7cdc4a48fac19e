use Rattle.rl_encode.specs.Words.{word_fields}
use Rattle.rl_spec.specs.Schema.{sort_of}
use Rattle.rl_context.proofs.Rows.{row_identifier, row_binary, fields_identifier, fields_binary}
use Rattle.rl_context.proofs.Operands.{leaf_made, copy_does}
use Rattle.rl_context.proofs.Ctx.predicate_copy.Goals as goal

pub returns : goal.returns
unfolding word_fields sort_of
returns c im w leaf row = copy_does (_, _) _ _ (c.expr-left.ensures im 0 w _ row_identifier fields_identifier) (leaf_made _ _ leaf (λ cs f. c.expr-right.ensures im 0 w cs row f)) (c.expr.ensures im 0 w _ row_binary fields_binary)
