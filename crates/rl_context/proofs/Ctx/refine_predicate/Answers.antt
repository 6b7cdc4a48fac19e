use Rattle.rl_encode.specs.Words.{word_fields}
use Rattle.rl_spec.specs.Schema.{sort_of}
use Rattle.rl_context.proofs.Rows.{row_identifier, row_binary, fields_identifier, fields_binary}
use Rattle.rl_context.proofs.Operands.{leaf_made}
use Rattle.rl_context.proofs.RefinementLaws.{predicate_does}
use Rattle.rl_context.proofs.Ctx.refine_predicate.Goals as goal

pub returns : goal.returns
unfolding word_fields sort_of
returns c im p w = let o = c.operand_of-o.ensures im p w in predicate_does _ _ _ _ _ c.token_of-token.ensures (c.text.ensures p) o.leaf o.row o.does (leaf_made _ _ o.leaf (λ cs f. c.expr-right.ensures im 0 w cs o.row f)) (c.new_text-named.ensures im 0 w) (c.expr-left.ensures im 0 w _ row_identifier fields_identifier) (c.expr-whole.ensures im 0 w _ row_binary fields_binary)
