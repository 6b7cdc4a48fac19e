use Rattle.rl_columns.proofs.ColumnLaws.{next_within, next_fits, more_after, more_with, none_after, none_with}
use Rattle.std.proofs.Common.{arith, rules, ap, ◌∙◌}
use Rattle.rl_text_out.specs.Put.{after_text, with_text}
use Rattle.rl_columns.proofs.put_from_left.Goals as goal

ruleset laws = (next_within, next_fits)

pub loop-preserved : goal.loop-preserved
loop-preserved c = (
  search (laws, rules),
  search rules,
  more_after _ _ _ _ _ _ _ _ _ _ _ (search rules) c.char_width-width.ensures (c.text.ensures.at ∙ ap (after_text _ _) c.column.ensures) (c.text.ensures.bytes ∙ ap (with_text _ _) c.column.ensures) c.loop.invariant.2,
  more_with _ _ _ _ _ _ _ _ _ _ _ (search rules) c.char_width-width.ensures (c.text.ensures.at ∙ ap (after_text _ _) c.column.ensures) (c.text.ensures.bytes ∙ ap (with_text _ _) c.column.ensures) c.loop.invariant.3,
)

pub returns-clause-bytes : goal.returns-clause-bytes
returns-clause-bytes c = none_with _ _ _ _ _ _ _ _ (omega arith) (omega arith) c.loop.invariant.3

pub returns-clause-at : goal.returns-clause-at
returns-clause-at c = none_after _ _ _ _ _ _ _ _ (omega arith) (omega arith) c.loop.invariant.2
