use Rattle.rl_arena.proofs.Laws.{width_fits}
use Rattle.rl_context.proofs.FieldWords.{word_pair, word_number}
use Rattle.rl_context.proofs.copy.word_of.Goals as goal

ruleset laws = (word_pair, word_number, width_fits)

pub returns : goal.returns
returns c = word_number _ _ _ _ c.sort_of-sort.ensures _ c.is_pair.ensures _ c.if-is_pair.false c.width_of.ensures _ c.number_at.ensures
