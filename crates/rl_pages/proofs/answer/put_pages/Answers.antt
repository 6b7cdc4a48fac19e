use mathlib.Core.Path.{refl}
use Rattle.rl_pages.proofs.LinesLaws.{adds_pages}
use Rattle.rl_pages.proofs.answer.put_pages.Goals as goal

pub returns-clause-adds : goal.returns-clause-adds
returns-clause-adds c = adds_pages _ _ _ _ _ _ _ _ _ _ c.put_calls-placed.ensures.lines_value refl c.put_calls-placed.ensures.adds c.put_blanks.ensures.adds
