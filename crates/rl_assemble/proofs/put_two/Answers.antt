use Rattle.rl_assemble.proofs.Puts.{text_put, filled}
use Rattle.std.proofs.Common.{refl}
use Rattle.rl_assemble.proofs.put_two.Goals as goal

pub returns-clause-puts : goal.returns-clause-puts
returns-clause-puts c = text_put (filled _ _ _ refl c.put_number.ensures) c.text.ensures.bytes c.text.ensures.at
