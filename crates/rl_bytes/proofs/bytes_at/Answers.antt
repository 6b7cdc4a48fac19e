use Rattle.std.proofs.Common.{arith}
use Rattle.std.proofs.lemmas.List.{places}
use Rattle.rl_bytes.proofs.Laws.{num_same}
use Rattle.rl_bytes.proofs.bytes_at.Goals as goal

pub returns-in-Some : goal.returns-in-Some
returns-in-Some g c = num_same _ _ _ _ _ (λ k h. grind (arith, places))

pub returns : goal.returns
returns g c = num_same _ _ _ _ _ (λ k h. grind (arith, places))
