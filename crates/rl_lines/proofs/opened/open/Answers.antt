use Prim.Native.Nat.{ℕ}
use mathlib.Core.Path.{◌≡◌, refl}
use lib.ListN.{length, replicate, length-replicate}
use Rattle.rl_lines.proofs.OpenLaws.{opened_accepted}
use Rattle.std.proofs.Common.{rules}
use Rattle.rl_lines.proofs.opened.open.Goals as goal

pub returns-clause-opened : goal.returns-clause-opened
returns-clause-opened c = let size : length c.args.classes.now ≡ 2048 = search rules in
    opened_accepted _ _ _ c.in_ok-accepted.ensures.value (λ i. search rules) _ _ refl _ c.text_classes.new.classes (replicate 2048 0) c.args.classes.now c.read_starts.ensures.starts_after (length-replicate {A = ℕ} 2048 0) size c.text_classes.ensures.by_index_2
