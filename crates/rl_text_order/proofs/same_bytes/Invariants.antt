use Rattle.std.proofs.Common.{◌≡◌, drop}
use Rattle.rl_spec.specs.Values.{same_text}
use Rattle.rl_text_order.proofs.same_bytes.Given as goal

abbrev pub invariant-loop-i : goal.invariant-loop-i
invariant-loop-i l = same_text l.a l.b ≡ same_text (drop l.i l.a) (drop l.i l.b)
