use Rattle.std.proofs.Common.{◌≡◌, drop}
use Rattle.rl_spec.specs.Values.{less_text}
use Rattle.rl_text_order.proofs.less_bytes.Given as goal

abbrev pub invariant-loop-i : goal.invariant-loop-i
invariant-loop-i l = less_text l.a l.b ≡ less_text (drop l.i l.a) (drop l.i l.b)
