use native.Mathlib.Omega.{arith}
use Rattle.rl_pages.proofs.ReportLaws.{blank_short, buffered, buffered_short}
use Rattle.rl_pages.proofs.LinesLaws.{adds_no_lines, adds_blank}
use Rattle.std.proofs.Common.{rules}
use Rattle.rl_pages.proofs.put.put_blanks.Goals as goal

pub loop-init : goal.loop-init
loop-init c = (search rules, adds_no_lines _ _)

pub loop-preserved : goal.loop-preserved
loop-preserved c = (
  omega (arith, c.put_behind-place.ensures.value, c.loop.invariant.0, buffered_short _ _ _ _ blank_short (c.put_blank_line-n.ensures.value, c.put_blank_line-n.ensures.out_after) c.part.ensures),
  adds_blank c.loop.counter _ _ _ _ _ _ _ (buffered _ _ _ _ blank_short (c.put_blank_line-n.ensures.value, c.put_blank_line-n.ensures.out_after) c.part.ensures) c.loop.invariant.1 c.put_behind-place.ensures.adds,
)
