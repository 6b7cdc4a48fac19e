use Prim.Native.Nat.{◌+◌, ◌*◌, ◌≤◌}
use lib.ListN.{take}
use Rattle.rl_spec.specs.Image.{image_of}
use Rattle.rl_spec.specs.Pages.{report_lines, lines_bytes}
use Rattle.rl_pages.specs.Added.{Adds}
use Rattle.rl_pages.proofs.lines.put_reports.Given as goal

abbrev pub invariant-loop-number : goal.invariant-loop-number
invariant-loop-number l = (l.place ≤ l.fn.at + l.number * 292)
    × Adds l.initial.pages l.fn.at (lines_bytes (take l.number (report_lines (image_of l.call.image.bytes.now) l.call.lines.call))) l.pages l.place
