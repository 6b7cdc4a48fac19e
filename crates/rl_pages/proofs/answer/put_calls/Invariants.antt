use mathlib.Core.Path.{◌≡◌}
use Prim.Native.Nat.{◌*◌, ◌≤◌}
use lib.ListN.{length}
use Rattle.rl_spec.specs.Image.{image_of}
use Rattle.rl_spec.specs.Pages.{all_report_lines, lines_bytes}
use Rattle.rl_pages.specs.Added.{Adds}
use Rattle.rl_pages.proofs.answer.put_calls.Given as goal

abbrev pub invariant-loop-call : goal.invariant-loop-call
invariant-loop-call l = (l.at ≤ l.call * 149504) × (l.lines ≤ l.call * 512) × (l.lines ≡ length (all_report_lines (image_of l.opened.image.bytes.now) l.call))
    × Adds l.initial.pages 0 (lines_bytes (all_report_lines (image_of l.opened.image.bytes.now) l.call)) l.pages l.at
