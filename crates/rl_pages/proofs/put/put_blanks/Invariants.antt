use Prim.Native.Nat.{◌+◌, ◌*◌, ◌≤◌}
use lib.ListN.{replicate}
use Rattle.rl_spec.specs.Pages.{spaces, lines_bytes}
use Rattle.rl_pages.specs.Added.{Adds}
use Rattle.rl_pages.proofs.put.put_blanks.Given as goal

abbrev pub invariant-loop : goal.invariant-loop
invariant-loop l = (l.place ≤ l.fn.at + l.counter * 292) × Adds l.initial.pages l.fn.at (lines_bytes (replicate l.counter (spaces 72))) l.pages l.place
