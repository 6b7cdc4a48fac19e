use Rattle.std.proofs.Common.{◌≡◌, ◌+◌, ◌*◌, ◌^◌, ◌<◌, ◌≤◌, length}
use Rattle.rl_schema.specs.Codes.{codes, table}
use Rattle.rl_context.specs.Does.{at}
use Rattle.rl_context.proofs.Copying.{Copying}
use Rattle.rl_context.proofs.CopiedEntries.{CopyingEntries}
use Rattle.rl_context.proofs.copy.+clone_entries_clone_entry_clone_field_deep_clone_expr.Given as goal

abbrev pub decreases-clone_entries : goal.decreases-clone_entries
decreases-clone_entries l = l.id * 4 + 1

abbrev pub decreases-clone_entry : goal.decreases-clone_entry
decreases-clone_entry l = l.id * 4

abbrev pub decreases-clone_field : goal.decreases-clone_field
decreases-clone_field l = l.id * 4 + 2

abbrev pub decreases-deep_clone_expr : goal.decreases-deep_clone_expr
decreases-deep_clone_expr l = l.id * 4 + 3

abbrev pub invariant-clone_entries-loop-i : goal.invariant-clone_entries-loop-i
invariant-clone_entries-loop-i l = (length l.scratch ≡ length l.initial.scratch) × ((length l.waiting ≡ length l.initial.waiting) ×
    (l.rows ≡ table → l.id < l.image.counts.expressions → CopyingEntries l.image.bytes.now l.image.starts.now l.image.counts l.id l.list.first l.list.count l.initial.here l.initial.other (at l.initial.ctx l.initial.scratch l.initial.waiting) (at l.ctx l.scratch l.waiting) l.i l.here l.other))

abbrev pub invariant-deep_clone_expr-loop-rest : goal.invariant-deep_clone_expr-loop-rest
invariant-deep_clone_expr-loop-rest l = (length l.scratch ≡ length l.initial.scratch) × ((length l.waiting ≡ length l.initial.waiting) × ((l.rest < 2 ^ 64) × ((l.j + length (codes l.rest) ≤ 8) × ((l.place ≤ 66000 + 8 * l.j) × ((length l.words ≡ 8) ×
    (l.rows ≡ table → l.id < l.image.counts.expressions → Copying l.image.bytes.now l.image.starts.now l.image.counts l.id l.row (l.start + 1) (at l.initial.ctx l.initial.scratch l.initial.waiting) (at l.ctx l.scratch l.waiting) l.words l.rest l.place l.j))))))

abbrev pub decreases-deep_clone_expr-loop-rest : goal.decreases-deep_clone_expr-loop-rest
decreases-deep_clone_expr-loop-rest l = l.rest
