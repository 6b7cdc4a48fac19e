use mathlib.Core.Path.{◌≡◌}
use lib.ListN.{length}
use Rattle.rl_lines.proofs.LineLaws.{number_low, no_line_length, no_line_out, line_length, line_out}
use Rattle.rl_lines.proofs.OpenLaws.{number_by, list_by, bound_by}
use Rattle.std.proofs.Common.{rules}
use Rattle.rl_lines.proofs.lines.Reported.put_line.Goals as goal

pub returns-then-lines-number-clause-value : goal.returns-then-lines-number-clause-value
returns-then-lines-number-clause-value c =
    number_by c.args.self.known (λ known. no_line_length _ _ _ known _ c.args.self.proved _ c.args.self.reported _ c.if-lines-number.true)

pub returns-then-lines-number-clause-out_after : goal.returns-then-lines-number-clause-out_after
returns-then-lines-number-clause-out_after c = let size : length c.args.out.now ≡ 65536 = search rules in
    list_by c.args.self.known (λ known. no_line_out _ _ _ known _ c.args.self.proved _ c.args.self.reported _ c.if-lines-number.true _ _ size (c.fill.ensures.after (λ y e. e)))

pub violation_at-violation-requires : goal.violation_at-violation-requires
violation_at-violation-requires c = bound_by c.args.self.known (λ known. number_low _ _ _ known _ c.args.self.proved _ c.args.self.reported _ c.if-lines-number.false)

pub returns-clause-value : goal.returns-clause-value
returns-clause-value c = let size : length c.args.out.now ≡ 65536 = search rules in
    number_by c.args.self.known (λ known. line_length _ _ _ known _ c.args.self.proved _ c.args.self.reported _ c.if-lines-number.false _ c.violation_at-violation.ensures _ _ (c.fill.ensures.after (λ y e. e)) size _ c.report_line.ensures.value)

pub returns-clause-out_after : goal.returns-clause-out_after
returns-clause-out_after c = let size : length c.args.out.now ≡ 65536 = search rules in
    list_by c.args.self.known (λ known. line_out _ _ _ known _ c.args.self.proved _ c.args.self.reported _ c.if-lines-number.false _ c.violation_at-violation.ensures _ _ (c.fill.ensures.after (λ y e. e)) size _ c.report_line.ensures.out_after)
