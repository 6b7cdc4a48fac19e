use mathlib.Core.Path.{◌≡◌}
use lib.ListN.{length}
use Rattle.rl_lines.proofs.LineLaws.{refused_length, refused_out}
use Rattle.std.proofs.Common.{rules}
use Rattle.rl_lines.proofs.lines.put_refused.Goals as goal

pub returns-clause-value : goal.returns-clause-value
returns-clause-value c = let size : length c.args.out.now ≡ 65536 = search rules in
    refused_length _ _ _ _ size (c.fill.ensures.after (λ y e. e)) _ c.refused_line.ensures.value

pub returns-clause-out_after : goal.returns-clause-out_after
returns-clause-out_after c = let size : length c.args.out.now ≡ 65536 = search rules in
    refused_out _ _ _ _ size (c.fill.ensures.after (λ y e. e)) _ c.refused_line.ensures.out_after
