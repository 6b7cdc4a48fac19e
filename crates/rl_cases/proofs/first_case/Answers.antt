use Rattle.std.proofs.Common.{◌++◌, drop, ap, ◌∙◌, drop_at}
use Rattle.rl_cases.proofs.first_case.Goals as goal

pub returns-clause-parts : goal.returns-clause-parts
returns-clause-parts g c =
    ap (drop 4) c.in_ok-rest.ensures.both
    ∙ drop_at _ _ 4 c.in_ok-rest.ensures.first
    ∙ c.in_ok-head.ensures.both
    ∙ ap (λ l. c.in_ok-head.head.now ++ l) (c.in_ok-image.ensures.both ∙ ap (λ l. c.in_ok-image.image.now ++ l) c.split_within.ensures)
