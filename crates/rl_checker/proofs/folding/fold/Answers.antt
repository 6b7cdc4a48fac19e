use lib.ListN.{length}
use Rattle.rl_checker.proofs.FoldLaws.{fold_unread, fold_unread_work, fold_refused, fold_refused_work, fold_found, fold_found_work}
use Rattle.std.proofs.Common.{rules}
use Rattle.rl_checker.proofs.folding.fold.Goals as goal

ruleset laws = (fold_unread, fold_unread_work, fold_found, fold_found_work)

pub returns-in_err-arena-clause-value : goal.returns-in_err-arena-clause-value
returns-in_err-arena-clause-value c = search (laws, rules)

pub returns-in_err-arena-clause-work_after : goal.returns-in_err-arena-clause-work_after
returns-in_err-arena-clause-work_after c = search (laws, rules)

pub returns-in-Ok-clause-value : goal.returns-in-Ok-clause-value
returns-in-Ok-clause-value c = search (laws, rules)

pub returns-in-Ok-clause-work_after : goal.returns-in-Ok-clause-work_after
returns-in-Ok-clause-work_after c = search (laws, rules)

pub returns-in-Err-clause-value : goal.returns-in-Err-clause-value
returns-in-Err-clause-value c = fold_refused c.args.image.now (length c.args.work.now) c.args.id _ c.read_starts.ensures.value c.in_ok-arena.field-0.arena c.in_ok-arena.field-0.counts c.in_ok-arena.was _ c.node_of.ensures _ c.in-Err.is _ c.into.ensures

pub returns-in-Err-clause-work_after : goal.returns-in-Err-clause-work_after
returns-in-Err-clause-work_after c = fold_refused_work c.args.image.now (length c.args.work.now) c.args.id _ c.read_starts.ensures.value c.in_ok-arena.field-0.arena c.in_ok-arena.field-0.counts c.in_ok-arena.was _ c.node_of.ensures _ c.in-Err.is c.read_starts.new.work _ c.read_starts.auto.work (c.fill.ensures.after (λ y e. e))
