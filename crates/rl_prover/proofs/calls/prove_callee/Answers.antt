use Rattle.rl_prover.proofs.CallLaws.{callee_proves}
use Rattle.rl_prover.proofs.calls.prove_callee.Goals as goal

pub returns-clause-proves_callee : goal.returns-clause-proves_callee
returns-clause-proves_callee c = callee_proves c.args.image.bytes.now c.args.image.starts.now c.args.image.counts c.args.classes.now c.args.f _ c.function-function.ensures c.args.args c.args.site.call c.args.site.span c.args.names.now c.args.reports.now c.args.memory.now _ _ _ _ _ _ _ _ c.args.start _ _
    (c.fill.ensures.after (λ y e. e)) c.bind_arguments-count.ensures c.report_refinements-at.ensures.reports_refinements c.report_requires.ensures.reports_requires
