-- How a run ends whose body ended so. Assumes nothing.
use Rattle.rl_spec.specs.declared.Outcome.{Outcome}
use Rattle.rl_spec.specs.declared.Outcome.TheVariants.{Returned, Fault}
use Rattle.rl_spec.specs.declared.Plain.TheVariants.{Null}
use Rattle.rl_spec.specs.declared.Value.TheVariants.{Plain as Bare}
use Rattle.rl_machine.specs.declared.types.Flow.{Flow}
use Rattle.rl_machine.specs.declared.types.Flow.TheVariants.{Onward, Breaks, Continues, Skipped, Over}

abbrev pub outcome_after : Flow → Outcome
outcome_after Onward = Returned (Bare Null)
outcome_after Breaks = Fault 1
outcome_after Continues = Fault 1
outcome_after Skipped = Fault 1
outcome_after (Over o) = o
