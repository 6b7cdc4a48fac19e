use Rattle.rl_prover.proofs.CallLaws.{call_far, call_missing, call_found}
use Rattle.std.proofs.Common.{rules}
use Rattle.rl_prover.proofs.calls.prove_call.Goals as goal

ruleset laws = (call_far, call_missing, call_found)

pub returns-in_default-clause-proves_call : goal.returns-in_default-clause-proves_call
returns-in_default-clause-proves_call c = call_missing c.args.image.bytes.now c.args.image.starts.now c.args.image.counts c.args.classes.now c.args.call c.args.names.now c.args.reports.now c.args.start c.call-record.result c.call-record.ensures c.find_callee.result c.find_callee.ensures c.in_default.is

pub returns-clause-proves_call : goal.returns-clause-proves_call
returns-clause-proves_call c = search (laws, rules)
