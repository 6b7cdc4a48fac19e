use Prim.Native.Nat.{ℕ}
use mathlib.Core.Path.{sym}
use lib.ListN.{length-replicate}
use Rattle.rl_resolver.proofs.Beginning.{fresh_begun}
use Rattle.rl_resolver.proofs.Finishing.{body_full, body_put}
use Rattle.rl_resolver.proofs.lowering.put_finished.Goals as goal

pub returns-then-ctx : goal.returns-then-ctx
returns-then-ctx c = let body = c.new_body.ensures c.schema_table-rows.ensures.value c.requires.function_lt_functions (sym (length-replicate {A = ℕ} 16385 0)) c.requires.source.well_formed (fresh_begun _ _ _ _ c.requires.source _ c.begun-start.ensures) in
    body_full _ _ _ _ c.requires.source c.requires.function_lt_functions _ c.requires.in_bounds _ c.begun-start.ensures _ _ _ _ body c.if-ctx.true

pub returns : goal.returns
returns c = let body = c.new_body.ensures c.schema_table-rows.ensures.value c.requires.function_lt_functions (sym (length-replicate {A = ℕ} 16385 0)) c.requires.source.well_formed (fresh_begun _ _ _ _ c.requires.source _ c.begun-start.ensures) in
    body_put _ _ _ _ c.requires.source c.requires.function_lt_functions _ c.requires.in_bounds _ c.begun-start.ensures _ _ _ _ body c.if-ctx.false _ _ c.assemble.ensures
