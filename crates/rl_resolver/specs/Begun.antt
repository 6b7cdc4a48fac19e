-- The context that lowering a function begins with: nothing is new.
use Rattle.std.specs.Prelude.{false}
use Rattle.rl_spec.specs.declared.Counts.{Counts}
use Rattle.rl_spec.specs.declared.Function.{Function}
use Rattle.rl_context.specs.declared.Ctx.{Ctx}

abbrev pub begun : Counts → Function → Ctx
begun c g =
    record {
      bytes = c.bytes;
      texts = c.texts;
      lists = c.lists;
      expressions = c.expressions;
      statements = c.statements;
      expression_bytes = 0;
      statement_bytes = 0;
      waiting = 0;
      span = g.span;
      is_result = g.result;
      temp_counter = 0;
      full = false;
    }
