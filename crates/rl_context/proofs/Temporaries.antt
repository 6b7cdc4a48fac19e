-- The number of a temporary is taken. As many as there are new statements have been taken before, so that it is small.
-- Assumes nothing.
use Rattle.std.proofs.Common.{◌≡◌, ℕ, suc, ◌+◌, ◌<◌, true, false, List, refl, ap, ◌∙◌, arith}
use mathlib.Core.Option.{some}
use Rattle.rl_spec.specs.Image.{Image}
use Rattle.rl_spec.specs.Make.{Context, take_temp}
use Rattle.rl_context.specs.declared.Ctx.{Ctx}
use Rattle.rl_context.specs.Additions.{context_of, Live}
use Rattle.rl_context.specs.Does.{State, at, nothing, Does}
use Rattle.rl_context.proofs.Composed.{not_both}
use Rattle.rl_images.specs.Lowering.Adds.{adds_temp}
use Rattle.rl_context.proofs.Appends.{stops_does}
use Rattle.rl_context.proofs.Making.{makes_does}

abbrev pub numbered : Ctx → ℕ → Ctx
numbered ctx n =
    record {
      bytes = ctx.bytes;
      texts = ctx.texts;
      lists = ctx.lists;
      expressions = ctx.expressions;
      statements = ctx.statements;
      expression_bytes = ctx.expression_bytes;
      statement_bytes = ctx.statement_bytes;
      waiting = ctx.waiting;
      span = ctx.span;
      is_result = ctx.is_result;
      temp_counter = n;
      full = ctx.full;
    }

module _ (im : Image) (self : Ctx) (s w : List ℕ) where
  pub temp_full : (t : State) → t.ctx.full ≡ true → self.full ≡ true → Does im 0 1 nothing take_temp (at self s w) self.temp_counter t
  temp_full t g f = stops_does nothing g adds_temp (λ x ws v l. not_both f v)

  pub temp_many : (t : State) → t.ctx.full ≡ true → 2048 < self.temp_counter → Does im 0 1 nothing take_temp (at self s w) self.temp_counter t
  temp_many t f h =
      stops_does nothing f adds_temp (λ x ws v l. absurd (omega (arith, l.temps, l.counted.statements, l.counted.few_statements)))

  pub temp_taken : self.full ≡ false → Does im 0 1 nothing take_temp (at self s w) self.temp_counter (at (numbered self (self.temp_counter + 1)) s w)
  temp_taken f = makes_does f f go
    where
      next : suc self.temp_counter ≡ self.temp_counter + 1
      next = omega arith

      go : (x : Context) (ws : List ℕ) → Live im 0 x ws self s w →
          (y : Context) × ((take_temp x ≡ some (self.temp_counter, y)) × Live im 1 y ws (numbered self (self.temp_counter + 1)) s w)
      go x ws l = (
        context_of im l.new (numbered self (self.temp_counter + 1)),
        (
          ap take_temp l.context ∙ ap (λ n. some (self.temp_counter, context_of im l.new (numbered self n))) next,
          record {
            new = l.new;
            context = refl;
            image = l.image;
            counted =
                record {
                  bytes = l.counted.bytes;
                  texts = l.counted.texts;
                  lists = l.counted.lists;
                  expressions = l.counted.expressions;
                  statements = l.counted.statements;
                  few_bytes = l.counted.few_bytes;
                  few_texts = l.counted.few_texts;
                  few_lists = l.counted.few_lists;
                  few_expressions = l.counted.few_expressions;
                  few_statements = l.counted.few_statements;
                  text_bytes_lem = l.counted.text_bytes_lem;
                  list_bytes = l.counted.list_bytes;
                  expression_bytes_lem = l.counted.expression_bytes_lem;
                  statement_bytes_lem = l.counted.statement_bytes_lem;
                  low_expressions = l.counted.low_expressions;
                  low_statements = l.counted.low_statements;
                };
            kept = l.kept;
            waits = record { size = l.waits.size; count = l.waits.count; few = l.waits.few; entries = l.waits.entries };
            temps = omega (arith, l.temps);
          },
        ),
      )
