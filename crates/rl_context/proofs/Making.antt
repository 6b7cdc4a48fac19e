-- Where something is made: the additions, the counts and the scratch slice go on together.
-- Assumes nothing.
use Rattle.std.proofs.Common.{◌≡◌, ℕ, ◌+◌, ◌-◌, ◌*◌, ◌≤◌, Bool, false, cond, ltb, List, [], ◌∷◌, ◌++◌, length, sym, refl, ap, ◌∙◌, subst, arith, length-append, ltb-false}
use mathlib.Core.Option.{Option, none, some}
use Rattle.rl_spec.specs.declared.Section.TheVariants.{Texts, Lists, Expressions, Statements}
use Rattle.rl_spec.specs.Schema.{fields_of}
use Rattle.rl_spec.specs.Image.{Rec, Image, size_of, encode_fields, encode_record, encode_records}
use Rattle.rl_spec.specs.Make.{Context, Make, and_then, append}
use Rattle.rl_schema.specs.Codes.{codes}
use Rattle.rl_encode.specs.Words.{word_fields, word_record, over}
use Rattle.rl_encode.proofs.Over.{length_over}
use Rattle.rl_context.specs.declared.Ctx.{Ctx}
use Rattle.rl_context.specs.Additions.{New, context_of, Kept, Counted, Live}
use Rattle.rl_context.specs.Does.{State, at, nothing, Ends, Does}
use Rattle.rl_context.proofs.Composed.{ends_live}
use Rattle.rl_context.proofs.Regions.{held_before, held_after, held_more}
use Rattle.rl_context.proofs.Grown.{with_expressions, with_statements, expressions_appended, statements_appended}
use Rattle.rl_context.proofs.Sizes.{records_one, record_bytes, record_narrow}

-- a computation that gives something wherever the code stands
pub makes_does : {A : Type 0} {im : Image} {j k : ℕ} {m : Make A} {s : State} {a : A} {t : State} → s.ctx.full ≡ false → t.ctx.full ≡ false →
    ((x : Context) (ws : List ℕ) → Live im j x ws s.ctx s.scratch s.waiting →
    (y : Context) × ((m x ≡ some (a, y)) × Live im k y ws t.ctx t.scratch t.waiting)) →
    Does im j k nothing m s a t
makes_does {im = im} {k = k} {m = m} {a = a} {t = t} f g h =
    record {
      does = λ ws o st.
          let l = st.live f in
          let r = h l.here (ws ++ []) l.live in
          subst (λ z. Ends im k nothing ws (and_then z (λ _. m)) a t) (sym l.is)
          (subst (λ z. Ends im k nothing ws z a t) (sym r.1.0) (ends_live g r.1.1));
    }

-- a test that holds
allowed : {A : Type 0} (b : Bool) (o : Option A) → b ≡ false → cond b none o ≡ o
allowed b o e = ap (λ z. cond z none o) e

-- ---- expressions and statements

abbrev pub expressed : Ctx → ℕ → Ctx
expressed ctx n =
    record {
      bytes = ctx.bytes;
      texts = ctx.texts;
      lists = ctx.lists;
      expressions = ctx.expressions + 1;
      statements = ctx.statements;
      expression_bytes = n;
      statement_bytes = ctx.statement_bytes;
      waiting = ctx.waiting;
      span = ctx.span;
      is_result = ctx.is_result;
      temp_counter = ctx.temp_counter;
      full = ctx.full;
    }

abbrev pub stated : Ctx → ℕ → Ctx
stated ctx n =
    record {
      bytes = ctx.bytes;
      texts = ctx.texts;
      lists = ctx.lists;
      expressions = ctx.expressions;
      statements = ctx.statements + 1;
      expression_bytes = ctx.expression_bytes;
      statement_bytes = n;
      waiting = ctx.waiting;
      span = ctx.span;
      is_result = ctx.is_result;
      temp_counter = ctx.temp_counter;
      full = ctx.full;
    }

module _ (im : Image) (new : New) (self : Ctx) (scratch : List ℕ) (c : Counted im new self) (p : Kept im new scratch) (r : Rec) (size : length (encode_record r) ≤ 24) where
  module _ (few : self.expressions + 1 ≤ 4096) where
    expression_counted : Counted im (with_expressions new (r ∷ [])) (expressed self (self.expression_bytes + length (encode_record r)))
    expression_counted =
        record {
          bytes = c.bytes;
          texts = c.texts;
          lists = c.lists;
          expressions = rw (length-append new.expressions (r ∷ [])) (omega (arith, c.expressions));
          statements = c.statements;
          few_bytes = c.few_bytes;
          few_texts = c.few_texts;
          few_lists = c.few_lists;
          few_expressions = few;
          few_statements = c.few_statements;
          text_bytes_lem = c.text_bytes_lem;
          list_bytes = c.list_bytes;
          expression_bytes_lem = rw (records_one new.expressions r, length-append (encode_records new.expressions) (encode_record r)) (omega (arith, c.expression_bytes_lem));
          statement_bytes_lem = c.statement_bytes_lem;
          low_expressions = rw (length-append new.expressions (r ∷ [])) (omega (arith, c.low_expressions));
          low_statements = c.low_statements;
        }

    expression_kept : Kept im (with_expressions new (r ∷ [])) (over scratch (38912 + self.expression_bytes) (encode_record r))
    expression_kept =
        record {
          size = length_over scratch to s room ∙ p.size;
          bytes = held_before scratch to s near (length im.bytes) new.bytes (omega (arith, c.bytes, c.few_bytes)) room p.bytes;
          texts = held_before scratch to s near (16384 + size_of im Texts * 5) (encode_records new.texts) (omega (arith, c.texts, c.few_texts, c.text_bytes_lem)) room p.texts;
          lists = held_before scratch to s near (26624 + size_of im Lists * 3) (encode_records new.lists) (omega (arith, c.lists, c.few_lists, c.list_bytes)) room p.lists;
          expressions = rw (records_one new.expressions r) (held_more scratch 38912 (encode_records new.expressions) s to (ap (λ n. 38912 + n) c.expression_bytes_lem) room p.expressions);
          statements = held_after scratch to s near 137216 (encode_records new.statements) (omega (arith, c.low_expressions, c.expressions, c.few_expressions)) p.statements;
        }
      where
        to : ℕ
        to = 38912 + self.expression_bytes

        s : List ℕ
        s = encode_record r

        room : to + length s ≤ length scratch
        room = rw p.size (omega (arith, c.low_expressions, c.expressions, c.few_expressions))

        near : to ≤ length scratch
        near = omega (arith, room)

  module _ (few : self.statements + 1 ≤ 2048) where
    statement_counted : Counted im (with_statements new (r ∷ [])) (stated self (self.statement_bytes + length (encode_record r)))
    statement_counted =
        record {
          bytes = c.bytes;
          texts = c.texts;
          lists = c.lists;
          expressions = c.expressions;
          statements = rw (length-append new.statements (r ∷ [])) (omega (arith, c.statements));
          few_bytes = c.few_bytes;
          few_texts = c.few_texts;
          few_lists = c.few_lists;
          few_expressions = c.few_expressions;
          few_statements = few;
          text_bytes_lem = c.text_bytes_lem;
          list_bytes = c.list_bytes;
          expression_bytes_lem = c.expression_bytes_lem;
          statement_bytes_lem = rw (records_one new.statements r, length-append (encode_records new.statements) (encode_record r)) (omega (arith, c.statement_bytes_lem));
          low_expressions = c.low_expressions;
          low_statements = rw (length-append new.statements (r ∷ [])) (omega (arith, c.low_statements));
        }

    statement_kept : Kept im (with_statements new (r ∷ [])) (over scratch (137216 + self.statement_bytes) (encode_record r))
    statement_kept =
        record {
          size = length_over scratch to s room ∙ p.size;
          bytes = held_before scratch to s near (length im.bytes) new.bytes (omega (arith, c.bytes, c.few_bytes)) room p.bytes;
          texts = held_before scratch to s near (16384 + size_of im Texts * 5) (encode_records new.texts) (omega (arith, c.texts, c.few_texts, c.text_bytes_lem)) room p.texts;
          lists = held_before scratch to s near (26624 + size_of im Lists * 3) (encode_records new.lists) (omega (arith, c.lists, c.few_lists, c.list_bytes)) room p.lists;
          expressions =
              held_before scratch to s near 38912 (encode_records new.expressions)
              (omega (arith, c.expression_bytes_lem, c.low_expressions, c.expressions, c.few_expressions)) room p.expressions;
          statements = rw (records_one new.statements r) (held_more scratch 137216 (encode_records new.statements) s to (ap (λ n. 137216 + n) c.statement_bytes_lem) room p.statements);
        }
      where
        to : ℕ
        to = 137216 + self.statement_bytes

        s : List ℕ
        s = encode_record r

        room : to + length s ≤ length scratch
        room = rw p.size (omega (arith, c.low_statements, c.statements, c.few_statements))

        near : to ≤ length scratch
        near = omega (arith, room)

-- ---- what the code has written, as the record

module _ (im : Image) (k : ℕ) (self : Ctx) (scratch w : List ℕ) (kind row : ℕ) (ws : List ℕ) (f : self.full ≡ false) (is : codes row ≡ fields_of kind) where
  written : kind ∷ encode_fields (codes row) (word_fields (codes row) ws 0) ≡ encode_record (word_record kind ws)
  written = ap (λ cs. kind ∷ encode_fields cs (word_fields cs ws 0)) is ∙ sym (record_bytes kind ws)

  module _ (next : ℕ) (end : List ℕ) (b : Bool) (q : b ≡ false) where
    pub expression_made : b ≡ ltb 4096 (self.expressions + 1) → next ≡ 38912 + self.expression_bytes + length (kind ∷ encode_fields (codes row) (word_fields (codes row) ws 0)) →
        end ≡ over scratch (38912 + self.expression_bytes) (kind ∷ encode_fields (codes row) (word_fields (codes row) ws 0)) →
        Does im k k nothing (append Expressions (word_record kind ws ∷ [])) (at self scratch w) self.expressions (at (expressed self (next - 38912)) end w)
    expression_made e n o = makes_does f f go
      where
        r : Rec
        r = word_record kind ws

        few : self.expressions + 1 ≤ 4096
        few = ltb-false 4096 (self.expressions + 1) (sym e ∙ q)

        bytes : self.expression_bytes + length (encode_record r) ≡ next - 38912
        bytes = omega (arith, n, ap length written)

        go : (x : Context) (vs : List ℕ) → Live im k x vs self scratch w →
            (y : Context) × ((append Expressions (r ∷ []) x ≡ some (self.expressions, y)) × Live im k y vs (expressed self (next - 38912)) end w)
        go x vs l = (
          context_of im (with_expressions l.new (r ∷ [])) self,
          (
            ap (append Expressions (r ∷ [])) l.context
                ∙ expressions_appended im l.new self (r ∷ []) self.expressions l.counted.expressions
                ∙ allowed (ltb 4096 (self.expressions + 1)) _ (sym e ∙ q),
            record {
              new = with_expressions l.new (r ∷ []);
              context = refl;
              image = l.image;
              counted = subst (λ m. Counted im (with_expressions l.new (r ∷ [])) (expressed self m)) bytes (expression_counted im l.new self scratch l.counted l.kept r (record_narrow kind ws) few);
              kept =
                  subst (Kept im (with_expressions l.new (r ∷ []))) (ap (over scratch (38912 + self.expression_bytes)) (sym written) ∙ sym o)
                  (expression_kept im l.new self scratch l.counted l.kept r (record_narrow kind ws) few);
              waits = record { size = l.waits.size; count = l.waits.count; few = l.waits.few; entries = l.waits.entries };
              temps = l.temps;
            },
          ),
        )

    pub statement_made : b ≡ ltb 2048 (self.statements + 1) → next ≡ 137216 + self.statement_bytes + length (kind ∷ encode_fields (codes row) (word_fields (codes row) ws 0)) →
        end ≡ over scratch (137216 + self.statement_bytes) (kind ∷ encode_fields (codes row) (word_fields (codes row) ws 0)) →
        Does im k (k - 1) nothing (append Statements (word_record kind ws ∷ [])) (at self scratch w) self.statements (at (stated self (next - 137216)) end w)
    statement_made e n o = makes_does f f go
      where
        r : Rec
        r = word_record kind ws

        few : self.statements + 1 ≤ 2048
        few = ltb-false 2048 (self.statements + 1) (sym e ∙ q)

        bytes : self.statement_bytes + length (encode_record r) ≡ next - 137216
        bytes = omega (arith, n, ap length written)

        go : (x : Context) (vs : List ℕ) → Live im k x vs self scratch w →
            (y : Context) × ((append Statements (r ∷ []) x ≡ some (self.statements, y)) × Live im (k - 1) y vs (stated self (next - 137216)) end w)
        go x vs l = (
          context_of im (with_statements l.new (r ∷ [])) self,
          (
            ap (append Statements (r ∷ [])) l.context
                ∙ statements_appended im l.new self (r ∷ []) self.statements l.counted.statements
                ∙ allowed (ltb 2048 (self.statements + 1)) _ (sym e ∙ q),
            record {
              new = with_statements l.new (r ∷ []);
              context = refl;
              image = l.image;
              counted = subst (λ m. Counted im (with_statements l.new (r ∷ [])) (stated self m)) bytes (statement_counted im l.new self scratch l.counted l.kept r (record_narrow kind ws) few);
              kept =
                  subst (Kept im (with_statements l.new (r ∷ []))) (ap (over scratch (137216 + self.statement_bytes)) (sym written) ∙ sym o)
                  (statement_kept im l.new self scratch l.counted l.kept r (record_narrow kind ws) few);
              waits = record { size = l.waits.size; count = l.waits.count; few = l.waits.few; entries = l.waits.entries };
              temps = rw (length-append l.new.statements (r ∷ [])) (omega (arith, l.temps));
            },
          ),
        )
