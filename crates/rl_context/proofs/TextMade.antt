-- A text is made: its bytes, and its record.
-- Assumes nothing.
use Rattle.std.proofs.Common.{◌≡◌, ℕ, ◌+◌, ◌-◌, ◌*◌, ◌≤◌, min, Bool, false, cond, ltb, List, [], ◌∷◌, ◌++◌, length, take, drop, sym, refl, ap, ◌∙◌, subst, arith, length-append, ltb-false}
use mathlib.Core.Option.{none, some}
use lib.Seq.{paste, take-length}
use Rattle.rl_spec.specs.declared.Section.TheVariants.{Texts, Lists}
use Rattle.rl_spec.specs.Image.{pair, Rec, Image, size_of, bytes_of, encode_record, encode_records}
use Rattle.rl_spec.specs.Make.{Context, and_then, append, made, new_text}
use Rattle.rl_images.specs.Encoding.BytesAt.{length_bytes}
use Rattle.rl_encode.specs.Words.{over}
use Rattle.rl_encode.proofs.Over.{length_over}
use Rattle.rl_text_out.specs.Put.{fitting, with_text}
use Rattle.rl_context.specs.declared.Ctx.{Ctx}
use Rattle.rl_context.specs.Additions.{New, context_of, Kept, Counted, Live}
use Rattle.rl_context.specs.Does.{at, nothing, Does}
use Rattle.rl_context.proofs.Regions.{held_before, held_after, held_more}
use Rattle.rl_context.proofs.Grown.{with_bytes_lem, with_texts, bytes_appended, texts_appended}
use Rattle.rl_context.proofs.Making.{makes_does}
use Rattle.rl_context.proofs.Sizes.{records_one, text_record}

-- a text that has room is put whole
pub text_over : (out : List ℕ) (to : ℕ) (text : List ℕ) → to + length text ≤ length out → with_text out to text ≡ over out to text
unfolding with_text fitting over
text_over out to text h = ap (paste out to text) whole ∙ ap (λ s. take to out ++ s ++ drop (to + length text) out) (take-length text)
  where
    whole : min (length text) (length out - to) ≡ length text
    whole = omega arith

abbrev pub texted : Ctx → ℕ → Ctx
texted ctx n =
    record {
      bytes = ctx.bytes + n;
      texts = ctx.texts + 1;
      lists = ctx.lists;
      expressions = ctx.expressions;
      statements = ctx.statements;
      expression_bytes = ctx.expression_bytes;
      statement_bytes = ctx.statement_bytes;
      waiting = ctx.waiting;
      span = ctx.span;
      is_result = ctx.is_result;
      temp_counter = ctx.temp_counter;
      full = ctx.full;
    }

module _ (im : Image) (new : New) (self : Ctx) (scratch text : List ℕ) (c : Counted im new self) (p : Kept im new scratch)
    (few : self.bytes + length text ≤ 16384) (room : self.texts + 1 ≤ 2048) where
  abbrev r : Rec
  r = made 2 (pair self.bytes (length text) ∷ [])

  abbrev s : List ℕ
  s = bytes_of 5 (2 + self.bytes * 256 + length text * 16777216)

  is_record : encode_record r ≡ s
  is_record = text_record self.bytes (length text) (omega arith) (omega arith)

  text_counted : Counted im (with_texts (with_bytes_lem new text) (r ∷ [])) (texted self (length text))
  text_counted =
      record {
        bytes = rw (length-append new.bytes text) (omega (arith, c.bytes));
        texts = rw (length-append new.texts (r ∷ [])) (omega (arith, c.texts));
        lists = c.lists;
        expressions = c.expressions;
        statements = c.statements;
        few_bytes = few;
        few_texts = room;
        few_lists = c.few_lists;
        few_expressions = c.few_expressions;
        few_statements = c.few_statements;
        text_bytes_lem =
            rw (records_one new.texts r, length-append (encode_records new.texts) (encode_record r), is_record, length_bytes 5 (2 + self.bytes * 256 + length text * 16777216), length-append new.texts (r ∷ []))
            (omega (arith, c.text_bytes_lem));
        list_bytes = c.list_bytes;
        expression_bytes_lem = c.expression_bytes_lem;
        statement_bytes_lem = c.statement_bytes_lem;
        low_expressions = c.low_expressions;
        low_statements = c.low_statements;
      }

  abbrev mid : List ℕ
  mid = over scratch self.bytes text

  text_room : self.bytes + length text ≤ length scratch
  text_room = rw p.size (omega arith)

  -- after its bytes
  bytes_kept : Kept im (with_bytes_lem new text) mid
  bytes_kept =
      record {
        size = length_over scratch self.bytes text text_room ∙ p.size;
        bytes = held_more scratch (length im.bytes) new.bytes text self.bytes c.bytes text_room p.bytes;
        texts = held_after scratch self.bytes text near (16384 + size_of im Texts * 5) (encode_records new.texts) (omega arith) p.texts;
        lists = held_after scratch self.bytes text near (26624 + size_of im Lists * 3) (encode_records new.lists) (omega arith) p.lists;
        expressions = held_after scratch self.bytes text near 38912 (encode_records new.expressions) (omega arith) p.expressions;
        statements = held_after scratch self.bytes text near 137216 (encode_records new.statements) (omega arith) p.statements;
      }
    where
      near : self.bytes ≤ length scratch
      near = omega (arith, text_room)

  text_kept : Kept im (with_texts (with_bytes_lem new text) (r ∷ [])) (over mid (16384 + self.texts * 5) s)
  text_kept =
      record {
        size = length_over mid to s there ∙ bytes_kept.size;
        bytes = held_before mid to s near (length im.bytes) (new.bytes ++ text) (rw (length-append new.bytes text) (omega (arith, c.bytes))) there bytes_kept.bytes;
        texts =
            rw (records_one new.texts r, is_record)
            (held_more mid (16384 + size_of im Texts * 5) (encode_records new.texts) s to (omega (arith, c.texts, c.text_bytes_lem)) there bytes_kept.texts);
        lists = held_after mid to s near (26624 + size_of im Lists * 3) (encode_records new.lists) (omega (arith, five)) bytes_kept.lists;
        expressions = held_after mid to s near 38912 (encode_records new.expressions) (omega (arith, five)) bytes_kept.expressions;
        statements = held_after mid to s near 137216 (encode_records new.statements) (omega (arith, five)) bytes_kept.statements;
      }
    where
      to : ℕ
      to = 16384 + self.texts * 5

      five : length s ≡ 5
      five = length_bytes 5 (2 + self.bytes * 256 + length text * 16777216)

      there : to + length s ≤ length mid
      there = rw bytes_kept.size (omega (arith, five))

      near : to ≤ length mid
      near = omega (arith, there)

module _ (im : Image) (k : ℕ) (self : Ctx) (scratch w text : List ℕ) (f : self.full ≡ false) (long : 186496 ≤ length scratch) where
  module _ (b d : Bool) (e : b ≡ ltb 16384 (self.bytes + length text)) (q : b ≡ false) (g : d ≡ ltb 2048 (self.texts + 1)) (h : d ≡ false) where
    pub text_made : (next end : List ℕ) → next ≡ with_text scratch self.bytes text → end ≡ over next (16384 + self.texts * 5) (bytes_of 5 (2 + self.bytes * 256 + length text * 16777216)) →
        Does im k k nothing (new_text text) (at self scratch w) self.texts (at (texted self (length text)) end w)
    unfolding new_text
    text_made next end m o = makes_does f f go
      where
        few : self.bytes + length text ≤ 16384
        few = ltb-false 16384 (self.bytes + length text) (sym e ∙ q)

        room : self.texts + 1 ≤ 2048
        room = ltb-false 2048 (self.texts + 1) (sym g ∙ h)

        is : end ≡ over (over scratch self.bytes text) (16384 + self.texts * 5) (bytes_of 5 (2 + self.bytes * 256 + length text * 16777216))
        is = o ∙ ap (λ z. over z (16384 + self.texts * 5) (bytes_of 5 (2 + self.bytes * 256 + length text * 16777216))) (m ∙ text_over scratch self.bytes text (omega (arith, few)))

        rec : Rec
        rec = made 2 (pair self.bytes (length text) ∷ [])

        gave : (new : New) → Counted im new self → new_text text (context_of im new self) ≡ some (self.texts, context_of im (with_texts (with_bytes_lem new text) (rec ∷ [])) self)
        gave new c =
            ap (λ z. and_then z (λ n. append Texts (made 2 (pair n (length text) ∷ []) ∷ [])))
            (bytes_appended im new self text self.bytes c.bytes ∙ ap (λ z. cond z none (some (self.bytes, context_of im (with_bytes_lem new text) self))) (sym e ∙ q))
            ∙ texts_appended im (with_bytes_lem new text) self (rec ∷ []) self.texts c.texts
            ∙ ap (λ z. cond z none (some (self.texts, context_of im (with_texts (with_bytes_lem new text) (rec ∷ [])) self))) (sym g ∙ h)

        go : (x : Context) (vs : List ℕ) → Live im k x vs self scratch w →
            (y : Context) × ((new_text text x ≡ some (self.texts, y)) × Live im k y vs (texted self (length text)) end w)
        go x vs l = (
          context_of im (with_texts (with_bytes_lem l.new text) (rec ∷ [])) self,
          (
            ap (new_text text) l.context ∙ gave l.new l.counted,
            record {
              new = with_texts (with_bytes_lem l.new text) (rec ∷ []);
              context = refl;
              image = l.image;
              counted = text_counted im l.new self scratch text l.counted l.kept few room;
              kept = subst (Kept im (with_texts (with_bytes_lem l.new text) (rec ∷ []))) (sym is) (text_kept im l.new self scratch text l.counted l.kept few room);
              waits = record { size = l.waits.size; count = l.waits.count; few = l.waits.few; entries = l.waits.entries };
              temps = l.temps;
            },
          ),
        )
