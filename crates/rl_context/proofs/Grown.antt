-- Appending to an image that has grown: the additions grow.
-- Assumes nothing.
use Rattle.std.proofs.Common.{◌≡◌, ℕ, ◌+◌, true, cond, ltb, List, [], ◌∷◌, ◌++◌, length, sym, ◌∙◌, append_assoc, length-append}
use mathlib.Core.Option.{none, some}
use Rattle.rl_spec.specs.declared.Section.TheVariants.{Texts, Lists, Expressions, Statements, Parameters, Clauses, Functions, Calls}
use Rattle.rl_spec.specs.Schema.{limits}
use Rattle.rl_spec.specs.Image.{Rec, Image, records_of}
use Rattle.rl_spec.specs.Make.{Context, append, append_bytes}
use Rattle.rl_context.specs.declared.Ctx.{Ctx}
use Rattle.rl_context.specs.Additions.{New, context_of}

abbrev pub with_bytes_lem : New → List ℕ → New
with_bytes_lem new s =
    record { bytes = new.bytes ++ s; texts = new.texts; lists = new.lists; expressions = new.expressions; statements = new.statements }

abbrev pub with_texts : New → List Rec → New
with_texts new rs =
    record { bytes = new.bytes; texts = new.texts ++ rs; lists = new.lists; expressions = new.expressions; statements = new.statements }

abbrev pub with_lists : New → List Rec → New
with_lists new rs =
    record { bytes = new.bytes; texts = new.texts; lists = new.lists ++ rs; expressions = new.expressions; statements = new.statements }

abbrev pub with_expressions : New → List Rec → New
with_expressions new rs =
    record { bytes = new.bytes; texts = new.texts; lists = new.lists; expressions = new.expressions ++ rs; statements = new.statements }

abbrev pub with_statements : New → List Rec → New
with_statements new rs =
    record { bytes = new.bytes; texts = new.texts; lists = new.lists; expressions = new.expressions; statements = new.statements ++ rs }

-- a context by the parts that grow
abbrev parts : Image → Ctx → List ℕ → List Rec → List Rec → List Rec → List Rec → Context
parts im ctx bs ts ls es ss =
    record {
      image = record {
        arena = im.arena;
        bytes = bs;
        records = ts ∷ ls ∷ es ∷ ss ∷ records_of im Parameters ∷ records_of im Clauses ∷ records_of im Functions ∷ records_of im Calls ∷ [];
      };
      span = ctx.span;
      is_result = ctx.is_result;
      temp_counter = ctx.temp_counter;
      limited = true;
    }

module _ (im : Image) (new : New) (ctx : Ctx) where
  abbrev bs : List ℕ
  bs = im.bytes ++ new.bytes

  abbrev ts : List Rec
  ts = records_of im Texts ++ new.texts

  abbrev ls : List Rec
  ls = records_of im Lists ++ new.lists

  abbrev es : List Rec
  es = records_of im Expressions ++ new.expressions

  abbrev ss : List Rec
  ss = records_of im Statements ++ new.statements

  pub bytes_appended : (s : List ℕ) (n : ℕ) → n ≡ length im.bytes + length new.bytes →
      append_bytes s (context_of im new ctx) ≡ cond (ltb 16384 (n + length s)) none (some (n, context_of im (with_bytes_lem new s) ctx))
  unfolding append_bytes limits
  bytes_appended s n e =
      λ i. cond (ltb 16384 (k i + length s)) none (some (k i, parts im ctx (append_assoc im.bytes new.bytes s i) ts ls es ss))
    where
      k : length bs ≡ n
      k = length-append im.bytes new.bytes ∙ sym e

  module _ (rs : List Rec) (n : ℕ) where
    pub texts_appended : n ≡ length (records_of im Texts) + length new.texts →
        append Texts rs (context_of im new ctx) ≡ cond (ltb 2048 (n + length rs)) none (some (n, context_of im (with_texts new rs) ctx))
    unfolding append limits
    texts_appended e =
        λ i. cond (ltb 2048 (k i + length rs)) none (some (k i, parts im ctx bs (append_assoc (records_of im Texts) new.texts rs i) ls es ss))
      where
        k : length ts ≡ n
        k = length-append (records_of im Texts) new.texts ∙ sym e

    pub lists_appended : n ≡ length (records_of im Lists) + length new.lists →
        append Lists rs (context_of im new ctx) ≡ cond (ltb 4096 (n + length rs)) none (some (n, context_of im (with_lists new rs) ctx))
    unfolding append limits
    lists_appended e =
        λ i. cond (ltb 4096 (k i + length rs)) none (some (k i, parts im ctx bs ts (append_assoc (records_of im Lists) new.lists rs i) es ss))
      where
        k : length ls ≡ n
        k = length-append (records_of im Lists) new.lists ∙ sym e

    pub expressions_appended : n ≡ length (records_of im Expressions) + length new.expressions →
        append Expressions rs (context_of im new ctx) ≡ cond (ltb 4096 (n + length rs)) none (some (n, context_of im (with_expressions new rs) ctx))
    unfolding append limits
    expressions_appended e =
        λ i. cond (ltb 4096 (k i + length rs)) none (some (k i, parts im ctx bs ts ls (append_assoc (records_of im Expressions) new.expressions rs i) ss))
      where
        k : length es ≡ n
        k = length-append (records_of im Expressions) new.expressions ∙ sym e

    pub statements_appended : n ≡ length (records_of im Statements) + length new.statements →
        append Statements rs (context_of im new ctx) ≡ cond (ltb 2048 (n + length rs)) none (some (n, context_of im (with_statements new rs) ctx))
    unfolding append limits
    statements_appended e =
        λ i. cond (ltb 2048 (k i + length rs)) none (some (k i, parts im ctx bs ts ls es (append_assoc (records_of im Statements) new.statements rs i)))
      where
        k : length ss ≡ n
        k = length-append (records_of im Statements) new.statements ∙ sym e
