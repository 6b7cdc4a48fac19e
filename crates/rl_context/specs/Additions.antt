-- What lowering has added to an image, and how the code keeps it.
use Rattle.std.specs.Prelude.{◌≡◌, ℕ, ◌+◌, ◌*◌, ◌≤◌, true, List, [], ◌∷◌, ◌++◌, length, take, drop}
use Rattle.rl_spec.specs.declared.Section.TheVariants.{Texts, Lists, Expressions, Statements, Parameters, Clauses, Functions, Calls}
use Rattle.rl_spec.specs.Image.{Rec, Image, records_of, size_of, encode_records, WellFormed}
use Rattle.rl_spec.specs.Make.{Context}
use Rattle.rl_context.specs.declared.Ctx.{Ctx}

pub record New : Type 0 where
  pub bytes : List ℕ
  pub texts : List Rec
  pub lists : List Rec
  pub expressions : List Rec
  pub statements : List Rec

abbrev pub none_new : New
none_new = record { bytes = []; texts = []; lists = []; expressions = []; statements = [] }

abbrev pub grown : Image → New → Image
grown im new =
    record {
      arena = im.arena;
      bytes = im.bytes ++ new.bytes;
      records =
          (records_of im Texts ++ new.texts)
          ∷ (records_of im Lists ++ new.lists)
          ∷ (records_of im Expressions ++ new.expressions)
          ∷ (records_of im Statements ++ new.statements)
          ∷ records_of im Parameters
          ∷ records_of im Clauses
          ∷ records_of im Functions
          ∷ records_of im Calls
          ∷ [];
    }

abbrev pub context_of : Image → New → Ctx → Context
context_of im new ctx =
    record { image = grown im new; span = ctx.span; is_result = ctx.is_result; temp_counter = ctx.temp_counter; limited = true }

-- ---- the scratch slice: places for 16,384 text bytes, 2,048 texts of 5 bytes and 4,096 list entries of 3, of which the image's own stay
-- empty, then for 4,096 expressions and 2,048 statements of at most 24 bytes, and some more

abbrev pub texts_from : ℕ
texts_from = 16384

abbrev pub lists_from : ℕ
lists_from = 26624

abbrev pub expressions_from : ℕ
expressions_from = 38912

abbrev pub statements_from : ℕ
statements_from = 137216

abbrev pub scratch_size : ℕ
scratch_size = 186496

-- bytes that stand at a place
abbrev pub Held : ℕ → List ℕ → List ℕ → Type 0
Held from s scratch = take (length s) (drop from scratch) ≡ s

pub record Kept (im : Image) (new : New) (scratch : List ℕ) : Type 0 where
  pub size : length scratch ≡ scratch_size
  pub bytes : Held (length im.bytes) new.bytes scratch
  pub texts : Held (texts_from + size_of im Texts * 5) (encode_records new.texts) scratch
  pub lists : Held (lists_from + size_of im Lists * 3) (encode_records new.lists) scratch
  pub expressions : Held expressions_from (encode_records new.expressions) scratch
  pub statements : Held statements_from (encode_records new.statements) scratch

-- the counts, within their limits
pub record Counted (im : Image) (new : New) (ctx : Ctx) : Type 0 where
  pub bytes : ctx.bytes ≡ length im.bytes + length new.bytes
  pub texts : ctx.texts ≡ size_of im Texts + length new.texts
  pub lists : ctx.lists ≡ size_of im Lists + length new.lists
  pub expressions : ctx.expressions ≡ size_of im Expressions + length new.expressions
  pub statements : ctx.statements ≡ size_of im Statements + length new.statements
  pub few_bytes : ctx.bytes ≤ 16384
  pub few_texts : ctx.texts ≤ 2048
  pub few_lists : ctx.lists ≤ 4096
  pub few_expressions : ctx.expressions ≤ 4096
  pub few_statements : ctx.statements ≤ 2048
  pub text_bytes_lem : length (encode_records new.texts) ≡ 5 * length new.texts
  pub list_bytes : length (encode_records new.lists) ≡ 3 * length new.lists
  pub expression_bytes_lem : ctx.expression_bytes ≡ length (encode_records new.expressions)
  pub statement_bytes_lem : ctx.statement_bytes ≡ length (encode_records new.statements)
  pub low_expressions : ctx.expression_bytes ≤ 24 * length new.expressions
  pub low_statements : ctx.statement_bytes ≤ 24 * length new.statements

-- a context with another count of entries that wait
abbrev pub waiting_with : Ctx → ℕ → Ctx
waiting_with ctx n =
    record {
      bytes = ctx.bytes;
      texts = ctx.texts;
      lists = ctx.lists;
      expressions = ctx.expressions;
      statements = ctx.statements;
      expression_bytes = ctx.expression_bytes;
      statement_bytes = ctx.statement_bytes;
      waiting = n;
      span = ctx.span;
      is_result = ctx.is_result;
      temp_counter = ctx.temp_counter;
      full = ctx.full;
    }

-- the entries that wait
pub record Waiting (ws : List ℕ) (ctx : Ctx) (waiting : List ℕ) : Type 0 where
  pub size : length waiting ≡ 4096
  pub count : ctx.waiting ≡ length ws
  pub few : length ws ≤ 4096
  pub entries : take (length ws) waiting ≡ ws

-- the code stands where the context is x and these entries wait; so many temporaries more than new statements have been numbered
pub record Live (im : Image) (slack : ℕ) (x : Context) (ws : List ℕ) (ctx : Ctx) (scratch waiting : List ℕ) : Type 0 where
  pub new : New
  pub context : x ≡ context_of im new ctx
  pub image : WellFormed im
  pub counted : Counted im new ctx
  pub kept : Kept im new scratch
  pub waits : Waiting ws ctx waiting
  pub temps : ctx.temp_counter ≤ length new.statements + slack
