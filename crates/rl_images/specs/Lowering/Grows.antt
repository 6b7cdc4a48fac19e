-- The image grows: what each making of records does to it, and that what was there is kept.
-- Assumes nothing.
use Rattle.std.specs.Prelude.{ℕ, suc, ◌+◌, ◌≤◌, ◌<◌, ◌≡◌, refl, Bool, true, false, ◌&&◌, List, [], ◌∷◌, ◌++◌, map, ltb, length, get_or, take, drop}
use Rattle.std.proofs.Common.{ap, sym, ◌∙◌, append_assoc, append-nil, arith, length-append, length-drop, length-set, get_or-set_same, get_or-set_other, ltb-false}
use Rattle.std.proofs.lemmas.Bool.{false≢true}
use Rattle.std.proofs.Math.Nat.{suc_inj}
use Rattle.std.proofs.lemmas.List.{length-map, take-append-le, drop-append-le}
use Rattle.std.proofs.Math.ListN.{get_or-append}
use Rattle.rl_spec.specs.declared.Section.{Section}
use Rattle.rl_spec.specs.declared.Section.TheVariants.{Texts, Lists, Expressions, Statements, Parameters, Clauses, Functions, Calls}
use Rattle.rl_spec.specs.Schema.{limits}
use Rattle.rl_spec.specs.Image.{Field, num, pair, Rec, Image, order_of, records_of, size_of, record_of, field_of, first, second, entry_of, text_of, no_record, AllWithin, WellFormed}
use Rattle.rl_spec.specs.Make.{Context, with_image, with_records, with_bytes, most, most_bytes, append, append_bytes, made, new_text, new_list, stmt}
use Rattle.rl_spec.specs.Lower.{expr}
use Rattle.rl_images.specs.Lowering.Gives.{Gives, gives, after, weaker, by_limit}

-- ---- longer lists

-- the first, and more behind it
pub record Longer {A : Type 0} (l m : List A) : Type 0 where
  pub rest : List A
  pub is : m ≡ l ++ rest

pub as_long : {A : Type 0} {l m : List A} → m ≡ l → Longer l m
as_long {l = l} e = record { rest = []; is = e ∙ sym (append-nil l) }

pub longer_on : {A : Type 0} {l m n : List A} → Longer l m → Longer m n → Longer l n
longer_on {l = l} p q = record { rest = p.rest ++ q.rest; is = q.is ∙ ap (λ z. z ++ q.rest) p.is ∙ append_assoc l p.rest q.rest }

pub longer_length : {A : Type 0} {l m : List A} → Longer l m → length l ≤ length m
longer_length {l = l} p = rw (p.is, length-append) (omega arith)

pub longer_at : {A : Type 0} {l m : List A} (d : A) (i : ℕ) → Longer l m → i < length l → get_or m i d ≡ get_or l i d
longer_at {l = l} d i p h = rw p.is (get_or-append l p.rest d i h)

pub longer_part : {A : Type 0} {l m : List A} (a n : ℕ) → Longer l m → a + n ≤ length l → take n (drop a m) ≡ take n (drop a l)
longer_part {l = l} a n p h =
    rw p.is
    (ap (take n) (drop-append-le a l p.rest (omega arith)) ∙ take-append-le n (drop a l) p.rest (rw length-drop (omega arith)))

-- a text stays where the text bytes and the texts get longer
pub text_stays : (im im' : Image) → Longer im.bytes im'.bytes → Longer (records_of im Texts) (records_of im' Texts) → (t : ℕ) →
    t < size_of im Texts → first (field_of (record_of im Texts t) 0) + second (field_of (record_of im Texts t) 0) ≤ length im.bytes →
    text_of im' t ≡ text_of im t
text_stays im im' bytes texts t h p = rw (longer_at no_record t texts h) (longer_part _ _ bytes p)

-- ---- the preorder: new text bytes, texts, list entries, expressions and statements come behind the old ones; all else is as it was

pub record Grows (im im' : Image) : Type 0 where
  pub arena : im'.arena ≡ im.arena
  pub bytes : Longer im.bytes im'.bytes
  pub sections : length im'.records ≡ length im.records
  pub texts : Longer (records_of im Texts) (records_of im' Texts)
  pub lists : Longer (records_of im Lists) (records_of im' Lists)
  pub expressions : Longer (records_of im Expressions) (records_of im' Expressions)
  pub statements : Longer (records_of im Statements) (records_of im' Statements)
  pub parameters : records_of im' Parameters ≡ records_of im Parameters
  pub clauses : records_of im' Clauses ≡ records_of im Clauses
  pub functions : records_of im' Functions ≡ records_of im Functions
  pub calls : records_of im' Calls ≡ records_of im Calls

pub grows_same : {im : Image} → Grows im im
grows_same = record {
  arena = refl;
  bytes = as_long refl;
  sections = refl;
  texts = as_long refl;
  lists = as_long refl;
  expressions = as_long refl;
  statements = as_long refl;
  parameters = refl;
  clauses = refl;
  functions = refl;
  calls = refl;
}

pub grows_on : {a b c : Image} → Grows a b → Grows b c → Grows a c
grows_on p q = record {
  arena = q.arena ∙ p.arena;
  bytes = longer_on p.bytes q.bytes;
  sections = q.sections ∙ p.sections;
  texts = longer_on p.texts q.texts;
  lists = longer_on p.lists q.lists;
  expressions = longer_on p.expressions q.expressions;
  statements = longer_on p.statements q.statements;
  parameters = q.parameters ∙ p.parameters;
  clauses = q.clauses ∙ p.clauses;
  functions = q.functions ∙ p.functions;
  calls = q.calls ∙ p.calls;
}

pub grows_records : {im im' : Image} → Grows im im' → (o : Section) → Longer (records_of im o) (records_of im' o)
grows_records g Texts = g.texts
grows_records g Lists = g.lists
grows_records g Expressions = g.expressions
grows_records g Statements = g.statements
grows_records g Parameters = as_long g.parameters
grows_records g Clauses = as_long g.clauses
grows_records g Functions = as_long g.functions
grows_records g Calls = as_long g.calls

-- ---- what was there is kept

module _ {im im' : Image} (g : Grows im im') where
  pub size_grows : (o : Section) → size_of im o ≤ size_of im' o
  size_grows o = longer_length (grows_records g o)

  pub record_kept : (o : Section) (i : ℕ) → i < size_of im o → record_of im' o i ≡ record_of im o i
  record_kept o i h = longer_at no_record i (grows_records g o) h

  pub entry_kept : (k : ℕ) → k < size_of im Lists → entry_of im' k ≡ entry_of im k
  entry_kept k h = rw (record_kept Lists k h) refl

  pub text_kept : (t : ℕ) → t < size_of im Texts →
      first (field_of (record_of im Texts t) 0) + second (field_of (record_of im Texts t) 0) ≤ length im.bytes →
      text_of im' t ≡ text_of im t
  text_kept = text_stays im im' g.bytes g.texts

-- ---- a section, and the text bytes, are made longer

-- an image has eight sections
abbrev pub Eight : Image → Type 0
Eight im = length im.records ≡ 8

pub eight_sections : (im : Image) → WellFormed im → Eight im
unfolding limits
eight_sections im wf =
    sym (length-map im.records length) ∙ suc_inj (within_length (length im.bytes ∷ map length im.records) limits wf.counts)
  where
    within_length : (ns ms : List ℕ) → AllWithin ns ms → length ns ≡ length ms
    within_length [] [] h = refl
    within_length [] (m ∷ ms) h = absurd h
    within_length (n ∷ ns) [] h = absurd h
    within_length (n ∷ ns) (m ∷ ms) h = ap suc (within_length ns ms h.1)

pub records_own : (im : Image) (o : Section) (rs : List Rec) → Eight im → records_of (with_records im o rs) o ≡ rs
records_own im o rs e = get_or-set_same im.records (order_of o) rs [] (rw e (small o))
  where
    small : (o : Section) → order_of o < 8
    small Texts = omega arith
    small Lists = omega arith
    small Expressions = omega arith
    small Statements = omega arith
    small Parameters = omega arith
    small Clauses = omega arith
    small Functions = omega arith
    small Calls = omega arith

pub records_other : (im : Image) (o q : Section) (rs : List Rec) → (order_of q ≡ order_of o → ⊥) →
    records_of (with_records im o rs) q ≡ records_of im q
records_other im o q rs n = get_or-set_other im.records (order_of o) (order_of q) rs [] n

-- the sections that grow
abbrev pub Growing : Section → Type 0
Growing Texts = Unit {0}
Growing Lists = Unit {0}
Growing Expressions = Unit {0}
Growing Statements = Unit {0}
Growing Parameters = ⊥
Growing Clauses = ⊥
Growing Functions = ⊥
Growing Calls = ⊥

abbrev pub appended : Image → Section → List Rec → Image
appended im o rs = with_records im o (records_of im o ++ rs)

pub appended_grows : (im : Image) (o : Section) (rs : List Rec) → Growing o → Eight im → Grows im (appended im o rs)
appended_grows im o rs k e = go o k
  where
    more : (o : Section) → Longer (records_of im o) (records_of (appended im o rs) o)
    more o = record { rest = rs; is = records_own im o (records_of im o ++ rs) e }

    same : (o q : Section) → (order_of q ≡ order_of o → ⊥) → records_of (appended im o rs) q ≡ records_of im q
    same o q n = records_other im o q (records_of im o ++ rs) n

    go : (o : Section) → Growing o → Grows im (appended im o rs)
    go Texts k = record {
      arena = refl;
      bytes = as_long refl;
      sections = length-set im.records 0 _;
      texts = more Texts;
      lists = as_long (same Texts Lists λ h. omega arith);
      expressions = as_long (same Texts Expressions λ h. omega arith);
      statements = as_long (same Texts Statements λ h. omega arith);
      parameters = same Texts Parameters (λ h. omega arith);
      clauses = same Texts Clauses (λ h. omega arith);
      functions = same Texts Functions (λ h. omega arith);
      calls = same Texts Calls (λ h. omega arith);
    }
    go Lists k = record {
      arena = refl;
      bytes = as_long refl;
      sections = length-set im.records 1 _;
      lists = more Lists;
      texts = as_long (same Lists Texts λ h. omega arith);
      expressions = as_long (same Lists Expressions λ h. omega arith);
      statements = as_long (same Lists Statements λ h. omega arith);
      parameters = same Lists Parameters (λ h. omega arith);
      clauses = same Lists Clauses (λ h. omega arith);
      functions = same Lists Functions (λ h. omega arith);
      calls = same Lists Calls (λ h. omega arith);
    }
    go Expressions k = record {
      arena = refl;
      bytes = as_long refl;
      sections = length-set im.records 2 _;
      expressions = more Expressions;
      texts = as_long (same Expressions Texts λ h. omega arith);
      lists = as_long (same Expressions Lists λ h. omega arith);
      statements = as_long (same Expressions Statements λ h. omega arith);
      parameters = same Expressions Parameters (λ h. omega arith);
      clauses = same Expressions Clauses (λ h. omega arith);
      functions = same Expressions Functions (λ h. omega arith);
      calls = same Expressions Calls (λ h. omega arith);
    }
    go Statements k = record {
      arena = refl;
      bytes = as_long refl;
      sections = length-set im.records 3 _;
      statements = more Statements;
      texts = as_long (same Statements Texts λ h. omega arith);
      lists = as_long (same Statements Lists λ h. omega arith);
      expressions = as_long (same Statements Expressions λ h. omega arith);
      parameters = same Statements Parameters (λ h. omega arith);
      clauses = same Statements Clauses (λ h. omega arith);
      functions = same Statements Functions (λ h. omega arith);
      calls = same Statements Calls (λ h. omega arith);
    }
    go Parameters k = absurd k
    go Clauses k = absurd k
    go Functions k = absurd k
    go Calls k = absurd k

pub bytes_grow : (im : Image) (s : List ℕ) → Grows im (with_bytes im (im.bytes ++ s))
bytes_grow im s = record {
  arena = refl;
  bytes = record { rest = s; is = refl };
  sections = refl;
  texts = as_long refl;
  lists = as_long refl;
  expressions = as_long refl;
  statements = as_long refl;
  parameters = refl;
  clauses = refl;
  functions = refl;
  calls = refl;
}

-- ---- what each making gives: the number of what is new, and the image then; where there are limits, within them

within_limit : (limited b : Bool) → limited ≡ true → limited && b ≡ false → b ≡ false
within_limit true b l e = e
within_limit false b l e = absurd (false≢true l)

pub record Appended (ctx : Context) (o : Section) (rs : List Rec) (n : ℕ) (c : Context) : Type 0 where
  pub at : n ≡ size_of ctx.image o
  pub is : c ≡ with_image ctx (appended ctx.image o rs)
  pub within : ctx.limited ≡ true → size_of ctx.image o + length rs ≤ most o

pub append_gives : (o : Section) (rs : List Rec) (ctx : Context) → Gives (Appended ctx o rs) (append o rs ctx)
unfolding append
append_gives o rs ctx =
    by_limit (ctx.limited && ltb (most o) (size_of ctx.image o + length rs)) _ _ λ e.
    record { at = refl; is = refl; within = λ l. ltb-false (most o) (size_of ctx.image o + length rs) (within_limit ctx.limited _ l e) }

pub record AppendedBytes (ctx : Context) (s : List ℕ) (n : ℕ) (c : Context) : Type 0 where
  pub at : n ≡ length ctx.image.bytes
  pub is : c ≡ with_image ctx (with_bytes ctx.image (ctx.image.bytes ++ s))
  pub within : ctx.limited ≡ true → length ctx.image.bytes + length s ≤ most_bytes

pub bytes_give : (s : List ℕ) (ctx : Context) → Gives (AppendedBytes ctx s) (append_bytes s ctx)
unfolding append_bytes
bytes_give s ctx =
    by_limit (ctx.limited && ltb most_bytes (length ctx.image.bytes + length s)) _ _ λ e.
    record { at = refl; is = refl; within = λ l. ltb-false most_bytes (length ctx.image.bytes + length s) (within_limit ctx.limited _ l e) }

-- a text's record, and a list's records
abbrev pub text_records : Image → List ℕ → List Rec
text_records im s = made 2 (pair (length im.bytes) (length s) ∷ []) ∷ []

abbrev pub list_records : List ℕ → List Rec
list_records ns = map (λ n. made 3 (num n ∷ [])) ns

abbrev pub with_text : Image → List ℕ → Image
with_text im s = appended (with_bytes im (im.bytes ++ s)) Texts (text_records im s)

pub record NewText (ctx : Context) (s : List ℕ) (t : ℕ) (c : Context) : Type 0 where
  pub at : t ≡ size_of ctx.image Texts
  pub is : c ≡ with_image ctx (with_text ctx.image s)
  pub bytes : ctx.limited ≡ true → length ctx.image.bytes + length s ≤ most_bytes
  pub texts : ctx.limited ≡ true → size_of ctx.image Texts + 1 ≤ most Texts

pub text_gives : (s : List ℕ) (ctx : Context) → Gives (NewText ctx s) (new_text s ctx)
unfolding new_text
text_gives s ctx =
    after (bytes_give s ctx) λ at c h. rw (h.at, h.is)
    (weaker (append_gives Texts (text_records ctx.image s) (with_image ctx (with_bytes ctx.image (ctx.image.bytes ++ s)))) λ t d k.
    record { at = k.at; is = k.is; bytes = h.within; texts = k.within })

pub record NewList (ctx : Context) (ns : List ℕ) (list : Field) (c : Context) : Type 0 where
  pub at : list ≡ pair (size_of ctx.image Lists) (length ns)
  pub is : c ≡ with_image ctx (appended ctx.image Lists (list_records ns))
  pub within : ctx.limited ≡ true → size_of ctx.image Lists + length ns ≤ most Lists

pub list_gives : (ns : List ℕ) (ctx : Context) → Gives (NewList ctx ns) (new_list ns ctx)
unfolding new_list
list_gives ns ctx =
    after (append_gives Lists (list_records ns) ctx) λ at c h.
    gives (record {
      at = ap (λ n. pair n (length ns)) h.at;
      is = h.is;
      within = λ l. rw (length-map ns (λ n. made 3 (num n ∷ []))) at (h.within l);
    })

pub stmt_gives : (kind span : ℕ) (fields : List Field) (ctx : Context) →
    Gives (Appended ctx Statements (made kind (num span ∷ fields) ∷ [])) (stmt kind span fields ctx)
unfolding stmt
stmt_gives kind span fields ctx = append_gives Statements _ ctx

pub expr_gives : (kind : ℕ) (fields : List Field) (ctx : Context) →
    Gives (Appended ctx Expressions (made kind (num ctx.span ∷ fields) ∷ [])) (expr kind fields ctx)
unfolding expr
expr_gives kind fields ctx = append_gives Expressions _ ctx
