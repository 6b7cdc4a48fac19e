-- At each record of each section the reader knows what it needs of the image before it.
-- Assumes nothing.
use Rattle.std.specs.Prelude.{ℕ, ◌+◌, ◌*◌, ◌≤◌, ◌<◌, ◌≡◌, Bool, List, ◌++◌, length, get_or, take, drop}
use Rattle.std.proofs.Math.Path.{refl, sym}
use Rattle.std.proofs.Math.Bool.{true, false, cond}
use Rattle.std.proofs.lemmas.Bool.{false≢true}
use Rattle.std.proofs.Common.{append_assoc, arith, zero-add, lit<, drop_at, get_or-drop, length-take-le}
use Rattle.std.proofs.Math.Dec.{ltb}
use Rattle.std.proofs.Math.ListN.{get_or-append}
use Rattle.std.proofs.lemmas.List.Edits.{sets, sets-eq}
use borrow.Author.Tests.{ltb-true, lt-ltb, ne_eqb}
use Rattle.rl_spec.specs.declared.Counts.{Counts}
use Rattle.rl_spec.specs.declared.Section.{Section}
use Rattle.rl_spec.specs.declared.Section.TheVariants.{Texts, Lists, Expressions, Statements, Parameters, Clauses, Functions, Calls}
use Rattle.rl_spec.specs.declared.Target.{Target}
use Rattle.rl_spec.specs.declared.Target.TheVariants.{Text, Expression, Statement, Branch, ElseBranch, Arm}
use Rattle.rl_spec.specs.Bytes.{u16_at}
use Rattle.rl_spec.specs.Schema.{text_bytes_at, count_of}
use Rattle.rl_spec.specs.Fields.{takes, within, lists_at, kind_of_statement, allowed, child_height, entry_at}
use Rattle.rl_spec.specs.Read.{seen_by}
use Rattle.rl_spec.specs.Image.{Image, order_of, records_of, size_of, record_of, encode_records, entry_of, section_of, same_section, height_of, Refers}
use Rattle.rl_images.specs.Encoding.BytesAt.{BytesAt}
use Rattle.rl_images.specs.Images.SchemaSorts.{refers}
use Rattle.rl_images.specs.Encoding.FieldChecks.{Ready}
use Rattle.rl_images.specs.Encoding.SectionLoop.{starts, length_starts, starts_kind, AlwaysReady}

-- the sizes of an image's sections
abbrev pub counts : Image → Counts
counts im =
    record {
      bytes = length im.bytes;
      texts = size_of im Texts;
      lists = size_of im Lists;
      expressions = size_of im Expressions;
      statements = size_of im Statements;
      parameters = size_of im Parameters;
      clauses = size_of im Clauses;
      functions = size_of im Functions;
      calls = size_of im Calls;
    }

pub count_is : (im : Image) (o : Section) → count_of (counts im) o ≡ size_of im o
count_is im Texts = refl
count_is im Lists = refl
count_is im Expressions = refl
count_is im Statements = refl
count_is im Parameters = refl
count_is im Clauses = refl
count_is im Functions = refl
count_is im Calls = refl

-- the text bytes and the list entries stand in their places
pub record Placed (im : Image) (s : List ℕ) : Type 0 where
  pub text : BytesAt s text_bytes_at im.bytes
  pub entry : (k : ℕ) → k < size_of im Lists → u16_at s (lists_at (counts im) + k * 3 + 1) ≡ entry_of im k

-- p says where the statements start
abbrev pub Told : Image → List ℕ → List ℕ → Type 0
Told im s p =
    (n : ℕ) → n < size_of im Statements → get_or s (get_or p (size_of im Expressions + n) 0) 0 ≡ (record_of im Statements n).kind

-- what is kept is found again
get_or_sets : (w : List ℕ) (a : ℕ) (xs : List ℕ) (n : ℕ) → a + length xs ≤ length w → n < length xs → get_or (sets w a xs) (a + n) 0 ≡ get_or xs n 0
get_or_sets w a xs n p q =
    let d = drop_at (take a w) (xs ++ drop (a + length xs) w) a (length-take-le a w (omega arith)) in
    rw (sets-eq xs w a p, ← get_or-drop, append_assoc, d) (get_or-append xs (drop (a + length xs) w) 0 n q)

pub told : (im : Image) (s p : List ℕ) → size_of im Expressions + size_of im Statements ≤ length p → (at : ℕ) → BytesAt s at (encode_records (records_of im Statements)) → Told im s (sets p (size_of im Expressions) (starts at (records_of im Statements)))
told im s p roomy at st n l =
    let e : length (starts at (records_of im Statements)) ≡ size_of im Statements = length_starts at (records_of im Statements) in
    rw (get_or_sets p (size_of im Expressions) (starts at (records_of im Statements)) n (omega arith) (omega arith))
    (starts_kind (records_of im Statements) st n l)

-- ---- a reference below the count, and only that, finds its record; only a statement's kind matters

takes_by : (t : Target) (a b : ℕ) → (order_of (section_of t) ≡ 3 → a ≡ b) → takes t a ≡ true → takes t b ≡ true
takes_by Text a b e f = refl
takes_by Expression a b e f = refl
takes_by Statement a b e f = rw (e refl) at f
takes_by Branch a b e f = rw (e refl) at f
takes_by ElseBranch a b e f = rw (e refl) at f
takes_by Arm a b e f = rw (e refl) at f

module _ (im : Image) (s p : List ℕ) (seen : Counts) (t : Target) (n : ℕ) (kinds : order_of (section_of t) ≡ 3 → n < within seen t → kind_of_statement s p seen n ≡ (record_of im Statements n).kind) where
  found_below : n < within seen t → takes t (record_of im Statements n).kind ≡ true → allowed s p seen t n ≡ true
  unfolding allowed
  found_below q f = rw (lt-ltb n (within seen t) q) (takes_by t (record_of im Statements n).kind (kind_of_statement s p seen n) (λ e. sym (kinds e q)) f)

  below_found : allowed s p seen t n ≡ true → (n < within seen t) × (takes t (record_of im Statements n).kind ≡ true)
  unfolding allowed
  below_found f = go (ltb n (within seen t)) refl f
    where
      go : (b : Bool) → ltb n (within seen t) ≡ b → cond b (takes t (kind_of_statement s p seen n)) false ≡ true → (n < within seen t) × (takes t (record_of im Statements n).kind ≡ true)
      go true d f =
          let q : n < within seen t = ltb-true n (within seen t) d in
          (q, takes_by t (kind_of_statement s p seen n) (record_of im Statements n).kind (λ e. kinds e q) f)
      go false d f = absurd (false≢true f)

  -- what the i-th record of the section o may refer to
  module _ (o : Section) (i : ℕ) (limit : within seen t ≡ cond (same_section o (section_of t)) i (size_of im (section_of t))) where
    refers_found : Refers im o i t n → allowed s p seen t n ≡ true
    refers_found r = found_below (rw limit r.earlier) r.taken

    found_refers : allowed s p seen t n ≡ true → Refers im o i t n
    found_refers f = record { earlier = rw limit at (below_found f).0; taken = (below_found f).1 }

within_is : (im : Image) (t : Target) → within (counts im) t ≡ size_of im (section_of t)
within_is im Text = refl
within_is im Expression = refl
within_is im Statement = refl
within_is im Branch = refl
within_is im ElseBranch = refl
within_is im Arm = refl

target_order : (t : Target) → order_of (section_of t) ≤ 3
target_order Text = omega arith
target_order Expression = omega arith
target_order Statement = omega arith
target_order Branch = omega arith
target_order ElseBranch = omega arith
target_order Arm = omega arith

module _ (im : Image) (s : List ℕ) (placed : Placed im s) (w p : List ℕ) where
  -- a section that sees all counts
  module _ (o : Section) (i : ℕ) (h : List ℕ) where
    plain : ((t : Target) (n : ℕ) → refers o t ≡ true → Refers im o i t n → allowed s p (counts im) t n ≡ true) → ((t : Target) (n : ℕ) → refers o t ≡ true → allowed s p (counts im) t n ≡ true → Refers im o i t n) → ((t : Target) (n : ℕ) → refers o t ≡ true → child_height w (counts im) o t n ≡ height_of im o h t n) → Ready im s w p (counts im) o i h
    unfolding entry_at
    plain found refer child =
        record {
          bytes = refl;
          texts = refl;
          lists = refl;
          ranges = λ q u. count_is im q;
          text = placed.text;
          entry = placed.entry;
          found = found;
          refer = refer;
          child = λ t n u r. child t n u;
        }

    -- a section after the statements
    late : 3 < order_of o → ((t : Target) (n : ℕ) → child_height w (counts im) o t n ≡ 0) → Told im s p → Ready im s w p (counts im) o i h
    unfolding kind_of_statement
    late above flat told =
        let other : (t : Target) → same_section o (section_of t) ≡ false = λ t. ne_eqb (order_of o) (order_of (section_of t)) (λ e. omega (arith, target_order t)) in
        let limit : (t : Target) → within (counts im) t ≡ cond (same_section o (section_of t)) i (size_of im (section_of t)) = λ t. rw (other t) (within_is im t) in
        let kinds : (t : Target) (n : ℕ) → order_of (section_of t) ≡ 3 → n < within (counts im) t → kind_of_statement s p (counts im) n ≡ (record_of im Statements n).kind = λ t n e q. told n (rw (within_is, e) at q) in
        plain (λ t n u r. refers_found im s p (counts im) t n (kinds t n) o i (limit t) r)
        (λ t n u f. found_refers im s p (counts im) t n (kinds t n) o i (limit t) f)
        (λ t n u. rw (flat t n, other t))

  pub texts_ready : AlwaysReady im s (counts im) Texts w p
  texts_ready i h q l x y k =
      plain Texts i h (λ t n u r. absurd (false≢true u)) (λ t n u f. absurd (false≢true u)) (λ t n u. absurd (false≢true u))

  pub lists_ready : AlwaysReady im s (counts im) Lists w p
  lists_ready i h q l x y k =
      plain Lists i h (λ t n u r. absurd (false≢true u)) (λ t n u f. absurd (false≢true u)) (λ t n u. absurd (false≢true u))

  module _ (told : Told im s p) where
    pub parameters_ready : AlwaysReady im s (counts im) Parameters w p
    unfolding child_height
    parameters_ready i h q l x y k = late Parameters i h (lit< tt) (λ t n. refl) told

    pub clauses_ready : AlwaysReady im s (counts im) Clauses w p
    unfolding child_height
    clauses_ready i h q l x y k = late Clauses i h (lit< tt) (λ t n. refl) told

    pub functions_ready : AlwaysReady im s (counts im) Functions w p
    unfolding child_height
    functions_ready i h q l x y k = late Functions i h (lit< tt) (λ t n. refl) told

    pub calls_ready : AlwaysReady im s (counts im) Calls w p
    unfolding child_height
    calls_ready i h q l x y k = late Calls i h (lit< tt) (λ t n. refl) told

  -- the expressions, whose children are earlier ones
  module _ (room : size_of im Expressions ≤ length w) (i : ℕ) (h q : List ℕ) (l : i < size_of im Expressions) (x : length h ≡ i) where
    limit_expression : (t : Target) → refers Expressions t ≡ true → within (seen_by (counts im) Expressions i) t ≡ cond (same_section Expressions (section_of t)) i (size_of im (section_of t))
    limit_expression Text u = refl
    limit_expression Expression u = refl
    limit_expression Statement u = absurd (false≢true u)
    limit_expression Branch u = absurd (false≢true u)
    limit_expression ElseBranch u = absurd (false≢true u)
    limit_expression Arm u = absurd (false≢true u)

    no_statement : (t : Target) (n : ℕ) → refers Expressions t ≡ true → order_of (section_of t) ≡ 3 → n < within (seen_by (counts im) Expressions i) t → kind_of_statement s (sets p 0 q) (seen_by (counts im) Expressions i) n ≡ (record_of im Statements n).kind
    no_statement t n u e d = absurd (false≢true (rw e at u))

    expression_child : (t : Target) (n : ℕ) → refers Expressions t ≡ true → Refers im Expressions i t n → child_height (sets w 0 h) (seen_by (counts im) Expressions i) Expressions t n ≡ height_of im Expressions h t n
    unfolding child_height
    expression_child Text n u r = refl
    expression_child Expression n u r = rw (zero-add n) at (get_or_sets w 0 h n (omega arith) (omega (arith, r.earlier)))
    expression_child Statement n u r = absurd (false≢true u)
    expression_child Branch n u r = absurd (false≢true u)
    expression_child ElseBranch n u r = absurd (false≢true u)
    expression_child Arm n u r = absurd (false≢true u)

    pub expressions_ready : Ready im s (sets w 0 h) (sets p 0 q) (seen_by (counts im) Expressions i) Expressions i h
    unfolding entry_at
    expressions_ready =
        record {
          bytes = refl;
          texts = refl;
          lists = refl;
          ranges = λ q u. absurd (false≢true u);
          text = placed.text;
          entry = placed.entry;
          found = λ t n u r. refers_found im s (sets p 0 q) (seen_by (counts im) Expressions i) t n (no_statement t n u) Expressions i (limit_expression t u) r;
          refer = λ t n u f. found_refers im s (sets p 0 q) (seen_by (counts im) Expressions i) t n (no_statement t n u) Expressions i (limit_expression t u) f;
          child = expression_child;
        }

  -- the statements, of which the earlier ones' starts are kept
  module _ (room : size_of im Expressions + size_of im Statements ≤ length w) (roomy : size_of im Expressions + size_of im Statements ≤ length p) (i : ℕ) (h q : List ℕ) (l : i < size_of im Statements) (x : length h ≡ i) (y : length q ≡ i) (kinds : (n : ℕ) → n < i → get_or s (get_or q n 0) 0 ≡ (record_of im Statements n).kind) where
    limit_statement : (t : Target) → within (seen_by (counts im) Statements i) t ≡ cond (same_section Statements (section_of t)) i (size_of im (section_of t))
    limit_statement Text = refl
    limit_statement Expression = refl
    limit_statement Statement = refl
    limit_statement Branch = refl
    limit_statement ElseBranch = refl
    limit_statement Arm = refl

    starts_found : (t : Target) (n : ℕ) → order_of (section_of t) ≡ 3 → n < within (seen_by (counts im) Statements i) t → kind_of_statement s (sets p (size_of im Expressions) q) (seen_by (counts im) Statements i) n ≡ (record_of im Statements n).kind
    unfolding kind_of_statement
    starts_found t n e d =
        let g : n < i = rw (limit_statement t, e) at d in
        rw (get_or_sets p (size_of im Expressions) q n (omega arith) (omega arith)) (kinds n g)

    height_found : (n : ℕ) → n < i → get_or (sets w (size_of im Expressions) h) (size_of im Expressions + n) 0 ≡ get_or h n 0
    height_found n d = get_or_sets w (size_of im Expressions) h n (omega arith) (omega arith)

    statement_child : (t : Target) (n : ℕ) → refers Statements t ≡ true → Refers im Statements i t n → child_height (sets w (size_of im Expressions) h) (seen_by (counts im) Statements i) Statements t n ≡ height_of im Statements h t n
    unfolding child_height
    statement_child Text n u r = refl
    statement_child Expression n u r = refl
    statement_child Statement n u r = height_found n r.earlier
    statement_child Branch n u r = height_found n r.earlier
    statement_child ElseBranch n u r = height_found n r.earlier
    statement_child Arm n u r = height_found n r.earlier

    pub statements_ready : Ready im s (sets w (size_of im Expressions) h) (sets p (size_of im Expressions) q) (seen_by (counts im) Statements i) Statements i h
    unfolding entry_at
    statements_ready =
        record {
          bytes = refl;
          texts = refl;
          lists = refl;
          ranges = λ q u. absurd (false≢true u);
          text = placed.text;
          entry = placed.entry;
          found = λ t n u r. refers_found im s (sets p (size_of im Expressions) q) (seen_by (counts im) Statements i) t n (starts_found t n) Statements i (limit_statement t) r;
          refer = λ t n u f. found_refers im s (sets p (size_of im Expressions) q) (seen_by (counts im) Statements i) t n (starts_found t n) Statements i (limit_statement t) f;
          child = statement_child;
        }
