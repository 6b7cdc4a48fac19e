-- DEMAND 3: its two theorems, from bytes. The premises are said of the records of the image that the bytes stand for. At the end, closed
-- instances of both.
-- Assumes nothing.
use Rattle.std.specs.Prelude.{◌≡◌, ℕ, ◌+◌, ◌-◌, ◌*◌, ◌%◌, ◌<◌, ◌≤◌, Bool, true, cond, List, [], ◌∷◌, ◌++◌, length, take, replicate, pos, ◌==◌, ◌≢◌, slice_index, slice_index_or, refl, Ok}
use Rattle.std.proofs.Common.{ap, arith, lit<}
use Rattle.std.proofs.Math.Option.{some}
use Rattle.rl_spec.specs.declared.Arguments.{Arguments}
use Rattle.rl_spec.specs.declared.Cause.{Cause}
use Rattle.rl_spec.specs.declared.Cause.TheVariants.{WorkTooShort}
use Rattle.rl_spec.specs.declared.ConstVal.TheVariants.{Str, Bool as Truth}
use Rattle.rl_spec.specs.Answers.{ran, refused}
use Rattle.rl_spec.specs.declared.Outcome.{Outcome}
use Rattle.rl_spec.specs.declared.Outcome.TheVariants.{Returned}
use Rattle.rl_spec.specs.declared.Plain.TheVariants.{Null, Const}
use Rattle.rl_spec.specs.declared.Section.TheVariants.{Texts, Expressions, Statements}
use Rattle.rl_spec.specs.declared.Sort.TheVariants.{One, Maybe, Many}
use Rattle.rl_spec.specs.declared.Target.{Target}
use Rattle.rl_spec.specs.declared.Target.TheVariants.{Expression}
use Rattle.rl_spec.specs.declared.Value.TheVariants.{Plain as Bare}
use Rattle.rl_spec.specs.Schema.{sort_of, fields_of}
use Rattle.rl_spec.specs.Read.{counts_of}
use Rattle.rl_spec.specs.Image.{Rec, Image, record_of, size_of, field_of, first, second, entry_of, text_of, encode, image_of, AllBytes}
use Rattle.rl_spec.specs.Values as value
use Rattle.rl_spec.specs.Values.{ConstVal}
use Rattle.rl_spec.specs.Tree.{ascii, number, expr_tree}
use Rattle.rl_spec.specs.Fold.{const_eval}
use Rattle.rl_spec.specs.Records.{param_at, clause_at, function_at, call_at}
use Rattle.rl_spec.specs.FnContracts.{callee_of}
use Rattle.rl_spec.specs.Prove.{violations_of, prove_of, prove_all_of, all_reports_of}
use Rattle.rl_spec.specs.Run.{nothing, Value, plain, Env, Outcome as Ended, returned, got, folds}
use Rattle.rl_spec.specs.Reading.{entering}
use Rattle.rl_spec.specs.Mapped.{Text, map_const}
use Rattle.rl_spec.specs.Message.{decimal}
use Rattle.rl_spec.specs.Printed.{lines_of}
use Rattle.rl_spec.specs.Functions.{contract_function, reading_in}
use Rattle.rl_spec.specs.Lowerer.{lower_of, lower_answer, lower_out}
use Rattle.rl_spec.specs.Runner.{outcome_in, all_have, given, values_of, run_of}
use Rattle.rl_theorems.specs.Reading.EncodedAnswers.{bytes_by}
use Rattle.rl_theorems.specs.Lowering.LowerFrame.{begins}
use Rattle.rl_theorems.specs.DemandThree.OverRecords.{free_texts, last_ensured, asked}
use Rattle.rl_theorems.specs.DemandThree.DepthTests.{all_named, one_passes, option_passes, entry_passes, throughout, ok_itself, throughout_named, is_not, is_not_lem, texts_pass, folds_to}
use Rattle.rl_theorems.specs.DemandThree.FirstHalf.{out_refused, out_reads}
use Rattle.rl_examples.specs.MarkedImages.{returns_true, flow}
use Rattle.rl_examples.specs.PrinterExamples.{printing}
use Rattle.rl_theorems.specs.DemandThree.Marked.{decoding, folding, proving}
use Rattle.rl_theorems.specs.DemandThree.FirstHalfImages.{answering, ret_made, echo, echo_made}
use Rattle.rl_theorems.specs.DemandThree.FoldsEntry.{NonEmpty}
use Rattle.rl_theorems.specs.DemandThree.FoldsCalls.{reported_never_enters}
use Rattle.rl_theorems.specs.DemandThree.Reports.{reported, all_reported, violated_callee}
use Rattle.rl_theorems.specs.DemandThree.PrintedLines.{line_reported}

-- ---- FIRST HALF: the run of the lowered body is the contract reading of the original

-- a text begins with p
abbrev pub Begins : Text → Text → Type 0
Begins p t = (rest : Text) × (p ++ rest ≡ t)

-- no text of the image begins with `__ensure_ret_`
abbrev pub NoReservedText : Image → Type 0
NoReservedText im = (t : ℕ) → t < size_of im Texts → Begins (ascii "__ensure_ret_") (text_of im t) → ⊥

-- where the function has ensures, its body's list does not end in a 65 behind other statements
abbrev pub NoBareLast : Image → ℕ → Type 0
NoBareLast im f =
    0 < (function_at im f).ensured.count → 2 ≤ (function_at im f).body.count →
    (record_of im Statements (entry_of im ((function_at im f).body.first + (function_at im f).body.count - 1))).kind ≢ 65

-- where the runner refuses the function's run in s, it refuses that in t by the same number; otherwise its run in t and its contract
-- reading in s are alike in outcome, value, message or number of the fault, texts by bytes, and in steps used
abbrev pub RunsAsRead : List ℕ → List ℕ → ℕ → ℕ → Arguments → ℕ → Type 0
RunsAsRead s t k f args budget =
    ((q : Cause) (p : ℕ) → run_of s k f args budget ≡ refused q p → run_of t k f args budget ≡ refused q p)
    × ((o : Outcome) (n : ℕ) → run_of s k f args budget ≡ ran o n →
    (o' : Outcome) × (n' : ℕ) × (run_of t k f args budget ≡ ran o' n')
    × ((outcome_in (image_of t) o', n') ≡ reading_in (image_of s) f (values_of (given args)) budget))

-- THEOREM. Lowering, with a work slice of k entries, answers a length, and the lowered image is the bytes that stand in the output slice
-- at that length. The two runs have a work slice of k' entries. The texts of the values are the original's
pub first_half : (s : List ℕ) (k f room n : ℕ) → AllBytes s → lower_answer (lower_of s k f room) ≡ Ok n →
    NoReservedText (image_of s) → NoBareLast (image_of s) f →
    (k' : ℕ) (args : Arguments) (budget : ℕ) → all_have (counts_of s) (given args) ≡ true →
    RunsAsRead s (take n (lower_out room (lower_of s k f room))) k' f args budget
first_half s k f room n bytes e texts last k' args budget own = (
  out_refused s k f room n bytes e k' args budget own,
  out_reads s k f room n bytes e k' args budget own
      (record { ensures = free_texts (image_of s) texts f; last = last_ensured (image_of s) f last }),
)

-- ---- SECOND HALF: a call that has a report never passes its callee's entry checks

-- the expressions that a record names, by the sorts of its fields: in its c-th field, where 65,535 may mean none, or as the k-th entry of
-- the list there, whose entries have the targets l and r by turns
pub data Names (im : Image) (x : Rec) : ℕ → Type 0 where
  one : (c : ℕ) → sort_of (slice_index (fields_of x.kind) c) ≡ One Expression → Names im x (number x c)
  one_or_none : (c : ℕ) → sort_of (slice_index (fields_of x.kind) c) ≡ Maybe Expression → (number x c ≢ 65535) → Names im x (number x c)
  entry : (c k : ℕ) {l r : Target} {m : ℕ} → sort_of (slice_index (fields_of x.kind) c) ≡ Many l r m →
      cond (k % 2 == 0) l r ≡ Expression → k < second (field_of x c) → Names im x (entry_of im (first (field_of x c) + k))

-- the expression n stands at some depth in the expression i: it is i, or stands in one that i names
pub data StandsIn (im : Image) (n : ℕ) : ℕ → Type 0 where
  itself : StandsIn im n n
  deeper : {i j : ℕ} → Names im (record_of im Expressions i) j → StandsIn im n j → StandsIn im n i

-- no record of this kind stands at any depth in the expression i
abbrev pub NoneIn : Image → ℕ → ℕ → Type 0
NoneIn im kind i = (n : ℕ) → StandsIn im n i → (record_of im Expressions n).kind ≢ kind

-- the j-th argument of a call, and the name of the j-th parameter of a function
abbrev pub argument : Image → ℕ → ℕ → ℕ
argument im call j = entry_of im ((call_at im call).args.first + j)

abbrev pub parameter_name : Image → ℕ → ℕ → Text
parameter_name im f j = text_of im (param_at im ((function_at im f).params.first + j)).name

-- no identifier stands at any depth in the arguments of the call
abbrev pub NoIdentifier : Image → ℕ → Type 0
NoIdentifier im call = (j : ℕ) → j < (call_at im call).args.count → NoneIn im 30 (argument im call j)

-- the parameter names of the function are distinct
abbrev pub DistinctNames : Image → ℕ → Type 0
DistinctNames im f = (i j : ℕ) → i < j → j < (function_at im f).params.count → parameter_name im f i ≢ parameter_name im f j

-- the conditions of its requires hold no assignment at any depth
abbrev pub NoAssignment : Image → ℕ → Type 0
NoAssignment im f =
    (j : ℕ) → j < (function_at im f).required.count → NoneIn im 39 (clause_at im ((function_at im f).required.first + j)).condition

-- values for the function's parameters: as many, and where the argument for one folds, what it folds to; the others are free
pub record ValuesFor (im : Image) (call f : ℕ) (vs : List (Value Text)) : Type 0 where
  pub many : length vs ≡ (function_at im f).params.count
  pub folded : (j : ℕ) → j < (function_at im f).params.count → j < (call_at im call).args.count → (w : ConstVal ℕ) →
      const_eval (text_of im) [] (expr_tree im (argument im call j)) ≡ some w → slice_index_or vs j (plain nothing) ≡ folds (map_const (text_of im) w)

-- with these values and this budget all the function's entry checks hold
abbrev pub PassesEntry : Image → ℕ → List (Value Text) → ℕ → Type 0
PassesEntry im f vs budget =
    (env : Env Text) × (left : ℕ) × (entering (λ t. t) (contract_function im f) vs [] budget ≡ got tt env left)

-- a call has a report
pub data Reported (s : List ℕ) (call : ℕ) : Type 0 where
  -- of `prove`
  proved : (k room n : ℕ) → prove_of s k call room ≡ Ok n → (n ≢ 0) → Reported s call
  -- of `prove_all`: the j-th of the n in the slice has the call for its first entry
  proved_all : (k room n j : ℕ) → prove_all_of s k room ≡ Ok n → j < n → slice_index (all_reports_of s k room) (j * 4) ≡ call → Reported s call
  -- of the printer: its i-th line begins with the call's number and a space
  printed : (i : ℕ) → i < length (lines_of s) → Begins (decimal call ++ ascii " ") (slice_index_or (lines_of s) i []) → Reported s call

violated : (s : List ℕ) (call : ℕ) → Reported s call → NonEmpty (violations_of (image_of s) call)
violated s call (proved k room n e z) = reported s call room n z k e
violated s call (proved_all k room n j e l d) = all_reported s k room n j call e l d
violated s call (printed i l b) = line_reported s call i b.0 l b.1

-- THEOREM. A call that has a report has a callee; and whatever the budget is, and the values that no argument folds to, it never passes the
-- callee's entry checks
pub reported_callee : (s : List ℕ) (call : ℕ) → Reported s call → (f : ℕ) × (callee_of (image_of s) call ≡ some f)
reported_callee s call r = violated_callee (image_of s) call (violated s call r)

pub second_half : (s : List ℕ) (call f : ℕ) → Reported s call → callee_of (image_of s) call ≡ some f →
    NoIdentifier (image_of s) call → DistinctNames (image_of s) f → NoAssignment (image_of s) f →
    (vs : List (Value Text)) → ValuesFor (image_of s) call f vs → (budget : ℕ) → PassesEntry (image_of s) f vs budget → ⊥
second_half s call f r callee closed names clean vs v budget p =
    let im : Image = image_of s in
    reported_never_enters im call f vs callee
    (asked im (NoneIn im) (λ kind i h. h i itself) (λ kind i c h e n d. h n (deeper (one c e) d))
    (λ kind i c h e l n d. h n (deeper (entry c 0 e refl l) d)) f call vs closed names clean v.many v.folded)
    (violated s call r) budget p.0 p.1 p.2

-- ---- CLOSED INSTANCES

-- marked case 14's function, `return true` under ensures `ret`, lowered with a work slice of 8,192 entries into 361 bytes
abbrev pub no_values_lem : Arguments
no_values_lem = record { values = replicate 16 (record { value = Bare Null }); count = 0 }

abbrev lowered : List ℕ
lowered = take 361 (lower_out 65535 (lower_of (encode returns_true) 8192 0 65535))

lowers : lower_answer (lower_of (encode returns_true) 8192 0 65535) ≡ Ok 361
unfolding answering
lowers = ap lower_answer ret_made

no_reserved : NoReservedText (image_of (encode returns_true))
unfolding answering begins
no_reserved = texts_pass (image_of (encode returns_true)) (ascii "__ensure_ret_") refl

one_statement : NoBareLast (image_of (encode returns_true)) 0
unfolding answering
one_statement z l = absurd (omega (arith, l))

-- with a work slice of 9,000 entries and a budget of 1,000 the lowered body returns true in 9 steps, as the original is read
pub true_in_9 : (o : Outcome) × (m : ℕ) × (run_of lowered 9000 0 no_values_lem 1000 ≡ ran o m)
    × (◌≡◌ {A = Ended Text × ℕ} (outcome_in (image_of lowered) o, m) (returned (folds (value.bool true)), 9))
unfolding answering
true_in_9 =
    (first_half (encode returns_true) 8192 0 65535 361 (bytes_by (encode returns_true) refl) lowers no_reserved one_statement
    9000 no_values_lem 1000 refl).1 (Returned (Bare (Const (Truth true)))) 2 refl

-- with one of 100 both runs are refused
pub both_short : run_of lowered 100 0 no_values_lem 1000 ≡ refused WorkTooShort 0
unfolding answering
both_short =
    (first_half (encode returns_true) 8192 0 65535 361 (bytes_by (encode returns_true) refl) lowers no_reserved one_statement
    100 no_values_lem 1000 refl).0 WorkTooShort 0 refl

-- f(p), requires true, which returns p, lowered into 256 bytes: of the text "x", the third of the original's, it returns "x" in 5 steps
abbrev pub third_text : Arguments
third_text = record { values = record { value = Bare (Const (Str 2)) } ∷ replicate 15 (record { value = Bare Null }); count = 1 }

abbrev echoed : List ℕ
echoed = take 256 (lower_out 65535 (lower_of (encode echo) 8192 0 65535))

echo_lowers : lower_answer (lower_of (encode echo) 8192 0 65535) ≡ Ok 256
unfolding answering
echo_lowers = ap lower_answer echo_made

echo_reserved : NoReservedText (image_of (encode echo))
unfolding answering begins
echo_reserved = texts_pass (image_of (encode echo)) (ascii "__ensure_ret_") refl

no_ensures : NoBareLast (image_of (encode echo)) 0
unfolding answering
no_ensures z l = absurd (omega (arith, z))

pub x_in_5 : (o : Outcome) × (m : ℕ) × (run_of echoed 8192 0 third_text 1000 ≡ ran o m)
    × (◌≡◌ {A = Ended Text × ℕ} (outcome_in (image_of echoed) o, m) (returned (folds (value.str (ascii "x"))), 5))
unfolding answering
x_in_5 =
    (first_half (encode echo) 8192 0 65535 256 (bytes_by (encode echo) refl) echo_lowers echo_reserved no_ensures
    8192 third_text 1000 refl).1 (Returned (Bare (Const (Str 2)))) 2 refl

-- the printer's example: open(flow), flow >= 1, requires flow < 4096, and the calls open(0) and open(5000)
abbrev opens : Image
opens = image_of (encode flow)

-- what stands in an expression, by search
pub tested : {im : Image} {x : Rec} {j : ℕ} → Names im x j → (test : ℕ → Bool) → all_named im test x ≡ true → test j ≡ true
tested {im} {x} (one c e) test h = one_passes im test x c h e
tested {im} {x} (one_or_none c e n) test h = option_passes im test x c h e
tested {im} {x} (entry c k {l} {r} {m} e t q) test h = entry_passes im test x c k l r m h e t q

depth_in : (im : Image) (ok : Rec → Bool) (n i : ℕ) → throughout im ok i ≡ true → StandsIn im n i →
    ok (record_of im Expressions n) ≡ true
depth_in im ok n i h itself = ok_itself im ok i h
depth_in im ok n i h (deeper {j = j} x d) = depth_in im ok n j (throughout_named im ok i j h (tested x)) d

pub in_depth : (im : Image) (ok : Rec → Bool) (i : ℕ) → throughout im ok i ≡ true → (n : ℕ) → StandsIn im n i →
    ok (record_of im Expressions n) ≡ true
in_depth im ok i h n d = depth_in im ok n i h d

pub none_in : (im : Image) (kind i : ℕ) → throughout im (is_not kind) i ≡ true → NoneIn im kind i
none_in im kind i h n d = is_not_lem kind (record_of im Expressions n) (in_depth im (is_not kind) i h n d)

pub no_identifier : (call : ℕ) → (call_at opens call).args.count ≡ 1 → throughout opens (is_not 30) (argument opens call 0) ≡ true →
    NoIdentifier opens call
no_identifier call single h j l = let z : j ≡ 0 = omega (arith, l, single) in rw z (none_in opens 30 (argument opens call 0) h)

pub distinct_names : DistinctNames opens 0
unfolding decoding proving
distinct_names i j l m = absurd (omega (arith, m))

pub no_assignment : NoAssignment opens 0
unfolding decoding folding proving all_named throughout
no_assignment j l = let z : j ≡ 0 = omega (arith, l) in rw z (none_in opens 39 2 refl)

values : (call n : ℕ) → const_eval (text_of opens) [] (expr_tree opens (argument opens call 0)) ≡ some (value.int (pos n)) →
    ValuesFor opens call 0 (folds (value.int (pos n)) ∷ [])
unfolding decoding proving
values call n d =
    record {
      many = refl;
      folded = λ j l m. let z : j ≡ 0 = omega (arith, l) in rw z (folds_to opens (argument opens call 0) (value.int (pos n)) d);
    }

-- open(0), which `prove` reports
pub never_0 : (budget : ℕ) → PassesEntry opens 0 (folds (value.int (pos 0)) ∷ []) budget → ⊥
unfolding decoding folding proving prove_of all_named throughout
never_0 =
    second_half (encode flow) 0 0 (proved 8192 4 1 refl (λ e. omega arith)) refl (no_identifier 0 refl refl) distinct_names no_assignment
    (folds (value.int (pos 0)) ∷ []) (values 0 0 refl)

-- open(5000), of which is the second report of `prove_all`
pub never_5000 : (budget : ℕ) → PassesEntry opens 0 (folds (value.int (pos 5000)) ∷ []) budget → ⊥
unfolding decoding folding proving prove_all_of all_reports_of all_named throughout
never_5000 =
    second_half (encode flow) 1 0 (proved_all 8192 8 2 1 refl (lit< tt) refl) refl (no_identifier 1 refl refl) distinct_names no_assignment
    (folds (value.int (pos 5000)) ∷ []) (values 1 5000 refl)

-- and the printer's second line
pub second_line : Reported (encode flow) 1
unfolding decoding folding proving printing
second_line = printed 1 (lit< tt) (_, refl)
