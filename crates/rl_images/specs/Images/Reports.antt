-- What is reported of a call of a well-formed image: how many reports there are, how each is numbered, how long its text and its line
-- are; and the entries and the line of each.
-- Assumes nothing.
use Prim.Native.Nat.{ℕ, zero, suc, ◌+◌, ◌*◌, ◌/◌, ◌%◌, ◌≤◌, ◌<◌}
use Rattle.std.specs.Prelude.{◌≡◌, Bool, true, false, ℤ, pos, negsuc, get_or}
use Rattle.std.proofs.Math.Path.{refl}
use Rattle.std.proofs.Common.{ap, ◌∙◌, lt-ltb, le-ltb, length-take, length-drop, get_or-append-add}
use mathlib.Core.List.{List, [], ◌∷◌, ◌++◌, map, append_assoc}
use Rattle.std.proofs.Math.Option
use Rattle.std.proofs.Math.Option.{Option, none, some}
use native.Mathlib.Omega.{arith}
use Rattle.std.proofs.Math.ListN.{length, length-append, length-map, get_or-eq_default, get_or-append}
use Rattle.rl_spec.specs.declared.Cause.{Cause}
use Rattle.rl_spec.specs.declared.Violation.{Violation}
use Rattle.rl_spec.specs.declared.Violation.TheVariants.{Refinement, Requires}
use Rattle.rl_spec.specs.Schema.{limits}
use Rattle.rl_spec.specs.Read.{number_of}
use Rattle.rl_spec.specs.Image.{Image, text_of, WellFormed}
use Rattle.rl_spec.specs.Values.{RefineOp, gt, ge, lt, le, eq, ne}
use Rattle.rl_spec.specs.Tree.{Expr, ascii, optional_tree}
use Rattle.rl_spec.specs.Records.{function_at, clause_at, call_at}
use Rattle.rl_spec.specs.Ranges.{up_from, numbers_in}
use Rattle.rl_spec.specs.Mapped.{Text, map_operand, map_refinement}
use Rattle.rl_spec.specs.Fold.{Binding, const_eval}
use Rattle.rl_spec.specs.FnContracts.{RefineOperand, integer, str, bool, param, ParamRefinement, Param, ContractClause, param_of, clause_of, contracts_of, callee_of, arguments_of}
use Rattle.rl_spec.specs.Prove.{bind_arguments, is_false, report, fails_at, failed_refinements, failed_requires, prove_call, violations_by, violations_of, entries_by, report_entries}
use Rattle.rl_spec.specs.Message.{decimal_by, decimal, integer_text, refine_op_str, operand_str, refinement_text, own_string, or_default, default_text, message_by, opening, message_of}
use Rattle.rl_spec.specs.Printed.{refused_line, line_with, line_of, lines_by, call_lines, line_at}
use Rattle.rl_spec.specs.Texts.{message_at}
use Rattle.rl_laws.specs.Tests.{by_ltb}
use Rattle.rl_images.specs.Images.Limits.{within_at, parameters_within, required_within}

-- ---- how long a number is

digits_by : (k n : ℕ) → length (decimal_by k n) ≤ k
unfolding decimal_by
digits_by zero n = omega arith
digits_by (suc k) n =
    by_ltb n 10
    (λ l. rw (lt-ltb n 10 l) (omega arith))
    (λ l. rw (le-ltb n 10 l, length-append (decimal_by k (n / 10)) ((48 + n % 10) ∷ [])) (omega (arith, digits_by k (n / 10))))

pub digits_most : (n : ℕ) → length (decimal n) ≤ 20
unfolding decimal
digits_most n = digits_by 20 n

integer_short : (x : ℤ) → length (integer_text x) ≤ 21
unfolding ascii
integer_short (pos n) = omega (arith, digits_most n)
integer_short (negsuc n) = simp length-append (omega (arith, digits_most (suc n)))

operator_short : (o : RefineOp) → length (refine_op_str o) ≤ 2
unfolding ascii
operator_short gt = omega arith
operator_short ge = omega arith
operator_short lt = omega arith
operator_short le = omega arith
operator_short eq = omega arith
operator_short ne = omega arith

-- ---- how long a text is

module _ (im : Image) (wf : WellFormed im) where
  -- THEOREM: no text is longer than all text bytes, which are at most 16,384
  pub text_short : (t : ℕ) → length (text_of im t) ≤ 16384
  unfolding limits
  text_short t =
      simp (length-take, length-drop) (omega (arith, within_at (length im.bytes ∷ map length im.records) limits wf.counts 0))

  operand_short : (o : RefineOperand ℕ) → length (operand_str (map_operand (text_of im) o)) ≤ 16386
  unfolding ascii
  operand_short (integer x) = omega (arith, integer_short x)
  operand_short (str t) = simp length-append (omega (arith, text_short t))
  operand_short (bool true) = omega arith
  operand_short (bool false) = omega arith
  operand_short (param t) = omega (arith, text_short t)

  refinement_short : (name : ℕ) (r : Option (ParamRefinement ℕ)) →
      length (refinement_text (text_of im name) (Option.map (map_refinement (text_of im)) r)) ≤ 32800
  unfolding ascii
  refinement_short name none = omega arith
  refinement_short name (some r) =
      simp length-append (omega (arith, text_short name, operator_short r.op, operand_short r.operand))

  own_short : (own : Option ℕ) (text : Text) → length text ≤ 32800 → length (or_default (Option.map (text_of im) own) text) ≤ 32800
  own_short none text l = l
  own_short (some t) text l = omega (arith, text_short t)

  module _ (f : ℕ) where
    -- THEOREMS: so a report's text, its message, and its line in the printer's buffer
    pub default_short : (v : Violation) → length (default_text im f v) ≤ 32800
    unfolding ascii
    default_short (Refinement n) =
        let p : Param ℕ = param_of im ((function_at im f).params.first + n) in
        refinement_short p.name p.refinement
    default_short (Requires n) = omega arith

    by_short : (v : Violation) → length (message_by im f v) ≤ 32800
    unfolding message_by
    by_short (Refinement n) = default_short (Refinement n)
    by_short (Requires n) =
        own_short (own_string (optional_tree im (clause_at im ((function_at im f).required.first + n)).message)) _
        (default_short (Requires n))

    pub message_short : (v : Violation) → length (opening ++ message_by im f v) ≤ 65535
    unfolding opening ascii
    message_short v = simp length-append (omega (arith, by_short v))

    pub line_short : (call span : ℕ) (v : Violation) → length (line_of im f call span v) ≤ 65536
    unfolding line_of line_with opening ascii
    line_short call span v = simp length-append (omega (arith, digits_most call, digits_most span, by_short v))

-- THEOREM: and the line of a refusal
pub refused_short : (q : Cause) (place : ℕ) → length (refused_line q place) ≤ 65536
unfolding refused_line ascii
refused_short q place = simp length-append (omega (arith, digits_most (number_of q), digits_most place))

-- ---- the entries of a report: a call, a span, a kind and a number

-- 0 for a refinement, 1 for a requires
abbrev pub kind_of : Violation → ℕ
kind_of (Refinement n) = 0
kind_of (Requires n) = 1

-- which of the callee's parameters, or of its requires
abbrev pub number_among : Violation → ℕ
number_among (Refinement n) = n
number_among (Requires n) = n

module _ (call span : ℕ) where
  -- THEOREM: four entries a report
  pub entries_length : (vs : List Violation) → length (report_entries call span vs) ≡ length vs * 4
  unfolding report_entries
  entries_length [] = refl
  entries_length (Refinement n ∷ vs) = omega (arith, entries_length vs)
  entries_length (Requires n ∷ vs) = omega (arith, entries_length vs)

  four : (v : Violation) → length (entries_by call span v) ≡ 4
  four (Refinement n) = refl
  four (Requires n) = refl

  entry_at : (vs : List Violation) (zeros : List ℕ) (i j : ℕ) → i < length vs → j < 4 →
      get_or (report_entries call span vs ++ zeros) (i * 4 + j) 0 ≡ get_or (entries_by call span (get_or vs i (Refinement 0))) j 0
  unfolding report_entries
  entry_at [] zeros i j l m = absurd (omega arith)
  entry_at (v ∷ vs) zeros zero j l m =
      let e : 0 * 4 + j ≡ j = omega arith in
      rw (e, append_assoc (entries_by call span v) (report_entries call span vs) zeros)
      (get_or-append (entries_by call span v) (report_entries call span vs ++ zeros) 0 j (omega (arith, four v)))
  entry_at (v ∷ vs) zeros (suc i) j l m =
      let e : suc i * 4 + j ≡ length (entries_by call span v) + (i * 4 + j) = omega (arith, four v) in
      rw (e, append_assoc (entries_by call span v) (report_entries call span vs) zeros)
      (get_or-append-add (entries_by call span v) (report_entries call span vs ++ zeros) (i * 4 + j) 0
      ∙ entry_at vs zeros i j (omega arith) m)

  third : (v : Violation) → get_or (entries_by call span v) 2 0 ≡ kind_of v
  third (Refinement n) = refl
  third (Requires n) = refl

  fourth : (v : Violation) → get_or (entries_by call span v) 3 0 ≡ number_among v
  fourth (Refinement n) = refl
  fourth (Requires n) = refl

  -- THEOREMS: the third entry is the report's kind, the fourth its number
  pub entry_kind : (vs : List Violation) (zeros : List ℕ) (i : ℕ) → i < length vs →
      get_or (report_entries call span vs ++ zeros) (i * 4 + 2) 0 ≡ kind_of (get_or vs i (Refinement 0))
  entry_kind vs zeros i l = entry_at vs zeros i 2 l (omega arith) ∙ third (get_or vs i (Refinement 0))

  pub entry_number : (vs : List Violation) (zeros : List ℕ) (i : ℕ) → i < length vs →
      get_or (report_entries call span vs ++ zeros) (i * 4 + 3) 0 ≡ number_among (get_or vs i (Refinement 0))
  entry_number vs zeros i l = entry_at vs zeros i 3 l (omega arith) ∙ fourth (get_or vs i (Refinement 0))

-- ---- a line for each report

pub map_at : (line : Violation → List ℕ) (vs : List Violation) (i : ℕ) → i < length vs → get_or (map line vs) i [] ≡ line (get_or vs i (Refinement 0))
map_at line [] i l = absurd (omega arith)
map_at line (v ∷ vs) zero l = refl
map_at line (v ∷ vs) (suc i) l = map_at line vs i (omega arith)

module _ (im : Image) (call : ℕ) where
  -- THEOREM: as many lines as reports
  pub lines_count : length (call_lines im call) ≡ length (violations_of im call)
  unfolding call_lines violations_of
  lines_count = go (callee_of im call) refl
    where
      go : (o : Option ℕ) → callee_of im call ≡ o → length (lines_by im call o) ≡ length (violations_by im call o)
      go none e = refl
      go (some f) e = length-map (violations_of im call) (line_of im f call (call_at im call).span) ∙ rw e refl

  -- THEOREMS: each is that of its report, and there are no others
  pub line_at_lem : (f i : ℕ) → callee_of im call ≡ some f → i < length (violations_of im call) →
      line_at im call i ≡ line_of im f call (call_at im call).span (get_or (violations_of im call) i (Refinement 0))
  unfolding line_at call_lines
  line_at_lem f i e l = rw e (map_at (line_of im f call (call_at im call).span) (violations_of im call) i l)

  pub no_line : (i : ℕ) → length (violations_of im call) ≤ i → line_at im call i ≡ []
  unfolding line_at
  no_line i l = get_or-eq_default (call_lines im call) [] (omega (arith, lines_count))

  -- THEOREMS: so it is with messages
  pub message_at_lem : (f i : ℕ) → callee_of im call ≡ some f → i < length (violations_of im call) →
      message_at im call i ≡ opening ++ message_by im f (get_or (violations_of im call) i (Refinement 0))
  unfolding message_at message_of
  message_at_lem f i e l = map_at (message_of im call) (violations_of im call) i l ∙ rw e refl

  pub no_message_lem : (i : ℕ) → length (violations_of im call) ≤ i → message_at im call i ≡ []
  unfolding message_at
  no_message_lem i l =
      get_or-eq_default (map (message_of im call) (violations_of im call)) []
      (omega (arith, length-map (violations_of im call) (message_of im call)))

  -- THEOREM: where there is a report there is a callee
  pub callee_there : 0 < length (violations_of im call) → (f : ℕ) × (callee_of im call ≡ some f)
  unfolding violations_of
  callee_there l = go (callee_of im call) refl l
    where
      go : (o : Option ℕ) → callee_of im call ≡ o → 0 < length (violations_by im call o) → (f : ℕ) × (callee_of im call ≡ some f)
      go none e l = absurd (omega arith)
      go (some f) e l = (f, e)

module _ (im : Image) (wf : WellFormed im) (call n : ℕ) where
  -- THEOREM: every line fits the 65,536 bytes of the printer's buffer
  pub line_fits : length (line_at im call n) ≤ 65536
  line_fits =
      by_ltb n (length (violations_of im call))
      (λ l.
      let f = callee_there im call (omega (arith, l)) in
      rw (line_at_lem im call f.0 n f.1 l)
      (line_short im wf f.0 call (call_at im call).span (get_or (violations_of im call) n (Refinement 0))))
      (λ l. rw (no_line im call n l) (omega arith))

  -- THEOREM: and every message the 65,535 bytes of its array
  pub message_fits : length (message_at im call n) ≤ 65535
  message_fits =
      by_ltb n (length (violations_of im call))
      (λ l.
      let f = callee_there im call (omega (arith, l)) in
      rw (message_at_lem im call f.0 n f.1 l)
      (message_short im wf f.0 (get_or (violations_of im call) n (Refinement 0))))
      (λ l. rw (no_message_lem im call n l) (omega arith))

-- ---- how many reports, and their numbers: at most one for each parameter and each requires of the callee

-- a range has as many numbers as it says
pub length_up : (k n : ℕ) → length (up_from k n) ≡ n
unfolding up_from
length_up k zero = refl
length_up k (suc n) = ap suc (length_up (k + 1) n)

-- each of these has a number below m
abbrev Low : ℕ → List Violation → Type 0
Low m [] = Unit {0}
Low m (v ∷ vs) = (number_among v < m) × Low m vs

low_both : (m : ℕ) (vs us : List Violation) → Low m vs → Low m us → Low m (vs ++ us)
low_both m [] us g h = h
low_both m (v ∷ vs) us g h = (g.0, low_both m vs us g.1 h)

low_at : (m : ℕ) (vs : List Violation) → Low m vs → (i : ℕ) → i < length vs → number_among (get_or vs i (Refinement 0)) < m
low_at m [] h i l = absurd (omega arith)
low_at m (v ∷ vs) h zero l = h.0
low_at m (v ∷ vs) h (suc i) l = low_at m vs h.1 i (omega arith)

-- and there are at most n
record Few (m n : ℕ) (vs : List Violation) : Type 0 where
  few : length vs ≤ n
  low : Low m vs

one_more : {m n : ℕ} (b : Bool) (v : Violation) {vs : List Violation} → number_among v < m → Few m n vs → Few m (suc n) (report b v vs)
one_more true v h r = record { few = omega arith; low = (h, r.low) }
one_more false v h r = record { few = omega arith; low = r.low }

both : {m a b n : ℕ} {vs us : List Violation} → a + b ≤ n → Few m a vs → Few m b us → Few m n (vs ++ us)
both {m} {vs = vs} {us = us} l x y = record { few = simp length-append (omega arith); low = low_both m vs us x.low y.low }

module _ (bytes : ℕ → List ℕ) (env : List (Binding ℕ)) (m : ℕ) where
  few_refinements : (n : ℕ) (ps : List (Param ℕ)) (args : List (Expr ℕ)) → n + length ps ≤ m →
      Few m (length ps) (failed_refinements bytes env n ps args)
  unfolding failed_refinements
  few_refinements n [] args l = record { few = omega arith; low = tt }
  few_refinements n (p ∷ ps) [] l = record { few = omega arith; low = tt }
  few_refinements n (p ∷ ps) (a ∷ args) l =
      one_more (fails_at bytes env p.refinement a) (Refinement n) (omega arith) (few_refinements (n + 1) ps args (omega arith))

  few_requires : (n : ℕ) (cs : List (ContractClause ℕ)) → n + length cs ≤ m → Few m (length cs) (failed_requires bytes env n cs)
  unfolding failed_requires
  few_requires n [] l = record { few = omega arith; low = tt }
  few_requires n (c ∷ cs) l =
      one_more (is_false (const_eval bytes env c.condition)) (Requires n) (omega arith) (few_requires (n + 1) cs (omega arith))

module _ (im : Image) (wf : WellFormed im) (call : ℕ) where
  few_by : (o : Option ℕ) → Few 256 512 (violations_by im call o)
  unfolding prove_call contracts_of
  few_by none = record { few = omega arith; low = tt }
  few_by (some f) =
      let ps : List ℕ = numbers_in (function_at im f).params in
      let cs : List ℕ = numbers_in (function_at im f).required in
      let names : List (Binding ℕ) = bind_arguments (text_of im) [] (map (param_of im) ps) (arguments_of im call) in
      let p : length (map (param_of im) ps) ≤ 256 = rw (length-map ps (param_of im), length_up) (parameters_within im wf f) in
      let c : length (map (clause_of im) cs) ≤ 256 = rw (length-map cs (clause_of im), length_up) (required_within im wf f) in
      both (omega (arith, p, c))
      (few_refinements (text_of im) names 256 0 (map (param_of im) ps) (arguments_of im call) (omega arith))
      (few_requires (text_of im) names 256 0 (map (clause_of im) cs) (omega arith))

  -- THEOREM: the printer's slice, which takes 512 reports, takes those of any call
  pub at_most_512 : length (violations_of im call) ≤ 512
  unfolding violations_of
  at_most_512 = (few_by (callee_of im call)).few

  -- THEOREM: a report's number fits a byte
  pub numbered : (i : ℕ) → i < length (violations_of im call) → number_among (get_or (violations_of im call) i (Refinement 0)) < 256
  unfolding violations_of
  numbered = low_at 256 (violations_of im call) (few_by (callee_of im call)).low
