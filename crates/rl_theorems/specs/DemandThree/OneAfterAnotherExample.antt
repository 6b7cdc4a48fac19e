-- Three functions, of which the second and then the first are lowered: both have ensures, so that the first is lowered in an image that has
-- reserved texts already. Each of the two runs as it was read, and the third as it did; by computation.
-- Assumes nothing.
use Rattle.std.specs.Prelude.{◌≡◌, ℕ, ◌+◌, Bool, true, false, not, ◌&&◌, ◌||◌, ◌⊎◌, List, [], ◌∷◌, length, ◌==◌, refl, Ok}
use Rattle.std.proofs.Common.{ap, sym, ◌∙◌, subst, inl, inr, arith, lit<, lit≤}
use Rattle.std.proofs.Math.Option.{Option, none, some}
use Rattle.rl_spec.specs.declared.ConstVal.TheVariants.{Bool as Truth}
use Rattle.rl_spec.specs.declared.Outcome.{Outcome}
use Rattle.rl_spec.specs.declared.Outcome.TheVariants.{Returned}
use Rattle.rl_spec.specs.declared.Plain.TheVariants.{Const}
use Rattle.rl_spec.specs.Answers.{ran}
use Rattle.rl_spec.specs.declared.Value.TheVariants.{Plain as Bare}
use Rattle.rl_spec.specs.declared.Section.TheVariants.{Expressions, Clauses}
use Rattle.rl_spec.specs.Image.{num, pair, Rec, Image, record_of, text_of, encode, image_of, AllBytes}
use Rattle.rl_spec.specs.Tree.{ascii, number}
use Rattle.rl_spec.specs.Records.{function_at}
use Rattle.rl_spec.specs.Values as value
use Rattle.rl_spec.specs.Run.{Outcome as Ended, returned, folds}
use Rattle.rl_spec.specs.Mapped.{Text}
use Rattle.rl_spec.specs.Runner.{outcome_in, run_of}
use Rattle.rl_spec.specs.Make.{made}
use Rattle.rl_spec.specs.Lower.{lowered}
use Rattle.rl_spec.specs.Lowerer.{or_limit, lower_of, lower_answer}
use Rattle.rl_examples.specs.MarkedImages.{bool, identifier, clause, function, build}
use Rattle.rl_examples.specs.LowerExamples.{lowering}
use Rattle.rl_theorems.specs.Reading.EncodedAnswers.{lowered_encoded, bytes_by, well_formed_by}
use Rattle.rl_theorems.specs.DemandThree.Marked.{decoding, measuring}
use Rattle.rl_theorems.specs.DemandThree.LoweredBytes.{made_written}
use Rattle.rl_theorems.specs.DemandThree.FirstHalfImages.{answering}
use Rattle.rl_theorems.specs.Lowering.LowerFrame.{begins}
use Rattle.rl_theorems.specs.Lowering.LoweredInTurn.{Among, NoneTwice}
use Rattle.rl_theorems.specs.DemandThree.DepthTests.{all_named, throughout, not_true, begins_not}
use Rattle.rl_theorems.specs.DemandThree.Demand.{NoBareLast, Names, no_values_lem, tested, in_depth}
use Rattle.rl_theorems.specs.DemandThree.OneAfterAnother.{BytesInTurn, none_left, and_then, NoReservedEnsures, in_turn_lowered, in_turn_others}

-- f, g and h return true and ensure `ret`; f also requires true
abbrev original : Image
original =
    build
    record {
      texts = "f" ∷ "g" ∷ "h" ∷ "ret" ∷ [];
      lists = 0 ∷ [];
      expressions = bool 1 ∷ identifier 3 ∷ [];
      statements = made 66 (num 5 ∷ num 0 ∷ []) ∷ [];
      parameters = [];
      clauses = clause 0 65535 ∷ clause 1 65535 ∷ [];
      functions =
          function 0 9 (pair 0 0) (pair 0 1) (pair 0 1) (pair 1 1) ∷ function 1 9 (pair 0 0) (pair 0 1) (pair 0 0) (pair 1 1)
          ∷ function 2 9 (pair 0 0) (pair 0 1) (pair 0 0) (pair 1 1) ∷ [];
      calls = [];
    }

abbrev image_in : Option Image → Image
image_in none = original
image_in (some im) = im

-- with g lowered, and then f
abbrev middle : Image
middle = image_in (lowered original 1)

abbrev final : Image
final = image_in (lowered middle 0)

g_made : lowered original 1 ≡ some middle
unfolding lowering
g_made = refl

f_made : lowered middle 0 ≡ some final
unfolding lowering
f_made = refl

g_lowered : lower_of (encode original) 8192 1 65535 ≡ Ok middle
unfolding decoding lowering measuring
g_lowered =
    lowered_encoded original (well_formed_by (encode original) _ _ refl refl) 8192 (lit≤ tt) 1 65535 (lit< tt) refl (lit≤ tt) ∙ ap or_limit g_made

f_lowered : lower_of (encode middle) 9000 0 70000 ≡ Ok final
unfolding decoding lowering measuring
f_lowered =
    lowered_encoded middle (well_formed_by (encode middle) _ _ refl refl) 9000 (lit≤ tt) 0 70000 (lit< tt) refl (lit≤ tt) ∙ ap or_limit f_made

-- one more lowering ahead
ahead : {last : List ℕ} {fs : List ℕ} (im im' : Image) (k f room : ℕ) → AllBytes (encode im) → lower_of (encode im) k f room ≡ Ok im' →
    BytesInTurn (encode im') fs last → BytesInTurn (encode im) (f ∷ fs) last
ahead {last} {fs} im im' k f room bytes e rest =
    and_then k room (length (encode im')) (ap lower_answer e)
    (subst (λ t. BytesInTurn t fs last) (sym (made_written (encode im) k f room im' bytes e)) rest)

in_turn : BytesInTurn (encode original) (1 ∷ 0 ∷ []) (encode final)
unfolding decoding lowering
in_turn =
    ahead original middle 8192 1 65535 (bytes_by (encode original) refl) g_lowered
    (ahead middle final 9000 0 70000 (bytes_by (encode middle) refl) f_lowered none_left)

none_twice : NoneTwice (1 ∷ 0 ∷ [])
none_twice = (λ x. elim x [ inl e ↦ absurd (omega (arith, e)) | inr y ↦ y ], ((λ x. x), tt))

-- ---- the premises, of the original

abbrev first : Image
first = image_of (encode original)

-- an expression that is neither an identifier nor an assignment, or whose name is not reserved
abbrev free : Rec → Bool
free x = not ((x.kind == 30 || x.kind == 39) && begins (ascii "__ensure_ret_") (text_of first (number x 1)))

free_name : (x : Rec) → free x ≡ true → (x.kind ≡ 30) ⊎ (x.kind ≡ 39) → begins (ascii "__ensure_ret_") (text_of first (number x 1)) ≡ false
free_name x h (inl e) = not_true (begins (ascii "__ensure_ret_") (text_of first (number x 1))) (rw e at h)
free_name x h (inr e) = not_true (begins (ascii "__ensure_ret_") (text_of first (number x 1))) (rw e at h)

-- the clause that f and g ensure
no_reserved : (f : ℕ) → (function_at first f).ensured.first ≡ 1 → (function_at first f).ensured.count ≡ 1 → NoReservedEnsures first f
unfolding decoding lowering begins all_named throughout
no_reserved f a n j i l x m d k =
    let z : (function_at first f).ensured.first + j ≡ 1 = omega (arith, a, n, l) in
    let y : Names first (record_of first Clauses 1) i = rw z at x in
    begins_not (ascii "__ensure_ret_") _ (free_name (record_of first Expressions m) (in_depth first free i (tested y (throughout first free) refl) m d) k)

-- a body of one statement
one_statement : (f : ℕ) → (function_at first f).body.count ≡ 1 → NoBareLast first f
one_statement f e z l = absurd (omega (arith, e, l))

-- ---- so they run

abbrev yes : Outcome
yes = Returned (Bare (Const (Truth true)))

-- f and g return true as they were read, after 12 and 9 steps
abbrev RunsSo : ℕ → ℕ → Type 0
RunsSo f steps =
    (o : Outcome) × (n : ℕ) × (run_of (encode final) 9000 f no_values_lem 1000 ≡ ran o n)
    × (◌≡◌ {A = Ended Text × ℕ} (outcome_in (image_of (encode final)) o, n) (returned (folds (value.bool true)), steps))

pub f_runs : RunsSo 0 12
unfolding answering
f_runs =
    (in_turn_lowered (encode original) (encode final) (1 ∷ 0 ∷ []) (bytes_by (encode original) refl) in_turn 0 9000 no_values_lem 1000 refl none_twice (inr (inl refl))
    (no_reserved 0 refl refl) (one_statement 0 refl)).1 yes 2 refl

pub g_runs : RunsSo 1 9
unfolding answering
g_runs =
    (in_turn_lowered (encode original) (encode final) (1 ∷ 0 ∷ []) (bytes_by (encode original) refl) in_turn 1 9000 no_values_lem 1000 refl none_twice (inl refl)
    (no_reserved 1 refl refl) (one_statement 1 refl)).1 yes 2 refl

-- and h as it did, its ensures unread, after 2
pub h_runs : (o : Outcome) × (run_of (encode final) 9000 2 no_values_lem 1000 ≡ ran o 2)
    × (outcome_in (image_of (encode final)) o ≡ returned (folds (value.bool true)))
unfolding answering
h_runs =
    (in_turn_others (encode original) (encode final) (1 ∷ 0 ∷ []) (bytes_by (encode original) refl) in_turn 2 9000 no_values_lem 1000 refl not_lowered).1 yes 2 refl
  where
    not_lowered : Among 2 (1 ∷ 0 ∷ []) → ⊥
    not_lowered (inl e) = omega (arith, e)
    not_lowered (inr (inl e)) = omega (arith, e)
    not_lowered (inr (inr x)) = x
