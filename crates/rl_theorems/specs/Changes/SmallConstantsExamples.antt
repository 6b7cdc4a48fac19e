-- Small constants: the whole number that each holds; which kinds had no value before; and, by computation, calls whose reports changed. A
-- report comes, of a requires and of a refinement; where two parameters have the same name, a report goes.
-- Assumes nothing.
use Rattle.std.specs.Prelude.{◌≡◌, ℕ, ◌+◌, ◌<◌, true, false, List, [], ◌∷◌, ◌++◌, map, replicate, ℤ, pos, negsuc, ◌-ℤ◌, refl, Some, Ok}
use Rattle.std.proofs.Common.{ap, arith, lt-ltb, le-ltb}
use Rattle.std.proofs.Math.Option.{Option, none, some}
use Rattle.rl_spec.specs.declared.ConstVal.TheVariants.{Int}
use Rattle.rl_spec.specs.declared.Form.{Form}
use Rattle.rl_spec.specs.declared.Form.TheVariants.{Literal}
use Rattle.rl_spec.specs.declared.Violation.{Violation}
use Rattle.rl_spec.specs.declared.Violation.TheVariants.{Refinement, Requires}
use Rattle.rl_spec.specs.Image.{Image, pair, text_of, encode}
use Rattle.rl_spec.specs.Values.{ConstVal, int}
use Rattle.rl_spec.specs.Tree.{form_by, expr_tree}
use Rattle.rl_spec.specs.Ranges.{up_from}
use Rattle.rl_spec.specs.Fold.{const_eval}
use Rattle.rl_spec.specs.Prove.{violations_of, prove_of}
use Rattle.rl_examples.specs.MarkedImages.{integer, byte, identifier, binary, bang_equal, less, parameter, refined, clause, function, call, build, nodes}
use Rattle.rl_examples.specs.NodeRows.{literal}
use Rattle.rl_theorems.specs.DemandThree.Marked.{decoding, folding, proving}
use Rattle.rl_theorems.specs.Changes.SmallConstants.{is_small, before}

-- ---- what each holds

-- a literal of a kind, with its bits as a number
abbrev pub formed : Image → ℕ → ℕ → Form
formed im kind n = form_by im (literal kind n)

abbrev pub whole : ℤ → Form
whole z = Literal (Some (Int z))

pub unsigned_holds : (im : Image) (n : ℕ) → (formed im 20 n ≡ whole (pos n)) × (formed im 21 n ≡ whole (pos n)) × (formed im 23 n ≡ whole (pos n))
unfolding form_by
unsigned_holds im n = (refl, refl, refl)

-- n and n - 2 ^ 7, n and n - 2 ^ 15
pub sbyte_holds : (im : Image) (n : ℕ) → n < 128 → (formed im 22 n ≡ whole (pos n)) × (formed im 22 (128 + n) ≡ whole (pos n -ℤ pos 128))
unfolding form_by
sbyte_holds im n h =
    (rw (lt-ltb n 128 h) refl, rw (le-ltb (128 + n) 128 (omega arith), lt-ltb n 128 h) (ap (λ m. whole (negsuc m)) (omega arith)))

pub bsbyte_holds : (im : Image) (n : ℕ) → n < 32768 →
    (formed im 24 n ≡ whole (pos n)) × (formed im 24 (32768 + n) ≡ whole (pos n -ℤ pos 32768))
unfolding form_by
bsbyte_holds im n h =
    (rw (lt-ltb n 32768 h) refl, rw (le-ltb (32768 + n) 32768 (omega arith), lt-ltb n 32768 h) (ap (λ m. whole (negsuc m)) (omega arith)))

-- ---- before

-- of the kinds 16 to 57, 20 to 24
pub kinds_so : map is_small (up_from 16 42) ≡ replicate 4 false ++ replicate 5 true ++ replicate 33 false
unfolding up_from
kinds_so = refl

-- what a literal of a kind, of the payload 5, folds to in an image as it is, or as it was
abbrev pub five : (Image → Image) → ℕ → Option (ConstVal ℕ)
five taken kind =
    let im : Image = taken (nodes [] (literal kind 5 ∷ [])) in
    const_eval (text_of im) [] (expr_tree im 0)

-- Integer, SInt, UInt; SUInt, Byte, SByte, BByte, BSByte; Character, which never does
pub fives_so : (map (five before) (17 ∷ 18 ∷ 19 ∷ 20 ∷ 21 ∷ 22 ∷ 23 ∷ 24 ∷ 29 ∷ []) ≡ replicate 3 (some (int (pos 5))) ++ replicate 6 none)
    × (map (five λ im. im) (17 ∷ 18 ∷ 19 ∷ 20 ∷ 21 ∷ 22 ∷ 23 ∷ 24 ∷ 29 ∷ []) ≡ replicate 8 (some (int (pos 5))) ++ none ∷ [])
unfolding before decoding folding
fives_so = (refl, refl)

-- ---- reports

-- the first call of an image had these reports, and has those
abbrev pub Reports : Image → List Violation → List Violation → Type 0
Reports im vs ws = (violations_of (before im) 0 ≡ vs) × (violations_of im 0 ≡ ws)

-- f(Byte 5), parameter a; requires a < 4
abbrev pub priority : Image
priority =
    build
    record {
      texts = "f" ∷ "a" ∷ [];
      lists = 0 ∷ [];
      expressions = byte 5 ∷ identifier 1 ∷ integer (pos 4) ∷ binary 1 less 2 ∷ [];
      statements = [];
      parameters = parameter 1 ∷ [];
      clauses = clause 3 65535 ∷ [];
      functions = function 0 1 (pair 0 1) (pair 0 0) (pair 0 1) (pair 0 0) ∷ [];
      calls = call 0 10 (pair 0 1) ∷ [];
    }

pub report_comes : Reports priority [] (Requires 0 ∷ [])
unfolding before decoding folding proving
report_comes = (refl, refl)

-- f(SByte -1), parameter a > 9
abbrev pub level : Image
level =
    build
    record {
      texts = "f" ∷ "a" ∷ [];
      lists = 0 ∷ [];
      expressions = literal 22 255 ∷ [];
      statements = [];
      parameters = refined 1 1 (pos 9) ∷ [];
      clauses = [];
      functions = function 0 1 (pair 0 1) (pair 0 0) (pair 0 0) (pair 0 0) ∷ [];
      calls = call 0 10 (pair 0 1) ∷ [];
    }

pub refinement_comes : Reports level [] (Refinement 0 ∷ [])
unfolding before decoding folding proving
refinement_comes = (refl, refl)

-- f(1, Byte 5), parameters a and a; requires a != 1. The second now has a value and hides the first
abbrev pub twice : Image
twice =
    build
    record {
      texts = "f" ∷ "a" ∷ [];
      lists = 0 ∷ 1 ∷ [];
      expressions = integer (pos 1) ∷ byte 5 ∷ identifier 1 ∷ binary 2 bang_equal 0 ∷ [];
      statements = [];
      parameters = parameter 1 ∷ parameter 1 ∷ [];
      clauses = clause 3 65535 ∷ [];
      functions = function 0 1 (pair 0 2) (pair 0 0) (pair 0 1) (pair 0 0) ∷ [];
      calls = call 0 10 (pair 0 2) ∷ [];
    }

pub report_goes : Reports twice (Requires 0 ∷ []) []
unfolding before decoding folding proving
report_goes = (refl, refl)

-- the bytes of the three are accepted, and `prove` answers so many reports
pub examples_prove : (prove_of (encode priority) 8192 0 4 ≡ Ok 1) × (prove_of (encode level) 8192 0 4 ≡ Ok 1) × (prove_of (encode twice) 8192 0 4 ≡ Ok 0)
unfolding decoding folding proving prove_of
examples_prove = (refl, refl, refl)
