-- Refusals of lowering, each at its border and in the order of the checks; by computation.
-- Assumes nothing.
use Rattle.std.specs.Prelude.{◌≡◌, ℕ, zero, suc, List, [], ◌∷◌, replicate, refl}
use Rattle.rl_spec.specs.declared.Cause.TheVariants.{WorkTooShort, NoSuchFunction, HeightOverLimit, OutputTooShort, LimitPassed}
use Rattle.rl_spec.specs.Image.{Image, Rec, pair, encode}
use Rattle.rl_spec.specs.Answers.{refused}
use Rattle.rl_spec.specs.Lowerer.{Lowering, lower_number, lower_of}
use Rattle.rl_examples.specs.MarkedImages.{made, bool, grouping, clause, function}
use Rattle.rl_examples.specs.LowerExamples.{lowering}
use Rattle.rl_theorems.specs.DemandThree.Marked.{decoding, measuring}

-- text bytes, nodes, and f, which requires node 0
abbrev image : List ℕ → List Rec → Image
image bytes expressions =
    record {
      arena = 1;
      bytes = bytes;
      records =
          (made 2 (pair 0 1 ∷ []) ∷ []) ∷ [] ∷ expressions ∷ [] ∷ [] ∷ (clause 0 65535 ∷ [])
          ∷ (function 0 1 (pair 0 0) (pair 0 0) (pair 0 1) (pair 0 0) ∷ []) ∷ [] ∷ [];
    }

-- a truth value in so many groupings, from the n-th node on
unfoldable pub groupings : ℕ → ℕ → List Rec
groupings n zero = []
groupings n (suc k) = grouping n ∷ groupings (suc n) k

abbrev tower : ℕ → Image
tower k = image (102 ∷ []) (bool 1 ∷ groupings 0 k)

-- with the shortest slices; the function, and the output
abbrev lower : Image → ℕ → ℕ → Lowering
lower im f room = lower_of (encode im) 8192 f room

answering : Unit {0}
unfolding decoding lowering measuring lower_of groupings
answering = tt

-- 2, 11, 12, 13: each refuses where those behind it would
pub in_order : (lower_of (encode (tower 64)) 8191 1 0 ≡ refused WorkTooShort 0) × (lower (tower 64) 1 0 ≡ refused NoSuchFunction 0)
    × (lower (tower 64) 0 0 ≡ refused HeightOverLimit 0) × (lower (tower 63) 0 65534 ≡ refused OutputTooShort 0)
unfolding answering
in_order = (refl, refl, refl, refl)

-- a height of 64 and 65,535 bytes of output are enough
pub enough : lower_number (lower (tower 63) 0 65535) ≡ 0
unfolding answering
enough = refl

-- 14: the text bytes are full, and the message has no room
pub full : lower (image (replicate 16384 102) (bool 1 ∷ [])) 0 65535 ≡ refused LimitPassed 0
unfolding answering
full = refl
