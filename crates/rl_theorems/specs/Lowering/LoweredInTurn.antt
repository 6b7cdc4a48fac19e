-- Functions lowered one after another, in any order, each in the image that came of the one before: each of them runs in the last image
-- as it is read in the first, and every other function is as it was.
-- Assumes nothing.
use Rattle.std.specs.Prelude.{◌≡◌, ℕ, ◌<◌, ◌⊎◌, List, [], ◌∷◌, refl}
use Rattle.std.proofs.Common.{sym, ◌∙◌, subst, inl, inr, arith}
use Rattle.std.proofs.Math.Option.{some}
use Rattle.rl_spec.specs.declared.Section.TheVariants.{Expressions, Statements, Functions}
use Rattle.rl_spec.specs.Image.{Image, size_of, heights, WellFormed}
use Rattle.rl_spec.specs.Tree.{ascii}
use Rattle.rl_spec.specs.Run.{Value}
use Rattle.rl_spec.specs.Reading.{Function, run_function, reading}
use Rattle.rl_spec.specs.Mapped.{Text}
use Rattle.rl_spec.specs.Functions.{contract_function}
use Rattle.rl_spec.specs.Lower.{lowered}
use Rattle.rl_images.specs.Lowering.Grows.{eight_sections}
use Rattle.rl_images.specs.Lowering.Followed.{lowered_followed}
use Rattle.rl_theorems.specs.Images.FunctionReady.{Under}
use Rattle.rl_theorems.specs.Images.LoweredWellFormed.{lowered_well_formed}
use Rattle.rl_theorems.specs.Lowering.LowerBodies.{Ensured}
use Rattle.rl_theorems.specs.Lowering.LoweredTo.{LoweredTo, lowered_to_runs}
use Rattle.rl_theorems.specs.Lowering.LoweredRuns.{Premises}
use Rattle.rl_theorems.specs.Lowering.LoweredFunctions.{lowered_trees}
use Rattle.rl_theorems.specs.Lowering.LoweredArguments.{Keeps, keeps_all, keeps_then, followed_keeps}
use Rattle.rl_theorems.specs.Lowering.LoweredOthers.{others_same}

-- ---- lists of functions

-- f is one of them
abbrev pub Among : ℕ → List ℕ → Type 0
Among f [] = ⊥
Among f (g ∷ fs) = (f ≡ g) ⊎ Among f fs

-- none of them is there twice
abbrev pub NoneTwice : List ℕ → Type 0
NoneTwice [] = Unit {0}
NoneTwice (f ∷ fs) = (Among f fs → ⊥) × NoneTwice fs

-- ---- the first of them is lowered, then the others in the image that is made; none of the images is too tall

pub data ImagesInTurn : Image → List ℕ → Image → Type 0 where
  none_left : {im : Image} → ImagesInTurn im [] im
  and_then : {im next last : Image} {f : ℕ} {fs : List ℕ} → f < size_of im Functions → Under 64 (heights im Expressions) →
      Under 32 (heights im Statements) → lowered im f ≡ some next → ImagesInTurn next fs last → ImagesInTurn im (f ∷ fs) last

-- ---- one lowering

module _ (im next : Image) (f : ℕ) (wf : WellFormed im) (e : lowered im f ≡ some next) where
  keeps : Keeps im next
  keeps = followed_keeps im next f wf (lowered_followed im next f (eight_sections im wf) e)

  there_still : (g : ℕ) → g < size_of im Functions → g < size_of next Functions
  there_still g l = omega (arith, keeps.functions)

-- ---- all of them

-- texts and parameters are kept
pub all_kept : {im last : Image} {fs : List ℕ} → WellFormed im → ImagesInTurn im fs last → Keeps im last
all_kept wf (none_left {im = im}) = keeps_all im
all_kept wf (and_then {im = im} {next = next} {f = f} l low lower e rest) =
    keeps_then (keeps im next f wf e) (all_kept (lowered_well_formed im next f wf l low lower e) rest)

-- THEOREM: a function that is not among them is as it was
pub others_kept : {im last : Image} {fs : List ℕ} → WellFormed im → ImagesInTurn im fs last → (g : ℕ) → g < size_of im Functions → (Among g fs → ⊥) →
    contract_function last g ≡ contract_function im g
others_kept wf none_left g m n = refl
others_kept wf (and_then {im = im} {next = next} {f = f} l low lower e rest) g m n =
    others_kept (lowered_well_formed im next f wf l low lower e) rest g (there_still im next f wf e g m) (λ x. n (inr x))
    ∙ others_same im next f wf e g m (λ q. n (inl q))

-- those that are lowered are functions of the first image
pub among_there : {im last : Image} {fs : List ℕ} → WellFormed im → ImagesInTurn im fs last → (f : ℕ) → Among f fs → f < size_of im Functions
among_there wf none_left f x = absurd x
among_there wf (and_then l low lower e rest) f (inl q) = omega (arith, l, q)
among_there wf (and_then {im = im} {next = next} {f = g} l low lower e rest) f (inr x) =
    omega (arith, among_there (lowered_well_formed im next g wf l low lower e) rest f x, (keeps im next g wf e).functions)

abbrev Last : Function Text → Type 0
Last g = Ensured g.ensures g.body

-- each is lowered to what it is in the last image
each_lowered_to : {im last : Image} {fs : List ℕ} → WellFormed im → ImagesInTurn im fs last → NoneTwice fs → (f : ℕ) → Among f fs →
    Last (contract_function im f) → LoweredTo (contract_function im f) (contract_function last f)
each_lowered_to wf none_left d f x h = absurd x
each_lowered_to wf (and_then {im = im} {next = next} {last = last} {f = g} l low lower e rest) d f (inl q) h =
    let kept : contract_function last g ≡ contract_function next g =
    others_kept (lowered_well_formed im next g wf l low lower e) rest g (there_still im next g wf e g l) d.0 in
    let own : LoweredTo (contract_function im g) (contract_function next g) = lowered_trees im next g wf l e (rw q at h) in
    rw (q, kept) own
each_lowered_to wf (and_then {im = im} {next = next} {last = last} {f = g} {fs = fs} l low lower e rest) d f (inr x) h =
    let wf' : WellFormed next = lowered_well_formed im next g wf l low lower e in
    let m : f < size_of im Functions = omega (arith, among_there wf' rest f x, (keeps im next g wf e).functions) in
    let same : contract_function next f ≡ contract_function im f = others_same im next g wf e f m (λ q. d.0 (subst (λ z. Among z fs) q x)) in
    subst (λ o. LoweredTo o (contract_function last f)) same (each_lowered_to wf' rest d.1 f x (subst Last (sym same) h))

-- THEOREM: each runs in the last image as it is read in the first, under its premises there
pub each_reads : {im last : Image} {fs : List ℕ} → WellFormed im → ImagesInTurn im fs last → NoneTwice fs → (f : ℕ) → Among f fs →
    Premises (contract_function im f) → (vs : List (Value Text)) (budget : ℕ) →
    run_function (λ t. t) (contract_function last f) vs budget ≡ reading (λ t. t) (ascii "ret") (contract_function im f) vs budget
each_reads wf o d f x h vs budget = lowered_to_runs _ _ vs budget h.ensures (each_lowered_to wf o d f x h.last)
