-- What a function of a well-formed image says is there: its span, parameters, clauses and body.
-- Assumes nothing.
use Rattle.std.specs.Prelude.{ℕ, zero, suc, ◌+◌, ◌<◌, ◌≤◌, List, [], ◌∷◌, map, slice_index}
use Rattle.std.proofs.Math.Path.{refl}
use Rattle.std.proofs.Math.Option.{Option, none, some}
use Rattle.std.proofs.Common.{arith}
use Rattle.rl_spec.specs.declared.Section.TheVariants.{Texts, Expressions, Statements, Parameters, Clauses, Functions}
use Rattle.rl_spec.specs.declared.Target.TheVariants.{Statement}
use Rattle.rl_spec.specs.Image.{Rec, Image, size_of, record_of, field_of, entry_of, text_of, Refers, Entries, heights}
use Rattle.rl_spec.specs.Tree.{number}
use Rattle.rl_spec.specs.Records.{param_at, clause_at, function_at}
use Rattle.rl_spec.specs.Ranges.{up_from}
use Rattle.rl_spec.specs.FnContracts.{RefineOperand, integer, str, bool, param, ParamRefinement, param_of}
use Rattle.rl_spec.specs.Lower.{start, params_in, requires_in, ensures_in, body_in}
use Rattle.rl_images.specs.Lowering.GrowsTo.{Every, no_more, more}
use Rattle.rl_images.specs.Images.FunctionFields.{ClauseFits, clause_says, ParameterFits, parameter_says, FunctionFits, function_says}
use Rattle.rl_laws.specs.Optionals.{if_some, optional_says}
use Rattle.rl_theorems.specs.Images.ProperTexts.{Proper, text_proper, OperandReady}
use Rattle.rl_theorems.specs.Images.SoundImages.{Sound}
use Rattle.rl_theorems.specs.Images.NewReferences.{no_refs, ref}
use Rattle.rl_theorems.specs.Images.KeepsSound.{Ready, Node, Lines}
use Rattle.rl_theorems.specs.Images.SoundGuards.{ClauseReady}
use Rattle.rl_theorems.specs.Images.Refinements.{OperandSays, RefinementSays, refinement_says}
use Rattle.rl_theorems.specs.Images.SoundBodies.{RefinementReady, ParamsReady}

-- all heights of a section are at most h
abbrev pub Under : ℕ → List ℕ → Type 0
Under h [] = Unit {0}
Under h (x ∷ xs) = (x ≤ h) × Under h xs

under_at : (h : ℕ) (xs : List ℕ) → Under h xs → (i : ℕ) → slice_index xs i ≤ h
under_at h [] u i = omega arith
under_at h (x ∷ xs) u zero = u.0
under_at h (x ∷ xs) u (suc i) = under_at h xs u.1 i

-- ---- a parameter

module _ {im : Image} (s : Sound im) where
  named : (t : ℕ) → t < size_of im Texts → Proper (text_of im t)
  named t p = text_proper im s.bytes t (s.fits Texts t p)

  operand_ready : (x : RefineOperand ℕ) → OperandSays im x → OperandReady im x
  operand_ready (integer x) h = h
  operand_ready (str t) h = named t h
  operand_ready (bool b) h = tt
  operand_ready (param t) h = named t h

  refinement_ready : (name : ℕ) (o : Option (ParamRefinement ℕ)) → Proper (text_of im name) → RefinementSays im o → RefinementReady im name o
  refinement_ready name none p h = tt
  refinement_ready name (some r) p h = (p, operand_ready r.operand h)

  param_ready : (i : ℕ) → i < size_of im Parameters → RefinementReady im (param_of im i).name (param_of im i).refinement
  unfolding param_of param_at
  param_ready i p =
      let x : ParameterFits im (record_of im Parameters i) = parameter_says (record_of im Parameters i) (s.fits Parameters i p) in
      refinement_ready (param_of im i).name (param_of im i).refinement (named (param_of im i).name x.name) (refinement_says im i x)

  params_from_lem : (k n : ℕ) → k + n ≤ size_of im Parameters → ParamsReady im (map (param_of im) (up_from k n))
  unfolding up_from
  params_from_lem k zero p = tt
  params_from_lem k (suc n) p = (param_ready k (omega arith), params_from_lem (k + 1) n (omega arith))

-- ---- a function, at the start of its lowering

module _ {im : Image} (s : Sound im) (f : ℕ) (low : Under 64 (heights im Expressions)) (lower : Under 32 (heights im Statements)) where
  node_ready : (n : ℕ) → n < size_of im Expressions → Node 64 n (start im f)
  node_ready n p = record { refers = record { earlier = p; taken = refl }; low = under_at 64 (heights im Expressions) low n }

  clause_ready : (i : ℕ) → i < size_of im Clauses → ClauseReady (clause_at im i) (start im f)
  unfolding clause_at
  clause_ready i p =
      let r : Rec = record_of im Clauses i in
      let x : ClauseFits im r = clause_says r (s.fits Clauses i p) in
      record {
        condition = node_ready (number r 0) x.0;
        message = if_some node_ready (optional_says (field_of r 1) x.1);
      }

  clauses_from_lem : (k n : ℕ) → k + n ≤ size_of im Clauses → Every ClauseReady (start im f) (map (clause_at im) (up_from k n))
  unfolding up_from
  clauses_from_lem k zero p = no_more
  clauses_from_lem k (suc n) p = more (clause_ready k (omega arith)) (clauses_from_lem (k + 1) n (omega arith))

  -- what a body's list names
  lines_ready : (n a : ℕ) → Entries im Functions f n a Statement Statement → Lines 32 (map (entry_of im) (up_from a n)) (start im f)
  unfolding up_from
  lines_ready zero a h = no_refs
  lines_ready (suc n) a h =
      let there : Refers im Statements (size_of im Statements) Statement (entry_of im a) = record { earlier = h.0.earlier; taken = h.0.taken } in
      ref (record { refers = there; low = under_at 32 (heights im Statements) lower (entry_of im a) }) (lines_ready n (a + 1) h.1)

  module _ (p : f < size_of im Functions) where
    here : FunctionFits im f (record_of im Functions f)
    here = function_says (record_of im Functions f) (s.fits Functions f p)

    pub start_ready : Ready (start im f)
    unfolding function_at
    start_ready = record { sound = s; span = here.span; limited = refl }

    pub params_ready : ParamsReady im (params_in im f)
    unfolding function_at
    params_ready = params_from_lem s _ _ here.params

    pub requires_ready : Every ClauseReady (start im f) (requires_in im f)
    unfolding function_at
    requires_ready = clauses_from_lem _ _ here.required

    pub ensures_ready : Every ClauseReady (start im f) (ensures_in im f)
    unfolding function_at
    ensures_ready = clauses_from_lem _ _ here.ensured

    pub body_ready : Lines 32 (body_in im f) (start im f)
    unfolding function_at
    body_ready = lines_ready _ _ here.entries
