-- Functions lowered one after another, in any order, as a loader does it: each in the bytes that came of the one before. The run of each
-- of them in the last bytes is its contract reading in the first, and every function that was not lowered runs as it did. The premises
-- are said of the records of the first image, and of the functions that are lowered.
-- Assumes nothing.
use Rattle.std.specs.Prelude.{◌≡◌, ℕ, ◌+◌, ◌<◌, true, ◌⊎◌, List, [], ◌∷◌, map, take, slice_index, refl, Ok, Err}
use Rattle.std.proofs.Math.Path.{ap}
use Rattle.std.proofs.Common.{sym, ◌∙◌, subst, inl, inr, arith}
use Rattle.rl_spec.specs.declared.Arguments.{Arguments}
use Rattle.rl_spec.specs.declared.Cause.{Cause}
use Rattle.rl_spec.specs.Answers.{ran, refused, RunAnswer}
use Rattle.rl_spec.specs.declared.Outcome.{Outcome}
use Rattle.rl_spec.specs.declared.Section.TheVariants.{Expressions, Clauses, Functions}
use Rattle.rl_spec.specs.Schema.{sort_of, fields_of, fields_in, schema}
use Rattle.rl_spec.specs.Read.{counts_of}
use Rattle.rl_spec.specs.Image.{Image, record_of, size_of, text_of, encode, image_of, AllBytes, WellFormed}
use Rattle.rl_spec.specs.Tree.{ascii, number}
use Rattle.rl_spec.specs.Records.{function_at}
use Rattle.rl_spec.specs.Run as run
use Rattle.rl_spec.specs.Reading.{run_function}
use Rattle.rl_spec.specs.Mapped.{Text, map_value}
use Rattle.rl_spec.specs.Functions.{contract_function, reading_in}
use Rattle.rl_spec.specs.Lowerer.{lower_of, lower_answer, lower_out}
use Rattle.rl_spec.specs.Runner.{outcome_in, all_have, given, values_of, run_of}
use Rattle.rl_images.specs.Images.SchemaSorts.{kind_range}
use Rattle.rl_images.specs.Images.FunctionFields.{function_fits}
use Rattle.rl_theorems.specs.Reading.EncodedBytes.{encoded_bytes}
use Rattle.rl_theorems.specs.Trees.NamesIn.{tree_names}
use Rattle.rl_theorems.specs.Lowering.LowerFrame.{Free, CleanChecks}
use Rattle.rl_theorems.specs.Lowering.LoweredRuns.{Premises}
use Rattle.rl_theorems.specs.Lowering.LoweredArguments.{keeps_all}
use Rattle.rl_theorems.specs.Lowering.LoweredInTurn as images
use Rattle.rl_theorems.specs.Lowering.LoweredInTurn.{Among, NoneTwice, all_kept, others_kept, among_there, each_reads}
use Rattle.rl_theorems.specs.DemandThree.LowerAnswers.{Made, made_for}
use Rattle.rl_theorems.specs.DemandThree.LoweredBytes.{out_made, function_there, made_well_formed, made_accepted}
use Rattle.rl_theorems.specs.DemandThree.OverRecords.{not_begins, CleanAt, ensures_clean, last_ensured}
use Rattle.rl_theorems.specs.DemandThree.KeptRuns.{Whole, refused_alike, ran_there, runs_alike}
use Rattle.rl_theorems.specs.DemandThree.FirstHalf.{original_whole, made_whole}
use Rattle.rl_theorems.specs.DemandThree.Demand.{Begins, NoBareLast, RunsAsRead, Names, one, one_or_none, entry, StandsIn, itself, deeper}

-- the functions fs are lowered in turn, each with work and output slices of its own, and `last` is what the last lowering left
-- (for images: LoweredInTurn, which also has the two premises on fs. `Among f fs`: f is one of fs; `NoneTwice fs`: none of them is there
-- twice, since a function that is lowered twice checks its contracts twice, for more steps)
pub data BytesInTurn : List ℕ → List ℕ → List ℕ → Type 0 where
  none_left : {s : List ℕ} → BytesInTurn s [] s
  and_then : {s last : List ℕ} {f : ℕ} {fs : List ℕ} (k room n : ℕ) → lower_answer (lower_of s k f room) ≡ Ok n →
      BytesInTurn (take n (lower_out room (lower_of s k f room))) fs last → BytesInTurn s (f ∷ fs) last

-- no name that begins with `__ensure_ret_` is looked up (30) or assigned (39) at any depth of the expression i
abbrev pub NoReservedIn : Image → ℕ → Type 0
NoReservedIn im i =
    (n : ℕ) → StandsIn im n i → ((record_of im Expressions n).kind ≡ 30) ⊎ ((record_of im Expressions n).kind ≡ 39) →
    Begins (ascii "__ensure_ret_") (text_of im (number (record_of im Expressions n) 1)) → ⊥

-- nor in an ensures of the function: in no expression that its clauses name, which are their conditions and messages
abbrev pub NoReservedEnsures : Image → ℕ → Type 0
NoReservedEnsures im f =
    (j i : ℕ) → j < (function_at im f).ensured.count → Names im (record_of im Clauses ((function_at im f).ensured.first + j)) i → NoReservedIn im i

-- where the runner refuses the run in s, it refuses that in t by the same number; otherwise both end alike, after as many steps
abbrev pub RunsAsBefore : List ℕ → List ℕ → ℕ → ℕ → Arguments → ℕ → Type 0
RunsAsBefore s t k f args budget =
    ((q : Cause) (p : ℕ) → run_of s k f args budget ≡ refused q p → run_of t k f args budget ≡ refused q p)
    × ((o : Outcome) (n : ℕ) → run_of s k f args budget ≡ ran o n →
    (o' : Outcome) × (run_of t k f args budget ≡ ran o' n) × (outcome_in (image_of t) o' ≡ outcome_in (image_of s) o))

-- ---- the premises, of trees

module _ (im : Image) (wf : WellFormed im) (f : ℕ) (there : f < size_of im Functions) (h : NoReservedEnsures im f) where
  abbrev at : ℕ → ℕ
  at j = (function_at im f).ensured.first + j

  free : (t : ℕ) → (Begins (ascii "__ensure_ret_") (text_of im t) → ⊥) → Free (text_of im t)
  free t q = not_begins (ascii "__ensure_ret_") (text_of im t) (λ rest e. q (rest, e))

  clean_at : (i : ℕ) → NoReservedIn im i → CleanAt im i
  clean_at i q =
      tree_names im (NoReservedIn im) (λ i c q e n d. q n (deeper (one c e) d)) (λ i c q e l n d. q n (deeper (entry c 0 e refl l) d)) _ _
      (λ i q e. free _ (q i itself (inl e))) (λ i q e. free _ (q i itself (inr e))) i q

  clause_kind : (j : ℕ) → j < (function_at im f).ensured.count → (record_of im Clauses (at j)).kind ≡ 81
  unfolding function_at
  clause_kind j l =
      let x = function_fits im wf f there in
      omega (arith, kind_range Clauses _ (wf.fits Clauses (at j) (omega (arith, x.ensured))).kind)

  clean_ensures : CleanChecks (contract_function im f).ensures
  unfolding fields_of fields_in schema sort_of
  clean_ensures =
      ensures_clean im f (λ j l. let e = clause_kind j l in (
        clean_at _ (h j _ l (one 0 (ap (λ k. sort_of (slice_index (fields_of k) 0)) e))),
        λ z. clean_at _ (h j _ l (one_or_none 1 (ap (λ k. sort_of (slice_index (fields_of k) 1)) e) z)),
      ))

-- ---- from bytes to images

module _ (s : List ℕ) (f : ℕ) (bytes : AllBytes s) (k room n : ℕ) (e : lower_answer (lower_of s k f room) ≡ Ok n) where
  abbrev out : List ℕ
  out = take n (lower_out room (lower_of s k f room))

  came : (im' : Image) × (lower_of s k f room ≡ Ok im') × (out ≡ encode im')
  came = out_made s k f room n e

  by : Made s k f room came.0
  by = made_for s k f room came.0 came.1

  out_image : image_of out ≡ came.0
  out_image = ap image_of came.2 ∙ (made_accepted s k f room came.0 bytes came.1).1

  out_bytes : AllBytes out
  out_bytes = subst AllBytes (sym came.2) (encoded_bytes came.0 (made_well_formed s k f room came.0 bytes came.1))

  out_whole : Whole out
  out_whole = subst Whole (sym came.2) (made_whole s k f room came.0 bytes came.1)

  first_whole : Whole s
  first_whole = original_whole s k f room came.0 bytes came.1

  then_images : {last : Image} {fs : List ℕ} → images.ImagesInTurn (image_of out) fs last → images.ImagesInTurn (image_of s) (f ∷ fs) last
  then_images {last} {fs} rest =
      images.and_then (function_there s k f room came.0 bytes came.1) by.low by.lower by.is
      (subst (λ im. images.ImagesInTurn im fs last) out_image rest)

in_images : {s last : List ℕ} {fs : List ℕ} → AllBytes s → BytesInTurn s fs last → images.ImagesInTurn (image_of s) fs (image_of last)
in_images bytes none_left = images.none_left
in_images bytes (and_then {s = s} {f = f} k room n e rest) = then_images s f bytes k room n e (in_images (out_bytes s f bytes k room n e) rest)

last_whole : {s last : List ℕ} {fs : List ℕ} → AllBytes s → Whole s → BytesInTurn s fs last → Whole last
last_whole bytes w none_left = w
last_whole bytes w (and_then {s = s} {f = f} k room n e rest) =
    last_whole (out_bytes s f bytes k room n e) (out_whole s f bytes k room n e) rest

whole_of : {s last : List ℕ} {fs : List ℕ} (f : ℕ) → AllBytes s → BytesInTurn s fs last → Among f fs → Whole s
whole_of f bytes none_left x = absurd x
whole_of f bytes (and_then {s = s} {f = g} k room n e rest) x = first_whole s g bytes k room n e

-- where something was lowered, the first bytes are those of a well-formed image
either_way : {s last : List ℕ} {fs : List ℕ} (P : List ℕ → Type 0) → AllBytes s → BytesInTurn s fs last → P s → (Whole s → P last) → P last
either_way P bytes none_left p q = p
either_way P bytes (and_then {s = s} {f = f} k room n e rest) p q = q (first_whole s f bytes k room n e)

answer : Outcome × ℕ → RunAnswer → Outcome × ℕ
answer x (Ok h) = (h.outcome, h.steps)
answer x (Err r) = x

same_answer : (o o' : Outcome) (m m' : ℕ) → ran o m ≡ ran o' m' → ◌≡◌ {A = Outcome × ℕ} (o, m) (o', m')
unfolding answer
same_answer o o' m m' e = ap (answer (o, m)) e

-- ---- THEOREMS, for a work slice of k entries for the runs, and values whose texts are those of the first image

module _ (s last : List ℕ) (fs : List ℕ) (bytes : AllBytes s) (in_turn : BytesInTurn s fs last) (f k : ℕ) (args : Arguments) (budget : ℕ)
    (texts : all_have (counts_of s) (given args) ≡ true) where
  abbrev im : Image
  im = image_of s

  abbrev vs : List (run.Value ℕ)
  vs = values_of (given args)

  -- a function that is lowered, where none is twice: its run in the last bytes is its contract reading in the first
  pub in_turn_lowered : NoneTwice fs → Among f fs → NoReservedEnsures im f → NoBareLast im f → RunsAsRead s last k f args budget
  unfolding reading_in
  in_turn_lowered once x free last-not =
      let w : Whole s = whole_of f bytes in_turn x in
      let w' : Whole last = last_whole bytes w in_turn in
      let turn = in_images bytes in_turn in
      let to = all_kept w.well_formed turn in
      let h : Premises (contract_function im f) =
      record { ensures = clean_ensures im w.well_formed f (among_there w.well_formed turn f x) free; last = last_ensured im f last-not } in (
        refused_alike s last w w' to k f args budget texts,
        λ o m r. let y = runs_alike s last w w' to k f args budget texts o m r in
            (y.0, y.1, y.2, y.3 ∙ ap (run.used budget) (each_reads w.well_formed turn once f x h (map (map_value (text_of im)) vs) budget)),
      )

  -- the plain run of a function, with texts by their bytes
  abbrev plainly : Image → run.Outcome Text × ℕ
  plainly t = run.used budget (run_function (λ t. t) (contract_function t f) (map (map_value (text_of im)) vs) budget)

  -- any other function runs in the last bytes as in the first
  pub in_turn_others : (Among f fs → ⊥) → RunsAsBefore s last k f args budget
  in_turn_others apart =
      either_way (λ t. RunsAsBefore s t k f args budget) bytes in_turn (λ q p e. e, λ o m e. (o, e, refl))
      (λ w.
      let w' : Whole last = last_whole bytes w in_turn in
      let turn = in_images bytes in_turn in
      let to = all_kept w.well_formed turn in (
        refused_alike s last w w' to k f args budget texts,
        λ o m r.
            let x = runs_alike s s w w (keeps_all im) k f args budget texts o m r in
            let y = runs_alike s last w w' to k f args budget texts o m r in
            let there : f < size_of im Functions = ran_there s last w w' to k f args budget texts o m r in
            let own : ◌≡◌ {A = Outcome × ℕ} (o, m) (x.0, x.1) = same_answer o x.0 m x.1 (sym r ∙ x.2) in
            let first : plainly im ≡ (outcome_in im o, m) = sym x.3 ∙ ap (λ z. (outcome_in im z.0, z.1)) (sym own) in
            let both : plainly (image_of last) ≡ plainly im =
            ap (λ g. run.used budget (run_function (λ t. t) g (map (map_value (text_of im)) vs) budget)) (others_kept w.well_formed turn f there apart) in
            let ends : ◌≡◌ {A = run.Outcome Text × ℕ} (outcome_in (image_of last) y.0, y.1) (outcome_in im o, m) = y.3 ∙ both ∙ first in
            (y.0, y.2 ∙ ap (ran y.0) (ap (λ z. z.1) ends), ap (λ z. z.0) ends),
      ))
