-- What lowering answers and leaves, at each way out.
-- Assumes nothing.
use Prim.Native.Nat.{ℕ, ◌+◌, ◌-◌, ◌<◌, ◌≤◌}
use mathlib.Core.Path.{◌≡◌, refl, ap, sym, subst, ◌∙◌}
use mathlib.Core.Bool.{Bool, true, false, not, cond, ◌||◌}
use mathlib.Core.List.{List, [], ◌++◌, append_assoc}
use mathlib.Core.Option.{Option, none, some}
use native.Mathlib.Omega.{arith}
use lib.Dec.{ltb}
use lib.ListN.{length, get_or, take, drop, replicate, length-replicate}
use lib.Seq.{take_at, drop_at}
use mir.Syntax.{w8}
use mir.Val.{Fits}
use borrow.Author.Tests.{ltb-true, ltb-false}
use Rattle.rl_spec.specs.Answers.{Answer, accepted, refused, LowerAnswer}
use Rattle.std.specs.Prelude.{None, Some, Result, Ok, Err}
use Rattle.rl_spec.specs.declared.Refusal.{Refusal}
use Rattle.rl_spec.specs.declared.ArenaNo.{ArenaNo}
use Rattle.rl_spec.specs.declared.Cause.{Cause}
use Rattle.rl_spec.specs.declared.Cause.TheVariants.{NoSuchFunction, HeightOverLimit, OutputTooShort, LimitPassed}
use Rattle.rl_spec.specs.declared.Counts.{Counts}
use Rattle.rl_spec.specs.declared.Section.{Section}
use Rattle.rl_spec.specs.declared.Section.TheVariants.{Expressions, Statements}
use Rattle.rl_spec.specs.Schema.{count_of}
use Rattle.rl_spec.specs.Read.{answer_of, work_of, starts_of}
use Rattle.rl_spec.specs.Image.{Image, records_of, encode, image_of, heights, AllBytes}
use Rattle.rl_spec.specs.Fold.{work_unless}
use Rattle.rl_spec.specs.Found.{image_found}
use Rattle.rl_spec.specs.Lower.{lowered}
use Rattle.rl_spec.specs.Lowerer.{Lowering, any_over, too_tall, or_limit, lower_by, lower_of, lower_answer, lower_number, lower_out}
use Rattle.rl_images.specs.Encoding.Accepted.{accepted_work}
use Rattle.rl_images.specs.Reading.Filled.{drop_replicate}
use Rattle.rl_images.specs.Reading.Found.{found_is_image}
use Rattle.rl_images.specs.Images.Limits.{all_bytes}
use Rattle.rl_images.specs.Encoding.SectionLoop.{length_heights}
use Rattle.rl_images.specs.Reading.Refusals.{zeros_unless, refused_work}
use Rattle.rl_images.specs.Reading.Starts.{sizes_are_counts}
use Rattle.rl_assemble.specs.Pieces.{Source}
use Rattle.rl_assemble.proofs.Accepted.{accepted_source}
use Rattle.rl_assemble.proofs.Laws.{IsPast, length_in}
use Rattle.rl_admission.specs.Lowering.{tall_in, lowering_admission, lowering_or}
use Rattle.rl_assemble.specs.Written.{Assembled, Written}
use Rattle.rl_resolver.specs.Lowered.{lowering_in, put_over, Lowered}

-- ---- what an admission says

abbrev Admission : Type 0
Admission = Result Unit Cause

abbrev IsRefused : Admission → Type 0
IsRefused (Ok x) = ⊥
IsRefused (Err q) = Unit {0}

abbrev Checked : Bool → Bool → Bool → Admission
Checked b c d = cond b (Err NoSuchFunction) (cond c (Err HeightOverLimit) (cond d (Err OutputTooShort) (Ok tt)))

as_checked : (b c d : Bool) (r : Lowering) →
    lowering_or (Checked b c d) r
    ≡ cond b (refused NoSuchFunction 0) (cond c (refused HeightOverLimit 0) (cond d (refused OutputTooShort 0) r))
as_checked true c d r = refl
as_checked false true d r = refl
as_checked false false true r = refl
as_checked false false false r = refl

all_held : (b c d : Bool) → Checked (not b) c d ≡ Ok tt → (b ≡ true) × (d ≡ false)
all_held false c d h = absurd (subst IsRefused h tt)
all_held true true d h = absurd (subst IsRefused h tt)
all_held true false true h = absurd (subst IsRefused h tt)
all_held true false false h = (refl, refl)

-- ---- the checks and the lowered image

module _ (work : List ℕ) (c : Counts) (f : ℕ) (out : List ℕ) (im : Image) (x : Admission) (g : x ≡ lowering_admission work c f (length out)) where
  abbrev Answers : LowerAnswer → List ℕ → Type 0
  Answers r o = Lowered (lowering_in work c f (length out) im) out r o

  by_check : (y : Admission) → x ≡ y → (r : LowerAnswer) (o : List ℕ) → Lowered (lowering_or y (or_limit (lowered im f))) out r o → Answers r o
  by_check y d r o l = subst (λ z. Lowered (lowering_or z (or_limit (lowered im f))) out r o) (sym d ∙ g) l

  pub check_refused : (q : Cause) → x ≡ Err q → Answers (refused q 0) out
  check_refused q d = by_check (Err q) d (refused q 0) out (record { answer = refl; bytes = refl })

  module _ (d : x ≡ Ok tt) where
    held : (ltb f c.functions ≡ true) × (ltb (length out) 65535 ≡ false)
    unfolding lowering_admission
    held = all_held (ltb f c.functions) (tall_in work c) (ltb (length out) 65535) (sym g ∙ d)

    pub function_there : f < c.functions
    function_there = ltb-true f c.functions held.0

    pub room_there : 65535 ≤ length out
    room_there = ltb-false (length out) 65535 held.1

    module _ (r : Assembled) (o : List ℕ) (written : Written (lowered im f) out r o) where
      none_put : (y : Option Image) → Written y out r o → r ≡ None → Lowered (or_limit y) out (refused LimitPassed 0) o
      none_put none t b = record { answer = refl; bytes = t.bytes }
      none_put (some i) t b = absurd (subst IsPast (sym b ∙ t.number) tt)

      one_put : (y : Option Image) → Written y out r o → (n : ℕ) → r ≡ Some n → Lowered (or_limit y) out (Ok n) o
      one_put none t n b = absurd (subst IsPast (sym t.number ∙ b) tt)
      one_put (some i) t n b = record { answer = ap Ok (ap length_in (sym b ∙ t.number)); bytes = t.bytes }

      pub limit_passed : r ≡ None → Answers (refused LimitPassed 0) o
      limit_passed b = by_check (Ok tt) d (refused LimitPassed 0) o (none_put (lowered im f) written b)

      pub image_put : (n : ℕ) → r ≡ Some n → Answers (Ok n) o
      image_put n b = by_check (Ok tt) d (Ok n) o (one_put (lowered im f) written n b)

-- ---- the answer, the output and the work slice

abbrev IsErr : LowerAnswer → Type 0
IsErr (Ok n) = ⊥
IsErr (Err q) = Unit {0}

abbrev IsOk : LowerAnswer → Type 0
IsOk (Ok n) = Unit {0}
IsOk (Err q) = ⊥

module _ (s : List ℕ) (k f room : ℕ) (out : List ℕ) (cleared : out ≡ replicate room 0) (a : Answer) (e : a ≡ answer_of s k) where
  abbrev lowering : Lowering
  lowering = lower_of s k f room

  abbrev Ends : LowerAnswer → List ℕ → List ℕ → Type 0
  Ends r o w =
      (r ≡ lower_answer lowering) × ((o ≡ lower_out room lowering) × (w ≡ work_unless (lower_number lowering) s k))

  ends : (x : Lowering) → lowering ≡ x → (r : LowerAnswer) (o w : List ℕ) → r ≡ lower_answer x → o ≡ lower_out room x → w ≡ work_unless (lower_number x) s k →
      Ends r o w
  ends x d r o w n p q =
      (n ∙ ap lower_answer (sym d), (p ∙ ap (lower_out room) (sym d), q ∙ ap (λ y. work_unless (lower_number y) s k) (sym d)))

  cleared_work : (m : ℕ) (w : List ℕ) → m ≡ k → w ≡ replicate m 0 → w ≡ replicate k 0
  cleared_work m w n v = v ∙ ap (λ (i : ℕ). replicate i 0) n

  -- ---- reading refuses

  pub unread : (q : Refusal) → a ≡ Err q → (w : List ℕ) → w ≡ work_of s k → Ends (Err q) out w
  unfolding lower_of
  unread q h w v =
      ends (Err q) (ap (lower_by s f room) (sym e ∙ h)) (Err q) out w refl cleared (v ∙ refused_work s k q.cause q.place (sym e ∙ h) ∙ zeros_unless q.cause s k)

  -- ---- reading accepts

  module _ (no : ArenaNo) (c : Counts) (h : a ≡ accepted no c) (bytes : (i : ℕ) → Fits w8 (get_or s i 0)) where
    accepted_lem : answer_of s k ≡ accepted no c
    accepted_lem = sym e ∙ h

    own : AllBytes s
    own = all_bytes s (λ j. omega (arith, (bytes j).fits))

    abbrev rest : List ℕ
    rest = replicate (k - (c.expressions + c.statements)) 0

    size_is : (o : Section) → length (heights (image_of s) o) ≡ count_of c o
    unfolding heights
    size_is o = length_heights (image_of s) o (records_of (image_of s) o) [] ∙ omega (arith, sizes_are_counts s k no c accepted_lem o)

    module _ (work : List ℕ) (left : work ≡ work_of s k) where
      work_is : work ≡ heights (image_of s) Expressions ++ (heights (image_of s) Statements ++ rest)
      work_is =
          left ∙ accepted_work s k no c own accepted_lem ∙ append_assoc (heights (image_of s) Expressions) (heights (image_of s) Statements) rest

      expressions_are : take c.expressions (drop 0 work) ≡ heights (image_of s) Expressions
      expressions_are =
          ap (λ (l : List ℕ). take c.expressions (drop 0 l)) work_is
          ∙ take_at (heights (image_of s) Expressions) (heights (image_of s) Statements ++ rest) c.expressions (size_is Expressions)

      statements_are : take c.statements (drop c.expressions work) ≡ heights (image_of s) Statements
      statements_are =
          ap (λ (l : List ℕ). take c.statements (drop c.expressions l)) work_is
          ∙ ap (take c.statements)
          (drop_at (heights (image_of s) Expressions) (heights (image_of s) Statements ++ rest) c.expressions (size_is Expressions))
          ∙ take_at (heights (image_of s) Statements) rest c.statements (size_is Statements)

      tall_is : tall_in work c ≡ too_tall (image_of s)
      unfolding tall_in too_tall
      tall_is = (λ i. any_over 64 (expressions_are i) || any_over 32 (statements_are i))

      room_is : length out ≡ room
      room_is = ap length cleared ∙ length-replicate {A = ℕ} room 0

      by_checks : lowering ≡ lowering_in work c f (length out) (image_of s)
      unfolding lower_of lowering_admission
      by_checks =
          ap (lower_by s f room) accepted_lem
          ∙ sym (as_checked (not (ltb f c.functions)) (too_tall (image_of s)) (ltb room 65535) (or_limit (lowered (image_of s) f)))
          ∙ sym (λ i. lowering_or (Checked (not (ltb f c.functions)) (tall_is i) (ltb (room_is i) 65535)) (or_limit (lowered (image_of s) f)))

      module _ (p : List ℕ) (z : p ≡ starts_of s k) where
        pub source_there : Source (image_found s p c) s p c
        source_there = subst (λ (y : List ℕ). Source (image_found s y c) s y c) (sym z) (accepted_source s k no c own accepted_lem)

        same_image : image_found s p c ≡ image_of s
        same_image = ap (λ (y : List ℕ). image_found s y c) z ∙ found_is_image s k no c accepted_lem

        abbrev found_lowering : Lowering
        found_lowering = lowering_in work c f (length out) (image_found s p c)

        lowering_is : lowering ≡ found_lowering
        lowering_is = by_checks ∙ ap (lowering_in work c f (length out)) (sym same_image)

        -- what is put over zeros
        put_is : (x : Lowering) → put_over x out ≡ lower_out room x
        put_is (Ok im) =
            ap (λ (l : List ℕ). encode im ++ drop (length (encode im)) l) cleared
            ∙ ap (λ (l : List ℕ). encode im ++ l) (drop_replicate (length (encode im)) room 0)
        put_is (Err q) = cleared

        refused_by : (x : Lowering) → lowering ≡ x → (q : Refusal) (o w : List ℕ) → Lowered x out (Err q) o → w ≡ replicate k 0 → Ends (Err q) o w
        refused_by (Ok im) d q o w l v = absurd (subst IsErr l.answer tt)
        refused_by (Err u) d q o w l v = ends (Err u) d (Err q) o w l.answer (l.bytes ∙ put_is (Err u)) (v ∙ zeros_unless u.cause s k)

        made_by : (x : Lowering) → lowering ≡ x → (n : ℕ) (o w : List ℕ) → Lowered x out (Ok n) o → w ≡ work_of s k → Ends (Ok n) o w
        made_by (Ok im) d n o w l v = ends (Ok im) d (Ok n) o w l.answer (l.bytes ∙ put_is (Ok im)) v
        made_by (Err u) d n o w l v = absurd (subst IsOk l.answer tt)

        module _ (r : LowerAnswer) (o : List ℕ) (l : Lowered found_lowering out r o) where
          pub lowering_refused : (q : Refusal) → r ≡ Err q → (m : ℕ) (w : List ℕ) → m ≡ k → w ≡ replicate m 0 → Ends (Err q) o w
          lowering_refused q b m w n v =
              refused_by found_lowering lowering_is q o w (subst (λ y. Lowered found_lowering out y o) b l) (cleared_work m w n v)

          pub lowering_made : (n : ℕ) → r ≡ Ok n → (w : List ℕ) → w ≡ work_of s k → Ends (Ok n) o w
          lowering_made n b w v = made_by found_lowering lowering_is n o w (subst (λ y. Lowered found_lowering out y o) b l) v
