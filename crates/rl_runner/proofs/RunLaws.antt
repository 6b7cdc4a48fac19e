-- One law for each way out of `run`. Assumes nothing.
use Prim.Native.Nat.{ℕ, ◌<◌, ◌≤◌}
use mathlib.Core.Path.{◌≡◌, refl, ap, ◌∙◌, sym, subst}
use mathlib.Core.Bool.{Bool, true, false, ◌&&◌, not, cond}
use mathlib.Core.List.{List}
use native.Mathlib.Omega.{arith}
use lib.Dec.{ltb, eqb}
use lib.ListN.{get_or, replicate}
use mir.Syntax.{w8}
use mir.Val.{Fits}
use borrow.Author.Tests.{ltb-true, ltb-false, eqb-true}
use Rattle.std.specs.Prelude.{Result, Ok, Err}
use Rattle.rl_spec.specs.Answers.{Answer, accepted, refused, RunAnswer}
use Rattle.rl_spec.specs.declared.ArenaNo.{ArenaNo}
use Rattle.rl_spec.specs.declared.Arguments.{Arguments}
use Rattle.rl_spec.specs.declared.Cause.{Cause}
use Rattle.rl_spec.specs.declared.Cause.TheVariants.{NoSuchFunction, WrongValues, NoSuchText, BudgetOverLimit}
use Rattle.rl_spec.specs.declared.Counts.{Counts}
use Rattle.rl_spec.specs.declared.Section.TheVariants.{Texts}
use Rattle.rl_spec.specs.Read.{answer_of, work_of, starts_of}
use Rattle.rl_spec.specs.Image.{Image, image_of}
use Rattle.rl_spec.specs.Fold.{work_unless}
use Rattle.rl_spec.specs.Found.{image_found}
use Rattle.rl_spec.specs.Records.{function_at}
use Rattle.rl_spec.specs.Runner.{is_for, all_have, given, ran_in, run_of, run_number}
use Rattle.rl_images.specs.Encoding.Accepted.{accepted_well_formed}
use Rattle.rl_images.specs.Reading.Found.{found_is_image}
use Rattle.rl_images.specs.Images.Heights.{found_low}
use Rattle.rl_images.specs.Images.Limits.{texts_within, all_bytes}
use Rattle.rl_images.specs.Reading.Refusals.{zeros_unless, refused_work}
use Rattle.rl_images.specs.Reading.Starts.{sizes_are_counts}
use Rattle.rl_machine.specs.Machine.{Low}
use Rattle.rl_admission.specs.Running.{run_admission, run_or}

-- ---- what an admission says

abbrev Checked : Type 0
Checked = Result Unit Cause

abbrev IsRefused : Checked → Type 0
IsRefused (Ok x) = ⊥
IsRefused (Err q) = Unit {0}

abbrev check : Bool → Bool → Bool → Bool → Checked
check b c d e = cond b (Err NoSuchFunction) (cond c (Err WrongValues) (cond d (Err NoSuchText) (cond e (Err BudgetOverLimit) (Ok tt))))

as_checked : (b c d e : Bool) (r : RunAnswer) →
    run_or (check b c d e) r
    ≡ cond b (refused NoSuchFunction 0) (cond c (refused WrongValues 0) (cond d (refused NoSuchText 0) (cond e (refused BudgetOverLimit 0) r)))
as_checked true c d e r = refl
as_checked false true d e r = refl
as_checked false false true e r = refl
as_checked false false false true r = refl
as_checked false false false false r = refl

first_held : (b c d e : Bool) → check b c d e ≡ Ok tt → b ≡ false
first_held true c d e h = absurd (subst IsRefused h tt)
first_held false c d e h = refl

second_held : (b c d e : Bool) → check b c d e ≡ Ok tt → c ≡ false
second_held true c d e h = absurd (subst IsRefused h tt)
second_held false true d e h = absurd (subst IsRefused h tt)
second_held false false d e h = refl

not_not : (b : Bool) → not b ≡ false → b ≡ true
not_not true h = refl
not_not false h = sym h

abbrev IsFalse : Bool → Type 0
IsFalse true = ⊥
IsFalse false = Unit {0}

both : (b c : Bool) → (b && c) ≡ true → (b ≡ true) × (c ≡ true)
both true c h = (refl, h)
both false c h = absurd (subst IsFalse h tt)

module _ (im : Image) (c : Counts) (f : ℕ) (args : Arguments) (budget : ℕ) (h : run_admission im c f args budget ≡ Ok tt) where
  abbrev none : Bool
  none = not (ltb f c.functions)

  abbrev few : Bool
  few = not (is_for args.count (function_at im f).params.count)

  abbrev bare : Bool
  bare = not (all_have c (given args))

  abbrev over : Bool
  over = ltb 1000000 budget

  pub admitted_function : f < c.functions
  unfolding run_admission
  admitted_function = ltb-true f c.functions (not_not _ (first_held none few bare over h))

  fitting : is_for args.count (function_at im f).params.count ≡ true
  unfolding run_admission
  fitting = not_not _ (second_held none few bare over h)

  admitted_same : args.count ≡ (function_at im f).params.count
  admitted_same = eqb-true args.count (function_at im f).params.count (both (eqb args.count (function_at im f).params.count) (not (ltb 16 args.count)) fitting).0

  admitted_few : args.count ≤ 16
  admitted_few = ltb-false 16 args.count (not_true (ltb 16 args.count) (both (eqb args.count (function_at im f).params.count) (not (ltb 16 args.count)) fitting).1)
    where
      not_true : (b : Bool) → not b ≡ true → b ≡ false
      not_true true e = sym e
      not_true false e = refl

module _ (s : List ℕ) (k f : ℕ) (args : Arguments) (budget : ℕ) (a : Answer) (e : a ≡ answer_of s k) where
  abbrev Is : RunAnswer → Type 0
  Is r = r ≡ run_of s k f args budget

  abbrev Work : List ℕ → Type 0
  Work w = w ≡ work_unless (run_number (run_of s k f args budget)) s k

  work_of_lem : (r : RunAnswer) (w : List ℕ) → Is r → w ≡ work_unless (run_number r) s k → Work w
  work_of_lem r w h g = g ∙ ap (λ x. work_unless (run_number x) s k) h

  module _ (q : Cause) (n : ℕ) (h : a ≡ refused q n) where
    pub run_unread : Is (refused q n)
    unfolding run_of
    run_unread = rw (← e, h) refl

    pub run_unread_work : (w : List ℕ) → w ≡ work_of s k → Work w
    run_unread_work w g = work_of_lem (refused q n) w run_unread (g ∙ refused_work s k q n (sym e ∙ h) ∙ zeros_unless q s k)

  module _ (no : ArenaNo) (c : Counts) (h : a ≡ accepted no c) (p : List ℕ) (z : p ≡ starts_of s k) (x : Checked)
      (g : (q : List ℕ) → x ≡ run_admission (image_found s q c) c f args budget) where
    same_image : image_found s p c ≡ image_of s
    same_image = ap (λ (y : List ℕ). image_found s y c) z ∙ found_is_image s k no c (sym e ∙ h)

    own : x ≡ run_admission (image_of s) c f args budget
    own = g p ∙ ap (λ (im : Image). run_admission im c f args budget) same_image

    by_admission : run_of s k f args budget ≡ run_or x (ran_in (image_of s) f (given args) budget)
    unfolding run_of run_admission
    by_admission =
        rw (← e, h)
        (sym (as_checked (not (ltb f c.functions)) (not (is_for args.count (function_at (image_of s) f).params.count)) (not (all_have c (given args))) (ltb 1000000 budget) (ran_in (image_of s) f (given args) budget)))
        ∙ ap (λ y. run_or y (ran_in (image_of s) f (given args) budget)) (sym own)

    pub run_refused : (q : Cause) → x ≡ Err q → Is (refused q 0)
    run_refused q d = sym (by_admission ∙ ap (λ y. run_or y (ran_in (image_of s) f (given args) budget)) d)

    pub run_refused_work : (q : Cause) → x ≡ Err q → (m : ℕ) (w : List ℕ) → m ≡ k → w ≡ replicate m 0 → Work w
    run_refused_work q d m w n y = work_of_lem (refused q 0) w (run_refused q d) (y ∙ ap (λ (i : ℕ). replicate i 0) n ∙ zeros_unless q s k)

    module _ (d : x ≡ Ok tt) where
      pub run_admitted : (r : RunAnswer) → r ≡ ran_in (image_found s p c) f (given args) budget → Is r
      run_admitted r y =
          y ∙ ap (λ (im : Image). ran_in im f (given args) budget) same_image
          ∙ sym (by_admission ∙ ap (λ z. run_or z (ran_in (image_of s) f (given args) budget)) d)

      pub run_admitted_work : (r : RunAnswer) → r ≡ ran_in (image_found s p c) f (given args) budget → (w : List ℕ) → w ≡ work_of s k → Work w
      unfolding ran_in
      run_admitted_work r y w v = work_of_lem r w (run_admitted r y) (v ∙ ap (λ z. work_unless (run_number z) s k) (sym y))

      pub run_count : args.count ≤ 16
      run_count = admitted_few (image_found s p c) c f args budget (sym (g p) ∙ d)

      pub run_same : args.count ≡ (function_at (image_found s p c) f).params.count
      run_same = admitted_same (image_found s p c) c f args budget (sym (g p) ∙ d)

    module _ (bytes : (i : ℕ) → Fits w8 (get_or s i 0)) where
      pub run_low : Low (image_found s p c)
      run_low i =
          subst (λ (y : List ℕ). Low (image_found s y c)) (sym z)
          (found_low s k no c (all_bytes s (λ j. omega (arith, (bytes j).fits))) (sym e ∙ h)) i

      pub run_texts : c.texts ≤ 2048
      run_texts =
          subst (λ (n : ℕ). n ≤ 2048) (sizes_are_counts s k no c (sym e ∙ h) Texts)
          (texts_within (image_of s) (accepted_well_formed s k no c (all_bytes s (λ j. omega (arith, (bytes j).fits))) (sym e ∙ h)))
