-- One law for each way out of `prove` and `prove_all`.
-- Assumes nothing.
use Prim.Native.Nat.{ℕ, ◌+◌, ◌-◌, ◌≤◌, ◌<◌, min}
use mathlib.Core.Path.{◌≡◌, refl, sym, ap, subst, ◌∙◌}
use mathlib.Core.List.{List, [], append-nil}
use native.Mathlib.Omega.{arith}
use lib.ListN.{length, get_or, replicate, length-replicate}
use mir.Syntax.{w8}
use mir.Val.{Fits}
use borrow.Author.Tests.{lt-ltb, le-ltb}
use Rattle.rl_laws.specs.Tests.{by_ltb}
use Rattle.rl_spec.specs.Answers.{Answer, accepted, refused, at_zero, ProveAnswer}
use Rattle.std.specs.Prelude.{Err}
use Rattle.rl_spec.specs.declared.ArenaNo.{ArenaNo}
use Rattle.rl_spec.specs.declared.Cause.TheVariants.{NoSuchCall, ReportsTooShort}
use Rattle.rl_spec.specs.declared.Counts.{Counts}
use Rattle.rl_spec.specs.declared.Refusal.{Refusal}
use Rattle.rl_spec.specs.declared.Section.TheVariants.{Texts, Calls}
use Rattle.rl_spec.specs.Schema.{limits}
use Rattle.rl_spec.specs.Read.{counts_of, answer_of, work_of, starts_of}
use Rattle.rl_spec.specs.Image.{Image, image_of, WellFormed}
use Rattle.rl_spec.specs.Fold.{work_unless}
use Rattle.rl_spec.specs.Found.{image_found}
use Rattle.rl_spec.specs.Prove.{call_entries, all_entries, fitting, slice_by, prove_of, reports_of, prove_all_of, all_reports_of, prove_number}
use Rattle.rl_prover.specs.Reports.{Shown, kept_at}
use Rattle.rl_prover.proofs.ShownLaws.{none_shown, all_shown}
use Rattle.rl_images.specs.Encoding.Accepted.{accepted_well_formed}
use Rattle.rl_images.specs.Reading.Found.{found_is_image}
use Rattle.rl_images.specs.Images.Limits.{size_within, texts_within, parameters_within, all_bytes}
use Rattle.rl_images.specs.Reading.Starts.{section_size, sizes_are_counts}
use Rattle.rl_checker.specs.Entries.{Limited, ProvesCalls, fitting_at}
use Rattle.rl_images.specs.Reading.Refusals.{zeros_unless, refused_work}

-- ---- the answer by the place after the entries

module _ (l e : List ℕ) (at room : ℕ) (n : length l ≡ room) (sh : Shown l e at) where
  answer_is : fitting_at (length l) at ≡ fitting room e
  unfolding fitting_at
  answer_is = rw (n, ← sh.place) refl

  slice_is : kept_at (length l) at l ≡ slice_by room e (fitting room e)
  unfolding kept_at
  slice_is =
      let p : length e ≡ at = sh.place in
      by_ltb room (length e)
      (λ h. rw (n, ← p, lt-ltb room (length e) h) refl)
      (λ h.
      let k : length l ≡ room = n in
      rw (n, ← p, le-ltb room (length e) h) (sh.slice ∙ all_shown (length l) (length l) e (omega arith) (omega arith) ∙ rw n refl))

  work_is : (v s : List ℕ) (k : ℕ) → v ≡ work_of s k → length v ≡ k → kept_at (length l) at v ≡ work_unless (prove_number (fitting room e)) s k
  unfolding kept_at
  work_is v s k w m =
      let p : length e ≡ at = sh.place in
      by_ltb room (length e)
      (λ h. rw (n, ← p, lt-ltb room (length e) h, m) (zeros_unless ReportsTooShort s k))
      (λ h. rw (n, ← p, le-ltb room (length e) h) w)

-- ---- an accepted image

module _ (s : List ℕ) (bytes : (i : ℕ) → Fits w8 (get_or s i 0)) (k : ℕ) (no : ArenaNo) (c : Counts) (e : answer_of s k ≡ accepted no c) where
  well : WellFormed (image_of s)
  well = accepted_well_formed s k no c (all_bytes s (λ i. omega (arith, (bytes i).fits))) e

  limited : Limited (image_of s) c
  limited =
      record {
        texts = subst (λ (n : ℕ). n ≤ 2048) (sizes_are_counts s k no c e Texts) (texts_within (image_of s) well);
        parameters = parameters_within (image_of s) well;
      }

  calls_within : min c.calls 256 ≡ c.calls
  unfolding limits
  calls_within = let n = sizes_are_counts s k no c e Calls in omega (arith, n, size_within (image_of s) well Calls)

-- ---- the ways out

module _ (s : List ℕ) (k room : ℕ) (a : Answer) (e : a ≡ answer_of s k) (l : List ℕ) (z : l ≡ replicate room 0) where
  module _ (q : Refusal) (f : a ≡ Err q) (w : List ℕ) (g : w ≡ work_of s k) where
    unread_work : (r : ProveAnswer) → r ≡ Err q → w ≡ work_unless (prove_number r) s k
    unread_work r h = g ∙ refused_work s k q.cause q.place (sym e ∙ f) ∙ zeros_unless q.cause s k ∙ ap (λ (x : ProveAnswer). work_unless (prove_number x) s k) (sym h)

    module _ (call : ℕ) where
      unread : prove_of s k call room ≡ Err q
      unfolding prove_of
      unread = rw (← e, f) refl

      pub prove_unread : Err q ≡ prove_of s k call room
      prove_unread = sym unread

      pub prove_unread_slice : l ≡ reports_of s k call room
      unfolding reports_of
      prove_unread_slice = z ∙ rw unread refl

      pub prove_unread_work : w ≡ work_unless (prove_number (prove_of s k call room)) s k
      prove_unread_work = unread_work (prove_of s k call room) unread

    unread_all : prove_all_of s k room ≡ Err q
    unfolding prove_all_of
    unread_all = rw (← e, f) refl

    pub all_unread : Err q ≡ prove_all_of s k room
    all_unread = sym unread_all

    pub all_unread_slice : l ≡ all_reports_of s k room
    unfolding all_reports_of
    all_unread_slice = z ∙ rw unread_all refl

    pub all_unread_work : w ≡ work_unless (prove_number (prove_all_of s k room)) s k
    all_unread_work = unread_work (prove_all_of s k room) unread_all

  module _ (no : ArenaNo) (c : Counts) (f : a ≡ accepted no c) where
    module _ (call : ℕ) (h : c.calls ≤ call) where
      missing : prove_of s k call room ≡ refused NoSuchCall 0
      unfolding prove_of
      missing = rw (← e, f, le-ltb call c.calls h) refl

      pub prove_missing : (r : Refusal) → r ≡ at_zero NoSuchCall → Err r ≡ prove_of s k call room
      prove_missing r i = ap Err i ∙ sym missing

      pub prove_missing_slice : l ≡ reports_of s k call room
      unfolding reports_of
      prove_missing_slice = z ∙ rw missing refl

      pub prove_missing_work : (v w : List ℕ) → length v ≡ k → w ≡ replicate (length v) 0 → w ≡ work_unless (prove_number (prove_of s k call room)) s k
      prove_missing_work v w m g = g ∙ ap (λ (i : ℕ). replicate i 0) m ∙ zeros_unless NoSuchCall s k ∙ ap (λ (x : ProveAnswer). work_unless (prove_number x) s k) (sym missing)

    module _ (bytes : (i : ℕ) → Fits w8 (get_or s i 0)) (p : List ℕ) (y : p ≡ starts_of s k) where
      same : image_found s p c ≡ image_of s
      same = ap (λ (x : List ℕ). image_found s x c) y ∙ found_is_image s k no c (sym e ∙ f)

      start : Limited (image_found s p c) c × Shown l [] 0
      start = (subst (λ (im : Image). Limited im c) (sym same) (limited s bytes k no c (sym e ∙ f)), none_shown l room z)

      module _ (call : ℕ) (h : call < c.calls) (out : List ℕ) (at : ℕ) (o : ProvesCalls (image_found s p c) c call (call + 1) l out at) (n : length out ≡ length l) where
        shown : Shown out (call_entries (image_of s) call) at
        unfolding all_entries
        shown =
            let one : call + 1 - call ≡ 1 = omega arith in
            subst (λ (x : List ℕ). Shown out x at) (append-nil (call_entries (image_of s) call))
            (subst (λ (i : ℕ). Shown out (all_entries (image_of s) i call) at) one
            (subst (λ (im : Image). Shown out (all_entries im (call + 1 - call) call) at) same (o start.0 start.1)))

        wide : length out ≡ room
        wide = n ∙ ap length z ∙ length-replicate room 0

        found : prove_of s k call room ≡ fitting room (call_entries (image_of s) call)
        unfolding prove_of
        found = rw (← e, f, lt-ltb call c.calls h) refl

        pub prove_found : (r : ProveAnswer) → r ≡ fitting_at (length out) at → r ≡ prove_of s k call room
        prove_found r g = g ∙ answer_is out (call_entries (image_of s) call) at room wide shown ∙ sym found

        pub prove_found_slice : (last : List ℕ) → last ≡ kept_at (length out) at out → last ≡ reports_of s k call room
        unfolding reports_of
        prove_found_slice last g = g ∙ slice_is out (call_entries (image_of s) call) at room wide shown ∙ rw found refl

        pub prove_found_work : (v w : List ℕ) → v ≡ work_of s k → length v ≡ k → w ≡ kept_at (length out) at v → w ≡ work_unless (prove_number (prove_of s k call room)) s k
        prove_found_work v w g m i = i ∙ work_is out (call_entries (image_of s) call) at room wide shown v s k g m ∙ ap (λ (x : ProveAnswer). work_unless (prove_number x) s k) (sym found)

      module _ (most : ℕ) (x : most ≡ min c.calls 256) (out : List ℕ) (at : ℕ) (o : ProvesCalls (image_found s p c) c 0 most l out at) (n : length out ≡ length l) where
        abbrev every : List ℕ
        every = all_entries (image_of s) c.calls 0

        shown_all : Shown out every at
        shown_all =
            subst (λ (i : ℕ). Shown out (all_entries (image_of s) i 0) at) (own_most ∙ x ∙ calls_within s bytes k no c (sym e ∙ f))
            (subst (λ (im : Image). Shown out (all_entries im (most - 0) 0) at) same (o start.0 start.1))
          where
            own_most : most - 0 ≡ most
            own_most = omega arith

        wide_all : length out ≡ room
        wide_all = n ∙ ap length z ∙ length-replicate room 0

        found_all : prove_all_of s k room ≡ fitting room every
        unfolding prove_all_of
        found_all = rw (← e, f) refl

        pub all_found : (r : ProveAnswer) → r ≡ fitting_at (length out) at → r ≡ prove_all_of s k room
        all_found r g = g ∙ answer_is out every at room wide_all shown_all ∙ sym found_all

        pub all_found_slice : (last : List ℕ) → last ≡ kept_at (length out) at out → last ≡ all_reports_of s k room
        unfolding all_reports_of
        all_found_slice last g = g ∙ slice_is out every at room wide_all shown_all ∙ rw (found_all, own_calls) refl
          where
            own_calls : (counts_of s).calls ≡ c.calls
            own_calls = sym (section_size s Calls) ∙ sizes_are_counts s k no c (sym e ∙ f) Calls

        pub all_found_work : (v w : List ℕ) → v ≡ work_of s k → length v ≡ k → w ≡ kept_at (length out) at v → w ≡ work_unless (prove_number (prove_all_of s k room)) s k
        all_found_work v w g m i = i ∙ work_is out every at room wide_all shown_all v s k g m ∙ ap (λ (x : ProveAnswer). work_unless (prove_number x) s k) (sym found_all)
