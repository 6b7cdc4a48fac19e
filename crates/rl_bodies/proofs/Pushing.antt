-- The loops that push numbers or guards one by one: what waits then.
-- Assumes nothing.
use Prim.Native.Nat.{ℕ, zero, suc, ◌+◌, ◌≤◌, ◌<◌}
use mathlib.Core.Path.{◌≡◌, refl, ap, sym, ◌∙◌, subst}
use mathlib.Core.List.{List, [], ◌∷◌, ◌++◌, map}
use native.Mathlib.Omega.{arith}
use native.Mathlib.Numerals.{add-one}
use lib.ListN.{length, get_or, take}
use lib.Seq.{take-suc}
use Rattle.std.proofs.lemmas.List.{take_all}
use Rattle.rl_spec.specs.declared.Counts.{Counts}
use Rattle.rl_spec.specs.declared.Interval.{Interval}
use Rattle.rl_spec.specs.Image.{Image, entry_of}
use Rattle.rl_spec.specs.Found.{image_found}
use Rattle.rl_spec.specs.Records.{function_at}
use Rattle.rl_spec.specs.Ranges.{up_from, numbers_in}
use Rattle.rl_spec.specs.FnContracts.{Param, param_of}
use Rattle.rl_spec.specs.Make.{flat_map}
use Rattle.rl_context.specs.Does.{State, Pushes}
use Rattle.rl_context.proofs.Composed.{does_then, does_give, does_push}
use Rattle.rl_images.specs.Lowering.Adds.{Adds, adds_give}
use Rattle.rl_context.proofs.StaysOver.{keeps_all}
use Rattle.rl_images.specs.Lowering.AddsLower.{adds_refinement}
use Rattle.rl_context.proofs.CopiedEntries.{does_nil}
use Rattle.rl_context.specs.Guards.{Gathers, guard_for, guard_in}
use Rattle.rl_transform.proofs.Loops.{Gathering, gather_none, gather_more, gather_all}
use Rattle.rl_bodies.specs.Bodies.{refined_in, entries_in, Waits}

waits_more : {im : Image} {ns : List ℕ} {s t u : State} {n : ℕ} → Waits im ns s t → Pushes n t u → Waits im (ns ++ n ∷ []) s u
waits_more {im} {ns} {t = t} {n = n} w p = does_then (λ c. ns ++ c ∷ []) w (does_push (does_give im 0 n t) p) (keeps_all (adds_give (n ∷ []))) refl (λ c. refl)

-- ---- the entries of a list

up_last : (of : Image) (k i : ℕ) → map (entry_of of) (up_from k (suc i)) ≡ map (entry_of of) (up_from k i) ++ entry_of of (k + i) ∷ []
unfolding up_from
up_last of k zero = let e : k + zero ≡ k = omega arith in rw e refl
up_last of k (suc i) = let e : k + suc i ≡ k + 1 + i = omega arith in rw e (ap (λ (l : List ℕ). entry_of of k ∷ l) (up_last of (k + 1) i))

-- the first `i` of them wait
pub record Entered (image p : List ℕ) (counts : Counts) (list : Interval) (im : Image) (start here : State) (i : ℕ) : Type 0 where
  pub waits : Waits im (map (entry_of (image_found image p counts)) (up_from list.first i)) start here

module _ (image p : List ℕ) (counts : Counts) (list : Interval) (im : Image) (start : State) where
  abbrev up_to : ℕ → List ℕ
  up_to i = map (entry_of (image_found image p counts)) (up_from list.first i)

  pub entered_none : Entered image p counts list im start start 0
  unfolding up_from
  entered_none = record { waits = does_nil im start }

  module _ (here : State) (i : ℕ) (w : Entered image p counts list im start here i) where
    pub entered_more : (next : State) (n : ℕ) → n ≡ entry_of (image_found image p counts) (list.first + i) → Pushes n here next →
        Entered image p counts list im start next (i + 1)
    entered_more next n e push =
        record {
          waits =
              subst (λ ns. Waits im ns start next)
              (ap (λ z. up_to i ++ z ∷ []) e ∙ sym (up_last (image_found image p counts) list.first i) ∙ ap up_to (sym (add-one i)))
              (waits_more w.waits push);
        }

    pub entered_all : i ≤ list.count → list.count ≤ i → Waits im (entries_in (image_found image p counts) list) start here
    entered_all h k = let e : i ≡ list.count = omega arith in subst (λ z. Waits im (up_to z) start here) e w.waits

-- ---- the first so many of other numbers

pub record First (other : List ℕ) (im : Image) (start here : State) (i : ℕ) : Type 0 where
  pub waits : Waits im (take i other) start here

module _ (other : List ℕ) (im : Image) (start : State) where
  pub first_none : First other im start start 0
  first_none = record { waits = does_nil im start }

  module _ (here : State) (i : ℕ) (w : First other im start here i) where
    pub first_more : (next : State) (n : ℕ) → i < length other → n ≡ get_or other i 0 → Pushes n here next → First other im start next (i + 1)
    first_more next n h e push =
        record {
          waits =
              subst (λ ns. Waits im ns start next)
              (ap (λ z. take i other ++ z ∷ []) e ∙ sym (take-suc other i 0 h) ∙ ap (λ z. take z other) (sym (add-one i)))
              (waits_more w.waits push);
        }

    pub first_all : length other ≤ i → Waits im other start here
    first_all h = subst (λ z. Waits im z start here) (take_all i other h) w.waits

-- ---- the guards of a function's parameters

abbrev pub Guarded : Image → Interval → State → State → ℕ → Type 0
Guarded im params start here i = Gathering im (param_of im) (guard_for im) params.first params.count start here i

module _ (im : Image) (params : Interval) (start : State) where
  adds_guard : (p : Param ℕ) → Adds (guard_for im p)
  adds_guard p = adds_refinement im p.name p.refinement

  module _ (of : Image) (function : ℕ) (same : im ≡ of) (e : params ≡ (function_at of function).params)
      (here : State) (i : ℕ) (w : Guarded im params start here i) where
    pub guards_more : (next : State) → i < params.count → Gathers im 0 (guard_in of function i) here next → Guarded im params start next (i + 1)
    guards_more next h d =
        gather_more im (param_of im) (guard_for im) adds_guard params.first params.count start here next i w h (param_of im (params.first + i)) refl
        (subst (λ z. Gathers im 0 (guard_for z (param_of z (params.first + i))) here next) (sym same)
        (subst (λ z. Gathers im 0 (guard_for of (param_of of (z.first + i))) here next) (sym e) d))

    pub guards_all : params.count ≤ i → Gathers im 0 (refined_in im function) start here
    guards_all h =
        subst (λ z. Gathers im 0 (flat_map (guard_for im) (map (param_of im) (numbers_in z))) start here)
        (e ∙ ap (λ z. (function_at z function).params) (sym same))
        (gather_all im (param_of im) (guard_for im) adds_guard params.first params.count start here i w h)
