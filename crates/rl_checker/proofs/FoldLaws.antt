-- One law for each way out of folding.
-- Assumes nothing.
use Prim.Native.Nat.{ℕ}
use mathlib.Core.Path.{◌≡◌, refl, sym, ap, subst, ◌∙◌}
use mathlib.Core.Bool.{Bool, true, false, cond}
use mathlib.Core.List.{List, []}
use lib.Dec.{eqb, ltb}
use lib.ListN.{length, replicate}
use Rattle.rl_spec.specs.Answers.{Answer, accepted, refused, at_zero, FoldAnswer, Folded}
use Rattle.std.specs.Prelude.{Result, Ok, Err}
use Rattle.rl_spec.specs.declared.ArenaNo.{ArenaNo}
use Rattle.rl_spec.specs.declared.Cause.{Cause}
use Rattle.rl_spec.specs.declared.Cause.TheVariants as cause
use Rattle.rl_spec.specs.declared.Counts.{Counts}
use Rattle.rl_spec.specs.declared.Id.{Id}
use Rattle.rl_spec.specs.declared.Refusal.{Refusal}
use Rattle.rl_spec.specs.Read.{answer_of, work_of, starts_of}
use Rattle.rl_spec.specs.Image.{Image, image_of}
use Rattle.rl_spec.specs.Fold.{fold_of, fold_number, work_unless}
use Rattle.rl_spec.specs.Found.{image_found}
use Rattle.rl_arena.specs.Find.{lookup}
use Rattle.rl_memory.proofs.Names.{cleared_right}
use Rattle.rl_fold.specs.Folding.{folded_at, Folds}
use Rattle.rl_images.specs.Reading.Found.{found_is_image}
use Rattle.rl_images.specs.Reading.Refusals.{zeros_unless, refused_work}

-- without names and memory
pub fold_alone : (im : Image) (cs w : List ℕ) (n k : ℕ) (r : Folded) (out : List ℕ) → Folds im cs w 0 n (replicate k 0) r out → r ≡ folded_at im [] n
fold_alone im cs w n k r out f = (f [] (record { standing = tt; counted = refl }) (cleared_right (folded_at im []) 0 k)).0

module _ (s : List ℕ) (k : ℕ) (id : Id) (a : Answer) (e : a ≡ answer_of s k) where
  abbrev Is : FoldAnswer → Type 0
  Is r = r ≡ fold_of s k id

  abbrev Work : List ℕ → Type 0
  Work w = w ≡ work_unless (fold_number (fold_of s k id)) s k

  -- the work slice of an answer
  work_of_lem : (r : FoldAnswer) (w : List ℕ) → Is r → w ≡ work_unless (fold_number r) s k → Work w
  work_of_lem r w f g = subst (λ (x : FoldAnswer). w ≡ work_unless (fold_number x) s k) f g

  module _ (r : Refusal) (f : a ≡ Err r) where
    pub fold_unread : Is (Err r)
    unfolding fold_of
    fold_unread = rw (← e, f) refl

    pub fold_unread_work : (w : List ℕ) → w ≡ work_of s k → Work w
    fold_unread_work w g = work_of_lem (Err r) w fold_unread (g ∙ refused_work s k r.cause r.place (sym e ∙ f) ∙ zeros_unless r.cause s k)

  module _ (no : ArenaNo) (c : Counts) (f : a ≡ accepted no c) (l : Result ℕ Cause) (g : l ≡ lookup no c id) where
    by_lookup : (x y : Bool) → eqb id.arena.0 no.0 ≡ x → ltb id.node.0 c.expressions ≡ y → (l ≡ cond x (cond y (Ok id.node.0) (Err cause.NoSuchNode)) (Err cause.OtherArena)) × (fold_of s k id ≡ cond x (cond y (Ok (folded_at (image_of s) [] id.node.0)) (refused cause.NoSuchNode 0)) (refused cause.OtherArena 0))
    unfolding fold_of lookup
    by_lookup x y p q = (g ∙ rw (p, q) refl, rw (← e, f, p, q) refl)

    -- what is answered, by the node that is found
    abbrev By : Result ℕ Cause → Type 0
    By (Ok n) = fold_of s k id ≡ Ok (folded_at (image_of s) [] n)
    By (Err q) = fold_of s k id ≡ refused q 0

    by : By l
    by = go (eqb id.arena.0 no.0) (ltb id.node.0 c.expressions) refl refl
      where
        go : (x y : Bool) → eqb id.arena.0 no.0 ≡ x → ltb id.node.0 c.expressions ≡ y → By l
        go true true p q = let t = by_lookup true true p q in subst By (sym t.0) t.1
        go true false p q = let t = by_lookup true false p q in subst By (sym t.0) t.1
        go false y p q = let t = by_lookup false y p q in subst By (sym t.0) t.1

    module _ (q : Cause) (h : l ≡ Err q) where
      pub fold_refused : (r : Refusal) → r ≡ at_zero q → Is (Err r)
      fold_refused r i = ap Err i ∙ sym (subst By h by)

      pub fold_refused_work : (v w : List ℕ) → length v ≡ k → w ≡ replicate (length v) 0 → Work w
      fold_refused_work v w n z = work_of_lem (refused q 0) w (fold_refused (at_zero q) refl) (z ∙ ap (λ (i : ℕ). replicate i 0) n ∙ zeros_unless q s k)

    module _ (n : ℕ) (h : l ≡ Ok n) (p : List ℕ) (z : p ≡ starts_of s k) (r : Folded) (y : r ≡ folded_at (image_found s p c) [] n) where
      own : r ≡ folded_at (image_of s) [] n
      own = y ∙ ap (λ (im : Image). folded_at im [] n) (ap (λ (x : List ℕ). image_found s x c) z ∙ found_is_image s k no c (sym e ∙ f))

      pub fold_found : Is (Ok r)
      fold_found = ap Ok own ∙ sym (subst By h by)

      pub fold_found_work : (w : List ℕ) → w ≡ work_of s k → Work w
      fold_found_work w g = work_of_lem (Ok r) w fold_found g
