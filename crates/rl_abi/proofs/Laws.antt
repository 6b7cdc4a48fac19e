-- One law for each way out of the functions for C and Rust.
-- Assumes nothing.
use Prim.Native.Nat.{ℕ, ◌/◌, ◌≤◌}
use mathlib.Core.Path.{◌≡◌, refl, sym, ap, subst, ◌∙◌}
use mathlib.Core.Bool.{Bool, true, false, cond}
use mathlib.Core.List.{List, [], ◌∷◌}
use native.Mathlib.Omega.{arith}
use lib.Dec.{eqb, ltb}
use lib.ListN.{length}
use Rattle.rl_spec.specs.declared.Cause.TheVariants.{OtherArena, NoSuchNode, NoSuchCall, ReportsTooShort}
use Rattle.rl_spec.specs.Answers.{Answer, refused, FoldAnswer, Folded, ProveAnswer}
use Rattle.std.specs.Prelude.{Ok, Err}
use Rattle.rl_spec.specs.declared.Id.{Id}
use Rattle.rl_spec.specs.declared.Refusal.{Refusal}
use Rattle.rl_spec.specs.Read.{number_of, packed, answer_of}
use Rattle.rl_spec.specs.Fold.{const_eval, fold_by, fold_of}
use Rattle.rl_spec.specs.Prove.{call_entries, all_entries, prove_from, prove_of, prove_all_from, prove_all_of}
use Rattle.rl_spec.specs.Image.{text_of, image_of}
use Rattle.rl_spec.specs.Folded.{as_folded}
use Rattle.rl_spec.specs.Tree.{expr_tree}
use Rattle.rl_spec.specs.Words.{sort_word_of, payload_word_of}
use Rattle.rl_images.specs.Reading.Places.{place_small}
use Rattle.rl_spec.specs.Boundary.{above, prove_packed, fold_packed, fold_words}
use Rattle.rl_boundary.specs.Packing.{packed_by, place_of}

-- ---- reading

read_place : (s : List ℕ) (k : ℕ) → place_of (answer_of s k) ≤ 65535
read_place s k = go (answer_of s k) refl
  where
    go : (a : Answer) → answer_of s k ≡ a → place_of a ≤ 65535
    go (Err r) e = place_small s k r.cause r.place e
    go (Ok h) e = omega arith

module _ (s : List ℕ) (k : ℕ) (a : Answer) (e : a ≡ answer_of s k) where
  pub read_near : place_of a ≤ 65535
  read_near = subst (λ (x : Answer). place_of x ≤ 65535) (sym e) (read_place s k)

  pub read_packed : (r : ℕ) → r ≡ packed_by (λ _. 0) a → r ≡ packed (answer_of s k)
  read_packed r g = g ∙ go a ∙ ap packed e
    where
      go : (x : Answer) → packed_by (λ _. 0) x ≡ packed x
      go (Ok h) = refl
      go (Err q) = refl

-- ---- folding

fold_place : (s : List ℕ) (k : ℕ) (id : Id) → place_of (fold_of s k id) ≤ 65535
unfolding fold_of
fold_place s k id = go (answer_of s k) refl
  where
    chosen : (x y : Bool) (v : Folded) → place_of (cond x (cond y (Ok v) (refused NoSuchNode 0)) (refused OtherArena 0)) ≤ 65535
    chosen true true v = omega arith
    chosen true false v = omega arith
    chosen false y v = omega arith

    go : (a : Answer) → answer_of s k ≡ a → place_of (fold_by s id a) ≤ 65535
    go (Err r) e = place_small s k r.cause r.place e
    go (Ok h) e = chosen (eqb id.arena.0 h.arena.0) (ltb id.node.0 h.counts.expressions) (as_folded (const_eval (text_of (image_of s)) [] (expr_tree (image_of s) id.node.0)))

module _ (s : List ℕ) (k : ℕ) (id : Id) (a : FoldAnswer) (e : a ≡ fold_of s k id) where
  module _ (q : Refusal) (f : a ≡ Err q) where
    pub fold_refused_place : q.place ≤ 65535
    fold_refused_place = subst (λ (x : FoldAnswer). place_of x ≤ 65535) (sym e ∙ f) (fold_place s k id)

    pub fold_refused : (r : ℕ) → r ≡ above (number_of q.cause) q.place → r ≡ fold_packed (fold_of s k id)
    fold_refused r g = rw (← e, f) g

    pub fold_refused_value : (l : List ℕ) → l ≡ 0 ∷ 0 ∷ [] → l ≡ fold_words (fold_of s k id)
    fold_refused_value l g = rw (← e, f) g

  module _ (v : Folded) (f : a ≡ Ok v) where
    pub fold_found : 0 ≡ fold_packed (fold_of s k id)
    fold_found = rw (← e, f) refl

    pub fold_found_value : (l : List ℕ) → l ≡ sort_word_of v ∷ payload_word_of v ∷ [] → l ≡ fold_words (fold_of s k id)
    fold_found_value l g = rw (← e, f) g

-- ---- proving

pub count_packed : (a : ProveAnswer) → packed_by (λ n. n) a ≡ prove_packed a
count_packed (Ok n) = refl
count_packed (Err q) = refl

prove_place : (s : List ℕ) (k call room : ℕ) → place_of (prove_of s k call room) ≤ 65535
unfolding prove_of
prove_place s k call room = go (answer_of s k) refl
  where
    chosen : (x y : Bool) (n : ℕ) → place_of (cond x (cond y (refused ReportsTooShort 0) (Ok n)) (refused NoSuchCall 0)) ≤ 65535
    chosen true true n = omega arith
    chosen true false n = omega arith
    chosen false y n = omega arith

    go : (a : Answer) → answer_of s k ≡ a → place_of (prove_from s call room a) ≤ 65535
    go (Err r) e = place_small s k r.cause r.place e
    go (Ok h) e = chosen (ltb call h.counts.calls) (ltb room (length (call_entries (image_of s) call))) (length (call_entries (image_of s) call) / 4)

all_place : (s : List ℕ) (k room : ℕ) → place_of (prove_all_of s k room) ≤ 65535
unfolding prove_all_of
all_place s k room = go (answer_of s k) refl
  where
    chosen : (y : Bool) (n : ℕ) → place_of (cond y (refused ReportsTooShort 0) (Ok n)) ≤ 65535
    chosen true n = omega arith
    chosen false n = omega arith

    go : (a : Answer) → answer_of s k ≡ a → place_of (prove_all_from s room a) ≤ 65535
    go (Err r) e = place_small s k r.cause r.place e
    go (Ok h) e = chosen (ltb room (length (all_entries (image_of s) h.counts.calls 0))) (length (all_entries (image_of s) h.counts.calls 0) / 4)

module _ (s : List ℕ) (k call room : ℕ) (a : ProveAnswer) (e : a ≡ prove_of s k call room) where
  pub prove_near : place_of a ≤ 65535
  prove_near = subst (λ (x : ProveAnswer). place_of x ≤ 65535) (sym e) (prove_place s k call room)

  pub prove_packed_lem : (r : ℕ) → r ≡ packed_by (λ n. n) a → r ≡ prove_packed (prove_of s k call room)
  prove_packed_lem r g = g ∙ count_packed a ∙ ap prove_packed e

module _ (s : List ℕ) (k room : ℕ) (a : ProveAnswer) (e : a ≡ prove_all_of s k room) where
  pub all_near : place_of a ≤ 65535
  all_near = subst (λ (x : ProveAnswer). place_of x ≤ 65535) (sym e) (all_place s k room)

  pub all_packed : (r : ℕ) → r ≡ packed_by (λ n. n) a → r ≡ prove_packed (prove_all_of s k room)
  all_packed r g = g ∙ count_packed a ∙ ap prove_packed e

pub ruleset folding = (fold_refused_place, fold_refused, fold_refused_value, fold_found, fold_found_value)
