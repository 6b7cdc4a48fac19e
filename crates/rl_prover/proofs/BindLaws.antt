-- Binding a name: the words stand for one binding more, and the memory stays right. One law for each way out.
-- Assumes nothing.
use Prim.Native.Nat.{ℕ, ◌+◌, ◌*◌, ◌≤◌, ◌<◌}
use mathlib.Core.Path.{◌≡◌, refl, sym, ap, subst, ◌∙◌}
use mathlib.Core.Bool.{Bool, false}
use mathlib.Core.List.{List, [], ◌∷◌}
use native.Mathlib.Omega.{arith}
use lib.Dec.{T}
use lib.ListN.{length, get_or, set, length-set}
use lib.Seq.{get_or-set_same, get_or-set_other}
use Rattle.rl_spec.specs.declared.ConstVal.{ConstVal}
use Rattle.rl_spec.specs.Answers.{Folded}
use Rattle.std.specs.Prelude.{None, Some, is_none}
use Rattle.rl_spec.specs.Image.{Image, text_of}
use Rattle.rl_spec.specs.Folded.{as_folded, const_of, folded_of}
use Rattle.rl_spec.specs.Words.{sort_word_of, payload_word_of, words_value}
use Rattle.rl_spec.specs.Tree.{expr_tree}
use Rattle.rl_spec.specs.Fold.{Binding, lookup, const_eval}
use Rattle.rl_spec.specs.Prove.{bound}
use Rattle.rl_memory.specs.Memory.{Right}
use Rattle.rl_memory.proofs.Names.{more_right, cleared_right}
use Rattle.rl_names.specs.Names.{Classes, lookup_in, bind_in, Standing}
use Rattle.rl_names.proofs.Laws.{walk_is}
use Rattle.rl_fold.specs.Folding.{folded_at, Names}
use Rattle.rl_fold.proofs.FoldLaws.{const_back, from_forth, from_back}
use Rattle.rl_prover.specs.Passes.{forget_for, Passing, Binds}
use Rattle.rl_prover.proofs.Monotone.{value_stays}

-- ---- the words of the bindings

module _ (bytes : ℕ → List ℕ) (cs w out : List ℕ) where
  -- words that are kept stand for what they stood for
  kept : (env : List (Binding ℕ)) (n : ℕ) → length env ≤ n → ((i : ℕ) → i < n * 3 → get_or out i 0 ≡ get_or w i 0) → Standing bytes cs w env → Standing bytes cs out env
  kept [] n h k s = tt
  kept (b ∷ env) n h k s =
      let a : get_or out (length env * 3) 0 ≡ get_or w (length env * 3) 0 = k (length env * 3) (omega arith) in
      let x : get_or out (length env * 3 + 1) 0 ≡ get_or w (length env * 3 + 1) 0 = k (length env * 3 + 1) (omega arith) in
      let y : get_or out (length env * 3 + 2) 0 ≡ get_or w (length env * 3 + 2) 0 = k (length env * 3 + 2) (omega arith) in
      (a ∙ s.0, (rw (x, y) s.1.0, (s.1.1.0, kept env n (omega arith) k s.1.1.1)))

module _ (w : List ℕ) (k t : ℕ) (v : Folded) (h : (k + 1) * 3 ≤ length w) where
  abbrev one : List ℕ
  one = set w (k * 3) t

  abbrev two : List ℕ
  two = set one (k * 3 + 1) (sort_word_of v)

  size : length one ≡ length w
  size = length-set w (k * 3) t

  size2 : length two ≡ length w
  size2 = length-set one (k * 3 + 1) (sort_word_of v) ∙ size

  bound_before : (i : ℕ) → i < k * 3 → get_or (bind_in w k t v) i 0 ≡ get_or w i 0
  unfolding bind_in
  bound_before i l =
      get_or-set_other (set (set w (k * 3) t) (k * 3 + 1) (sort_word_of v)) (k * 3 + 2) i (payload_word_of v) 0 (λ q. omega arith)
      ∙ get_or-set_other (set w (k * 3) t) (k * 3 + 1) i (sort_word_of v) 0 (λ q. omega arith)
      ∙ get_or-set_other w (k * 3) i t 0 (λ q. omega arith)

  bound_name : get_or (bind_in w k t v) (k * 3) 0 ≡ t
  unfolding bind_in
  bound_name =
      get_or-set_other (set (set w (k * 3) t) (k * 3 + 1) (sort_word_of v)) (k * 3 + 2) (k * 3) (payload_word_of v) 0 (λ q. omega arith)
      ∙ get_or-set_other (set w (k * 3) t) (k * 3 + 1) (k * 3) (sort_word_of v) 0 (λ q. omega arith)
      ∙ get_or-set_same w (k * 3) t 0 (omega arith)

  bound_sort : get_or (bind_in w k t v) (k * 3 + 1) 0 ≡ sort_word_of v
  unfolding bind_in
  bound_sort =
      let z = size in
      get_or-set_other (set (set w (k * 3) t) (k * 3 + 1) (sort_word_of v)) (k * 3 + 2) (k * 3 + 1) (payload_word_of v) 0 (λ q. omega arith)
      ∙ get_or-set_same (set w (k * 3) t) (k * 3 + 1) (sort_word_of v) 0 (omega arith)

  bound_payload : get_or (bind_in w k t v) (k * 3 + 2) 0 ≡ payload_word_of v
  unfolding bind_in
  bound_payload = let z = size2 in get_or-set_same (set (set w (k * 3) t) (k * 3 + 1) (sort_word_of v)) (k * 3 + 2) (payload_word_of v) 0 (omega arith)

-- ---- a binding more

module _ (im : Image) (env : List (Binding ℕ)) (cs w : List ℕ) (count : ℕ) (m : List ℕ) (t : ℕ) (v : ConstVal) (cl : Classes (text_of im) cs) (h : (count + 1) * 3 ≤ length w) (p : Passing im env cs w count m) (back : words_value (sort_word_of (Some v)) (payload_word_of (Some v)) ≡ Some v) where
  abbrev b : Binding ℕ
  b = record { name = t; value = const_of v }

  names_more : Names im (b ∷ env) cs (bind_in w count t (Some v)) (count + 1)
  names_more =
      let n = p.names.counted in
      let q : length env * 3 ≡ count * 3 = rw n refl in
      record {
        standing = (
          ap (λ (i : ℕ). get_or (bind_in w count t (Some v)) i 0) q ∙ bound_name w count t (Some v) h,
          (
            rw (n, bound_sort w count t (Some v) h, bound_payload w count t (Some v) h) (back ∙ ap Some (sym (const_back v))),
            (cl t, kept (text_of im) cs w (bind_in w count t (Some v)) env count (omega arith) (bound_before w count t (Some v) h) p.names.standing),
          ),
        );
        counted = omega (arith, n);
      }

  -- by the value that the name had
  right_more : (old : Folded) → old ≡ as_folded (lookup (text_of im) env t) → Right (folded_at im (b ∷ env)) (count + 1) (forget_for m old)
  right_more (Some x) e = cleared_right (folded_at im (b ∷ env)) (count + 1) (length m)
  right_more None e =
      more_right (folded_at im env) (folded_at im (b ∷ env)) count m p.right
      (λ n x q.
      let stays = value_stays (text_of im) env b (sym (from_forth None (lookup (text_of im) env t) e)) (expr_tree im n) (const_of x) (sym (from_forth (Some x) (const_eval (text_of im) env (expr_tree im n)) (sym q))) in
      sym (from_back (Some x) (const_eval (text_of im) (b ∷ env) (expr_tree im n)) (sym stays)))

  passing_more : (old : Folded) → old ≡ lookup_in cs w t count → Passing im (b ∷ env) cs (bind_in w count t (Some v)) (count + 1) (forget_for m old)
  passing_more old e =
      record {
        names = names_more;
        right = right_more old (e ∙ ap (lookup_in cs w t) (sym p.names.counted) ∙ walk_is (text_of im) cs w t env p.names.standing);
      }

-- ---- the ways out

module _ (cs w : List ℕ) (count : ℕ) (m : List ℕ) (t : ℕ) (v : Folded) where
  pub bind_some : is_none v ≡ false → (old : Folded) (rest out : List ℕ) → old ≡ lookup_in cs w t count → rest ≡ forget_for m old → out ≡ bind_in w count t v → words_value (sort_word_of v) (payload_word_of v) ≡ v → Binds cs w count m t v out (count + 1) rest
  bind_some n old rest out e f g back im env cl h p = go v refl
    where
      go : (y : Folded) → v ≡ y → Passing im (bound t (folded_of v) env) cs out (count + 1) rest
      go None q = absurd (subst (λ (b : Bool). T b) (sym (ap is_none q) ∙ n) tt)
      go (Some x) q =
          subst (λ (y : List ℕ). Passing im (bound t (folded_of v) env) cs out (count + 1) y) (sym f)
          (subst (λ (y : List ℕ). Passing im (bound t (folded_of v) env) cs y (count + 1) (forget_for m old)) (sym (g ∙ ap (bind_in w count t) q))
          (subst (λ (y : Folded). Passing im (bound t (folded_of y) env) cs (bind_in w count t (Some x)) (count + 1) (forget_for m old)) (sym q)
          (passing_more im env cs w count m t x cl h p (subst (λ (y : Folded). words_value (sort_word_of y) (payload_word_of y) ≡ y) q back) old e)))
