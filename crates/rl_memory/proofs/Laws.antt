-- The laws of recalling and remembering.
-- Assumes nothing.
use Prim.Native.Nat.{ℕ, ◌+◌, ◌*◌, ◌≤◌, ◌<◌}
use mathlib.Core.Path.{◌≡◌, refl, sym, ap, subst, ◌∙◌}
use mathlib.Core.List.{List}
use native.Mathlib.Omega.{arith}
use lib.ListN.{length, get_or, set, length-set}
use lib.Seq.{get_or-set_same, get_or-set_other}
use borrow.Author.Tests.{lt-ltb, le-ltb, eq-eqb, ne_eqb}
use Rattle.rl_laws.specs.Tests.{by_eqb}
use Rattle.rl_spec.specs.declared.ConstVal.TheVariants as kind
use Rattle.rl_spec.specs.Answers.{Folded}
use Rattle.std.specs.Prelude.{None, Some}
use Rattle.rl_spec.specs.Words.{sort_word_of, words_value}
use Rattle.rl_memory.specs.Memory.{Recalled}
use Rattle.rl_memory.specs.Memory.{recalled, recall_of, tag_word, Right}

-- ---- recalling

module _ (k tag payload : ℕ) where
  pub recalled_unknown : tag ≡ 0 → None ≡ recalled k tag payload
  unfolding recalled
  recalled_unknown h = rw h refl

  module _ (z : tag ≡ 0 → ⊥) where
    pub recalled_stale : 4 < tag → (tag ≡ 5 + k → ⊥) → None ≡ recalled k tag payload
    unfolding recalled
    recalled_stale h d = rw (ne_eqb tag 0 z, lt-ltb 4 tag h, ne_eqb tag (5 + k) d) refl

    pub recalled_value : tag ≤ 4 → (v : Folded) → v ≡ words_value tag payload → Some v ≡ recalled k tag payload
    unfolding recalled
    recalled_value h v g = rw (ne_eqb tag 0 z, le-ltb 4 tag h, ← g) refl

-- ---- remembering

tag_early : (k : ℕ) (v : Folded) → tag_word k v ≤ 5 + k
tag_early k (Some (kind.Int x)) = omega arith
tag_early k (Some (kind.Float x)) = omega arith
tag_early k (Some (kind.Str x)) = omega arith
tag_early k (Some (kind.Bool x)) = omega arith
tag_early k None = omega arith

-- the words of a value are known again
tag_back : (k : ℕ) (v : Folded) (p : ℕ) → words_value (sort_word_of v) p ≡ v → recalled k (tag_word k v) p ≡ Some v
unfolding recalled
tag_back k (Some (kind.Int x)) p e = ap Some e
tag_back k (Some (kind.Float x)) p e = ap Some e
tag_back k (Some (kind.Str x)) p e = ap Some e
tag_back k (Some (kind.Bool x)) p e = ap Some e
tag_back k None p e = rw (ne_eqb (5 + k) 0 (λ q. omega arith), lt-ltb 4 (5 + k) (omega arith), eq-eqb (5 + k) (5 + k) refl) refl

pub known_is : (v w : Folded) → Some v ≡ Some w → v ≡ w
known_is v w e = ap (λ r. value r) e
  where
    value : Recalled → Folded
    value (Some x) = x
    value None = v

-- a node whose two words changed, and the others
module _ (m : List ℕ) (n sort payload : ℕ) (h : n * 2 + 1 < length m) where
  abbrev written : List ℕ
  written = set (set m (n * 2) sort) (n * 2 + 1) payload

  own_tag : get_or written (n * 2) 0 ≡ sort
  own_tag = get_or-set_other (set m (n * 2) sort) (n * 2 + 1) (n * 2) payload 0 (λ q. omega arith) ∙ get_or-set_same m (n * 2) sort 0 (omega arith)

  own : (k : ℕ) → recall_of written k n ≡ recalled k sort payload
  unfolding recall_of
  own k =
      let p : length (set m (n * 2) sort) ≡ length m = length-set m (n * 2) sort in
      let y : get_or written (n * 2 + 1) 0 ≡ payload = get_or-set_same (set m (n * 2) sort) (n * 2 + 1) payload 0 (omega arith) in
      rw (own_tag, y) refl

  other_tag : (j : ℕ) → (j ≡ n → ⊥) → get_or written (j * 2) 0 ≡ get_or m (j * 2) 0
  other_tag j d = get_or-set_other (set m (n * 2) sort) (n * 2 + 1) (j * 2) payload 0 (λ q. omega arith) ∙ get_or-set_other m (n * 2) (j * 2) sort 0 (λ q. d (omega arith))

  others : (k j : ℕ) → (j ≡ n → ⊥) → recall_of written k j ≡ recall_of m k j
  unfolding recall_of
  others k j d =
      let y : get_or written (j * 2 + 1) 0 ≡ get_or m (j * 2 + 1) 0 = get_or-set_other (set m (n * 2) sort) (n * 2 + 1) (j * 2 + 1) payload 0 (λ q. d (omega arith)) ∙ get_or-set_other m (n * 2) (j * 2 + 1) sort 0 (λ q. omega arith) in
      rw (other_tag j d, y) refl

module _ (m : List ℕ) (k n : ℕ) (v : Folded) where
  abbrev Keeps : List ℕ → Type 0
  Keeps out = (f : ℕ → Folded) → Right f k m → v ≡ f n → Right f k out

  module _ (sort payload : ℕ) (e : sort ≡ tag_word k v) (h : n * 2 + 1 < length m) where
    pub remember_keeps : words_value (sort_word_of v) payload ≡ v → Keeps (written m n sort payload h)
    remember_keeps b f r q =
        let s : recalled k sort payload ≡ Some v = ap (λ (x : ℕ). recalled k x payload) e ∙ tag_back k v payload b in
        record {
          known =
              λ j w t.
              by_eqb j n
              (λ (p : j ≡ n).
              let o : Some v ≡ Some w = sym s ∙ sym (own m n sort payload h k) ∙ subst (λ (i : ℕ). recall_of (written m n sort payload h) k i ≡ Some w) p t in
              sym (known_is v w o) ∙ q ∙ ap f (sym p))
              (λ p. r.known j w (sym (others m n sort payload h k j p) ∙ t));
          early =
              λ j.
              by_eqb j n
              (λ (p : j ≡ n). subst (λ (i : ℕ). get_or (written m n sort payload h) (i * 2) 0 ≤ 5 + k) (sym p) (subst (λ (i : ℕ). i ≤ 5 + k) (sym (own_tag m n sort payload h ∙ e)) (tag_early k v)))
              (λ p. subst (λ (i : ℕ). i ≤ 5 + k) (sym (other_tag m n sort payload h j p)) (r.early j));
        }
