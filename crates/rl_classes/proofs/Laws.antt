-- Laws for the search and for the classes of all texts.
-- Assumes nothing.
use Prim.Native.Nat.{ℕ, zero, suc, ◌+◌, ◌-◌, ◌≤◌, ◌<◌}
use mathlib.Core.Path.{◌≡◌, refl, sym, ap, ◌∙◌}
use mathlib.Core.Bool.{Bool, true, false, cond}
use mathlib.Core.List.{List}
use native.Mathlib.Omega.{arith}
use native.Mathlib.Numerals.{add-one}
use lib.Dec.{eqb}
use lib.ListN.{length, get_or, set, replicate, length-set, length-replicate}
use lib.Seq.{get_or-set_same, get_or-set_other}
use borrow.Author.Tests.{eq-eqb, ne_eqb}
use Rattle.rl_laws.specs.Tests.{by_ltb, by_eqb}
use Rattle.rl_laws.specs.Found.{text_missing}
use Rattle.rl_spec.specs.declared.Counts.{Counts}
use Rattle.rl_spec.specs.Values.{same_text}
use Rattle.rl_spec.specs.Image.{text_of}
use Rattle.rl_spec.specs.Found.{image_found}
use Rattle.rl_names.specs.Names.{Classes}
use Rattle.rl_classes.specs.Classes.{first_from, class_of, ClassOfEach}
use Rattle.rl_classes.specs.Links.{next_link, meet, link_after, Linked, PlaceOf}
use Rattle.rl_classes.proofs.Same.{apart_same, met_first, classes_tell}

-- a search reads only the links of the texts that it has passed
link_kept : (bytes : ℕ → List ℕ) (links t : List ℕ) (at x n : ℕ) → n ≤ at → link_after bytes (set links at x) t n ≡ link_after bytes links t n
unfolding link_after meet
link_kept bytes links t at x zero h = refl
link_kept bytes links t at x (suc n) h =
    rw (get_or-set_other links at n x 0 (λ q. omega arith), link_kept bytes links t at x n (omega arith)) refl

module _ (s : List ℕ) (c : Counts) where
  abbrev bytes : List ℕ → ℕ → List ℕ
  bytes p = text_of (image_found s p c)

  abbrev IsText : ℕ → List ℕ → Type 0
  IsText t text = (p : List ℕ) → text ≡ bytes p t

  -- ---- the search for the t-th text

  module _ (links : List ℕ) (t : ℕ) where
    abbrev Placed : ℕ → ℕ → Type 0
    Placed class link = (p : List ℕ) → Linked (bytes p) links t → PlaceOf (bytes p) links t class link

    -- past the first u texts, which are others
    pub record Searched (u link : ℕ) : Type 0 where
      pub within : u ≤ t
      pub left : (p : List ℕ) → Linked (bytes p) links t → class_of (bytes p) t ≡ first_from (bytes p) t (t - u) u + 1
      pub way : (p : List ℕ) → link ≡ link_after (bytes p) links (bytes p t) u

    module _ (text : List ℕ) (e : IsText t text) where
      pub find_empty : (b : Bool) → b ≡ eqb (length text) 0 → b ≡ true → Placed 0 0
      unfolding class_of
      find_empty b f k p h =
          record {
            right = sym (rw (← e p, ← f, k) refl);
            linked = λ q. absurd (omega arith);
          }

      pub find_start : (b : Bool) → b ≡ eqb (length text) 0 → b ≡ false → Searched 0 0
      unfolding class_of link_after
      find_start b f k =
          let y : t - 0 ≡ t = omega arith in
          record {
            within = omega arith;
            left = λ p h. rw (← e p, ← f, k, y) refl;
            way = λ p. refl;
          }

    module _ (u link : ℕ) (v : Searched u link) where
      pub find_end : t ≤ u → Placed (t + 1) link
      unfolding first_from
      find_end l p h =
          let z : t - u ≡ 0 = omega arith in
          let y : u ≡ t = omega arith in
          record {
            right = sym (v.left p h ∙ rw (z, y) refl);
            linked = λ q. v.way p ∙ ap (link_after (bytes p) links (bytes p t)) y;
          }

      module _ (l : u < t) where
        step : (p : List ℕ) (r : Bool) → r ≡ same_text (bytes p u) (bytes p t) → Linked (bytes p) links t → class_of (bytes p) t ≡ cond r u (first_from (bytes p) t (t - (u + 1)) (u + 1)) + 1
        unfolding first_from
        step p r e h =
            let z : t - u ≡ suc (t - (u + 1)) = omega arith in
            v.left p h ∙ rw (z, e) refl

        more : (link' : ℕ) → ((p : List ℕ) → Linked (bytes p) links t → same_text (bytes p u) (bytes p t) ≡ false) → ((p : List ℕ) → link' ≡ meet (bytes p) links (bytes p t) u link) → Searched (u + 1) link'
        unfolding link_after
        more link' f g =
            record {
              within = omega arith;
              left = λ p h. step p false (sym (f p h)) h;
              way = λ p. rw (add-one u, ← v.way p) (g p);
            }

        pub find_past : (stored : ℕ) → stored ≡ get_or links u 0 → (stored ≡ link → ⊥) → Searched (u + 1) link
        unfolding meet
        find_past stored e n =
            more link
            (λ p h. apart_same (bytes p u) (bytes p t) (λ q.
            n (e ∙ h u l (met_first (bytes p) t (t - u) u (v.left p h) q) ∙ ap (λ (x : List ℕ). link_after (bytes p) links x u) q ∙ sym (v.way p))))
            (λ p. rw (ne_eqb (get_or links u 0) link (λ q. n (e ∙ q))) refl)

        module _ (text other : List ℕ) (e : IsText t text) (f : IsText u other) (r : Bool) (g : r ≡ same_text other text) where
          pub find_same : r ≡ true → Placed (u + 1) link
          find_same k p h =
              record {
                right = sym (step p true (sym k ∙ g ∙ rw (f p, e p) refl) h);
                linked = λ q. absurd (omega arith);
              }

          pub find_more : r ≡ false → (stored : ℕ) → stored ≡ get_or links u 0 → stored ≡ link → (link' : ℕ) → link' ≡ next_link other text u link → Searched (u + 1) link'
          unfolding meet
          find_more k stored i j link' m =
              more link'
              (λ p h. rw (← f p, ← e p) (sym g ∙ k))
              (λ p. rw (eq-eqb (get_or links u 0) link (sym i ∙ j), ← f p, ← e p) m)

  -- ---- all classes

  -- the classes of the first t texts are there, and the rest is 0
  pub record Classed (start-links start links cs : List ℕ) (t : ℕ) : Type 0 where
    pub within : t ≤ c.texts
    pub wide : length links ≡ length start-links
    pub long : length cs ≡ length start
    pub linked : (p : List ℕ) → c.texts ≤ length start-links → c.texts ≤ length start → Linked (bytes p) links t
    pub done : (p : List ℕ) → c.texts ≤ length start-links → c.texts ≤ length start → (k : ℕ) → k < t → get_or cs k 0 ≡ class_of (bytes p) k
    pub rest : (k : ℕ) → t ≤ k → get_or cs k 0 ≡ 0

  module _ (start-links start : List ℕ) where
    module _ (links cs : List ℕ) (t : ℕ) (v : Classed start-links start links cs t) where
      pub classed_more : t < c.texts → (class link : ℕ) → Placed links t class link → (links' cs' : List ℕ) → links' ≡ set links t link → cs' ≡ set cs t class → Classed start-links start links' cs' (t + 1)
      classed_more h class link f links' cs' d e =
          record {
            within = omega arith;
            wide = ap length d ∙ length-set links t link ∙ v.wide;
            long = ap length e ∙ length-set cs t class ∙ v.long;
            linked = λ p l m k i. rw d (by_eqb k t
                (λ (q : k ≡ t). rw q (λ z.
                let a = f p (v.linked p l m) in
                get_or-set_same links t link 0 (omega arith) ∙ a.linked (a.right ∙ z) ∙ sym (link_kept (bytes p) links (bytes p t) t link t (omega arith))))
                (λ q z. get_or-set_other links t k link 0 q ∙ v.linked p l m k (omega arith) z ∙ sym (link_kept (bytes p) links (bytes p k) t link k (omega arith))));
            done = λ p l m k i. rw e (by_eqb k t
                (λ (q : k ≡ t). rw q (get_or-set_same cs t class 0 (omega arith) ∙ (f p (v.linked p l m)).right))
                (λ q. get_or-set_other cs t k class 0 q ∙ v.done p l m k (omega arith)));
            rest = λ k i. rw e (get_or-set_other cs t k class 0 (λ q. omega arith) ∙ v.rest k (omega arith));
          }

      module _ (h : c.texts ≤ t) (classes : List ℕ) (e : start ≡ replicate (length classes) 0) where
        pub classed_end : (p : List ℕ) → c.texts ≤ length start-links → c.texts ≤ length classes → ClassOfEach (bytes p) cs
        unfolding class_of
        classed_end p l m k =
            let n : c.texts ≤ length start = omega (arith, ap length e ∙ length-replicate (length classes) 0) in
            by_ltb k c.texts
            (λ i. v.done p l n k (omega arith))
            (λ i. v.rest k (omega arith) ∙ sym (rw (text_missing s p c k i) refl))

        pub classed_tell : (p : List ℕ) → c.texts ≤ length start-links → c.texts ≤ length classes → Classes (bytes p) cs
        classed_tell p l m a b = rw (classed_end p l m a, classed_end p l m b) (classes_tell (bytes p) a b)
