-- The loops over a list's statements and arms.
-- Assumes nothing.
use Prim.Native.Nat.{ℕ, zero, suc, ◌+◌, ◌-◌, ◌≤◌, ◌<◌}
use mathlib.Core.Path.{◌≡◌, ap, ap₂, sym, ◌∙◌, subst}
use mathlib.Core.List.{List, [], ◌∷◌, ◌++◌, map, append_assoc}
use native.Mathlib.Omega.{arith}
use native.Mathlib.Nat.{add-zero, sub-zero, add_assoc}
use Rattle.rl_spec.specs.declared.Section.{Section}
use Rattle.rl_spec.specs.declared.Target.{Target}
use Rattle.rl_spec.specs.Image.{Image, entry_of, Refers, Entries}
use Rattle.rl_spec.specs.Ranges.{up_from}
use Rattle.rl_spec.specs.Make.{Make, each, flat_map}
use Rattle.rl_context.specs.Does.{State, nothing, all, Does, Pushes}
use Rattle.rl_context.proofs.Composed.{does_push, does_each, does_flat}
use Rattle.rl_images.specs.Lowering.Adds.{Adds, adds_each, adds_flat}
use Rattle.rl_context.proofs.StaysOver.{keeps_one, keeps_all}
use Rattle.rl_context.proofs.CopiedEntries.{up_suc, does_nil}
use Rattle.rl_context.specs.Guards.{Makes, Gathers}

-- what is left
abbrev left : {A : Type 0} → (ℕ → A) → ℕ → ℕ → ℕ → List A
left g a n i = map g (up_from (a + i) (n - i))

module _ {A : Type 0} (g : ℕ → A) (a n : ℕ) where
  next_left : (i : ℕ) → i < n → left g a n i ≡ g (a + i) ∷ left g a n (i + 1)
  next_left i h = ap (map g) (cons (n - i) (n - (i + 1)) (omega arith) ∙ ap (λ z. (a + i) ∷ up_from z (n - (i + 1))) (add_assoc a i 1))
    where
      cons : (m k : ℕ) → m ≡ suc k → up_from (a + i) m ≡ (a + i) ∷ up_from (a + i + 1) k
      cons m k e = ap (up_from (a + i)) e ∙ up_suc (a + i) k

  all_left : left g a n 0 ≡ map g (up_from a n)
  all_left = ap₂ (λ k m. map g (up_from k m)) (add-zero a) (sub-zero n)

  none_left : (i : ℕ) → n ≤ i → i ≤ n → left g a n i ≡ []
  unfolding up_from
  none_left i h k = ap (λ m. map g (up_from (a + i) m)) z
    where
      z : n - i ≡ 0
      z = omega arith

-- ---- an entry of a list that fits

pub entries_in_lem : (im : Image) (o : Section) (i n k : ℕ) (l : Target) → Entries im o i n k l l → (j : ℕ) → j < n → Refers im o i l (entry_of im (k + j))
entries_in_lem im o i zero k l es j h = absurd (omega arith)
entries_in_lem im o i (suc n) k l es zero h = subst (λ z. Refers im o i l (entry_of im z)) (sym (add-zero k)) es.0
entries_in_lem im o i (suc n) k l es (suc j) h = subst (λ z. Refers im o i l (entry_of im z)) (next k j) (entries_in_lem im o i n (k + 1) l es.1 j (omega arith))
  where
    next : (a b : ℕ) → a + 1 + b ≡ a + suc b
    next a b = omega arith

-- ---- each by a list

-- of what the numbers from `a` on stand for
pub record Gathering {A : Type 0} (im : Image) (g : ℕ → A) (f : A → Make (List ℕ)) (a n : ℕ) (start here : State) (i : ℕ) : Type 0 where
  pub some : i ≤ n
  pub done : List ℕ
  pub follows : (ns : List ℕ) (t : State) → Does im 0 0 all (flat_map f (left g a n i)) here ns t → Does im 0 0 all (flat_map f (map g (up_from a n))) start (done ++ ns) t

module _ {A : Type 0} (im : Image) (g : ℕ → A) (f : A → Make (List ℕ)) (more : (x : A) → Adds (f x)) (a n : ℕ) (start : State) where
  pub gather_none : Gathering im g f a n start start 0
  gather_none = record { some = omega arith; done = []; follows = λ ns t d. subst (λ z. Does im 0 0 all (flat_map f z) start ns t) (all_left g a n) d }

  pub gather_more : (here next : State) (i : ℕ) → Gathering im g f a n start here i → i < n → (e : A) → e ≡ g (a + i) → Gathers im 0 (f e) here next → Gathering im g f a n start next (i + 1)
  gather_more here next i w h e q d =
      record {
        some = omega arith;
        done = w.done ++ d.0;
        follows = λ ns t k.
            subst (λ z. Does im 0 0 all (flat_map f (map g (up_from a n))) start z t) (sym (append_assoc w.done d.0 ns))
            (w.follows (d.0 ++ ns) t
            (subst (λ z. Does im 0 0 all (flat_map f z) here (d.0 ++ ns) t) (sym (next_left g a n i h))
            (does_flat f (g (a + i)) (left g a n (i + 1)) (keeps_all (adds_flat more (left g a n (i + 1)))) (subst (λ z. Does im 0 0 all (f z) here d.0 next) q d.1) k)));
      }

  pub gather_all : (here : State) (i : ℕ) → Gathering im g f a n start here i → n ≤ i → Gathers im 0 (flat_map f (map g (up_from a n))) start here
  unfolding flat_map
  gather_all here i w h = (w.done ++ [], w.follows [] here (subst (λ z. Does im 0 0 all (flat_map f z) here [] here) (sym (none_left g a n i h w.some)) (does_nil im here)))

-- of a list's entries
abbrev pub Flat : Image → (ℕ → Make (List ℕ)) → ℕ → ℕ → State → State → ℕ → Type 0
Flat im f a n start here i = Gathering im (entry_of im) f a n start here i

module _ (im : Image) (f : ℕ → Make (List ℕ)) (more : (j : ℕ) → Adds (f j)) (a n : ℕ) (start : State) where
  pub flat_more : (here next : State) (i : ℕ) → Flat im f a n start here i → i < n → (e : ℕ) → e ≡ entry_of im (a + i) → Gathers im 0 (f e) here next → Flat im f a n start next (i + 1)
  flat_more = gather_more im (entry_of im) f more a n start

  pub flat_all : (here : State) (i : ℕ) → Flat im f a n start here i → n ≤ i → Gathers im 0 (flat_map f (map (entry_of im) (up_from a n))) start here
  flat_all = gather_all im (entry_of im) f more a n start

-- ---- each by one

pub record Each (im : Image) (f : ℕ → Make ℕ) (a n : ℕ) (start here : State) (i : ℕ) : Type 0 where
  pub some : i ≤ n
  pub done : List ℕ
  pub follows : (ns : List ℕ) (t : State) → Does im 0 0 all (each f (left (entry_of im) a n i)) here ns t → Does im 0 0 all (each f (map (entry_of im) (up_from a n))) start (done ++ ns) t

module _ (im : Image) (f : ℕ → Make ℕ) (more : (j : ℕ) → Adds (f j)) (a n : ℕ) (start : State) where
  pub each_none : Each im f a n start start 0
  each_none = record { some = omega arith; done = []; follows = λ ns t d. subst (λ z. Does im 0 0 all (each f z) start ns t) (all_left (entry_of im) a n) d }

  pub each_more : (here mid next : State) (i : ℕ) → Each im f a n start here i → i < n → (e m : ℕ) → e ≡ entry_of im (a + i) → Makes im (f e) here m mid → Pushes m mid next → Each im f a n start next (i + 1)
  each_more here mid next i w h e m g d p =
      record {
        some = omega arith;
        done = w.done ++ m ∷ [];
        follows = λ ns t k.
            subst (λ z. Does im 0 0 all (each f (map (entry_of im) (up_from a n))) start z t) (sym (append_assoc w.done (m ∷ []) ns))
            (w.follows (m ∷ ns) t
            (subst (λ z. Does im 0 0 all (each f z) here (m ∷ ns) t) (sym (next_left (entry_of im) a n i h))
            (does_each f (entry_of im (a + i)) (left (entry_of im) a n (i + 1)) (keeps_one (λ b bs. b ∷ bs) (adds_each more (left (entry_of im) a n (i + 1))) (λ b bs. omega arith))
            (does_push (subst (λ z. Does im 0 0 nothing (f z) here m mid) g d) p) k)));
      }

  pub each_all : (here : State) (i : ℕ) → Each im f a n start here i → n ≤ i → Gathers im 0 (each f (map (entry_of im) (up_from a n))) start here
  unfolding each
  each_all here i w h = (w.done ++ [], w.follows [] here (subst (λ z. Does im 0 0 all (each f z) here [] here) (sym (none_left (entry_of im) a n i h w.some)) (does_nil im here)))
