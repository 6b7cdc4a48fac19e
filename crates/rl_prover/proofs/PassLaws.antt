-- The first pass: what stands before each argument.
-- Assumes nothing.
use Prim.Native.Nat.{ℕ, ◌+◌, ◌-◌, ◌*◌, ◌≤◌, ◌<◌, min}
use mathlib.Core.Path.{◌≡◌, refl, sym, subst, ◌∙◌}
use mathlib.Core.List.{List, [], ◌∷◌, map}
use native.Mathlib.Omega.{arith}
use lib.ListN.{length}
use Rattle.rl_laws.specs.Tests.{by_ltb}
use Rattle.rl_spec.specs.declared.Counts.{Counts}
use Rattle.rl_spec.specs.Answers.{Folded}
use Rattle.rl_spec.specs.declared.Interval.{Interval}
use Rattle.rl_spec.specs.declared.Param as declared
use Rattle.rl_spec.specs.Image.{Image, text_of, entry_of}
use Rattle.rl_spec.specs.Folded.{folded_of}
use Rattle.rl_spec.specs.Tree.{Expr, expr_tree}
use Rattle.rl_spec.specs.Fold.{Binding, const_eval}
use Rattle.rl_spec.specs.Found.{image_found}
use Rattle.rl_spec.specs.Records.{param_at}
use Rattle.rl_spec.specs.Ranges.{up_from}
use Rattle.rl_spec.specs.FnContracts.{Param, param_of}
use Rattle.rl_spec.specs.Prove.{bound, bind_arguments}
use Rattle.rl_memory.specs.Memory.{Right}
use Rattle.rl_names.specs.Names.{Classes}
use Rattle.rl_fold.specs.Folding.{folded_at, Folds}
use Rattle.rl_fold.proofs.FoldLaws.{from_forth}
use Rattle.rl_prover.specs.Passes.{Passing, Binds, BindsAll, params_in, args_in}
use Rattle.rl_prover.proofs.ListLaws.{from_start, from_end, from_next}

-- the parameters and the arguments from the i-th on
abbrev pub params_from : Image → Interval → ℕ → List (Param ℕ)
params_from im q i = map (param_of im) (up_from (q.first + i) (q.count - i))

abbrev pub args_from : Image → Interval → ℕ → List (Expr ℕ)
args_from im a i = map (λ k. expr_tree im (entry_of im k)) (up_from (a.first + i) (a.count - i))

module _ (im : Image) (cs : List ℕ) (q a : Interval) where
  abbrev all : List (Binding ℕ)
  all = bind_arguments (text_of im) [] (params_in im q) (args_in im a)

  -- what is bound so far, and that the rest of the pass makes all of it
  pub record So-far (w : List ℕ) (count : ℕ) (m : List ℕ) (i : ℕ) : Type 0 where
    pub env : List (Binding ℕ)
    pub passing : Passing im env cs w count m
    pub rest : all ≡ bind_arguments (text_of im) env (params_from im q i) (args_from im a i)

  so_far_start : (w m : List ℕ) → Right (folded_at im []) 0 m → So-far w 0 m 0
  so_far_start w m r =
      record {
        env = [];
        passing = record { names = record { standing = tt; counted = refl }; right = r };
        rest = rw (from_start q.first q.count, from_start a.first a.count) refl;
      }

  so_far_end : (w : List ℕ) (count : ℕ) (m : List ℕ) (i : ℕ) → min q.count a.count ≤ i → So-far w count m i → Passing im all cs w count m
  unfolding bind_arguments
  so_far_end w count m i h s = subst (λ (e : List (Binding ℕ)). Passing im e cs w count m) (sym (s.rest ∙ none_left)) s.passing
    where
      no_args_lem : (ps : List (Param ℕ)) (env : List (Binding ℕ)) → bind_arguments (text_of im) env ps [] ≡ env
      no_args_lem [] env = refl
      no_args_lem (p ∷ ps) env = refl

      no_params : (xs : List (Expr ℕ)) (env : List (Binding ℕ)) → bind_arguments (text_of im) env [] xs ≡ env
      no_params xs env = refl

      none_left : bind_arguments (text_of im) s.env (params_from im q i) (args_from im a i) ≡ s.env
      none_left =
          by_ltb i q.count
          (λ l. rw (from_end a.first a.count i (omega arith)) (no_args_lem (params_from im q i) s.env))
          (λ l. rw (from_end q.first q.count i l) (no_params (args_from im a i) s.env))

module _ (s p : List ℕ) (c : Counts) (cs : List ℕ) (q a : Interval) where
  abbrev im : Image
  im = image_found s p c

  module _ (i : ℕ) (h : i < q.count) (l : i < a.count) (arg : ℕ) (e : (o : List ℕ) → arg ≡ entry_of (image_found s o c) (a.first + i)) (param : declared.Param) (f : (o : List ℕ) → param ≡ param_at (image_found s o c) (q.first + i)) where
    so_far_next : (w m mid out rest : List ℕ) (count r : ℕ) (v : Folded) → So-far im cs q a w count m i → Folds im cs w count arg m v mid → Binds cs w count mid param.name v out r rest → Classes (text_of im) cs → (count + 1) * 3 ≤ length w → So-far im cs q a out r rest (i + 1)
    unfolding bind_arguments param_of
    so_far_next w m mid out rest count r v g x y k n =
        let folded = x g.env g.passing.names g.passing.right in
        let value : folded_of v ≡ const_eval (text_of im) g.env (expr_tree im arg) = from_forth v (const_eval (text_of im) g.env (expr_tree im arg)) folded.0 in
        record {
          env = bound param.name (folded_of v) g.env;
          passing = y im g.env k n (record { names = g.passing.names; right = folded.1 });
          rest = g.rest ∙ rw (from_next q.first q.count i h, from_next a.first a.count i l, ← f p, ← e p, value) refl;
        }

-- ---- the loop

-- what the pass is promised: classes, room for the names, a memory that is right without names
abbrev pub Given : Image → List ℕ → Interval → List ℕ → List ℕ → Type 0
Given im cs q w m = Classes (text_of im) cs × ((q.count * 3 ≤ length w) × Right (folded_at im []) 0 m)

-- before the i-th of the `most` arguments that have parameters
pub record Pass (s p : List ℕ) (c : Counts) (cs : List ℕ) (q a : Interval) (w₀ m₀ : List ℕ) (most : ℕ) (w m : List ℕ) (count i : ℕ) : Type 0 where
  pub shorter : most ≡ min q.count a.count
  pub within : i ≤ most
  pub fewer : count ≤ i
  pub width : length w ≡ length w₀
  pub size : length m ≡ length m₀
  pub so_far : Given (image_found s p c) cs q w₀ m₀ → So-far (image_found s p c) cs q a w count m i

module _ (s p : List ℕ) (c : Counts) (cs : List ℕ) (q a : Interval) (w₀ m₀ : List ℕ) (most : ℕ) where
  pub pass_start : most ≡ min q.count a.count → Pass s p c cs q a w₀ m₀ most w₀ m₀ 0 0
  pass_start e =
      record {
        shorter = e;
        within = omega arith;
        fewer = omega arith;
        width = refl;
        size = refl;
        so_far = λ g. so_far_start (image_found s p c) cs q a w₀ m₀ g.1.1;
      }

  module _ (w m : List ℕ) (count i : ℕ) (t : Pass s p c cs q a w₀ m₀ most w m count i) where
    pub pass_end : most ≤ i → BindsAll (image_found s p c) cs q a w₀ m₀ w count m
    pass_end h cl room right =
        let e = t.shorter in
        so_far_end (image_found s p c) cs q a w count m i (omega arith) (t.so_far (cl, (room, right)))

    pub pass_next : i < most → (arg : ℕ) → ((o : List ℕ) → arg ≡ entry_of (image_found s o c) (a.first + i)) → (v : Folded) (mid : List ℕ) → Folds (image_found s p c) cs w count arg m v mid → (param : declared.Param) → ((o : List ℕ) → param ≡ param_at (image_found s o c) (q.first + i)) → (out rest : List ℕ) (r : ℕ) → Binds cs w count mid param.name v out r rest → r ≤ count + 1 → length out ≡ length w → length mid ≡ length m → length rest ≡ length mid → Pass s p c cs q a w₀ m₀ most out rest r (i + 1)
    pass_next h arg e v mid x param f out rest r y b n z o =
        let less = t.fewer in
        let least = t.shorter in
        let kept = t.width in
        record {
          shorter = least;
          within = omega arith;
          fewer = omega arith;
          width = n ∙ kept;
          size = o ∙ z ∙ t.size;
          so_far =
              λ g.
              let room = g.1.0 in
              so_far_next s p c cs q a i (omega arith) (omega arith) arg e param f w m mid out rest count r v (t.so_far g) x y g.0 (omega arith);
        }
