-- The steps of a list's machine. Assumes nothing.
use Prim.Native.Nat.{ℕ, suc, ◌+◌, ◌-◌, ◌<◌, ◌≤◌}
use mathlib.Core.Path.{◌≡◌, refl, ap, ◌∙◌, sym, subst}
use mathlib.Core.Bool.{Bool, true, false, cond, ◌&&◌}
use mathlib.Core.List.{List, [], ◌∷◌}
use native.Mathlib.Omega.{arith}
use lib.Dec.{eqb, ltb}
use lib.ListN.{length, drop}
use Rattle.std.specs.Prelude as std
use Rattle.std.specs.Prelude.{None, Some}
use Rattle.rl_spec.specs.declared.Outcome.TheVariants.{Spent}
use Rattle.rl_spec.specs.declared.Value.{Value}
use Rattle.rl_spec.specs.Image.{Image, entry_of, text_of}
use Rattle.rl_spec.specs.Statement.{Body, ◌▸◌, as_statement}
use Rattle.rl_spec.specs.Run.{Env, and_then, leaving, eval}
use Rattle.rl_spec.specs.Runner.{value_of}
use Rattle.rl_spec.specs.Reading.{body}
use Rattle.rl_machine.specs.declared.types.Flow.TheVariants.{Onward, Over}
use Rattle.rl_machine.specs.declared.types.Frame.{Frame}
use Rattle.rl_machine.specs.declared.types.State.{State}
use Rattle.rl_machine.specs.declared.types.State.TheVariants.{Next, Tested, Compound, Visit, Push, Look, Store, Bind, Give, Ends}
use Rattle.rl_machine.specs.Machine.{body_run, by_frame, FrameRoom, tree_under, item_under, last_as, Room, Low, Enters, EntersRoom, Resumes, ResumesRoom, Begins, weight}
use Rattle.rl_statements.specs.declared.types.Block.{Block}
use Rattle.rl_statements.specs.Frames.{newest}
use Rattle.rl_statements.specs.Lists.{block_left}
use Rattle.rl_statements.specs.Steps.{resume, Goes, Starts}
use Rattle.rl_statements.proofs.Rests.{eval_spent, first_spent, first_begun, none_left, some_left}

pub weight_most : (st : State) → weight st ≤ 6
weight_most Next = omega arith
weight_most (Tested t) = omega arith
weight_most (Compound s) = omega arith
weight_most (Visit n l) = omega arith
weight_most (Push f n l) = omega arith
weight_most (Look x) = omega arith
weight_most (Store x v) = omega arith
weight_most (Bind x v) = omega arith
weight_most (Give v) = omega arith
weight_most (Ends f) = omega arith

one_more : (n : ℕ) → (n ≡ 0 → ⊥) → suc (n - 1) ≡ n
one_more n h = omega (arith, h)

-- ---- nodes

module _ (im : Image) (bound : ℕ) (fs : List Frame) (env : Env ℕ) (left : ℕ) (r : State) where
  module _ (n limit : ℕ) where
    pub visit_spent : left ≡ 0 → r ≡ Ends (Over Spent) → Goes im bound (Visit n limit) fs env left r fs env left
    visit_spent z e =
        rw (e, z)
        record {
          means = λ h base rest. sym (ap (λ x. and_then x (resume im base rest fs)) (eval_spent (text_of im) (tree_under im limit n) env));
          room = λ h q. (tt, q);
          falls = omega arith;
          less = omega arith;
        }

    pub visit_node : (left ≡ 0 → ⊥) → Enters im (tree_under im limit n) r → EntersRoom im (tree_under im limit n) r → Goes im bound (Visit n limit) fs env left r fs env (left - 1)
    visit_node p m q =
        record {
          means = λ h base rest. m base rest (resume im base rest fs) env (left - 1)
              ∙ ap (λ j. and_then (eval (text_of im) (tree_under im limit n) env j) (resume im base rest fs)) (one_more left p);
          room = λ h k. (q bound (length fs) h, k);
          falls = omega (arith, p, weight_most r);
          less = omega arith;
        }

  module _ (f : Frame) (n limit : ℕ) (b : Bool) (fs' : List Frame) (e : b ≡ ltb (length fs) 69) (g : fs' ≡ cond b (f ∷ fs) fs) where
    pub push_room : b ≡ true → (left' : ℕ) → ((bound : ℕ) (fs : List Frame) (env : Env ℕ) → Goes im bound (Visit n limit) fs env left r fs env left')
        → Goes im bound (Push f n limit) fs env left r fs' env left'
    push_room h left' q =
        rw (g, h)
        record {
          means = λ k base rest. (q bound (f ∷ fs) env).means (omega (arith, k.0)) base rest;
          room = λ k l. (q bound (f ∷ fs) env).room (omega (arith, k.0)) (k.1, l);
          falls = omega (arith, (q bound (f ∷ fs) env).falls);
          less = (q bound (f ∷ fs) env).less;
        }

-- ---- a value for the newest frame

module _ (im : Image) (bound : ℕ) (env : Env ℕ) (left : ℕ) (v : Value) (r : State) where
  pub give_frame : (fs fs' : List Frame) (p : std.Option Frame) → p ≡ newest fs → fs' ≡ drop 1 fs → (f : Frame) → p ≡ Some f → Resumes im f (value_of v) r → ResumesRoom im f r
      → Goes im bound (Give v) fs env left r fs' env left
  give_frame [] fs' p e g f h m q = absurd (subst Full (sym e ∙ h) tt)
    where
      Full : std.Option Frame → Type 0
      Full None = Unit {0}
      Full (Some x) = ⊥
  give_frame (x ∷ fs) fs' p e g f h m q =
      rw g
      record {
        means = λ k base rest. m base rest (resume im base rest fs) env left ∙ ap (λ y. by_frame im base rest y (value_of v) (resume im base rest fs) env left) (sym same);
        room = λ k l. (q bound (length fs) (subst (λ y. FrameRoom im (length fs) y) same l.0), l.1);
        falls = omega (arith, weight_most r);
        less = omega arith;
      }
    where
      or_x : std.Option Frame → Frame
      or_x None = x
      or_x (Some y) = y

      same : x ≡ f
      same = ap or_x (sym e ∙ h)

-- ---- statements

module _ (im : Image) (block : Block) (done : ℕ) (fs : List Frame) (left : ℕ) where
  pub start_over : block.body.count ≤ done → Starts im block done fs left (Ends Onward) done fs left
  unfolding body
  start_over h =
      record {
        means = λ base env. sym (ap (λ b. leaving base (body_run im b env left)) (none_left im block.bound block.body block.outermost done h));
        room = λ low k. (tt, k);
        falls = omega arith;
        less = omega arith;
      }

  pub start_spent : (r : State) → done < block.body.count → left ≡ 0 → r ≡ Ends (Over Spent) → Starts im block done fs left r done fs left
  start_spent r h z e =
      rw (e, z)
      record {
        means = λ base env. sym (ap (λ b. leaving base (body_run im b env 0)) (some_left im block.bound block.body block.outermost (block.outermost && eqb (done + 1) block.body.count) done h refl)
            ∙ first_spent im base _ _ env);
        room = λ low k. (tt, k);
        falls = omega arith;
        less = omega arith;
      }

  pub start_next : (last : Bool) (s : ℕ) (r : State) (fs' : List Frame) → done < block.body.count → (left ≡ 0 → ⊥) → last ≡ (block.outermost && eqb (done + 1) block.body.count)
      → s ≡ entry_of im (block.body.first + done) → fs' ≡ [] → Begins im (last_as last (as_statement (item_under im block.bound s))) r
      → ((im : Image) → Low im → Room im block.bound 0 r) → Starts im block done fs left r (done + 1) fs' (left - 1)
  start_next last s r fs' h p l q g b m =
      rw g
      record {
        means = λ base env. b base (rest (done + 1)) (resume im base (rest (done + 1)) []) env (left - 1)
            ∙ sym (first_begun im base (last_as last (as_statement (item_under im block.bound s))) (rest (done + 1)) env (left - 1))
            ∙ ap (λ m. leaving base (body_run im (last_as last (as_statement (item_under im block.bound s)) ▸ rest (done + 1)) env m)) (one_more left p)
            ∙ ap (λ m. leaving base (body_run im (last_as last (as_statement (item_under im block.bound m)) ▸ rest (done + 1)) env left)) q
            ∙ ap (λ b. leaving base (body_run im b env left)) (sym (some_left im block.bound block.body block.outermost last done h l));
        room = λ low k. (m im low, tt);
        falls = omega (arith, p, weight_most r);
        less = omega arith;
      }
    where
      rest : ℕ → Body ℕ
      rest j = block_left im block j

-- ---- whether the statement that is begun is the body's last

module _ (outermost last : Bool) (d n m : ℕ) where
  pub is_last : outermost ≡ true → last ≡ eqb d n → n ≡ m → last ≡ (outermost && eqb d m)
  is_last e f g = f ∙ ap (eqb d) g ∙ sym (rw e refl)

  pub not_last : outermost ≡ false → last ≡ outermost → last ≡ (outermost && eqb d m)
  not_last e f = f ∙ e ∙ sym (rw e refl)
