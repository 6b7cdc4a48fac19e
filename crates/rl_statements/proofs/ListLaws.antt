-- Where a list stands: with each step its machine comes to the same. Assumes nothing.
use Prim.Native.Nat.{ℕ, ◌-◌, ◌<◌}
use mathlib.Core.Path.{◌≡◌, ap, ◌∙◌, sym, subst}
use mathlib.Core.List.{List}
use native.Mathlib.Omega.{arith}
use lib.ListN.{length}
use Rattle.rl_spec.specs.Image.{Image}
use Rattle.rl_spec.specs.Run.{Env, Result, and_then}
use Rattle.rl_machine.specs.declared.types.Flow.{Flow}
use Rattle.rl_machine.specs.declared.types.Frame.{Frame}
use Rattle.rl_machine.specs.declared.types.State.{State}
use Rattle.rl_machine.specs.declared.types.State.TheVariants.{Compound}
use Rattle.rl_machine.specs.Machine.{after, Room, Follows}
use Rattle.rl_statements.specs.declared.types.Block.{Block}
use Rattle.rl_statements.specs.declared.types.Ran.{Ran}
use Rattle.rl_statements.specs.Lists.{block_left, statement_run, Runs}
use Rattle.rl_statements.specs.Steps.{resume, fuel, Goes, Stands}

all_less : (n : ℕ) → n - n ≡ 0
all_less n = omega arith

module _ (im : Image) (follow : Result ℕ Flow → Result ℕ Flow) (whole : Result ℕ Flow) (block : Block) (budget : ℕ) (env : Env ℕ) (left base done : ℕ) (fs : List Frame) (st : State)
    (h : Stands im follow whole block budget env left base done fs st) where
  abbrev At : Env ℕ → ℕ → ℕ → ℕ → List Frame → State → Type 0
  At env left base done fs st = Stands im follow whole block budget env left base done fs st

  -- in the state x
  as_in : (x : State) → st ≡ x → At env left base done fs x
  as_in x e = subst (At env left base done fs) e h

  pub stands_on : (x st' : State) (fs' : List Frame) (env' : Env ℕ) (left' : ℕ) → st ≡ x → Goes im block.bound x fs env left st' fs' env' left' → At env' left' base done fs' st'
  stands_on x st' fs' env' left' e g =
      record {
        means = ap follow (g.means (as_in x e).room base (block_left im block done)) ∙ (as_in x e).means;
        room = (g.room (as_in x e).room h.frames).0;
        frames = (g.room (as_in x e).room h.frames).1;
        less = omega (arith, g.less, h.less);
      }

  pub goes_lower : (x st' : State) (fs' : List Frame) (env' : Env ℕ) (left' : ℕ) → st ≡ x → Goes im block.bound x fs env left st' fs' env' left'
      → fuel left' (length fs') st' < fuel left (length fs) st
  goes_lower x st' fs' env' left' e g = subst (λ y. fuel left' (length fs') st' < fuel left (length fs) y) (sym e) g.falls

  module _ (s : ℕ) (e : st ≡ Compound s) (r : Ran) (q : Runs (statement_run im s) env left r) (st' : State) where
    pub stands_compound : ((im : Image) → Follows im r.flow st') → ((im : Image) (bound t : ℕ) → Room im bound t st') → At r.env r.left base done fs st'
    stands_compound g m =
        record {
          means = ap follow (g im base (block_left im block done) (resume im base (block_left im block done) fs) r.env r.left
              ∙ ap (λ x. and_then x (after im base (block_left im block done))) q.does) ∙ (as_in (Compound s) e).means;
          room = m im block.bound (length fs);
          frames = h.frames;
          less = omega (arith, q.less, h.less);
        }
