-- What is known where lowering makes an image.
-- Assumes nothing.
use Rattle.std.specs.Prelude.{◌≡◌, ℕ, suc, ◌<◌, ◌≤◌, List, [], ◌∷◌, slice_index, Ok}
use Rattle.std.proofs.Common.{subst, inl, inr, lt_of_not-le}
use Rattle.std.proofs.Math.Option.{some}
use Rattle.rl_spec.specs.declared.ArenaNo.{ArenaNo}
use Rattle.rl_spec.specs.declared.Counts.{Counts}
use Rattle.rl_spec.specs.Answers.{accepted}
use Rattle.rl_spec.specs.declared.Section.TheVariants.{Expressions, Statements, Functions}
use Rattle.rl_spec.specs.Read.{answer_of}
use Rattle.rl_spec.specs.Image.{Image, heights, image_of}
use Rattle.rl_spec.specs.Lower.{lowered}
use Rattle.rl_spec.specs.Lowerer.{lower_of}
use Rattle.rl_images.specs.Reading.Table.{unmet_parts}
use Rattle.rl_images.specs.Reading.Rows.{read_rows}
use Rattle.rl_laws.specs.Tests.{not_below}
use Rattle.rl_images.specs.Reading.ReadOutcome.{read_accepts}
use Rattle.rl_images.specs.Reading.Starts.{sizes_are_counts}
use Rattle.rl_theorems.specs.Answers.OfLowering.{making_rows, making_accepts}
use Rattle.rl_theorems.specs.Images.FunctionReady.{Under}

pub under : (most : ℕ) (hs : List ℕ) → ((i : ℕ) → most < slice_index hs i → ⊥) → Under most hs
under most [] h = tt
under most (x ∷ hs) h = (not_below most x (h 0), under most hs (λ i. h (suc i)))

module _ (s : List ℕ) (k f room : ℕ) where
  pub record Made (im' : Image) : Type 0 where
    pub arena : ArenaNo
    pub counts : Counts
    pub accepted : answer_of s k ≡ accepted arena counts
    pub there : f < counts.functions
    pub low : Under 64 (heights (image_of s) Expressions)
    pub lower : Under 32 (heights (image_of s) Statements)
    pub long : 65535 ≤ room
    pub is : lowered (image_of s) f ≡ some im'

  -- THEOREM
  pub made_for : (im' : Image) → lower_of s k f room ≡ Ok im' → Made im'
  made_for im' e =
      let x = (making_accepts s k f room im').0 e in
      let u = unmet_parts (read_rows s k) (making_rows (image_of s) f room) x.0 in
      let r = (read_accepts s k).1 u.0 in
      record {
        arena = r.0;
        counts = r.1;
        accepted = r.2;
        there = subst (λ n. f < n) (sizes_are_counts s k r.0 r.1 r.2 Functions) (lt_of_not-le u.1.0);
        low = under 64 (heights (image_of s) Expressions) (λ i l. u.1.1.0 (inl (i, l)));
        lower = under 32 (heights (image_of s) Statements) (λ i l. u.1.1.0 (inr (i, l)));
        long = not_below room 65535 u.1.1.1.0;
        is = x.1;
      }
