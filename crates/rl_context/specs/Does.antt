-- What code does where it carries out a computation that makes records.
use Rattle.std.specs.Prelude.{◌≡◌, ℕ, ◌+◌, ◌<◌, true, false, List, [], ◌∷◌, ◌++◌, length}
use Rattle.std.proofs.Math.Option.{Option, some}
use Rattle.rl_spec.specs.declared.Section.TheVariants.{Lists}
use Rattle.rl_spec.specs.declared.Interval.{Interval}
use Rattle.rl_spec.specs.Image.{pair, Image, size_of}
use Rattle.rl_spec.specs.Make.{Context, Make, and_then, new_list}
use Rattle.rl_images.specs.Lowering.Gives.{Gives}
use Rattle.rl_context.specs.declared.Ctx.{Ctx}
use Rattle.rl_context.specs.Additions.{Live}

-- where the code stands
pub record State : Type 0 where
  pub ctx : Ctx
  pub scratch : List ℕ
  pub waiting : List ℕ

abbrev pub at : Ctx → List ℕ → List ℕ → State
at ctx scratch waiting = record { ctx = ctx; scratch = scratch; waiting = waiting }

-- which entries of what was made wait: none, the one, all
abbrev pub nothing : {A : Type 0} → A → List ℕ
nothing a = []

abbrev pub one : ℕ → List ℕ
one n = n ∷ []

abbrev pub all : List ℕ → List ℕ
all ns = ns

-- the list entries that there are and those that wait are more than there may be: the lists that are being made cannot be finished
pub record Over (ws : List ℕ) (x : Context) : Type 0 where
  pub sections : length x.image.records ≡ 8
  pub more : 4096 < size_of x.image Lists + length ws

pub record Lives {A : Type 0} (im : Image) (slack : ℕ) (pushed : A → List ℕ) (ws : List ℕ) (o : Option (A × Context)) (a : A) (s : State) : Type 0 where
  pub here : Context
  pub is : o ≡ some (a, here)
  pub live : Live im slack here (ws ++ pushed a) s.ctx s.scratch s.waiting

-- the code has what the computation gave; or the computation stopped at a limit, or cannot but do so
pub record Ends {A : Type 0} (im : Image) (slack : ℕ) (pushed : A → List ℕ) (ws : List ℕ) (o : Option (A × Context)) (a : A) (s : State) : Type 0 where
  pub full : s.ctx.full ≡ true → Gives (λ b x. Over (ws ++ pushed b) x) o
  pub live : s.ctx.full ≡ false → Lives im slack pushed ws o a s

abbrev pub Start : Image → ℕ → List ℕ → Option (Unit {0} × Context) → State → Type 0
Start im slack ws o s = Ends im slack (nothing {A = Unit {0}}) ws o tt s

-- from one state to another
pub record Does {A : Type 0} (im : Image) (j k : ℕ) (pushed : A → List ℕ) (m : Make A) (s : State) (a : A) (t : State) : Type 0 where
  pub does : (ws : List ℕ) (o : Option (Unit {0} × Context)) → Start im j ws o s → Ends im k pushed ws (and_then o (λ _. m)) a t

-- an entry is put among those that wait
pub record Pushes (n : ℕ) (s t : State) : Type 0 where
  pub pushes : (im : Image) (slack : ℕ) (ws : List ℕ) (o : Option (ℕ × Context)) → Ends im slack nothing ws o n s → Ends im slack one ws o n t

-- the entries that wait, but for the first so many, become a list
pub record Listed (first : ℕ) (s : State) (list : Interval) (t : State) : Type 0 where
  pub listed : (im : Image) (slack : ℕ) (ws ns : List ℕ) (o : Option (List ℕ × Context)) → (s.ctx.full ≡ false → first ≡ length ws) → Ends im slack all ws o ns s →
      Ends im slack nothing ws (and_then o new_list) (pair list.first list.count) t
