-- The steps of a list's machine. Assumes nothing.
use Rattle.std.specs.Prelude.{ℕ, ◌+◌, ◌*◌, ◌<◌, ◌≤◌, ◌≡◌, List, [], ◌∷◌, length}
use Rattle.rl_spec.specs.Image.{Image}
use Rattle.rl_spec.specs.Statement.{Body}
use Rattle.rl_spec.specs.Run as run
use Rattle.rl_spec.specs.Run.{Env, Result, Run, fail, leaving}
use Rattle.rl_machine.specs.declared.types.Flow.{Flow}
use Rattle.rl_machine.specs.declared.types.Frame.{Frame}
use Rattle.rl_machine.specs.declared.types.State.{State}
use Rattle.rl_machine.specs.declared.types.State.TheVariants.{Next}
use Rattle.rl_machine.specs.Machine.{by_frame, meaning, FrameRoom, Room, Low, weight}
use Rattle.rl_statements.specs.declared.types.Block.{Block}
use Rattle.rl_statements.specs.Lists.{block_left}

-- what the frames do with a value, the newest first
abbrev pub resume : Image → ℕ → Body ℕ → List Frame → run.Value ℕ → Run ℕ Flow
resume im base rest [] v = fail 1
resume im base rest (f ∷ fs) v = by_frame im base rest f v (resume im base rest fs)

abbrev pub FramesRoom : Image → List Frame → Type 0
FramesRoom im [] = Unit {0}
FramesRoom im (f ∷ fs) = FrameRoom im (length fs) f × FramesRoom im fs

-- falls with each step of the machine
abbrev pub fuel : ℕ → ℕ → State → ℕ
fuel left top st = left * 8 + top * 4 + weight st

-- what the machine comes to in a state: with frames, bindings and a budget
abbrev pub comes_to : Image → ℕ → Body ℕ → State → List Frame → Run ℕ Flow
comes_to im base rest st fs = meaning im base rest st (resume im base rest fs)

-- a step that leaves the list as it is: the machine comes to the same
pub record Goes (im : Image) (bound : ℕ) (st : State) (fs : List Frame) (env : Env ℕ) (n : ℕ) (st' : State) (fs' : List Frame) (env' : Env ℕ) (n' : ℕ) : Type 0 where
  pub means : Room im bound (length fs) st → (base : ℕ) (rest : Body ℕ) → comes_to im base rest st' fs' env' n' ≡ comes_to im base rest st fs env n
  pub room : Room im bound (length fs) st → FramesRoom im fs → Room im bound (length fs') st' × FramesRoom im fs'
  pub falls : fuel n' (length fs') st' < fuel n (length fs) st
  pub less : n' ≤ n

-- a step to the next statement of a list, of which `done` are done
pub record Starts (im : Image) (block : Block) (done : ℕ) (fs : List Frame) (n : ℕ) (st : State) (done' : ℕ) (fs' : List Frame) (n' : ℕ) : Type 0 where
  pub means : (base : ℕ) (env : Env ℕ) → comes_to im base (block_left im block done') st fs' env n' ≡ comes_to im base (block_left im block done) Next fs env n
  pub room : Low im → FramesRoom im fs → Room im block.bound (length fs') st × FramesRoom im fs'
  pub falls : fuel n' (length fs') st < fuel n (length fs) Next
  pub less : n' ≤ n

-- where a list stands: with what follows, the machine comes to the whole
pub record Stands (im : Image) (follow : Result ℕ Flow → Result ℕ Flow) (whole : Result ℕ Flow) (block : Block) (budget : ℕ) (env : Env ℕ) (left base done : ℕ) (fs : List Frame) (st : State) : Type 0 where
  pub means : follow (comes_to im base (block_left im block done) st fs env left) ≡ whole
  pub room : Room im block.bound (length fs) st
  pub frames : FramesRoom im fs
  pub less : left ≤ budget
