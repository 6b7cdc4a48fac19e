-- A list's end: another turn of its loop, or the end of the run of the list. Assumes nothing.
use Prim.Native.Nat.{ℕ, suc, ◌-◌}
use mathlib.Core.Path.{◌≡◌, refl, ap, ◌∙◌, sym, subst}
use mathlib.Core.Bool.{Bool, true, false}
use mathlib.Core.List.{List, []}
use mathlib.Core.Option.{Option, none, some}
use native.Mathlib.Omega.{arith}
use lib.ListN.{length, drop}
use Rattle.rl_spec.specs.Answers.{Optional}
use Rattle.rl_spec.specs.declared.Outcome.TheVariants.{Spent}
use Rattle.rl_spec.specs.Image.{Image, text_of}
use Rattle.rl_spec.specs.Tree.{Expr, optional_tree}
use Rattle.rl_spec.specs.Statement.{Body}
use Rattle.rl_spec.specs.Run as run
use Rattle.rl_spec.specs.Run.{Result, got, ended, Run, and_then, leaving, scoped}
use Rattle.rl_spec.specs.Reading as reading
use Rattle.rl_spec.specs.Reading.{plainly, turns, again, when, taken, body}
use Rattle.rl_laws.specs.Steps.{while_unfolds, loop_unfolds}
use Rattle.rl_machine.specs.declared.types.Flow.{Flow}
use Rattle.rl_machine.specs.declared.types.Flow.TheVariants.{Onward, Breaks, Continues, Skipped, Over}
use Rattle.rl_machine.specs.declared.types.State.{State}
use Rattle.rl_machine.specs.declared.types.State.TheVariants.{Ends}
use Rattle.rl_machine.specs.Machine.{result_of, flows, guarded, tested, Room, Low, Means}
use Rattle.std.specs.Prelude as std
use Rattle.std.specs.Prelude.{None, Some}
use Rattle.rl_machine.specs.declared.types.Frame.{Frame}
use Rattle.rl_statements.specs.declared.types.Block.{Block}
use Rattle.rl_statements.specs.Lists.{block_left, block_run, turn_of, by_turn, loop_rest, turned, turn_after, BeginsList, Runs}
use Rattle.rl_statements.specs.Steps.{resume, Stands}

-- ---- a turn

turn_ended : (k : Run ℕ reading.Flow) (base : ℕ) (r : Result ℕ reading.Flow) →
    and_then (leaving base (flows r)) (by_turn k) ≡ and_then (leaving base r) (λ f. again f k)
turn_ended k base (got reading.onward env n) = refl
turn_ended k base (got reading.breaks env n) = refl
turn_ended k base (got reading.continues env n) = refl
turn_ended k base (ended o n) = refl

turn_tested : (im : Image) (b : Body ℕ) (k : Run ℕ reading.Flow) (r : Result ℕ Bool) →
    and_then (and_then r (λ t. tested im t (λ env n. leaving (length env) (flows (body (text_of im) plainly b env n))))) (by_turn k)
    ≡ and_then r (λ t. when t (λ env n. and_then (scoped (body (text_of im) plainly b) env n) (λ f. again f k)) (run.give reading.onward))
turn_tested im b k (got true env n) = turn_ended k (length env) (body (text_of im) plainly b env n)
turn_tested im b k (got false env n) = refl
turn_tested im b k (ended o n) = refl

turn_guarded : (im : Image) (c : Option (Expr ℕ)) (b : Body ℕ) (k : Run ℕ reading.Flow) (env : run.Env ℕ) (n : ℕ) →
    and_then (guarded im c b env n) (by_turn k) ≡ turn_of im c b k env n
turn_guarded im none b k env n = turn_ended k (length env) (body (text_of im) plainly b env n)
turn_guarded im (some e) b k env n = turn_tested im b k (taken (text_of im) (some e) env n)

-- a turn, and the rest of the loop
loop_turn_lem : (im : Image) (c : Option (Expr ℕ)) (b : Body ℕ) (env : run.Env ℕ) (n : ℕ) →
    turned im true c b (guarded im c b env n) ≡ flows (loop_rest im c b env (suc n))
loop_turn_lem im none b env n = ap flows (turn_guarded im none b (loop_rest im none b) env n ∙ sym (loop_unfolds (text_of im) plainly b env (suc n)))
loop_turn_lem im (some e) b env n = ap flows (turn_guarded im (some e) b (loop_rest im (some e) b) env n ∙ sym (while_unfolds (text_of im) plainly e b env (suc n)))

loop_spent : (im : Image) (c : Option (Expr ℕ)) (b : Body ℕ) (env : run.Env ℕ) → flows (loop_rest im c b env 0) ≡ ended run.spent 0
unfolding turns
loop_spent im c b env = refl

-- ---- what a turn's end says

abbrev IsAgain : std.Option Flow → Type 0
IsAgain None = Unit {0}
IsAgain (Some g) = ⊥

abbrev IsFinish : std.Option Flow → Type 0
IsFinish None = ⊥
IsFinish (Some g) = Unit {0}

abbrev finish_of : std.Option Flow → Flow
finish_of None = Onward
finish_of (Some g) = g

module _ (im : Image) (c : Option (Expr ℕ)) (b : Body ℕ) (env : run.Env ℕ) (n : ℕ) where
  finished : (l : Bool) (f g : Flow) → turn_after l f ≡ Some g → result_of g env n ≡ turned im l c b (result_of f env n)
  finished false f g e = ap (λ x. result_of x env n) (sym (ap finish_of e))
  finished true Onward g e = absurd (subst IsAgain e tt)
  finished true Breaks g e = ap (λ x. result_of x env n) (sym (ap finish_of e))
  finished true Continues g e = absurd (subst IsAgain e tt)
  finished true Skipped g e = ap (λ x. result_of x env n) (sym (ap finish_of e))
  finished true (Over o) g e = ap (λ x. result_of x env n) (sym (ap finish_of e))

  goes_on : (l : Bool) (f : Flow) → turn_after l f ≡ None → flows (loop_rest im c b env n) ≡ turned im l c b (result_of f env n)
  goes_on false f e = absurd (subst IsFinish e tt)
  goes_on true Onward e = refl
  goes_on true Breaks e = absurd (subst IsFinish e tt)
  goes_on true Continues e = refl
  goes_on true Skipped e = absurd (subst IsFinish e tt)
  goes_on true (Over o) e = absurd (subst IsFinish e tt)

  is_loop : (l : Bool) (f : Flow) → turn_after l f ≡ None → l ≡ true
  is_loop false f e = absurd (subst IsFinish e tt)
  is_loop true f e = refl

-- ---- what a list begins with

all_less : (n : ℕ) → n - n ≡ 0
all_less n = omega arith

-- nothing was bound since
pub loop_first : (condition : Optional) → BeginsList true condition (Ends Onward)
loop_first condition im rest k env n = ap (λ m. turned im true (optional_tree im condition) rest (got Onward (drop m env) n)) (all_less (length env))

-- ---- the end of a list

one_more : (n : ℕ) → (n ≡ 0 → ⊥) → suc (n - 1) ≡ n
one_more n h = omega (arith, h)

-- the scope is closed
closed : (env : run.Env ℕ) (base left : ℕ) (f : Flow) → result_of f (drop (length env - base) env) left ≡ leaving base (result_of f env left)
closed env base left Onward = refl
closed env base left Breaks = refl
closed env base left Continues = refl
closed env base left Skipped = refl
closed env base left (Over o) = refl

-- where a list of an image stands that began with the bindings env
abbrev pub Listing : Image → Block → ℕ → run.Env ℕ → run.Env ℕ → ℕ → ℕ → ℕ → List Frame → State → Type 0
Listing im block budget env₀ env left base done fs st =
    Stands im (turned im block.looping (optional_tree im block.condition) (block_left im block 0)) (block_run im block env₀ budget) block budget env left base done fs st

module _ (im : Image) (block : Block) (budget : ℕ) (env₀ : run.Env ℕ) where
  abbrev c : Option (Expr ℕ)
  c = optional_tree im block.condition

  abbrev b : Body ℕ
  b = block_left im block 0

  abbrev At : run.Env ℕ → ℕ → ℕ → ℕ → List Frame → State → Type 0
  At env left base done fs st = Listing im block budget env₀ env left base done fs st

  pub list_begins : (fs : List Frame) (base : ℕ) (st : State) → fs ≡ [] → base ≡ length env₀ → BeginsList block.looping block.condition st
      → ((im : Image) (bound : ℕ) → Low im → Room im bound 0 st) → Low im → At env₀ budget base 0 fs st
  list_begins fs base st d z m r l =
      rw (d, z)
      record {
        means = m im b (resume im (length env₀) b []) env₀ budget;
        room = r im block.bound l;
        frames = tt;
        less = omega arith;
      }

  module _ (env : run.Env ℕ) (left base done : ℕ) (fs : List Frame) (st₀ : State) (h₀ : At env left base done fs st₀) (f : Flow) (e₀ : st₀ ≡ Ends f)
      (env' : run.Env ℕ) (k : env' ≡ drop (length env - base) env) where
    h : At env left base done fs (Ends f)
    h = subst (λ x. At env left base done fs x) e₀ h₀

    -- what is closed comes to the whole
    whole_closed : turned im block.looping c b (result_of f env' left) ≡ block_run im block env₀ budget
    whole_closed = ap (λ e. turned im block.looping c b (result_of f e left)) k ∙ ap (turned im block.looping c b) (closed env base left f) ∙ h.means

    module _ (t : turn_after block.looping f ≡ None) where
      pub turns_spent : left ≡ 0 → Runs (block_run im block) env₀ budget (record { flow = Over Spent; env = env'; left = left })
      turns_spent z =
          record {
            does =
                ap (ended run.spent) z
                ∙ sym (ap (λ n. flows (loop_rest im c b env' n)) z ∙ loop_spent im c b env')
                ∙ goes_on im c b env' left block.looping f t
                ∙ whole_closed;
            less = h.less;
          }

      pub turns_again : (fs' : List Frame) (st : State) → (left ≡ 0 → ⊥) → fs' ≡ [] → ((im : Image) → Means im st (λ base rest k. guarded im (optional_tree im block.condition) rest))
          → ((im : Image) (bound : ℕ) → Low im → Room im bound 0 st) → Low im → At env' (left - 1) base 0 fs' st
      turns_again fs' st p d m r l =
          rw d
          record {
            means =
                ap (turned im block.looping c b) (m im base b (resume im base b []) env' (left - 1))
                ∙ ap (λ x. turned im x c b (guarded im c b env' (left - 1))) (is_loop im c b env left block.looping f t)
                ∙ loop_turn_lem im c b env' (left - 1)
                ∙ ap (λ n. flows (loop_rest im c b env' n)) (one_more left p)
                ∙ goes_on im c b env' left block.looping f t
                ∙ whole_closed;
            room = r im block.bound l;
            frames = tt;
            less = omega (arith, h.less);
          }
