-- Laws of bodies: runs of a body after a body, and the expression that ends one.
-- Assumes nothing.
use Rattle.std.specs.Prelude.{◌≡◌, ℕ, Bool, true, false, List, [], ◌∷◌, refl}
use Rattle.std.proofs.Common.{ap, sym, ◌∙◌}
use Rattle.std.proofs.Math.Option.{none}
use Rattle.rl_spec.specs.Tree.{Expr}
use Rattle.rl_spec.specs.Statement.{Stmt, declaration, expression, return, return_alone, conditional, while, loop, break, continue, other_statement, Body, nil, ◌▸◌}
use Rattle.rl_spec.specs.Message.{decimal}
use Rattle.rl_spec.specs.Mapped.{Text}
use Rattle.rl_spec.specs.Run.{Value, Result, got, ended, Run, and_then, ◌>>=◌, give}
use Rattle.rl_spec.specs.Reading.{Check, Mode, bare, Flow, onward, breaks, continues, followed, followed_top, stmt, body, top}
use Rattle.rl_theorems.specs.Lowering.LowerTrees.{◌⧺◌, guards, reserved, temporary, skip_err, wrap_as, expression_of, trailing}
use Rattle.rl_theorems.specs.Lowering.LowerGuard.{own, top_cons}
use Rattle.rl_theorems.specs.Lowering.LowerFrame.{begins, begins_append}

-- ---- a body after a body

pub append_nil : (b : Body Text) → b ⧺ nil ≡ b
unfolding ◌⧺◌
append_nil nil = refl
append_nil (s ▸ b) = ap (s ▸◌) (append_nil b)

follow : (x : Result Text Flow) (k l : Run Text Flow) →
    and_then (and_then x (λ f. followed f k)) (λ f. followed f l) ≡ and_then x (λ f. followed f (k >>= λ f. followed f l))
follow (got onward env n) k l = refl
follow (got breaks env n) k l = refl
follow (got continues env n) k l = refl
follow (ended o n) k l = refl

follow_top : (x : Result Text Flow) (k : Run Text Flow) (l : Run Text (Value Text)) →
    and_then (and_then x (λ f. followed f k)) (λ f. followed_top f l) ≡ and_then x (λ f. followed_top f (k >>= λ f. followed_top f l))
follow_top (got onward env n) k l = refl
follow_top (got breaks env n) k l = refl
follow_top (got continues env n) k l = refl
follow_top (ended o n) k l = refl

alone : (x : Result Text Flow) → and_then x (λ f. followed f (give onward)) ≡ x
alone (got onward env n) = refl
alone (got breaks env n) = refl
alone (got continues env n) = refl
alone (ended o n) = refl

abbrev pub run : Mode Text → Body Text → Run Text Flow
run = body own

abbrev pub st : Mode Text → Stmt Text → Run Text Flow
st = stmt own

abbrev pub whole : Mode Text → Body Text → Run Text (Value Text)
whole = top own

-- ---- what the transform makes is no bare expression, and is something

abbrev pub NoBare : Body Text → Type 0
NoBare nil = Unit {0}
NoBare (s ▸ b) = (bare s ≡ none) × NoBare b

abbrev pub Some : Body Text → Type 0
Some nil = ⊥
Some (s ▸ b) = Unit {0}

guards_no_bare : (r : Bool) (cs : List (Check Text)) (b : Body Text) → NoBare b → NoBare (guards r cs b)
unfolding guards
guards_no_bare r [] b h = h
guards_no_bare r (c ∷ cs) b h = (refl, guards_no_bare r cs b h)

skip_no_bare : (r : Bool) (t : Text) (b : Body Text) → NoBare b → NoBare (skip_err r t b)
skip_no_bare false t b h = h
skip_no_bare true t b h = (refl, h)

pub wrap_no_bare : (r : Bool) (cs : List (Check Text)) (t : Text) (e : Expr Text) → NoBare (wrap_as r cs t e)
wrap_no_bare r cs t e = (refl, skip_no_bare r t _ (refl, guards_no_bare r cs _ (refl, tt)))

pub one : (m : Mode Text) (s : Stmt Text) → run m (s ▸ nil) ≡ st m s
unfolding stmt
one m s = λ i env n. alone (st m s env n) i

pub run_append : (m : Mode Text) (a b : Body Text) → run m (a ⧺ b) ≡ (run m a >>= λ f. followed f (run m b))
unfolding stmt ◌⧺◌
run_append m nil b = refl
run_append m (s ▸ a) b =
    (λ i env n. and_then (st m s env n) (λ f. followed f (run_append m a b i)))
    ∙ (λ i env n. sym (follow (st m s env n) (run m a) (run m b)) i)

pub top_append : (m : Mode Text) (a b : Body Text) → NoBare a → whole m (a ⧺ b) ≡ (run m a >>= λ f. followed_top f (whole m b))
unfolding stmt ◌⧺◌
top_append m nil b h = refl
top_append m (s ▸ a) b h =
    top_cons m s (a ⧺ b) h.0
    ∙ (λ i env n. and_then (st m s env n) (λ f. followed_top f (top_append m a b h.1 i)))
    ∙ (λ i env n. sym (follow_top (st m s env n) (run m a) (whole m b)) i)

pub top_some : (m : Mode Text) (s : Stmt Text) (b : Body Text) → Some b → whole m (s ▸ b) ≡ (st m s >>= λ f. followed_top f (whole m b))
unfolding top
top_some m s nil h = absurd h
top_some m s (t ▸ b) h = refl

pub temporary_reserved : (n : ℕ) → begins reserved (temporary n) ≡ true
temporary_reserved n = begins_append reserved (decimal n)

-- ---- the expression that ends a body

same_bare : (s : Stmt Text) → expression_of s ≡ bare s
same_bare (declaration x e) = refl
same_bare (expression e) = refl
same_bare (return e) = refl
same_bare return_alone = refl
same_bare (conditional b e) = refl
same_bare (while e b) = refl
same_bare (loop b) = refl
same_bare break = refl
same_bare continue = refl
same_bare other_statement = refl

pub trailing_no_bare : (b : Body Text) → NoBare b → trailing b ≡ none
unfolding trailing
trailing_no_bare nil h = refl
trailing_no_bare (s ▸ nil) h = same_bare s ∙ h.0
trailing_no_bare (s ▸ (t ▸ b)) h = trailing_no_bare (t ▸ b) h.1

pub some_append : (a b : Body Text) → Some b → Some (a ⧺ b)
unfolding ◌⧺◌
some_append nil b h = h
some_append (s ▸ a) b h = tt

trailing_past : (s : Stmt Text) (b : Body Text) → Some b → trailing (s ▸ b) ≡ trailing b
unfolding trailing
trailing_past s nil h = absurd h
trailing_past s (t ▸ b) h = refl

pub trailing_append : (a b : Body Text) → Some b → trailing (a ⧺ b) ≡ trailing b
unfolding ◌⧺◌
trailing_append nil b h = refl
trailing_append (s ▸ a) b h = trailing_past s (a ⧺ b) (some_append a b h) ∙ trailing_append a b h

-- THE PREMISE: the last statement is no bare expression
abbrev pub NoBareLast : Body Text → Type 0
NoBareLast nil = Unit {0}
NoBareLast (s ▸ nil) = bare s ≡ none
NoBareLast (s ▸ (t ▸ b)) = NoBareLast (t ▸ b)

-- it is, only where it is the only one
abbrev pub OnlyBare : Body Text → Type 0
OnlyBare nil = Unit {0}
OnlyBare (s ▸ nil) = Unit {0}
OnlyBare (s ▸ (t ▸ b)) = NoBareLast (t ▸ b)

-- and this is asked only where something is ensured
abbrev pub Ensured : List (Check Text) → Body Text → Type 0
Ensured [] b = Unit {0}
Ensured (c ∷ cs) b = OnlyBare b
