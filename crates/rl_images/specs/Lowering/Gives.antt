-- What holds where a computation gives something: the proofs about a computation follow it step by step.
-- Assumes nothing.
use Rattle.std.specs.Prelude.{◌≡◌, refl, Bool, true, false, cond}
use Rattle.std.proofs.Common.{subst}
use Rattle.std.proofs.Math.Option.{Option, none, some}
use Rattle.rl_spec.specs.Make.{Context, Make, and_then}

-- where it stops nothing is asked
pub data Gives {A : Type 0} (Q : A → Context → Type 0) : Option (A × Context) → Type 0 where
  stops : Gives Q none
  gives : {a : A} {c : Context} → Q a c → Gives Q (some (a, c))

-- one computation, and then another
pub after : {A B : Type 0} {P : A → Context → Type 0} {Q : B → Context → Type 0} {o : Option (A × Context)} {f : A → Make B} →
    Gives P o → ((a : A) (c : Context) → P a c → Gives Q (f a c)) → Gives Q (and_then o f)
after stops k = stops
after (gives {a} {c} p) k = k a c p

pub weaker : {A : Type 0} {P Q : A → Context → Type 0} {o : Option (A × Context)} →
    Gives P o → ((a : A) (c : Context) → P a c → Q a c) → Gives Q o
weaker stops k = stops
weaker (gives {a} {c} p) k = gives (k a c p)

-- a case distinction
pub by_cond : {A : Type 0} {Q : A → Context → Type 0} (b : Bool) (m n : Make A) (c : Context) →
    (b ≡ true → Gives Q (m c)) → (b ≡ false → Gives Q (n c)) → Gives Q (cond b m n c)
by_cond true m n c p q = p refl
by_cond false m n c p q = q refl

-- a limit is passed, or not
pub by_limit : {A : Type 0} {Q : A → Context → Type 0} (b : Bool) (a : A) (c : Context) →
    (b ≡ false → Q a c) → Gives Q (cond b none (some (a, c)))
by_limit true a c q = stops
by_limit false a c q = gives (q refl)

-- what is given
of_given : {A : Type 0} {Q : A → Context → Type 0} {a : A} {c : Context} → Gives Q (some (a, c)) → Q a c
of_given (gives q) = q

pub given_is : {A : Type 0} {Q : A → Context → Type 0} {o : Option (A × Context)} {a : A} {c : Context} →
    Gives Q o → o ≡ some (a, c) → Q a c
given_is {Q = Q} g e = of_given (subst (Gives Q) e g)
