-- Closed runs of lowered functions and their contract readings, by computation: functions that meet the premises, and for each premise
-- functions that do not and whose runs differ.
-- Assumes nothing.
use Rattle.std.specs.Prelude.{◌≡◌, ℕ, Bool, true, false, List, [], ◌∷◌, map, pos, refl}
use Rattle.std.proofs.Common.{ap, true≢false}
use Rattle.std.proofs.Math.Option.{Option, none, some}
use Rattle.rl_spec.specs.Values as value
use Rattle.rl_spec.specs.Values.{same_text, compare_values, arith_values, bang}
use Rattle.rl_spec.specs.Tree.{Expr, literal, identifier, unary, binary, assign, ok_literal, err_literal, is_err, result_unwrap, ascii}
use Rattle.rl_spec.specs.Fold.{unary_value, binary_value}
use Rattle.rl_spec.specs.Statement.{Stmt, declaration, expression, return, conditional, while, Body, nil, ◌▸◌, Branch, branch, no_else, else_conditional}
use Rattle.rl_spec.specs.Message.{decimal_by, decimal}
use Rattle.rl_spec.specs.Mapped.{Text}
use Rattle.rl_spec.specs.Run.{Plain, folded, Value, plain, ok, err, folds, Outcome, returned, stopped, fault, spent, used, find, update, eval}
use Rattle.rl_spec.specs.Reading.{Check, Function, checks, turns, stmt, top, run_function, reading}
use Rattle.rl_theorems.specs.Lowering.LowerTrees.{◌⧺◌, guards, transform_stmt, trailing, without_last, lowered}
use Rattle.rl_theorems.specs.Lowering.LowerFrame.{begins, CleanChecks}
use Rattle.rl_theorems.specs.Lowering.LowerBodies.{Ensured}
use Rattle.rl_theorems.specs.Lowering.LoweredRuns.{Premises}

-- ---- small trees

abbrev x : Expr Text
x = identifier (ascii "x")

abbrev ret : Expr Text
ret = identifier (ascii "ret")

abbrev first : Text
first = ascii "__ensure_ret_0"

abbrev second : Text
second = ascii "__ensure_ret_1"

abbrev number : ℕ → Expr Text
number n = literal (some (value.int (pos n)))

abbrev truth : Bool → Expr Text
truth b = literal (some (value.bool b))

abbrev no : Expr Text
no = literal (some (value.str (ascii "no")))

abbrev must : Expr Text → Check Text
must e = record { condition = e; message = no }

abbrev one : Stmt Text → Body Text
one s = s ▸ nil

abbrev if : Expr Text → Body Text → Branch Text
if e b = branch (some e) b

-- what a guard of a function that is no result function is
abbrev refused : Expr Text → Stmt Text
refused e = conditional (if (unary 5 e) (one (expression (result_unwrap (err_literal no))))) no_else

-- ---- two functions that meet the premises

-- requires x > 0, ensures ret < 7: while (x < 3) { x = x + 1 }; if (x > 5) { return x } else if (x == 4) { return 0 }; return x
abbrev counting : Body Text
counting =
    while (binary x 8 (number 3)) (one (expression (assign (ascii "x") (binary x 1 (number 1)))))
    ▸ conditional (if (binary x 10 (number 5)) (one (return x))) (else_conditional (if (binary x 6 (number 4)) (one (return (number 0)))) no_else)
    ▸ one (return x)

abbrev pub plain_one : Function Text
plain_one =
    record {
      name = ascii "f";
      params = ascii "x" ∷ [];
      is_result = false;
      entry = must (binary x 10 (number 0)) ∷ [];
      ensures = must (binary ret 8 (number 7)) ∷ [];
      body = counting;
    }

-- of a result function, ensures ret < 7: the bare only statement ok(x)
abbrev pub result_one : Function Text
result_one =
    record {
      name = ascii "f";
      params = ascii "x" ∷ [];
      is_result = true;
      entry = [];
      ensures = must (binary ret 8 (number 7)) ∷ [];
      body = one (expression (ok_literal x));
    }

pub plain_meets : Premises plain_one
unfolding CleanChecks begins ascii
plain_meets = record { ensures = ((refl, tt), tt, tt); last = refl }

pub result_meets : Premises result_one
unfolding CleanChecks begins ascii
result_meets = record { ensures = ((refl, tt), tt, tt); last = tt }

-- ---- what lowering makes of them

-- the return in the conditional that is an else branch is left alone; the last return has the second temporary
pub plain_lowered : (lowered plain_one).body ≡
    refused (binary x 10 (number 0))
    ▸ while (binary x 8 (number 3)) (one (expression (assign (ascii "x") (binary x 1 (number 1)))))
    ▸ conditional
    (if (binary x 10 (number 5))
    (declaration first x ▸ declaration (ascii "ret") (identifier first) ▸ refused (binary ret 8 (number 7)) ▸ one (return (identifier first))))
    (else_conditional (if (binary x 6 (number 4)) (one (return (number 0)))) no_else)
    ▸ declaration second x ▸ declaration (ascii "ret") (identifier second) ▸ refused (binary ret 8 (number 7)) ▸ one (return (identifier second))
unfolding lowered guards transform_stmt trailing without_last ◌⧺◌ decimal decimal_by ascii
plain_lowered = refl

pub result_lowered : (lowered result_one).body ≡
    declaration first (ok_literal x)
    ▸ conditional (if (is_err (identifier first)) (one (return (identifier first)))) no_else
    ▸ declaration (ascii "ret") (result_unwrap (identifier first))
    ▸ conditional (if (unary 5 (binary ret 8 (number 7))) (one (return (err_literal no)))) no_else
    ▸ one (return (identifier first))
unfolding lowered guards transform_stmt trailing without_last ◌⧺◌ decimal decimal_by ascii
result_lowered = refl

-- ---- functions that do not meet them

-- `return 5` under ensures
abbrev five : Check Text → Function Text
five c = record { name = ascii "f"; params = []; is_result = false; entry = []; ensures = c ∷ []; body = one (return (number 5)) }

-- a condition that looks a temporary up, a message that does, and a condition that assigns one
abbrev looking : Function Text
looking = five (must (binary (identifier first) 6 (number 5)))

abbrev telling : Function Text
telling = five (record { condition = truth false; message = identifier first })

abbrev changing : Function Text
changing = five (must (binary (assign first (number 6)) 6 (number 6)))

-- a bare last expression after another statement: declare x = 1; x
abbrev after : Function Text
after =
    record {
      name = ascii "f";
      params = [];
      is_result = false;
      entry = [];
      ensures = must (truth true) ∷ [];
      body = declaration (ascii "x") (number 1) ▸ one (expression x);
    }

pub looking_fails : Premises looking → ⊥
unfolding CleanChecks begins ascii
looking_fails p = true≢false p.ensures.0.0

pub telling_fails : Premises telling → ⊥
unfolding CleanChecks begins ascii
telling_fails p = true≢false p.ensures.1

pub changing_fails : Premises changing → ⊥
unfolding CleanChecks begins ascii
changing_fails p = true≢false p.ensures.0.0.0

abbrev given : Option (Expr Text) → Bool
given none = false
given (some e) = true

pub after_fails : Premises after → ⊥
after_fails p = true≢false (ap given p.last)

-- each of them meets the other premise
pub five_last : (c : Check Text) → Ensured (five c).ensures (five c).body
five_last c = tt

pub after_ensures : CleanChecks after.ensures
unfolding CleanChecks
after_ensures = (tt, tt, tt)

-- ---- the list: the run of the lowered function, and the reading

pub record Case : Type 0 where
  pub function : Function Text
  pub values : List (Value Text)
  pub budget : ℕ
  pub runs : Outcome Text × ℕ
  pub reads : Outcome Text × ℕ

-- with the values that are given, both end so
abbrev both : Function Text → List ℕ → ℕ → Outcome Text → ℕ → Case
both f vs budget o n =
    record { function = f; values = map (λ v. folds (value.int (pos v))) vs; budget = budget; runs = (o, n); reads = (o, n) }

abbrev apart : Function Text → Outcome Text → ℕ → Outcome Text → ℕ → Case
apart f o n o' n' = record { function = f; values = []; budget = 1000; runs = (o, n); reads = (o', n') }

abbrev int : ℕ → Plain Text
int n = folded (value.int (pos n))

abbrev said : Plain Text
said = folded (value.str (ascii "no"))

unfoldable pub cases : List Case
cases =
    -- the entry check fails; holds; a return that is not checked; one that is, and fails; the budget
    both plain_one (0 ∷ []) 1000 (stopped said) 9
    ∷ both plain_one (1 ∷ []) 1000 (returned (plain (int 3))) 46
    ∷ both plain_one (4 ∷ []) 1000 (returned (plain (int 0))) 19
    ∷ both plain_one (6 ∷ []) 1000 (returned (plain (int 6))) 25
    ∷ both plain_one (7 ∷ []) 1000 (stopped said) 27
    ∷ both plain_one (6 ∷ []) 25 (returned (plain (int 6))) 25
    ∷ both plain_one (6 ∷ []) 24 spent 24
    -- of a result function
    ∷ both result_one (3 ∷ []) 1000 (returned (ok (int 3))) 16
    ∷ both result_one (7 ∷ []) 1000 (returned (err said)) 17
    -- NEEDED: no reserved name in the ensures
    ∷ apart looking (returned (plain (int 5))) 11 (fault 3) 8
    ∷ apart telling (stopped (int 5)) 11 (fault 3) 11
    ∷ apart changing (returned (plain (int 6))) 12 (fault 3) 9
    -- NEEDED: a bare last expression is the only statement
    ∷ apart after (fault 3) 2 (returned (plain (int 1))) 4
    ∷ []

-- THEOREM: each of them ends so
pub runs_end_so :
    map (λ c. used c.budget (run_function (λ t. t) (lowered c.function) c.values c.budget)) cases ≡ map (λ c. c.runs) cases
unfolding cases lowered guards transform_stmt trailing without_last ◌⧺◌ decimal decimal_by ascii run_function turns top stmt eval find update same_text unary_value binary_value bang compare_values arith_values
runs_end_so = refl

pub reads_end_so :
    map (λ c. used c.budget (reading (λ t. t) (ascii "ret") c.function c.values c.budget)) cases ≡ map (λ c. c.reads) cases
unfolding cases ascii reading checks turns top stmt eval find update same_text unary_value binary_value bang compare_values arith_values
reads_end_so = refl
