-- An expression that names no reserved text cannot tell a reserved binding from a hidden one.
-- Assumes nothing.
use Rattle.std.specs.Prelude.{◌≡◌, ℕ, zero, suc, Bool, true, false, cond, T, List, [], ◌∷◌, ◌++◌, ◌==◌, ◌≢◌, refl}
use Rattle.std.proofs.Math.Path.{ap}
use Rattle.std.proofs.Common.{sym, ◌∙◌, subst, true≢false, eqb→eq}
use Rattle.std.proofs.lemmas.Bool.{false≢true}
use Rattle.std.proofs.Math.Option.{Option, none, some}
use Rattle.std.proofs.Math.Dec.{eqb_refl}
use Rattle.rl_spec.specs.Values as value
use Rattle.rl_spec.specs.Values.{ConstVal, same_text}
use Rattle.rl_spec.specs.Fold.{unary_value, binary_value}
use Rattle.rl_spec.specs.Tree.{Expr, null, literal, identifier, unary, binary, grouping, assign, ok_literal, err_literal, is_err, result_unwrap, other}
use Rattle.rl_spec.specs.Mapped.{Text}
use Rattle.rl_spec.specs.Run.{nothing, folded, Value, plain, ok, err, named, hidden, Env, Outcome, Result, got, ended, Run, and_then, ◌>>=◌, give, halt, or_fault, tick, charge, truth, plain_of, err_of, unwrapped, operand, find, behind, update, look, store, unary_on, binary_on, eval}
use Rattle.rl_spec.specs.Reading.{Check, unless, violated, check, checks}
use Rattle.rl_theorems.specs.Trees.NamesIn.{NamesIn}
use Rattle.rl_theorems.specs.Lowering.LowerTrees.{reserved}
use Rattle.rl_theorems.specs.Lowering.LowerGuard.{own}

-- ---- texts

-- a text begins with another
unfoldable pub begins : Text → Text → Bool
begins [] t = true
begins (a ∷ p) [] = false
begins (a ∷ p) (b ∷ t) = cond (a == b) (begins p t) false

true_of : (b : Bool) → T b → b ≡ true
true_of true h = refl
true_of false h = absurd h

of_true : (b : Bool) → b ≡ true → T b
of_true b e = subst T (sym e) tt

pub same_refl : (s : Text) → same_text s s ≡ true
unfolding same_text
same_refl [] = refl
same_refl (a ∷ s) = rw (true_of (a == a) (eqb_refl a)) (same_refl s)

pub begins_append : (p t : Text) → begins p (p ++ t) ≡ true
unfolding begins
begins_append [] t = refl
begins_append (a ∷ p) t = rw (true_of (a == a) (eqb_refl a)) (begins_append p t)

same_cons : (a b : ℕ) (s t : Text) (x : Bool) → (a == b) ≡ x → (same_text s t ≡ true → s ≡ t) → cond x (same_text s t) false ≡ true → ◌≡◌ {A = Text} (a ∷ s) (b ∷ t)
same_cons a b s t true p h q = λ i. eqb→eq a b (of_true (a == b) p) i ∷ h q i
same_cons a b s t false p h q = absurd (false≢true q)

pub same_eq : (s t : Text) → same_text s t ≡ true → s ≡ t
unfolding same_text
same_eq [] [] e = refl
same_eq [] (b ∷ t) e = absurd (false≢true e)
same_eq (a ∷ s) [] e = absurd (false≢true e)
same_eq (a ∷ s) (b ∷ t) e = same_cons a b s t (a == b) refl (same_eq s t) e

differs : (b : Bool) → (b ≢ true) → b ≡ false
differs false h = refl
differs true h = absurd (h refl)

-- a name that is not reserved
abbrev pub Free : Text → Type 0
Free x = begins reserved x ≡ false

-- a text that is reserved and one that is not
pub apart : (t x : Text) → begins reserved t ≡ true → Free x → same_text t x ≡ false
apart t x q p = differs (same_text t x) (λ e. true≢false (sym q ∙ ap (begins reserved) (same_eq t x e) ∙ p))

pub apart' : (t x : Text) → begins reserved t ≡ true → Free x → same_text x t ≡ false
apart' t x q p = differs (same_text x t) (λ e. true≢false (sym q ∙ ap (begins reserved) (sym (same_eq x t e)) ∙ p))

-- ---- the premise: no name is reserved, whether it is looked up or assigned

abbrev pub Clean : Expr Text → Type 0
Clean e = NamesIn Free Free e

unfoldable pub CleanChecks : List (Check Text) → Type 0
CleanChecks [] = Unit {0}
CleanChecks (c ∷ cs) = Clean c.condition × Clean c.message × CleanChecks cs

-- ---- two runs side by side

-- both end alike; or both go on with the same value and budget, and with bindings that P relates
pub data Both {A : Type 0} (P : Env Text → Env Text → Type 0) : Result Text A → Result Text A → Type 0 where
  go_on : {a : A} {env env' : Env Text} {n : ℕ} → P env env' → Both P (got a env n) (got a env' n)
  end : {o : Outcome Text} {n : ℕ} → Both P (ended o n) (ended o n)

pub both_then : {A B : Type 0} {P Q : Env Text → Env Text → Type 0} {x x' : Result Text A} {f f' : A → Run Text B} → Both P x x' →
    ((a : A) (env env' : Env Text) (n : ℕ) → P env env' → Both Q (f a env n) (f' a env' n)) → Both Q (and_then x f) (and_then x' f')
both_then (go_on p) k = k _ _ _ _ p
both_then end k = end

abbrev pub Never : Env Text → Env Text → Type 0
Never env env' = ⊥

-- two runs that cannot go on are equal
pub both_end : {A : Type 0} {x x' : Result Text A} → Both Never x x' → x ≡ x'
both_end (go_on p) = absurd p
both_end end = refl

-- ---- a reserved binding on one side is hidden on the other

module _ (t : Text) (v : Value Text) (isReserved : begins reserved t ≡ true) where
  pub data Hid : Env Text → Env Text → Type 0 where
    here : {env : Env Text} → Hid (named t v ∷ env) (hidden v ∷ env)
    past : {env env' : Env Text} {x : Text} {w : Value Text} → same_text x t ≡ false → Hid env env' → Hid (named x w ∷ env) (named x w ∷ env')

  find_other : {env env' : Env Text} (x : Text) → Free x → Hid env env' → find own env x ≡ find own env' x
  unfolding find
  find_other x p here = rw (apart t x isReserved p)
  find_other x p (past {x = y} {w = w} q h) = ap (cond (same_text y x) (some w)) (find_other x p h)

  pub find_own : {env env' : Env Text} → Hid env env' → find own env t ≡ some v
  unfolding find
  find_own here = rw (same_refl t)
  find_own (past q h) = rw q (find_own h)

  data HidOption : Option (Env Text) → Option (Env Text) → Type 0 where
    neither : HidOption none none
    each : {env env' : Env Text} → Hid env env' → HidOption (some env) (some env')

  hid_behind : {o o' : Option (Env Text)} (x : Text) (w : Value Text) → same_text x t ≡ false → HidOption o o' → HidOption (behind own (named x w) o) (behind own (named x w) o')
  hid_behind x w q neither = neither
  hid_behind x w q (each h) = each (past q h)

  hid_cond : {o o' u u' : Option (Env Text)} (b : Bool) → HidOption o o' → HidOption u u' → HidOption (cond b o u) (cond b o' u')
  hid_cond true h k = h
  hid_cond false h k = k

  hid_tail : (env : Option (Env Text)) → HidOption (behind own (named t v) env) (behind own (hidden v) env)
  hid_tail none = neither
  hid_tail (some env) = each here

  hid_update : {env env' : Env Text} (x : Text) (w : Value Text) → Free x → Hid env env' → HidOption (update own env x w) (update own env' x w)
  unfolding update
  hid_update x w p (here {env = env}) = rw (apart t x isReserved p) (hid_tail (update own env x w))
  hid_update x w p (past {x = y} {w = z} q h) = hid_cond (same_text y x) (each (past q h)) (hid_behind y z q (hid_update x w p h))

  -- a run that cannot tell the two apart
  abbrev pub Blind : {A : Type 0} → Run Text A → Type 0
  Blind m = (env env' : Env Text) (n : ℕ) → Hid env env' → Both Hid (m env n) (m env' n)

  blind_then : {A B : Type 0} {m : Run Text A} {f : A → Run Text B} → Blind m → ((a : A) → Blind (f a)) → Blind (m >>= f)
  blind_then h k env env' n p = both_then (h env env' n p) k

  blind_tick : Blind tick
  blind_tick env env' zero p = end
  blind_tick env env' (suc n) p = go_on p

  blind_give : {A : Type 0} (a : A) → Blind (give a)
  blind_give a env env' n p = go_on p

  blind_halt : {A : Type 0} (o : Outcome Text) → Blind {A = A} (halt o)
  blind_halt o env env' n p = end

  blind_or_fault : {A : Type 0} (k : ℕ) (o : Option A) → Blind (or_fault k o)
  blind_or_fault k none env env' n p = end
  blind_or_fault k (some a) env env' n p = go_on p

  blind_look : (x : Text) → Free x → Blind (look own x)
  blind_look x q env env' n p = rw (find_other x q p) (blind_or_fault 3 (find own env' x) env env' n p)

  both_store : {o o' : Option (Env Text)} (env env' : Env Text) (n : ℕ) → HidOption o o' →
      Both Hid (and_then (or_fault 3 o env n) (λ e _ m. got (tt {0}) e m)) (and_then (or_fault 3 o' env' n) (λ e _ m. got (tt {0}) e m))
  both_store env env' n neither = end
  both_store env env' n (each h) = go_on h

  blind_store : (x : Text) (w : Value Text) → Free x → Blind (store own x w)
  blind_store x w q env env' n p = both_store env env' n (hid_update x w q p)

  blind_plain_of : (w : Value Text) → Blind (plain_of w)
  blind_plain_of (plain p) = blind_give p
  blind_plain_of (ok p) = blind_halt _
  blind_plain_of (err p) = blind_halt _

  blind_err_of : (w : Value Text) → Blind (err_of w)
  blind_err_of (plain p) = blind_halt _
  blind_err_of (ok p) = blind_give false
  blind_err_of (err p) = blind_give true

  blind_unwrapped : (w : Value Text) → Blind (unwrapped w)
  blind_unwrapped (plain p) = blind_halt _
  blind_unwrapped (ok p) = blind_give (plain p)
  blind_unwrapped (err p) = blind_halt _

  blind_truth : (k : ℕ) (w : Value Text) → Blind (truth k w)
  blind_truth k (plain nothing) = blind_halt _
  blind_truth k (plain (folded (value.int z))) = blind_halt _
  blind_truth k (plain (folded (value.float z))) = blind_halt _
  blind_truth k (plain (folded (value.str z))) = blind_halt _
  blind_truth k (plain (folded (value.bool b))) = blind_give b
  blind_truth k (ok p) = blind_halt _
  blind_truth k (err p) = blind_halt _

  blind_charge : (k : ℕ) → Blind (charge k)
  blind_charge zero = blind_give tt
  blind_charge (suc k) = blind_then blind_tick (λ _. blind_charge k)

  blind_unary_on : (op : ℕ) (w : Option (ConstVal Text)) → Blind (unary_on own op w)
  blind_unary_on op none = blind_halt _
  blind_unary_on op (some w) = blind_then (blind_or_fault 4 (unary_value op w)) (λ z. blind_give _)

  blind_binary_on : (op : ℕ) (w z : Option (ConstVal Text)) → Blind (binary_on own op w z)
  blind_binary_on op none z = blind_halt _
  blind_binary_on op (some w) none = blind_halt _
  blind_binary_on op (some w) (some z) = blind_then (blind_or_fault 4 (binary_value own op w z)) (λ y. blind_give _)

  blind_eval : (e : Expr Text) → Clean e → Blind (eval own e)
  unfolding eval
  blind_eval null c = blind_then blind_tick (λ _. blind_give _)
  blind_eval (literal l) c = blind_then blind_tick (λ _. blind_then (blind_or_fault 4 l) (λ p. blind_give _))
  blind_eval (identifier x) c = blind_then blind_tick (λ _. blind_look x c)
  blind_eval (unary op e) c = blind_then blind_tick (λ _. blind_then (blind_eval e c) (λ w. blind_unary_on op (operand w)))
  blind_eval (binary a op b) c =
      blind_then blind_tick (λ _. blind_then (blind_eval a c.0) (λ w. blind_then (blind_eval b c.1) (λ z. blind_binary_on op (operand w) (operand z))))
  blind_eval (grouping e) c = blind_then blind_tick (λ _. blind_eval e c)
  blind_eval (assign x e) c = blind_then blind_tick (λ _. blind_then (blind_eval e c.1) (λ w. blind_then (blind_store x w c.0) (λ _. blind_give w)))
  blind_eval (ok_literal e) c = blind_then blind_tick (λ _. blind_then (blind_eval e c) (λ w. blind_then (blind_plain_of w) (λ p. blind_give _)))
  blind_eval (err_literal e) c = blind_then blind_tick (λ _. blind_then (blind_eval e c) (λ w. blind_then (blind_plain_of w) (λ p. blind_give _)))
  blind_eval (is_err e) c = blind_then blind_tick (λ _. blind_then (blind_eval e c) (λ w. blind_then (blind_err_of w) (λ p. blind_give _)))
  blind_eval (result_unwrap e) c = blind_then blind_tick (λ _. blind_then (blind_eval e c) blind_unwrapped)
  blind_eval other c = blind_then blind_tick (λ _. blind_halt _)

  blind_violated : (r : Bool) (m : Expr Text) → Clean m → Blind (violated own r m)
  blind_violated false m c = blind_then (blind_charge 3) (λ _. blind_then (blind_eval m c) (λ w. blind_then (blind_plain_of w) (λ p. blind_halt _)))
  blind_violated true m c = blind_then (blind_charge 2) (λ _. blind_then (blind_eval m c) (λ w. blind_then (blind_plain_of w) (λ p. blind_halt _)))

  blind_unless : (b : Bool) {k : Run Text (Unit {0})} → Blind k → Blind (unless b k)
  blind_unless true h = blind_give tt
  blind_unless false h = h

  blind_check : (r : Bool) (c : Check Text) → Clean c.condition → Clean c.message → Blind (check own r c)
  blind_check r c p q =
      blind_then (blind_charge 2) (λ _. blind_then (blind_eval c.condition p)
      (λ w. blind_then (blind_truth 4 w) (λ b. blind_unless b (blind_violated r c.message q))))

  -- THE FRAME: checks
  pub blind_checks : (r : Bool) (cs : List (Check Text)) → CleanChecks cs → Blind (checks own r cs)
  unfolding checks CleanChecks
  blind_checks r [] h = blind_give tt
  blind_checks r (c ∷ cs) h = blind_then (blind_check r c h.0 h.1) (λ _. blind_checks r cs h.2)
