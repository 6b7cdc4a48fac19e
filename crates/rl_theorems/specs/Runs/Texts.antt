-- Running commutes with another account of the texts that keeps their bytes: the run of a mapped tree in mapped bindings is the run,
-- mapped.
-- Assumes nothing.
use Rattle.std.specs.Prelude.{◌≡◌, ℕ, zero, suc, ◌-◌, ◌^◌, Bool, true, false, cond, ◌||◌, ltb, List, [], ◌∷◌, map, length, drop, ℤ, pos, ◌+ℤ◌, ◌-ℤ◌, ◌*ℤ◌, neg_ℤ, ◌==◌, int_div, nat_lt, Float}
use Rattle.std.proofs.Math.Path.{refl, ap, ap₂, subst⁻¹}
use Rattle.std.proofs.Common.{◌∙◌}
use Rattle.std.proofs.Math.Option
use Rattle.std.proofs.Math.Option.{Option, none, some}
use Rattle.std.specs.Int.Signed.{mag}
use Rattle.std.specs.Float.Ieee as F
use Rattle.std.specs.Float.Ieee.{binary64}
use Rattle.std.proofs.lemmas.List.{length-map}
use Rattle.rl_spec.specs.Values as value
use Rattle.rl_spec.specs.Values.{ConstVal, RefineOp, gt, ge, lt, le, eq, ne, ArithOp, plus, minus, star, slash, compare_by, same_text, less_text, compare_values, arith_ints, rounded_once, arith_floats, arith_values, bang, negate}
use Rattle.rl_spec.specs.Fold.{boolean, unary_value, binary_value}
use Rattle.rl_spec.specs.Tree.{Expr, null, literal, identifier, unary, binary, grouping, assign, ok_literal, err_literal, is_err, result_unwrap, other}
use Rattle.rl_spec.specs.Mapped.{map_const, map_plain, map_value, map_outcome, map_expr}
use Rattle.rl_spec.specs.Run.{nothing, folded, Value, plain, ok, err, Bound, named, hidden, Env, Outcome, stopped, fault, Result, got, ended, Run, and_then, ◌>>=◌, give, halt, or_fault, tick, charge, bind, leaving, scoped, truth, plain_of, err_of, unwrapped, operand, find, behind, update, look, store, unary_on, binary_on, eval}

-- ---- bindings and results with their texts mapped

module _ {A B : Type 0} (f : A → B) where
  abbrev pub map_bound : Bound A → Bound B
  map_bound (named x v) = named (f x) (map_value f v)
  map_bound (hidden v) = hidden (map_value f v)

  abbrev pub map_env : Env A → Env B
  map_env env = map map_bound env

  abbrev pub map_result : {X Y : Type 0} → (X → Y) → Result A X → Result B Y
  map_result g (got x env n) = got (g x) (map_env env) n
  map_result g (ended o n) = ended (map_outcome f o) n

  -- the second run in the mapped bindings is the first, mapped
  pub record Alike {X Y : Type 0} (g : X → Y) (m : Run A X) (m' : Run B Y) : Type 0 where
    pub runs : (env : Env A) (n : ℕ) → m' (map_env env) n ≡ map_result g (m env n)

abbrev pub same : {X : Type 0} → X → X
same x = x

-- a choice between what is mapped is the choice, mapped
cond_both : {X Y : Type 0} (g : X → Y) (b : Bool) {x y : X} {x' y' : Y} → x' ≡ g x → y' ≡ g y → cond b x' y' ≡ g (cond b x y)
cond_both g true p q = p
cond_both g false p q = q

pub cond_at : {X Y : Type 0} (g : X → Y) {b b' : Bool} {x y : X} {x' y' : Y} → b' ≡ b → x' ≡ g x → y' ≡ g y → cond b' x' y' ≡ g (cond b x y)
cond_at g {b = b} {x' = x'} {y' = y'} e p q = ap (λ c. cond c x' y') e ∙ cond_both g b p q

-- ---- operators on values

module _ {A B : Type 0} (f : A → B) where
  abbrev pub map_maybe : Option (ConstVal A) → Option (ConstVal B)
  map_maybe o = Option.map (map_const f) o

  -- the second is the first, mapped
  pub record Maps (x : Option (ConstVal A)) (x' : Option (ConstVal B)) : Type 0 where
    pub is : x' ≡ map_maybe x

  picks : (b : Bool) {x y : Option (ConstVal A)} {x' y' : Option (ConstVal B)} → Maps x x' → Maps y y' → Maps (cond b x y) (cond b x' y')
  picks true p q = p
  picks false p q = q

  nones : Maps none none
  nones = record { is = refl }

  checked_same : (z : ℤ) → value.checked z ≡ map_maybe (value.checked z)
  checked_same z = cond_both map_maybe (nat_lt (mag z) (2 ^ 63)) {x = some (value.int z)} {y = none} refl refl

  arith_ints_same : (op : ArithOp) (x y : ℤ) → arith_ints op x y ≡ map_maybe (arith_ints op x y)
  arith_ints_same plus x y = checked_same (x +ℤ y)
  arith_ints_same minus x y = checked_same (x -ℤ y)
  arith_ints_same star x y = checked_same (x *ℤ y)
  arith_ints_same slash x y = cond_both map_maybe (value.same_int y (pos 0)) {x = none} refl (checked_same (int_div x y))

  rounded_same : (op : ArithOp) (x y : Float) → rounded_once op x y ≡ map_maybe (rounded_once op x y)
  rounded_same plus x y = refl
  rounded_same minus x y = refl
  rounded_same star x y = refl
  rounded_same slash x y = cond_both map_maybe (F.eq y (F.of_int binary64 (pos 0))) {x = none} {y = some (value.float (F.div binary64 x y))} refl refl

  arith_floats_same : (op : ArithOp) (x y : Float) → arith_floats op x y ≡ map_maybe (arith_floats op x y)
  arith_floats_same op x y = cond_both map_maybe (F.is_nan x || F.is_nan y) {x = none} refl (rounded_same op x y)

  arith_same : (op : ArithOp) (x y : ConstVal A) → arith_values op (map_const f x) (map_const f y) ≡ map_maybe (arith_values op x y)
  unfolding arith_values
  arith_same op (value.int x) (value.int y) = arith_ints_same op x y
  arith_same op (value.int x) (value.float y) = arith_floats_same op (F.of_int binary64 x) y
  arith_same op (value.int x) (value.str y) = refl
  arith_same op (value.int x) (value.bool y) = refl
  arith_same op (value.float x) (value.int y) = arith_floats_same op x (F.of_int binary64 y)
  arith_same op (value.float x) (value.float y) = arith_floats_same op x y
  arith_same op (value.float x) (value.str y) = arith_floats_same op x F.nan
  arith_same op (value.float x) (value.bool y) = arith_floats_same op x F.nan
  arith_same op (value.str x) (value.int y) = refl
  arith_same op (value.str x) (value.float y) = refl
  arith_same op (value.str x) (value.str y) = refl
  arith_same op (value.str x) (value.bool y) = refl
  arith_same op (value.bool x) y = refl

  bang_same : (x : ConstVal A) → bang (map_const f x) ≡ map_maybe (bang x)
  unfolding bang
  bang_same (value.int x) = refl
  bang_same (value.float x) = refl
  bang_same (value.str x) = refl
  bang_same (value.bool x) = refl

  negate_same : (x : ConstVal A) → negate (map_const f x) ≡ map_maybe (negate x)
  unfolding negate
  negate_same (value.int x) = checked_same (neg_ℤ x)
  negate_same (value.float x) = refl
  negate_same (value.str x) = refl
  negate_same (value.bool x) = refl

  pub unary_same : (op : ℕ) (x : ConstVal A) → unary_value op (map_const f x) ≡ map_maybe (unary_value op x)
  unfolding unary_value
  unary_same op x = (picks (op == 5) (record { is = bang_same x }) (picks (op == 2) (record { is = negate_same x }) nones)).is

  boolean_same : (o : Option Bool) → boolean o ≡ map_maybe (boolean o)
  boolean_same none = refl
  boolean_same (some b) = refl

module _ {A B : Type 0} (f : A → B) (bytesA : A → List ℕ) (bytesB : B → List ℕ) (keeps : (t : A) → bytesB (f t) ≡ bytesA t) where
  abbrev map_found : Option (Value A) → Option (Value B)
  map_found o = Option.map (map_value f) o

  abbrev map_changed : Option (Env A) → Option (Env B)
  map_changed o = Option.map (map_env f) o

  pub compare_same : (op : RefineOp) (x y : ConstVal A) → compare_values bytesB op (map_const f x) (map_const f y) ≡ compare_values bytesA op x y
  unfolding compare_values
  compare_same op (value.int x) (value.int y) = refl
  compare_same op (value.int x) (value.float y) = refl
  compare_same op (value.int x) (value.str y) = refl
  compare_same op (value.int x) (value.bool y) = refl
  compare_same op (value.float x) (value.int y) = refl
  compare_same op (value.float x) (value.float y) = refl
  compare_same op (value.float x) (value.str y) = refl
  compare_same op (value.float x) (value.bool y) = refl
  compare_same op (value.str x) (value.int y) = refl
  compare_same op (value.str x) (value.float y) = refl
  compare_same op (value.str x) (value.str y) = ap₂ (λ s t. some (compare_by less_text same_text op s t)) (keeps x) (keeps y)
  compare_same op (value.str x) (value.bool y) = refl
  compare_same op (value.bool x) (value.int y) = refl
  compare_same op (value.bool x) (value.float y) = refl
  compare_same op (value.bool x) (value.str y) = refl
  compare_same op (value.bool x) (value.bool y) = refl

  verdicts : (op : RefineOp) (x y : ConstVal A) → Maps f (boolean (compare_values bytesA op x y)) (boolean (compare_values bytesB op (map_const f x) (map_const f y)))
  verdicts op x y = record { is = ap boolean (compare_same op x y) ∙ boolean_same f (compare_values bytesA op x y) }

  ariths : (op : ArithOp) (x y : ConstVal A) → Maps f (arith_values op x y) (arith_values op (map_const f x) (map_const f y))
  ariths op x y = record { is = arith_same f op x y }

  pub binaries : (op : ℕ) (x y : ConstVal A) → Maps f (binary_value bytesA op x y) (binary_value bytesB op (map_const f x) (map_const f y))
  unfolding binary_value
  binaries op x y =
      picks f (op == 6) (verdicts eq x y)
      (picks f (op == 7) (verdicts ne x y)
      (picks f (op == 8) (verdicts lt x y)
      (picks f (op == 9) (verdicts le x y)
      (picks f (op == 10) (verdicts gt x y)
      (picks f (op == 11) (verdicts ge x y)
      (picks f (op == 1) (ariths plus x y)
      (picks f (op == 2) (ariths minus x y)
      (picks f (op == 3) (ariths star x y) (picks f (op == 4) (ariths slash x y) (nones f))))))))))

  -- ---- names

  name_same : (y x : A) → same_text (bytesB (f y)) (bytesB (f x)) ≡ same_text (bytesA y) (bytesA x)
  name_same y x = ap₂ same_text (keeps y) (keeps x)

  find_same : (env : Env A) (x : A) → find bytesB (map_env f env) (f x) ≡ map_found (find bytesA env x)
  unfolding find
  find_same [] x = refl
  find_same (named y v ∷ env) x = cond_at map_found (name_same y x) refl (find_same env x)
  find_same (hidden v ∷ env) x = find_same env x

  behind_same : (b : Bound A) (o : Option (Env A)) → behind bytesB (map_bound f b) (map_changed o) ≡ map_changed (behind bytesA b o)
  behind_same b none = refl
  behind_same b (some env) = refl

  update_same : (env : Env A) (x : A) (v : Value A) → update bytesB (map_env f env) (f x) (map_value f v) ≡ map_changed (update bytesA env x v)
  unfolding update
  update_same [] x v = refl
  update_same (named y w ∷ env) x v =
      cond_at map_changed (name_same y x) refl
      (ap (behind bytesB (map_bound f (named y w))) (update_same env x v) ∙ behind_same (named y w) (update bytesA env x v))
  update_same (hidden w ∷ env) x v = ap (behind bytesB (map_bound f (hidden w))) (update_same env x v) ∙ behind_same (hidden w) (update bytesA env x v)

-- ---- runs

module _ {A B : Type 0} (f : A → B) where
  then_same : {X Y Z W : Type 0} (g : X → Y) (h : Z → W) (x : Result A X) (k : X → Run A Z) (k' : Y → Run B W) → ((a : X) → Alike f h (k a) (k' (g a))) →
      and_then (map_result f g x) k' ≡ map_result f h (and_then x k)
  then_same g h (got a env n) k k' p = (p a).runs env n
  then_same g h (ended o n) k k' p = refl

  pub then : {X Y Z W : Type 0} {g : X → Y} {h : Z → W} {m : Run A X} {m' : Run B Y} {k : X → Run A Z} (k' : Y → Run B W) →
      Alike f g m m' → ((a : X) → Alike f h (k a) (k' (g a))) → Alike f h (m >>= k) (m' >>= k')
  then {g = g} {h = h} {m = m} {k = k} k' p q =
      record { runs = λ env n. ap (λ r. and_then r k') (p.runs env n) ∙ then_same g h (m env n) k k' q }

  pub gives : {X Y : Type 0} (g : X → Y) (a : X) → Alike f g (give a) (give (g a))
  gives g a = record { runs = λ env n. refl }

  pub halts : {X Y : Type 0} (g : X → Y) (o : Outcome A) → Alike f g (halt o) (halt (map_outcome f o))
  halts g o = record { runs = λ env n. refl }

  tick_same : (env : Env A) (n : ℕ) → tick (map_env f env) n ≡ map_result f same (tick env n)
  tick_same env zero = refl
  tick_same env (suc n) = refl

  pub ticks : Alike f same tick tick
  ticks = record { runs = tick_same }

  pub charges : (k : ℕ) → Alike f same (charge k) (charge k)
  charges zero = gives same tt
  charges (suc k) = then _ ticks (λ _. charges k)

  or_faults : {X Y : Type 0} (g : X → Y) (k : ℕ) (o : Option X) → Alike f g (or_fault k o) (or_fault k (Option.map g o))
  or_faults g k none = halts g (fault k)
  or_faults g k (some a) = gives g a

  pub binds : (b : Bound A) → Alike f same (bind b) (bind (map_bound f b))
  binds b =
      record {
        runs = λ env n. cond_at (map_result f same) {b = nat_lt (length env) 128} {x = got tt (b ∷ env) n} {y = ended (fault 5) n}
            (ap (λ k. ltb k 128) (length-map env (map_bound f))) refl refl;
      }

  drop_same : (k : ℕ) (env : Env A) → drop k (map_env f env) ≡ map_env f (drop k env)
  drop_same zero env = refl
  drop_same (suc k) [] = refl
  drop_same (suc k) (b ∷ env) = drop_same k env

  leaving_same : {X Y : Type 0} (g : X → Y) (k : ℕ) (x : Result A X) → leaving k (map_result f g x) ≡ map_result f g (leaving k x)
  leaving_same g k (got a env n) =
      ap (λ e. got (g a) e n) (ap (λ j. drop (j - k) (map_env f env)) (length-map env (map_bound f)) ∙ drop_same (length env - k) env)
  leaving_same g k (ended o n) = refl

  pub scopes : {X Y : Type 0} {g : X → Y} {m : Run A X} {m' : Run B Y} → Alike f g m m' → Alike f g (scoped m) (scoped m')
  scopes {g = g} {m = m} p =
      record { runs = λ env n. ap₂ (λ k r. leaving k r) (length-map env (map_bound f)) (p.runs env n) ∙ leaving_same g (length env) (m env n) }

  pub truths : (k : ℕ) (w : Value A) → Alike f same (truth k w) (truth k (map_value f w))
  truths k (plain nothing) = halts same (fault k)
  truths k (plain (folded (value.int x))) = halts same (fault k)
  truths k (plain (folded (value.float x))) = halts same (fault k)
  truths k (plain (folded (value.str x))) = halts same (fault k)
  truths k (plain (folded (value.bool b))) = gives same b
  truths k (ok p) = halts same (fault k)
  truths k (err p) = halts same (fault k)

  pub plain_ofs : (w : Value A) → Alike f (map_plain f) (plain_of w) (plain_of (map_value f w))
  plain_ofs (plain p) = gives (map_plain f) p
  plain_ofs (ok p) = halts (map_plain f) (fault 2)
  plain_ofs (err p) = halts (map_plain f) (fault 2)

  err_ofs : (w : Value A) → Alike f same (err_of w) (err_of (map_value f w))
  err_ofs (plain p) = halts same (fault 2)
  err_ofs (ok p) = gives same false
  err_ofs (err p) = gives same true

  unwrappeds : (w : Value A) → Alike f (map_value f) (unwrapped w) (unwrapped (map_value f w))
  unwrappeds (plain p) = halts (map_value f) (fault 2)
  unwrappeds (ok p) = gives (map_value f) (plain p)
  unwrappeds (err p) = halts (map_value f) (stopped p)

  operand_same : (w : Value A) → operand (map_value f w) ≡ map_maybe f (operand w)
  operand_same (plain nothing) = refl
  operand_same (plain (folded v)) = refl
  operand_same (ok p) = refl
  operand_same (err p) = refl

-- ---- expressions

module _ {A B : Type 0} (f : A → B) (bytesA : A → List ℕ) (bytesB : B → List ℕ) (keeps : (t : A) → bytesB (f t) ≡ bytesA t) where
  looks : (x : A) → Alike f (map_value f) (look bytesA x) (look bytesB (f x))
  looks x =
      record {
        runs = λ env n. ap (λ o. or_fault 3 o (map_env f env) n) (find_same f bytesA bytesB keeps env x)
            ∙ (or_faults f (map_value f) 3 (find bytesA env x)).runs env n;
      }

  store_same : (o : Option (Env A)) (env : Env A) (n : ℕ) →
      and_then (or_fault 3 (Option.map (map_env f) o) (map_env f env) n) (λ e _ m. got (tt {0}) e m) ≡ map_result f same (and_then (or_fault 3 o env n) (λ e _ m. got (tt {0}) e m))
  store_same none env n = refl
  store_same (some e) env n = refl

  stores : (x : A) (v : Value A) → Alike f same (store bytesA x v) (store bytesB (f x) (map_value f v))
  stores x v =
      record {
        runs = λ env n. ap (λ o. and_then (or_fault 3 o (map_env f env) n) (λ e _ m. got (tt {0}) e m)) (update_same f bytesA bytesB keeps env x v)
            ∙ store_same (update bytesA env x v) env n;
      }

  folds_same : (o : Option (ConstVal A)) (o' : Option (ConstVal B)) → o' ≡ map_maybe f o →
      Alike f (map_value f) (or_fault 4 o >>= λ v. give (plain (folded v))) (or_fault 4 o' >>= λ v. give (plain (folded v)))
  folds_same o o' e =
      subst⁻¹ (λ z. Alike f (map_value f) (or_fault 4 o >>= λ v. give (plain (folded v))) (or_fault 4 z >>= λ v. give (plain (folded v)))) e
      (then f _ (or_faults f (map_const f) 4 o) (λ v. gives f (map_value f) (plain (folded v))))

  unary_ons : (op : ℕ) (v : Value A) → Alike f (map_value f) (unary_on bytesA op (operand v)) (unary_on bytesB op (operand (map_value f v)))
  unary_ons op (plain nothing) = halts f (map_value f) (fault 4)
  unary_ons op (plain (folded v)) = folds_same (unary_value op v) (unary_value op (map_const f v)) (unary_same f op v)
  unary_ons op (ok p) = halts f (map_value f) (fault 4)
  unary_ons op (err p) = halts f (map_value f) (fault 4)

  binary_ons_of : (op : ℕ) (v w : Option (ConstVal A)) → Alike f (map_value f) (binary_on bytesA op v w) (binary_on bytesB op (map_maybe f v) (map_maybe f w))
  binary_ons_of op none w = halts f (map_value f) (fault 4)
  binary_ons_of op (some v) none = halts f (map_value f) (fault 4)
  binary_ons_of op (some v) (some w) = folds_same (binary_value bytesA op v w) (binary_value bytesB op (map_const f v) (map_const f w)) (binaries f bytesA bytesB keeps op v w).is

  binary_ons : (op : ℕ) (v w : Value A) → Alike f (map_value f) (binary_on bytesA op (operand v) (operand w)) (binary_on bytesB op (operand (map_value f v)) (operand (map_value f w)))
  binary_ons op v w =
      subst⁻¹ (λ z. Alike f (map_value f) (binary_on bytesA op (operand v) (operand w)) (binary_on bytesB op z (operand (map_value f w)))) (operand_same f v)
      (subst⁻¹ (λ z. Alike f (map_value f) (binary_on bytesA op (operand v) (operand w)) (binary_on bytesB op (map_maybe f (operand v)) z)) (operand_same f w)
      (binary_ons_of op (operand v) (operand w)))

  pub evals : (e : Expr A) → Alike f (map_value f) (eval bytesA e) (eval bytesB (map_expr f e))
  unfolding eval map_expr
  evals null = then f _ (ticks f) (λ _. gives f (map_value f) (plain nothing))
  evals (literal l) = then f _ (ticks f) (λ _. folds_same l (map_maybe f l) refl)
  evals (identifier x) = then f _ (ticks f) (λ _. looks x)
  evals (unary op e) = then f _ (ticks f) (λ _. then f _ (evals e) (unary_ons op))
  evals (binary l op r) = then f _ (ticks f) (λ _. then f _ (evals l) (λ v. then f _ (evals r) (binary_ons op v)))
  evals (grouping e) = then f _ (ticks f) (λ _. evals e)
  evals (assign x e) = then f _ (ticks f) (λ _. then f _ (evals e) (λ v. then f _ (stores x v) (λ _. gives f (map_value f) v)))
  evals (ok_literal e) = then f _ (ticks f) (λ _. then f _ (evals e) (λ v. then f _ (plain_ofs f v) (λ p. gives f (map_value f) (ok p))))
  evals (err_literal e) = then f _ (ticks f) (λ _. then f _ (evals e) (λ v. then f _ (plain_ofs f v) (λ p. gives f (map_value f) (err p))))
  evals (is_err e) = then f _ (ticks f) (λ _. then f _ (evals e) (λ v. then f _ (err_ofs f v) (λ b. gives f (map_value f) (plain (folded (value.bool b))))))
  evals (result_unwrap e) = then f _ (ticks f) (λ _. then f _ (evals e) (unwrappeds f))
  evals other = then f _ (ticks f) (λ _. halts f (map_value f) (fault 1))
