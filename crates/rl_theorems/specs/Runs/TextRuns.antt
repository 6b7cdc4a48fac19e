-- Statements, bodies and functions with their texts mapped run as they did, mapped: the texts keep their bytes.
-- Assumes nothing.
use Rattle.std.specs.Prelude.{◌≡◌, ℕ, zero, suc, Bool, true, false, List, [], ◌∷◌, map}
use Rattle.std.proofs.Math.Path.{refl, ap, subst⁻¹}
use Rattle.std.proofs.Common.{ap₂, ◌∙◌}
use Rattle.std.proofs.Math.Option
use Rattle.std.proofs.Math.Option.{Option, none, some}
use Rattle.rl_spec.specs.Tree.{Expr}
use Rattle.rl_spec.specs.Statement.{Stmt, declaration, expression, return, return_alone, conditional, while, loop, break, continue, other_statement, Body, nil, ◌▸◌, Branch, branch, Else, no_else, else_branch, else_conditional}
use Rattle.rl_spec.specs.Mapped.{map_value, map_outcome, map_expr, map_stmt, map_body, map_branch, map_else}
use Rattle.rl_spec.specs.Run.{nothing, Value, plain, ok, err, named, hidden, Outcome, returned, stopped, fault, Result, got, ended, ending, Run, give, eval}
use Rattle.rl_spec.specs.Reading.{Check, Function, Mode, plainly, checked, mode_of, bare, only_returned, with_return, body_under, Flow, onward, breaks, continues, followed, followed_top, again, turns, repeat, loop_turn, when, unless, bind_all, content, subject, violated, check, checks, checked_return, returning, returning_null, taken, while_turn, stmt, body, branch_or, or_else, last_or, top, entering, run_function, reading}
use Rattle.rl_theorems.specs.Runs.Texts.{map_result, Alike, same, then, gives, halts, ticks, charges, binds, scopes, truths, plain_ofs, evals}

-- ---- functions and outcomes with their texts mapped

module _ {A B : Type 0} (f : A → B) where
  abbrev pub map_check : Check A → Check B
  map_check c = record { condition = map_expr f c.condition; message = map_expr f c.message }

  abbrev pub map_mode : Mode A → Mode B
  map_mode plainly = plainly
  map_mode (checked ret r cs) = checked (f ret) r (map map_check cs)

  abbrev pub map_function : Function A → Function B
  map_function g =
      record {
        name = f g.name;
        params = map f g.params;
        is_result = g.is_result;
        entry = map map_check g.entry;
        ensures = map map_check g.ensures;
        body = map_body f g.body;
      }

  abbrev pub map_ended : Outcome A × ℕ → Outcome B × ℕ
  map_ended r = (map_outcome f r.0, r.1)

  -- ---- what goes on

  followeds : (w : Flow) {k : Run A Flow} {k' : Run B Flow} → Alike f same k k' → Alike f same (followed w k) (followed w k')
  followeds onward h = h
  followeds breaks h = gives f same breaks
  followeds continues h = gives f same continues

  tops_next : {X Y : Type 0} {g : X → Y} (w : Flow) {k : Run A X} {k' : Run B Y} → Alike f g k k' → Alike f g (followed_top w k) (followed_top w k')
  tops_next onward h = h
  tops_next {g = g} breaks h = halts f g (fault 1)
  tops_next {g = g} continues h = halts f g (fault 1)

  agains : (w : Flow) {k : Run A Flow} {k' : Run B Flow} → Alike f same k k' → Alike f same (again w k) (again w k')
  agains onward h = h
  agains breaks h = gives f same onward
  agains continues h = h

  whens : (b : Bool) {k l : Run A Flow} {k' l' : Run B Flow} → Alike f same k k' → Alike f same l l' → Alike f same (when b k l) (when b k' l')
  whens true h g = h
  whens false h g = g

  unlesses : (b : Bool) {k : Run A (Unit {0})} {k' : Run B (Unit {0})} → Alike f same k k' → Alike f same (unless b k) (unless b k')
  unlesses true h = gives f same tt
  unlesses false h = h

  bind_alls : (xs : List A) (vs : List (Value A)) → Alike f same (bind_all xs vs) (bind_all (map f xs) (map (map_value f) vs))
  bind_alls [] vs = gives f same tt
  bind_alls (x ∷ xs) [] = gives f same tt
  bind_alls (x ∷ xs) (v ∷ vs) = then f _ (binds f (named x v)) (λ _. bind_alls xs vs)

  contents : (w : Value A) → Alike f (map_value f) (content w) (content (map_value f w))
  contents (plain p) = halts f (map_value f) (fault 2)
  contents (ok p) = gives f (map_value f) (plain p)
  contents (err p) = then f _ (charges f 2) (λ _. halts f (map_value f) (returned (err p)))

  subjects : (r : Bool) (w : Value A) → Alike f (map_value f) (subject r w) (subject r (map_value f w))
  subjects false w = then f _ (charges f 2) (λ _. gives f (map_value f) w)
  subjects true w = then f _ (charges f 3) (λ _. then f _ (contents w) (λ z. then f _ (charges f 3) (λ _. gives f (map_value f) z)))

  -- ---- loops, by the count that bounds their turns

  abbrev AlikeTurns : (Run A Flow → Run A Flow) → (Run B Flow → Run B Flow) → Type 0
  AlikeTurns turn turn' = (k : Run A Flow) (k' : Run B Flow) → Alike f same k k' → Alike f same (turn k) (turn' k')

  turnses : (j : ℕ) (turn : Run A Flow → Run A Flow) (turn' : Run B Flow → Run B Flow) → AlikeTurns turn turn' → Alike f same (turns j turn) (turns j turn')
  unfolding turns
  turnses zero turn turn' h = record { runs = λ env n. refl }
  turnses (suc j) turn turn' h =
      record { runs = λ env n. (then f (λ _. turn' (turns j turn')) (ticks f) (λ _. h (turns j turn) (turns j turn') (turnses j turn turn' h))).runs env n }

  repeats : (turn : Run A Flow → Run A Flow) (turn' : Run B Flow → Run B Flow) → AlikeTurns turn turn' → Alike f same (repeat turn) (repeat turn')
  repeats turn turn' h = record { runs = λ env n. (turnses n turn turn' h).runs env n }

  loop_turns : {b : Run A Flow} {b' : Run B Flow} → Alike f same b b' → AlikeTurns (loop_turn b) (loop_turn b')
  loop_turns h k k' g = then f _ (scopes f h) (λ w. agains w g)

module _ {A B : Type 0} (f : A → B) (bytesA : A → List ℕ) (bytesB : B → List ℕ) (keeps : (t : A) → bytesB (f t) ≡ bytesA t) where
  evs : (e : Expr A) → Alike f (map_value f) (eval bytesA e) (eval bytesB (map_expr f e))
  evs e = evals f bytesA bytesB keeps e

  -- ---- checks and returns

  takens : (c : Option (Expr A)) → Alike f same (taken bytesA c) (taken bytesB (Option.map (map_expr f) c))
  takens none = gives f same true
  takens (some e) = then f _ (evs e) (truths f 2)

  violateds : (r : Bool) (m : Expr A) → Alike f same (violated bytesA r m) (violated bytesB r (map_expr f m))
  violateds false m = then f _ (charges f 3) (λ _. then f _ (evs m) (λ w. then f _ (plain_ofs f w) (λ p. halts f same (stopped p))))
  violateds true m = then f _ (charges f 2) (λ _. then f _ (evs m) (λ w. then f _ (plain_ofs f w) (λ p. halts f same (returned (err p)))))

  check_alike : (r : Bool) (c : Check A) → Alike f same (check bytesA r c) (check bytesB r (map_check f c))
  check_alike r c =
      then f _ (charges f 2)
      (λ _. then f _ (evs c.condition) (λ w. then f _ (truths f 4 w) (λ b. unlesses f b (violateds r c.message))))

  pub checkses : (r : Bool) (cs : List (Check A)) → Alike f same (checks bytesA r cs) (checks bytesB r (map (map_check f) cs))
  unfolding checks
  checkses r [] = gives f same tt
  checkses r (c ∷ cs) = then f _ (check_alike r c) (λ _. checkses r cs)

  checked_returns : (ret : A) (r : Bool) (cs : List (Check A)) (v : Value A) → Alike f same (checked_return bytesA ret r cs v) (checked_return bytesB (f ret) r (map (map_check f) cs) (map_value f v))
  checked_returns ret r cs v =
      then f _ (binds f (hidden v)) (λ _. then f _ (subjects f r v) (λ w. then f _ (binds f (named ret w))
      (λ _. then f _ (checkses r cs) (λ _. then f _ (charges f 2) (λ _. halts f same (returned v))))))

  returns : (m : Mode A) (v : Value A) → Alike f same (returning bytesA m v) (returning bytesB (map_mode f m) (map_value f v))
  returns plainly v = halts f same (returned v)
  returns (checked ret r cs) v = checked_returns ret r cs v

  return_nulls : (m : Mode A) → Alike f same (returning_null bytesA m) (returning_null bytesB (map_mode f m))
  return_nulls plainly = halts f same (returned (plain nothing))
  return_nulls (checked ret r cs) = then f _ (charges f 1) (λ _. checked_returns ret r cs (plain nothing))

  -- ---- statements and bodies, in both modes

  while_turns : (e : Expr A) {b : Run A Flow} {b' : Run B Flow} → Alike f same b b' → AlikeTurns f (while_turn bytesA e b) (while_turn bytesB (map_expr f e) b')
  while_turns e h k k' g = then f _ (takens (some e)) (λ t. whens f t (then f _ (scopes f h) (λ w. agains f w g)) (gives f same onward))

  mutual
    unfolding stmt map_stmt

    pub stmts : (m : Mode A) (s : Stmt A) → Alike f same (stmt bytesA m s) (stmt bytesB (map_mode f m) (map_stmt f s))
    stmts m (declaration x e) = then f _ (ticks f) (λ _. then f _ (evs e) (λ v. then f _ (binds f (named x v)) (λ _. gives f same onward)))
    stmts m (expression e) = then f _ (ticks f) (λ _. then f _ (evs e) (λ v. gives f same onward))
    stmts m (return e) = then f _ (ticks f) (λ _. then f _ (evs e) (returns m))
    stmts m return_alone = then f _ (ticks f) (λ _. return_nulls m)
    stmts m (conditional b e) = then f _ (ticks f) (λ _. branches m b (or_else bytesA m e) (or_else bytesB (map_mode f m) (map_else f e)) (elses m e))
    stmts m (while e b) = then f _ (ticks f) (λ _. repeats f _ _ (while_turns e (bodies m b)))
    stmts m (loop b) = then f _ (ticks f) (λ _. repeats f _ _ (loop_turns f (bodies m b)))
    stmts m break = then f _ (ticks f) (λ _. gives f same breaks)
    stmts m continue = then f _ (ticks f) (λ _. gives f same continues)
    stmts m other_statement = then f _ (ticks f) (λ _. halts f same (fault 1))

    pub bodies : (m : Mode A) (b : Body A) → Alike f same (body bytesA m b) (body bytesB (map_mode f m) (map_body f b))
    bodies m nil = gives f same onward
    bodies m (s ▸ b) = then f _ (stmts m s) (λ w. followeds f w (bodies m b))

    pub branches : (m : Mode A) (b : Branch A) (k : Run A Flow) (k' : Run B Flow) → Alike f same k k' → Alike f same (branch_or bytesA m b k) (branch_or bytesB (map_mode f m) (map_branch f b) k')
    branches m (branch c b) k k' h = then f _ (takens c) (λ t. whens f t (scopes f (bodies m b)) h)

    pub elses : (m : Mode A) (e : Else A) → Alike f same (or_else bytesA m e) (or_else bytesB (map_mode f m) (map_else f e))
    elses m no_else = gives f same onward
    elses m (else_branch b) = branches m b (give onward) (give onward) (gives f same onward)
    elses m (else_conditional b e) = branches plainly b (or_else bytesA plainly e) (or_else bytesB plainly (map_else f e)) (elses plainly e)

  bare_same : (s : Stmt A) → bare (map_stmt f s) ≡ Option.map (map_expr f) (bare s)
  unfolding map_stmt
  bare_same (declaration x e) = refl
  bare_same (expression e) = refl
  bare_same (return e) = refl
  bare_same return_alone = refl
  bare_same (conditional b e) = refl
  bare_same (while e b) = refl
  bare_same (loop b) = refl
  bare_same break = refl
  bare_same continue = refl
  bare_same other_statement = refl

  lasts : (o : Option (Expr A)) {k : Run A Flow} {k' : Run B Flow} → Alike f same k k' → Alike f (map_value f) (last_or bytesA o k) (last_or bytesB (Option.map (map_expr f) o) k')
  lasts none h = then f _ h (λ w. tops_next f w (gives f (map_value f) (plain nothing)))
  lasts (some e) h = then f _ (ticks f) (λ _. evs e)

  pub tops : (m : Mode A) (b : Body A) → Alike f (map_value f) (top bytesA m b) (top bytesB (map_mode f m) (map_body f b))
  unfolding top map_body
  tops m nil = gives f (map_value f) (plain nothing)
  tops m (s ▸ nil) =
      subst⁻¹ (λ o. Alike f (map_value f) (last_or bytesA (bare s) (stmt bytesA m s)) (last_or bytesB o (stmt bytesB (map_mode f m) (map_stmt f s)))) (bare_same s)
      (lasts (bare s) (stmts m s))
  tops m (s ▸ (t ▸ b)) = then f _ (stmts m s) (λ w. tops_next f w (tops m (t ▸ b)))

  -- ---- functions

  ending_same : (x : Result A (Value A)) → ending (map_result f (map_value f) x) ≡ map_ended f (ending x)
  ending_same (got v env n) = refl
  ending_same (ended o n) = refl

  endings : (budget : ℕ) {m : Run A (Value A)} {m' : Run B (Value B)} → Alike f (map_value f) m m' → ending (m' [] budget) ≡ map_ended f (ending (m [] budget))
  endings budget {m = m} h = ap ending (h.runs [] budget) ∙ ending_same (m [] budget)

  -- THE RUN of the mapped function is the run, mapped
  pub run_mapped : (g : Function A) (vs : List (Value A)) (budget : ℕ) →
      run_function bytesB (map_function f g) (map (map_value f) vs) budget ≡ map_ended f (run_function bytesA g vs budget)
  unfolding run_function
  run_mapped g vs budget = endings budget (then f _ (bind_alls f g.params vs) (λ _. tops plainly g.body))

  -- ---- the contract reading

  mode_same : (ret : A) (r : Bool) (cs : List (Check A)) → mode_of (f ret) r (map (map_check f) cs) ≡ map_mode f (mode_of ret r cs)
  mode_same ret r [] = refl
  mode_same ret r (c ∷ cs) = refl

  only_same : (s : Stmt A) (o : Option (Expr A)) → only_returned (map_stmt f s) (Option.map (map_expr f) o) ≡ map_body f (only_returned s o)
  unfolding map_body map_stmt
  only_same s none = refl
  only_same s (some e) = refl

  with_return_same : (b : Body A) → with_return (map_body f b) ≡ map_body f (with_return b)
  unfolding map_body
  with_return_same nil = refl
  with_return_same (s ▸ nil) = ap (only_returned (map_stmt f s)) (bare_same s) ∙ only_same s (bare s)
  with_return_same (s ▸ (t ▸ b)) = refl

  under_same : (cs : List (Check A)) (b : Body A) → body_under (map (map_check f) cs) (map_body f b) ≡ map_body f (body_under cs b)
  under_same [] b = refl
  under_same (c ∷ cs) b = with_return_same b

  tops_under : (ret : A) (r : Bool) (cs : List (Check A)) (b : Body A) →
      Alike f (map_value f) (top bytesA (mode_of ret r cs) (body_under cs b)) (top bytesB (mode_of (f ret) r (map (map_check f) cs)) (body_under (map (map_check f) cs) (map_body f b)))
  tops_under ret r cs b =
      subst⁻¹ (Alike f (map_value f) (top bytesA (mode_of ret r cs) (body_under cs b))) (ap₂ (top bytesB) (mode_same ret r cs) (under_same cs b))
      (tops (mode_of ret r cs) (body_under cs b))

  enterings : (g : Function A) (vs : List (Value A)) → Alike f same (entering bytesA g vs) (entering bytesB (map_function f g) (map (map_value f) vs))
  enterings g vs = then f _ (bind_alls f g.params vs) (λ _. checkses g.is_result g.entry)

  -- THE CONTRACT READING of the mapped function is the reading, mapped
  pub reading_mapped : (ret : A) (g : Function A) (vs : List (Value A)) (budget : ℕ) →
      reading bytesB (f ret) (map_function f g) (map (map_value f) vs) budget ≡ map_ended f (reading bytesA ret g vs budget)
  unfolding reading
  reading_mapped ret g vs budget = endings budget (then f _ (enterings g vs) (λ _. tops_under ret g.is_result g.ensures g.body))
