-- A return that is wrapped: its statements, one after the other.
-- Assumes nothing.
use Rattle.std.proofs.Common.{◌≡◌, ℕ, Bool, true, false, cond, List, [], ◌∷◌, ◌++◌, sym, refl, ◌∙◌, subst, append_assoc, arith}
use Rattle.rl_spec.specs.declared.Clause.{Clause}
use Rattle.rl_spec.specs.Image.{Image}
use Rattle.rl_spec.specs.Tree.{ascii}
use Rattle.rl_spec.specs.Message.{decimal}
use Rattle.rl_spec.specs.Make.{Make, ◌>>=◌, give, take_temp, each}
use Rattle.rl_spec.specs.Lower.{ident, unwrap_call, is_err_call, only_if, clause_guard, declare, return_of, skip_err, wrap_as, wrap_return}
use Rattle.rl_context.specs.Does.{State, nothing, one, all, Does, Pushes}
use Rattle.rl_context.proofs.Composed.{Keeps, does_bind, does_then, does_give, does_push}
use Rattle.rl_images.specs.Lowering.Adds.{Adds, adds_give, adds_bind, adds_flag, adds_cond, adds_each}
use Rattle.rl_context.proofs.StaysOver.{keeps_more, keeps_one, keeps_all}
use Rattle.rl_images.specs.Lowering.AddsLower.{adds_ident, adds_call, adds_only_if, adds_clause, adds_declare, adds_return, adds_skip, adds_wrap_as}
use Rattle.rl_context.proofs.NodesMade.{assoc, does_none, does_only}
use Rattle.rl_context.proofs.StatementsMade.{does_by_result}
use Rattle.rl_context.specs.Guards.{Makes, Gathers, inner_of}

-- ---- the parts

pub skip_err_does : {im : Image} {s t u v w z : State} {n check r skip : ℕ} (temp : List ℕ) → Makes im (ident temp) s n t → Makes im (is_err_call n) t check u → Makes im (return_of temp) u r v →
    Makes im (only_if check r) v skip w → Pushes skip w z → Gathers im 0 (skip_err temp) s z
skip_err_does {check = check} {skip = skip} temp d e f g p =
    (skip ∷ [], does_bind d (keeps_more all (λ n. adds_bind (adds_call _ n) from_call)) (does_bind e (keeps_more all from_call) (does_bind f (keeps_more all (from_return check)) (does_only (does_push g p)))))
  where
    from_return : (c r : ℕ) → Adds (only_if c r >>= λ k. give (k ∷ []))
    from_return c r = adds_bind (adds_only_if c r) (λ k. adds_give _)

    from_call : (c : ℕ) → Adds (return_of temp >>= λ r. only_if c r >>= λ k. give (k ∷ []))
    from_call c = adds_bind (adds_return temp) (from_return c)

module _ {im : Image} {s : State} (temp : List ℕ) (b : Bool) where
  pub skip_some : {t : State} → b ≡ true → Gathers im 0 (skip_err temp) s t → Gathers im 0 (cond b (skip_err temp) (give [])) s t
  skip_some {t} e g = subst (λ z. Gathers im 0 (cond z (skip_err temp) (give [])) s t) (sym e) g

  pub skip_none : b ≡ false → Gathers im 0 (cond b (skip_err temp) (give [])) s s
  skip_none e = subst (λ z. Gathers im 0 (cond z (skip_err temp) (give [])) s s) (sym e) ([], does_none s)

  module _ {t : State} {n : ℕ} (d : Makes im (ident temp) s n t) where
    inner_then : {u : State} {a : ℕ} → Makes im (cond b (unwrap_call n) (give n)) t a u → Makes im (inner_of temp b) s a u
    inner_then e = does_bind d (keeps_more nothing (λ m. adds_cond b (adds_call _ m) (adds_give m))) e

    pub inner_unwrapped : {u : State} {a : ℕ} → b ≡ true → Makes im (unwrap_call n) t a u → Makes im (inner_of temp b) s a u
    inner_unwrapped {u} {a} e f = inner_then (subst (λ z. Makes im (cond z (unwrap_call n) (give n)) t a u) (sym e) f)

    pub inner_plain : b ≡ false → Makes im (inner_of temp b) s n t
    inner_plain e = inner_then (subst (λ z. Makes im (cond z (unwrap_call n) (give n)) t n t) (sym e) (does_give im 0 n t))

-- ---- the whole, each statement put ahead of those that come after it

pub bind_same : {A B : Type 0} (m : Make A) {f g : A → Make B} → ((a : A) → f a ≡ g a) → (m >>= f) ≡ (m >>= g)
bind_same m h = λ i. m >>= λ a. h a i

module _ (temp : List ℕ) (b : Bool) (value : ℕ) (ensures : List Clause) where
  abbrev guards : Make (List ℕ)
  guards = each (clause_guard (ascii "ensures violated")) ensures

  abbrev skips : Make (List ℕ)
  skips = cond b (skip_err temp) (give [])

  -- what is left, with what is made of its statements
  abbrev from_last : (List ℕ → List ℕ) → Make (List ℕ)
  from_last g = return_of temp >>= λ s. give (g (s ∷ []))

  abbrev from_guards : (List ℕ → List ℕ) → Make (List ℕ)
  from_guards g = guards >>= λ ns. from_last (λ l. g (ns ++ l))

  abbrev from_ret : ℕ → (List ℕ → List ℕ) → Make (List ℕ)
  from_ret v g = declare (ascii "ret") v >>= λ r. from_guards (λ l. g (r ∷ l))

  abbrev from_inner : (List ℕ → List ℕ) → Make (List ℕ)
  from_inner g = inner_of temp b >>= λ v. from_ret v g

  abbrev from_skip : (List ℕ → List ℕ) → Make (List ℕ)
  from_skip g = skips >>= λ ns. from_inner (λ l. g (ns ++ l))

  abbrev same : List ℕ → List ℕ
  same l = l

  module _ (g : List ℕ → List ℕ) where
    last_then : (h : List ℕ → List ℕ) → (from_last h >>= λ l. give (g l)) ≡ from_last (λ l. g (h l))
    last_then h = assoc (return_of temp) (λ s. give (h (s ∷ []))) (λ l. give (g l))

    guards_then : (h : List ℕ → List ℕ) → (from_guards h >>= λ l. give (g l)) ≡ from_guards (λ l. g (h l))
    guards_then h =
        assoc guards (λ ns. from_last (λ l. h (ns ++ l))) (λ l. give (g l)) ∙ bind_same guards (λ ns. last_then (λ l. h (ns ++ l)))

    ret_then : (v : ℕ) (h : List ℕ → List ℕ) → (from_ret v h >>= λ l. give (g l)) ≡ from_ret v (λ l. g (h l))
    ret_then v h =
        assoc (declare (ascii "ret") v) (λ r. from_guards (λ l. h (r ∷ l))) (λ l. give (g l))
        ∙ bind_same (declare (ascii "ret") v) (λ r. guards_then (λ l. h (r ∷ l)))

    inner_all : (h : List ℕ → List ℕ) → (from_inner h >>= λ l. give (g l)) ≡ from_inner (λ l. g (h l))
    inner_all h = assoc (inner_of temp b) (λ v. from_ret v h) (λ l. give (g l)) ∙ bind_same (inner_of temp b) (λ v. ret_then v h)

    skip_then : (h : List ℕ → List ℕ) → (from_skip h >>= λ l. give (g l)) ≡ from_skip (λ l. g (h l))
    skip_then h =
        assoc skips (λ ns. from_inner (λ l. h (ns ++ l))) (λ l. give (g l)) ∙ bind_same skips (λ ns. inner_all (λ l. h (ns ++ l)))

  wrap_is : wrap_as temp b value ensures ≡ (declare temp value >>= λ dec. from_skip (λ l. dec ∷ l))
  unfolding wrap_as
  wrap_is =
      (λ i. declare temp value >>= λ dec. skips >>= λ skip. ident temp >>= λ n. cond b (unwrap_call n) (give n) >>= λ v. declare (ascii "ret") v >>= λ ret. guards >>= λ ns. return_of temp >>= λ s. give (append_assoc (dec ∷ skip) (ret ∷ ns) (s ∷ []) i))
      ∙ bind_same (declare temp value) (λ dec. bind_same skips (λ skip. sym (assoc (ident temp) (λ n. cond b (unwrap_call n) (give n)) (λ v. from_ret v (λ l. dec ∷ (skip ++ l))))))

  more_last : Adds (from_last same)
  more_last = adds_bind (adds_return temp) (λ s. adds_give _)

  more_guards : Adds (from_guards same)
  more_guards = adds_bind (adds_each (adds_clause _) ensures) (λ ns. adds_bind (adds_return temp) (λ s. adds_give _))

  more_ret : (v : ℕ) → Adds (from_ret v same)
  more_ret v = adds_bind (adds_declare _ v) (λ r. adds_bind (adds_each (adds_clause _) ensures) (λ ns. adds_bind (adds_return temp) (λ s. adds_give _)))

  more_inner : Adds (from_inner same)
  more_inner = adds_bind (adds_bind (adds_ident temp) (λ n. adds_cond b (adds_call _ n) (adds_give n))) more_ret

  more_skips : Adds (from_skip same)
  more_skips =
      adds_bind (adds_cond b (adds_skip temp) (adds_give []))
      (λ ns. adds_bind (adds_bind (adds_ident temp) (λ n. adds_cond b (adds_call _ n) (adds_give n))) (λ v. adds_bind (adds_declare _ v) (λ r. adds_bind (adds_each (adds_clause _) ensures) (λ ms. adds_bind (adds_return temp) (λ s. adds_give _)))))

  -- one, or some, and then what is left
  ahead : {im : Image} {j : ℕ} {s t u : State} {n : ℕ} {m : Make ℕ} (rest : (List ℕ → List ℕ) → Make (List ℕ)) → ((g h : List ℕ → List ℕ) → (rest h >>= λ l. give (g l)) ≡ rest (λ l. g (h l))) → Adds (rest same) →
      Does im j 0 one m s n t → Gathers im 0 (rest same) t u → Gathers im j (m >>= λ k. rest (λ l. k ∷ l)) s u
  ahead {n = n} rest then more d r =
      (n ∷ r.0, does_then (λ l. n ∷ l) d r.1 keeps (sym (then (λ l. n ∷ l) same)) (λ c. refl))
    where
      keeps : Keeps one (λ k. rest (λ l. k ∷ l)) all
      keeps = subst (λ f. Keeps one f all) (λ i k. then (λ l. k ∷ l) same i) (keeps_one (λ k l. k ∷ l) more (λ k l. omega arith))

  some_ahead : {im : Image} {s t u : State} {m : Make (List ℕ)} (rest : (List ℕ → List ℕ) → Make (List ℕ)) → ((g h : List ℕ → List ℕ) → (rest h >>= λ l. give (g l)) ≡ rest (λ l. g (h l))) → Adds (rest same) →
      Gathers im 0 m s t → Gathers im 0 (rest same) t u → Gathers im 0 (m >>= λ ns. rest (λ l. ns ++ l)) s u
  some_ahead rest then more d r =
      (d.0 ++ r.0, does_then (λ l. d.0 ++ l) d.1 r.1 keeps (sym (then (λ l. d.0 ++ l) same)) (λ c. refl))
    where
      keeps : Keeps all (λ ns. rest (λ l. ns ++ l)) all
      keeps = subst (λ f. Keeps all f all) (λ i ns. then (λ l. ns ++ l) same i) (keeps_all more)

  -- THE LAW: the declaration, the skip, `ret`, the guards and the return
  pub wrap_does : {im : Image} {s₀ s₁ s₂ s₃ s₄ s₅ s₆ s₇ s₈ s₉ : State} {dec v ret last : ℕ} →
      Does im 1 0 nothing (declare temp value) s₀ dec s₁ → Pushes dec s₁ s₂ → Gathers im 0 skips s₂ s₃ → Makes im (inner_of temp b) s₃ v s₄ →
      Makes im (declare (ascii "ret") v) s₄ ret s₅ → Pushes ret s₅ s₆ → Gathers im 0 guards s₆ s₇ → Makes im (return_of temp) s₇ last s₈ → Pushes last s₈ s₉ →
      Gathers im 1 (wrap_as temp b value ensures) s₀ s₉
  wrap_does {im} {s₀} {s₂ = s₂} {s₃ = s₃} {s₆ = s₆} {s₇ = s₇} {s₉ = s₉} {v = v} {last = last} d p e f g q h k r =
      subst (λ m. Gathers im 1 m s₀ s₉) (sym wrap_is) (ahead from_skip skip_then more_skips (does_push d p) skipped)
    where
      ended : Gathers im 0 (from_last same) s₇ s₉
      ended = (last ∷ [], does_only (does_push k r))

      guarded : Gathers im 0 (from_guards same) s₆ s₉
      guarded = some_ahead from_last last_then more_last h ended

      returned : Gathers im 0 (from_inner same) s₃ s₉
      returned =
          let l : Gathers im 0 (from_ret v same) _ s₉ = ahead from_guards guards_then more_guards (does_push g q) guarded in
          (l.0, does_bind f (keeps_more all more_ret) l.1)

      skipped : Gathers im 0 (from_skip same) s₂ s₉
      skipped = some_ahead from_inner inner_all more_inner e returned

pub wrap_return_does : {im : Image} {s t u : State} {n : ℕ} (name : List ℕ) (value : ℕ) (ensures : List Clause) → name ≡ ascii "__ensure_ret_" ++ decimal n →
    Does im 0 1 nothing take_temp s n t → Gathers im 1 (wrap_as name t.ctx.is_result value ensures) t u → Gathers im 0 (wrap_return value ensures) s u
unfolding wrap_return
wrap_return_does {im} {t = t} {u} {n} name value ensures e d g = (
  g.0,
  does_bind d (keeps_more all (λ k. adds_bind adds_flag (λ is_result. adds_wrap_as (ascii "__ensure_ret_" ++ decimal k) is_result value ensures)))
      (does_by_result (λ b. wrap_as (ascii "__ensure_ret_" ++ decimal n) b value ensures) (λ b. adds_wrap_as _ b value ensures)
      (subst (λ l. Does im 1 0 all (wrap_as l t.ctx.is_result value ensures) t g.0 u) e g.1)),
)
