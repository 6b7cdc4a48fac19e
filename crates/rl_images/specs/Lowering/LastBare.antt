-- The last statement that is made for a body is bare exactly where the body's own last statement is, and then it is that statement.
-- Assumes nothing.
use Rattle.std.specs.Prelude.{ℕ, suc, ◌-◌, ◌≤◌, ◌<◌, ◌≡◌, refl, Bool, true, false, not, cond, ◌&&◌, List, [], ◌∷◌, ◌++◌, eqb, ltb, length, get_or}
use Rattle.std.proofs.Common.{ap, sym, ◌∙◌, true≢false, append-nil, arith, eqb-true, ne_eqb}
use Rattle.std.proofs.Math.Option.{Option}
use Rattle.rl_spec.specs.declared.Section.TheVariants.{Statements}
use Rattle.rl_spec.specs.declared.Clause.{Clause}
use Rattle.rl_spec.specs.Image.{Field, num, Rec, Image, size_of, record_of, field_of}
use Rattle.rl_spec.specs.Ranges.{optional, optional_field}
use Rattle.rl_spec.specs.Tree.{ascii, number, below}
use Rattle.rl_spec.specs.FnContracts.{is_empty}
use Rattle.rl_spec.specs.Message.{decimal}
use Rattle.rl_spec.specs.Make.{Context, Make, and_then, ◌>>=◌, give, image_so_far, flat_map, made, stmt, entries_of}
use Rattle.rl_spec.specs.Lower.{return_of, wrap_as, wrap_return, conditional, match, loop, only, transform_statement_by, transform_statement, last_of}
use Rattle.rl_laws.specs.Descend.{descend_is}
use Rattle.rl_images.specs.Lowering.Gives.{Gives, gives, weaker}
use Rattle.rl_images.specs.Lowering.Grows.{Grows, size_grows, record_kept}
use Rattle.rl_images.specs.Lowering.GrowsTo.{Limited, GrowsTo, ◌▷◌, ◌▹◌, given, test, list_good, expr_good, temp_good}
use Rattle.rl_images.specs.Lowering.Adds.{Adds, adds_grows, adds_give, adds_cond, adds_each}
use Rattle.rl_images.specs.Lowering.AddsLower.{adds_ident, adds_call, adds_clause, adds_declare, adds_skip, adds_body, adds_branch, adds_else, adds_arm, adds_statement}
use Rattle.rl_images.specs.Lowering.NewRecords.{record_ok}

-- ---- the last of a list

data EndsIn (n : ℕ) : List ℕ → Type 0 where
  end : EndsIn n (n ∷ [])
  before : {m : ℕ} {ns : List ℕ} → EndsIn n ns → EndsIn n (m ∷ ns)

ends_in : (m : ℕ) (ns : List ℕ) → (n : ℕ) × EndsIn n (m ∷ ns)
ends_in m [] = (m, end)
ends_in m (n ∷ ns) = let p = ends_in n ns in (p.0, before p.1)

ends_append : {n : ℕ} {ns : List ℕ} (ms : List ℕ) → EndsIn n ns → EndsIn n (ms ++ ns)
ends_append [] p = p
ends_append (m ∷ ms) p = before (ends_append ms p)

ends_some : {n : ℕ} {ns : List ℕ} → EndsIn n ns → is_empty ns ≡ false
ends_some end = refl
ends_some (before p) = refl

ends_length : {n : ℕ} {ns : List ℕ} → EndsIn n ns → 1 ≤ length ns
ends_length end = omega arith
ends_length (before p) = omega arith

last_is : {n : ℕ} {ns : List ℕ} → EndsIn n ns → get_or ns (length ns - 1) 0 ≡ n
last_is end = refl
last_is (before {m} {ns} p) = ap (λ k. get_or (m ∷ ns) k 0) d ∙ last_is p
  where
    d : length (m ∷ ns) - 1 ≡ suc (length ns - 1)
    d = omega (arith, ends_length p)

-- ---- a statement that is made, and is not bare

abbrev bare_at : Image → ℕ → Bool
bare_at im s = eqb (record_of im Statements s).kind 65

abbrev Other : ℕ → Context → Type 0
Other n c = (n < size_of c.image Statements) × (bare_at c.image n ≡ false)

abbrev OtherLast : List ℕ → Context → Type 0
OtherLast ns c = (n : ℕ) × EndsIn n ns × Other n c

other_made : (kind span : ℕ) (fields : List Field) (ctx : Context) → (kind ≡ 65 → ⊥) → GrowsTo ctx Other (stmt kind span fields ctx)
unfolding stmt
other_made kind span fields ctx h =
    record_ok Statements tt (made kind (num span ∷ fields)) ctx ▹ λ n c k a.
    (a.1.inside, ne_eqb (record_of c.image Statements n).kind 65 (λ e. h (sym (ap (λ r. r.kind) a.1.is) ∙ e)))

only_other : {ctx : Context} {o : Option (ℕ × Context)} → GrowsTo ctx Other o → GrowsTo ctx OtherLast (and_then o (λ n. give (n ∷ [])))
only_other g = g ▷ λ n c k h. given (n, end, h)

-- a wrapped return ends in a return
return_other : (temp : List ℕ) (ctx : Context) → GrowsTo ctx Other (return_of temp ctx)
unfolding return_of
return_other temp ctx = adds_grows (adds_ident temp) ctx ▷ λ n c k h. other_made 66 c.span (num n ∷ []) c λ e. omega arith

wrap_as_other : (temp : List ℕ) (is_result : Bool) (value : ℕ) (ensures : List Clause) (ctx : Context) →
    GrowsTo ctx OtherLast (wrap_as temp is_result value ensures ctx)
unfolding wrap_as
wrap_as_other temp is_result value ensures ctx =
    adds_grows (adds_declare temp value) ctx ▷ λ dec c₁ k₁ h₁. adds_grows (adds_cond is_result (adds_skip temp) (adds_give [])) c₁ ▷ λ skip c₂ k₂ h₂.
    adds_grows (adds_ident temp) c₂ ▷ λ n c₃ k₃ h₃. adds_grows (adds_cond is_result (adds_call _ n) (adds_give n)) c₃ ▷ λ inner c₄ k₄ h₄.
    adds_grows (adds_declare (ascii "ret") inner) c₄ ▷ λ ret c₅ k₅ h₅. adds_grows (adds_each (adds_clause _) ensures) c₅ ▷ λ guards c₆ k₆ h₆.
    return_other temp c₆ ▷ λ s c₇ k₇ h₇. given (s, ends_append ((dec ∷ skip) ++ (ret ∷ guards)) end, h₇)

wrap_other : (value : ℕ) (ensures : List Clause) (ctx : Context) → GrowsTo ctx OtherLast (wrap_return value ensures ctx)
unfolding wrap_return
wrap_other value ensures ctx =
    temp_good ctx ▷ λ n c k h. wrap_as_other (ascii "__ensure_ret_" ++ decimal n) c.is_result value ensures c

-- ---- one statement: the last that is made for it is bare where it is, and then the same

record Ends (im : Image) (s : ℕ) (ns : List ℕ) (im' : Image) : Type 0 where
  pub last : ℕ
  pub ends : EndsIn last ns
  pub inside : last < size_of im' Statements
  pub same : bare_at im' last ≡ bare_at im s
  pub number : bare_at im s ≡ true → last ≡ s

module _ (walk : ℕ → Make (List ℕ)) (grow : (n : ℕ) → Adds (walk n)) where
  conditional_other : (r : Rec) (ctx : Context) → GrowsTo ctx Other (conditional walk r ctx)
  conditional_other r ctx =
      adds_grows (adds_branch walk grow (number r 1)) ctx ▷ λ branch c₁ k₁ h₁.
      adds_grows (adds_else walk grow (optional (field_of r 2))) c₁ ▷ λ other c₂ k₂ h₂.
      other_made 68 (number r 0) (num branch ∷ optional_field other ∷ []) c₂ λ e. omega arith

  match_other : (r : Rec) (ctx : Context) → GrowsTo ctx Other (match walk r ctx)
  match_other r ctx =
      adds_grows (adds_each (adds_arm walk grow) (entries_of ctx.image (field_of r 2))) ctx ▷ λ ss c₁ k₁ h₁. list_good ss c₁ ▷ λ arms c₂ k₂ h₂.
      other_made 75 (number r 0) (field_of r 1 ∷ arms ∷ []) c₂ λ e. omega arith

  loop_other : (r : Rec) (kept : List Field) (list : Field) (ctx : Context) → (r.kind ≡ 65 → ⊥) → GrowsTo ctx Other (loop walk r kept list ctx)
  loop_other r kept list ctx h =
      adds_grows (adds_body walk grow list) ctx ▷ λ body c k p. other_made r.kind (number r 0) (kept ++ body ∷ []) c h

  statement_ends : (ensures : List Clause) (s : ℕ) (ctx : Context) → s < size_of ctx.image Statements →
      GrowsTo ctx (λ ns c. Ends ctx.image s ns c.image)
      (transform_statement_by walk ensures s (record_of ctx.image Statements s) ctx)
  statement_ends ensures s ctx l =
      by_kind 66 _ _ (λ e. omega arith) (λ h. wrap_other (number r 1) ensures ctx)
      (by_kind 67 _ _ (λ e. omega arith) (λ h. expr_good 16 [] ctx ▷ λ null c k p. wrap_other null ensures c)
      (by_kind 68 _ _ (λ e. omega arith) (λ h. only_other (conditional_other r ctx))
      (by_kind 70 _ _ (λ e. omega arith) (a_loop_lem (field_of r 1 ∷ []) (field_of r 2))
      (by_kind 71 _ _ (λ e. omega arith) (a_loop_lem [] (field_of r 1))
      (by_kind 72 _ _ (λ e. omega arith) (a_loop_lem (field_of r 1 ∷ field_of r 2 ∷ field_of r 3 ∷ []) (field_of r 4))
      (by_kind 73 _ _ (λ e. omega arith) (a_loop_lem (field_of r 1 ∷ field_of r 2 ∷ []) (field_of r 3))
      (by_kind 74 _ _ (λ e. omega arith) (a_loop_lem (field_of r 1 ∷ field_of r 2 ∷ []) (field_of r 3))
      (by_kind 75 _ _ (λ e. omega arith) (λ h. only_other (match_other r ctx))
      (given (record { last = s; ends = end; inside = l; same = refl; number = λ e. refl }))))))))))
    where
      r : Rec
      r = record_of ctx.image Statements s

      a_loop_lem : (kept : List Field) (list : Field) → (r.kind ≡ 65 → ⊥) → GrowsTo ctx OtherLast (only walk (loop walk r kept list) ctx)
      a_loop_lem kept list h = only_other (loop_other r kept list ctx h)

      by_kind : (k : ℕ) (m n : Make (List ℕ)) → (k ≡ 65 → ⊥) → ((r.kind ≡ 65 → ⊥) → GrowsTo ctx OtherLast (m ctx)) →
          GrowsTo ctx (λ ns c. Ends ctx.image s ns c.image) (n ctx) →
          GrowsTo ctx (λ ns c. Ends ctx.image s ns c.image) (cond (eqb r.kind k) m n ctx)
      by_kind k m n d p q = test (eqb r.kind k) m n ctx other (λ e. q)
        where
          other : eqb r.kind k ≡ true → GrowsTo ctx (λ ns c. Ends ctx.image s ns c.image) (m ctx)
          other e =
              let not_bare : r.kind ≡ 65 → ⊥ = (λ f. d (sym (eqb-true r.kind k e) ∙ f)) in
              let is-other : bare_at ctx.image s ≡ false = ne_eqb r.kind 65 not_bare in
              p not_bare ▹ λ ns c j o. record {
                last = o.0;
                ends = o.1;
                inside = o.2.0;
                same = o.2.1 ∙ sym is-other;
                number = λ t. absurd (true≢false (sym t ∙ is-other));
              }

transform_ends : (ensures : List Clause) (s : ℕ) (ctx : Context) → s < size_of ctx.image Statements →
    GrowsTo ctx (λ ns c. Ends ctx.image s ns c.image) (transform_statement ensures s ctx)
unfolding transform_statement
transform_ends ensures s ctx l = rw (descend_is untouched step s)
    (statement_ends (below s untouched (transform_statement ensures))
    (λ n. adds_cond (ltb n s) (adds_statement ensures n) (adds_give (n ∷ []))) ensures s ctx l)
  where
    step : ℕ → (ℕ → Make (List ℕ)) → Make (List ℕ)
    step = λ s walk. image_so_far >>= λ im. transform_statement_by walk ensures s (record_of im Statements s)

    untouched : ℕ → Make (List ℕ)
    untouched = λ s. give (s ∷ [])

-- ---- a body

-- what is made before only grows the image
ends_later : {a b c : Image} {s : ℕ} {ns : List ℕ} (ms : List ℕ) → Grows a b → s < size_of a Statements → Ends b s ns c → Ends a s (ms ++ ns) c
ends_later {a} {b} {s = s} ms g l p =
    let d : bare_at b s ≡ bare_at a s = ap (λ r. eqb r.kind 65) (record_kept g Statements s l) in
    record {
      last = p.last;
      ends = ends_append ms p.ends;
      inside = p.inside;
      same = p.same ∙ d;
      number = λ e. p.number (d ∙ e);
    }

body_ends : (ensures : List Clause) {s : ℕ} {body : List ℕ} (ctx : Context) → EndsIn s body → s < size_of ctx.image Statements →
    GrowsTo ctx (λ ss c. Ends ctx.image s ss c.image) (flat_map (transform_statement ensures) body ctx)
unfolding flat_map
body_ends ensures {s} ctx end l = transform_ends ensures s ctx l ▷ λ ns c k h. given (rw (append-nil ns) h)
body_ends ensures {s} ctx (before {m} p) l =
    adds_grows (adds_statement ensures m) ctx ▷ λ ms c k h. body_ends ensures c p (omega (arith, l, size_grows k.image Statements)) ▷ λ ns d j q.
    given (ends_later ms k.image l q)

-- the body in the image before, and the statements that are made for it in the image after
pub record Last (im : Image) (body ss : List ℕ) (im' : Image) : Type 0 where
  -- both are empty, or none is
  pub empty : is_empty ss ≡ is_empty body
  pub same : (not (is_empty ss) && eqb (last_of im' ss).kind 65) ≡ (not (is_empty body) && eqb (last_of im body).kind 65)
  pub number : (not (is_empty body) && eqb (last_of im body).kind 65) ≡ true → get_or ss (length ss - 1) 0 ≡ get_or body (length body - 1) 0
  pub kept : (not (is_empty body) && eqb (last_of im body).kind 65) ≡ true → last_of im' ss ≡ last_of im body

bare_last : (im : Image) {n : ℕ} {ns : List ℕ} → EndsIn n ns → (not (is_empty ns) && eqb (last_of im ns).kind 65) ≡ bare_at im n
bare_last im e = rw (ends_some e, last_is e) refl

last_of_lem : {im im' : Image} {s : ℕ} {body ss : List ℕ} → Grows im im' → s < size_of im Statements → EndsIn s body → Ends im s ss im' →
    Last im body ss im'
last_of_lem {im} {im'} {s} {body} {ss} g l e p =
    record {
      empty = ends_some p.ends ∙ sym (ends_some e);
      same = bare_last im' p.ends ∙ p.same ∙ sym (bare_last im e);
      number = λ b. last_is p.ends ∙ stays b ∙ sym (last_is e);
      kept = λ b.
          ap (record_of im' Statements) (last_is p.ends ∙ stays b) ∙ record_kept g Statements s l ∙
          ap (record_of im Statements) (sym (last_is e));
    }
  where
    stays : (not (is_empty body) && eqb (last_of im body).kind 65) ≡ true → p.last ≡ s
    stays b = p.number (sym (bare_last im e) ∙ b)

-- THEOREM
pub last_bare : (ensures : List Clause) (x : Context) (body : List ℕ) → Limited x →
    ((i : ℕ) → i < length body → get_or body i 0 < size_of x.image Statements) →
    Gives (λ ss y. Last x.image body ss y.image) (flat_map (transform_statement ensures) body x)
unfolding flat_map
last_bare ensures x [] e h =
    gives (record { empty = refl; same = refl; number = λ b. absurd (true≢false (sym b)); kept = λ b. absurd (true≢false (sym b)) })
last_bare ensures x (m ∷ ns) e h =
    let p = ends_in m ns in
    let l : p.0 < size_of x.image Statements = rw (last_is p.1) at (h (length (m ∷ ns) - 1) (omega arith)) in
    weaker ((body_ends ensures x p.1 l).makes e) λ ss y q. last_of_lem q.0.image l p.1 q.1
