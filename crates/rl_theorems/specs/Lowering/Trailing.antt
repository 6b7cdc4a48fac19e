-- The body under ensures that is made stands for what the body's tree is lowered to.
-- Assumes nothing.
use Rattle.std.specs.Prelude.{◌≡◌, ℕ, suc, ◌-◌, Bool, true, false, not, ◌&&◌, ◌⊎◌, List, [], ◌∷◌, ◌++◌, length, take, ◌==◌, ◌≢◌, nat_eq, slice_index, refl}
use Rattle.std.proofs.Common.{ap, sym, ◌∙◌, subst, inl, inr, true≢false, append-nil, eq-eqb, ne_eqb}
use Rattle.std.proofs.Math.Option.{none, some, some-injective, none-ne-some}
use native.Mathlib.Omega.{arith}
use Rattle.rl_spec.specs.declared.Section.TheVariants.{Statements}
use Rattle.rl_spec.specs.declared.Clause.{Clause}
use Rattle.rl_spec.specs.Image.{Field, Image, record_of}
use Rattle.rl_spec.specs.Tree.{Expr, ascii, number}
use Rattle.rl_spec.specs.Statement.{Stmt, declaration, expression, return, return_alone, conditional, while, loop, break, continue, other_statement, Body, nil, ◌▸◌, statement_by, Item, as_statement}
use Rattle.rl_spec.specs.FnContracts.{is_empty}
use Rattle.rl_spec.specs.Mapped.{Text}
use Rattle.rl_spec.specs.Reading.{Check, bare}
use Rattle.rl_spec.specs.Make.{Context, give, made}
use Rattle.rl_spec.specs.Lower.{transform_statement, last_of, wrap_trailing, ensured_body}
use Rattle.rl_theorems.specs.Lowering.LowerTrees as tree
use Rattle.rl_theorems.specs.Lowering.LowerTrees.{◌⧺◌}
use Rattle.rl_theorems.specs.Lowering.LowerFrame.{begins}
use Rattle.rl_theorems.specs.Lowering.LowerBodies.{NoBare, Some, NoBareLast, OnlyBare, append_nil as body_nil}
use Rattle.rl_theorems.specs.Lowering.LoweredTo.{expression_to, BodyTo, nil_to, cons_to, no_bare_to, something_to, EnsuredTo, wrapped, only_wrapped}
use Rattle.rl_images.specs.Lowering.GrowsTo.{GrowsTo, ◌▷◌, ◌▹◌, given, test}
use Rattle.rl_theorems.specs.Trees.Denotes.{IsExpr, stands_line, ReadsLine, a_declaration, an_expression, a_return, a_return_alone, a_conditional, an_arm, a_while, a_loop, a_break, a_continue, an_other_line, Rows, no_rows, a_row}
use Rattle.rl_theorems.specs.Trees.DenotingStatements.{not_other}
use Rattle.rl_theorems.specs.Lowering.Guarded.{Lines, Checks, keep_checks}
use Rattle.rl_theorems.specs.Lowering.Wrapped.{wrapped_ok}
use Rattle.rl_theorems.specs.Lowering.Transformed.{rows_ok, transform_ok}

-- ---- the last statement of a body that is lowered

no_bare_last : (b : Body Text) → NoBare b → NoBareLast b
no_bare_last nil h = tt
no_bare_last (s ▸ nil) h = h.0
no_bare_last (s ▸ (t ▸ b)) h = no_bare_last (t ▸ b) h.1

last_append : (a b : Body Text) → Some b → NoBareLast b → NoBareLast (a ⧺ b)
unfolding ◌⧺◌
last_append nil b s h = h
last_append (x ▸ nil) nil s h = absurd s
last_append (x ▸ nil) (t ▸ b) s h = h
last_append (x ▸ (y ▸ a)) b s h = last_append (y ▸ a) b s h

some_to : {r : Bool} {ks : List (Check Text)} {s : Stmt Text} {b b' : Body Text} → BodyTo r ks (s ▸ b) b' → Some b'
some_to {r} {ks} (cons_to {b' = b'} p ps q) = subst Some (sym q) (something_to r ks p b')

no_last_to : {r : Bool} {ks : List (Check Text)} {b b' : Body Text} → BodyTo r ks b b' → NoBareLast b → NoBareLast b'
no_last_to nil_to h = tt
no_last_to {r} {ks} (cons_to {a = a} p nil_to q) h = subst NoBareLast (sym (q ∙ body_nil a)) (no_bare_last a (no_bare_to r ks p h))
no_last_to {r} {ks} (cons_to {a = a} {b' = b'} p (cons_to p' ps q') q) h =
    subst NoBareLast (sym q) (last_append a b' (some_to (cons_to p' ps q')) (no_last_to (cons_to p' ps q') h))

-- ---- the record of the last statement

module _ {im : Image} where
  -- a bare expression is of kind 65, and the other way round
  bare_reads : {i k : ℕ} {fs : List Field} {x : Item Text} {e : Expr Text} → ReadsLine im i k fs x → bare (as_statement x) ≡ some e →
      (k ≡ 65) × IsExpr im (number (made k fs) 1) e
  bare_reads (a_declaration q t h) b = absurd (none-ne-some _ b)
  bare_reads {e = e} (an_expression {n = n} {e = d} q h) b = (q, subst (IsExpr im n) (some-injective d e b) h)
  bare_reads (a_return q h) b = absurd (none-ne-some _ b)
  bare_reads (a_return_alone q) b = absurd (none-ne-some _ b)
  bare_reads (a_conditional q l h o) b = absurd (none-ne-some _ b)
  bare_reads (an_arm q c h rs) b = absurd (none-ne-some _ b)
  bare_reads (a_while q c h rs) b = absurd (none-ne-some _ b)
  bare_reads (a_loop q h rs) b = absurd (none-ne-some _ b)
  bare_reads (a_break q) b = absurd (none-ne-some _ b)
  bare_reads (a_continue q) b = absurd (none-ne-some _ b)
  bare_reads (an_other_line o) b = absurd (none-ne-some _ b)

  bare_kind : {i k : ℕ} {fs : List Field} {x : Item Text} → ReadsLine im i k fs x → bare (as_statement x) ≡ none → k ≢ 65
  unfolding statement_by
  bare_kind (a_declaration q t h) b e = omega arith
  bare_kind (an_expression q h) b e = none-ne-some _ (sym b)
  bare_kind (a_return q h) b e = omega arith
  bare_kind (a_return_alone q) b e = omega arith
  bare_kind (a_conditional q l h o) b e = omega arith
  bare_kind (an_arm q c h rs) b e = omega arith
  bare_kind (a_while q c h rs) b e = omega arith
  bare_kind (a_loop q h rs) b e = omega arith
  bare_kind (a_break q) b e = omega arith
  bare_kind (a_continue q) b e = omega arith
  bare_kind (an_other_line {k = k} {fs = fs} o) b e = not_other k fs o (rw e refl)

module _ (im : Image) where
  abbrev ends_bare : List ℕ → Bool
  ends_bare ns = not (is_empty ns) && (last_of im ns).kind == 65

  later_last : (m n : ℕ) (ns : List ℕ) → last_of im (m ∷ n ∷ ns) ≡ last_of im (n ∷ ns)
  later_last m n ns = ap (record_of im Statements) (ap (λ k. slice_index (m ∷ n ∷ ns) k) a ∙ ap (λ k. slice_index (n ∷ ns) k) b)
    where
      a : length (m ∷ n ∷ ns) - 1 ≡ suc (length ns)
      a = omega arith

      b : length ns ≡ length (n ∷ ns) - 1
      b = omega arith

  not_bare : {i : ℕ} {ns : List ℕ} {b : Body Text} → Rows im i ns b → NoBareLast b → ends_bare ns ≡ false
  not_bare no_rows h = refl
  not_bare (a_row {n = n} l (stands_line k fs at d) q no_rows) h =
      ne_eqb (record_of im Statements n).kind 65 (λ e. bare_kind d (sym (ap bare q) ∙ h) (sym (ap (λ r. r.kind) at.is) ∙ e))
  not_bare (a_row {n = m} l x q (a_row {n = n} {ns = ns} l' x' q' rs)) h =
      ap (λ r. nat_eq r.kind 65) (later_last m n ns) ∙ not_bare (a_row l' x' q' rs) h

  -- a row of one bare expression
  record OneBare (ns : List ℕ) (e : Expr Text) : Type 0 where
    pub only : take (length ns - 1) ns ≡ []
    pub ends : ends_bare ns ≡ true
    pub value : IsExpr im (number (last_of im ns) 1) e

  one_bare : {i : ℕ} {ns : List ℕ} {e : Expr Text} → Rows im i ns (expression e ▸ nil) → OneBare ns e
  one_bare {e = e} (a_row {n = n} l (stands_line k fs at d) q no_rows) =
      let p = bare_reads d (sym (ap bare q)) in
      record {
        only = refl;
        ends = eq-eqb (record_of im Statements n).kind 65 (ap (λ r. r.kind) at.is ∙ p.0);
        value = subst (λ r. IsExpr im (number r 1) e) (sym at.is) p.1;
      }

-- ---- the bare last expression

-- a row without one is left; of one alone comes a wrapped return
record Ended (ensures : List Clause) (ctx : Context) (ns ms : List ℕ) (c : Context) : Type 0 where
  pub left : (b : Body Text) → Lines ctx.image ns b → NoBareLast b → Lines c.image ms b
  pub turned : (e : Expr Text) (ks : List (Check Text)) → Checks ctx.image (ascii "ensures violated") ensures ks →
      Lines ctx.image ns (expression e ▸ nil) →
      (t : Text) × (begins tree.reserved t ≡ true) × Lines c.image ms (tree.wrap_as ctx.is_result ks t e)

trailing_ok : (ensures : List Clause) (ns : List ℕ) (ctx : Context) → GrowsTo ctx (Ended ensures ctx ns) (wrap_trailing ensures ns ctx)
unfolding wrap_trailing
trailing_ok ensures ns ctx =
    test (ends_bare ctx.image ns) _ (give ns) ctx
    (λ q. wrapped_ok (number (last_of ctx.image ns) 1) ensures ctx ▷ λ seq c k w. given (record {
      left = λ b x h. absurd (true≢false (sym q ∙ not_bare ctx.image x h));
      turned = λ e ks d x.
          let o = one_bare ctx.image x in (
            w.0,
            w.1,
            subst (λ ms. Lines c.image ms (tree.wrap_as ctx.is_result ks w.0 e))
                (sym (ap (λ l. seq ++ l) o.only ∙ append-nil seq)) (w.2 e ks o.value d),
          );
    }))
    (λ q. given (record { left = λ b x h. x; turned = λ e ks d x. absurd (true≢false (sym (one_bare ctx.image x).ends ∙ q)) }))

-- ---- the body

only_bare : (b : Body Text) → OnlyBare b → NoBareLast b ⊎ ((e : Expr Text) × (b ≡ expression e ▸ nil))
only_bare nil h = inl tt
only_bare (declaration x e ▸ nil) h = inl refl
only_bare (expression e ▸ nil) h = inr (e, refl)
only_bare (return e ▸ nil) h = inl refl
only_bare (return_alone ▸ nil) h = inl refl
only_bare (conditional b e ▸ nil) h = inl refl
only_bare (while e b ▸ nil) h = inl refl
only_bare (loop b ▸ nil) h = inl refl
only_bare (break ▸ nil) h = inl refl
only_bare (continue ▸ nil) h = inl refl
only_bare (other_statement ▸ nil) h = inl refl
only_bare (s ▸ (t ▸ b)) h = inl h

bare_to : {r : Bool} {ks : List (Check Text)} {e : Expr Text} {b : Body Text} → BodyTo r ks (expression e ▸ nil) b → b ≡ expression e ▸ nil
unfolding ◌⧺◌
bare_to (cons_to expression_to nil_to q) = q

-- a body under ensures, of which there are some
abbrev pub EnsuredRows : List Clause → Bool → Image → List ℕ → List ℕ → Image → Type 0
EnsuredRows ensures r im ns ms im' =
    (k : Check Text) (ks : List (Check Text)) (i : ℕ) (b : Body Text) → Checks im (ascii "ensures violated") ensures (k ∷ ks) →
    Rows im i ns b → OnlyBare b →
    (b' : Body Text) × Lines im' ms b' × EnsuredTo r (k ∷ ks) b b'

-- THEOREM: the body under ensures
pub ensured_ok : (ensures : List Clause) (ns : List ℕ) (ctx : Context) →
    GrowsTo ctx (λ ms c. EnsuredRows ensures ctx.is_result ctx.image ns ms c.image) (ensured_body ensures ns ctx)
ensured_ok ensures ns ctx =
    rows_ok ensures (λ n. Unit {0}) (transform_statement ensures) (transform_ok ensures) ns ctx ▷ λ ss c₁ k₁ h₁. trailing_ok ensures ss c₁ ▹ λ ms c₂ k₂ h₂.
    λ k ks i b d x o.
    let t = h₁ (k ∷ ks) i b (λ n l. tt) d x in
    elim (only_bare b o) [
      | inl h ↦ (t.0, h₂.left t.0 t.1 (no_last_to t.2 h), wrapped h t.2)
      | inr (e, q) ↦ (
          let p : t.0 ≡ expression e ▸ nil = bare_to (subst (λ b. BodyTo ctx.is_result (k ∷ ks) b t.0) q t.2) in
          let w = h₂.turned e (k ∷ ks) (keep_checks k₁.image d) (subst (Lines c₁.image ss) p t.1) in (
            tree.wrap_as ctx.is_result (k ∷ ks) w.0 e,
            rw k₁.is_result at w.2,
            subst (λ b. EnsuredTo ctx.is_result (k ∷ ks) b (tree.wrap_as ctx.is_result (k ∷ ks) w.0 e)) (sym q)
                (only_wrapped w.0 w.1 refl),
          ))
    ]
