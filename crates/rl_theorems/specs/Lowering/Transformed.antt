-- The transformed statements of an image stand for what the trees are lowered to.
-- Assumes nothing.
use Rattle.std.specs.Prelude.{ℕ, zero, suc, ◌<◌, Bool, cond, List, [], ◌∷◌, ◌++◌, ◌==◌, nat_lt, None, Some}
use Rattle.std.proofs.Math.Path.{refl}
use Rattle.std.proofs.Common.{sym, subst, arith, eqb-true, ltb-true, ltb-false}
use Rattle.std.proofs.Math.Option.{Option, some}
use Rattle.rl_spec.specs.declared.Section.TheVariants.{Statements}
use Rattle.rl_spec.specs.Answers.{Optional}
use Rattle.rl_spec.specs.declared.Clause.{Clause}
use Rattle.rl_spec.specs.Image.{Field, num, Rec, Image, size_of, record_of, field_of, first}
use Rattle.rl_spec.specs.Tree.{Expr, null, ascii, number, below}
use Rattle.rl_spec.specs.Statement.{Stmt, conditional, while, loop as loopTree, other_statement, Body, nil, ◌▸◌, Branch, Else, statement_by, Item, a_statement, a_branch, as_statement}
use Rattle.rl_spec.specs.Ranges.{optional, optional_field}
use Rattle.rl_spec.specs.Mapped.{Text}
use Rattle.rl_spec.specs.Reading.{Check}
use Rattle.rl_spec.specs.Make.{Context, Make, and_then, ◌>>=◌, give, image_so_far, each, flat_map, made, stmt, entries_of}
use Rattle.rl_spec.specs.Lower.{transform_returns, transform_list, transform_branch, transform_else, transform_arm, conditional as makeConditional, match, loop, only, transform_statement_by, transform_statement}
use Rattle.rl_laws.specs.Descend.{descend_is}
use Rattle.rl_theorems.specs.Lowering.LowerTrees.{◌⧺◌}
use Rattle.rl_theorems.specs.Lowering.LoweredTo.{StmtTo, declaration_to, expression_to, return_to, return_alone_to, conditional_to, while_to, loop_to, break_to, continue_to, other_to, BodyTo, nil_to, cons_to, BranchTo, branch_to, ElseTo, no_else_to, else_branch_to, else_conditional_to}
use Rattle.rl_images.specs.Lowering.Grows.{Grows}
use Rattle.rl_images.specs.Lowering.GrowsTo.{GrowsTo, ◌▷◌, ◌▹◌, given, test, Anything, only_grows, under}
use Rattle.rl_laws.specs.Optionals.{IfSome, no_index, an_index, optional_is}
use Rattle.rl_theorems.specs.Trees.Denotes.{Holds, IsExpr, a_null, OtherLine, IsLine, stands_line, ReadsLine, a_declaration, an_expression, a_return, a_return_alone, a_conditional, an_arm, a_while, a_loop, a_break, a_continue, an_other_line, IsElse, without_else, an_else, a_chain, Rows, no_rows, a_row, keep, keep_condition, keep_line, keep_else, keep_rows}
use Rattle.rl_theorems.specs.Lowering.MadeTrees.{expr_ok, stmt_ok, list_ok}
use Rattle.rl_theorems.specs.Trees.DenotingStatements.{not_other}
use Rattle.rl_theorems.specs.Lowering.Guarded.{Lines, line_inside, a_line, keep_lines, both_lines, Checks, keep_checks}
use Rattle.rl_theorems.specs.Lowering.Wrapped.{wrapped_ok}

-- an else branch as a field has it: what stands for a statement is not 65,535
small_line : {im : Image} {n : ℕ} {x : Item Text} → IsLine im n x → n < 65535
small_line (stands_line k fs h d) = h.small

small_else : {im : Image} {i : ℕ} {o : Optional} {e : Else Text} → IsElse im i o e → IfSome (λ n. n < 65535) o
small_else without_else = no_index
small_else (an_else l h) = an_index (small_line h)
small_else (a_chain l h) = an_index (small_line h)

held_else : {im : Image} {i : ℕ} {o : Optional} {e : Else Text} → IsElse im i o e → IsElse im i (optional (optional_field o)) e
held_else h = rw (optional_is (small_else h)) h

module _ (ensures : List Clause) where
  abbrev Ensures : Image → List (Check Text) → Type 0
  Ensures im ks = Checks im (ascii "ensures violated") ensures ks

  -- ---- from the first image to the second: a statement to statements, a row to a row, a list to a list

  abbrev pub LineTo : Bool → Image → ℕ → List ℕ → Image → Type 0
  LineTo r im n ns im' =
      (ks : List (Check Text)) (x : Item Text) → Ensures im ks → IsLine im n x → (a : Body Text) × Lines im' ns a × StmtTo r ks (as_statement x) a

  -- the statements that are transformed; all of those before the i-th are among them
  abbrev Among : (ℕ → Type 0) → ℕ → Type 0
  Among Met i = (n : ℕ) → n < i → Met n

  abbrev pub RowsTo : (ℕ → Type 0) → Bool → Image → List ℕ → List ℕ → Image → Type 0
  RowsTo Met r im ns ms im' =
      (ks : List (Check Text)) (i : ℕ) (b : Body Text) → Among Met i → Ensures im ks → Rows im i ns b →
      (b' : Body Text) × Lines im' ms b' × BodyTo r ks b b'

  abbrev ListTo : (ℕ → Type 0) → Bool → Image → Field → Field → Image → Type 0
  ListTo Met r im f g im' =
      (ks : List (Check Text)) (i : ℕ) (ns : List ℕ) (b : Body Text) → Among Met i → Ensures im ks → Holds im f ns → Rows im i ns b →
      (ms : List ℕ) × (b' : Body Text) × Holds im' g ms × Lines im' ms b' × BodyTo r ks b b'

  no_rows_lem : (Met : ℕ → Type 0) (r : Bool) (im im' : Image) → RowsTo Met r im [] [] im'
  no_rows_lem Met r im im' ks i b m d no_rows = (nil, no_rows, nil_to)

  more_rows : (Met : ℕ → Type 0) (r : Bool) {a b c : Image} {n : ℕ} {ns l ms : List ℕ} → Grows a b → Grows b c → (Met n → LineTo r a n ns b) →
      RowsTo Met r b l ms c → RowsTo Met r a (n ∷ l) (ns ++ ms) c
  more_rows Met r {a} {n = n} g g' p q ks i _ m d (a_row {x = x} {b = b} l h e hs) =
      let s = p (m n l) ks x d h in
      let t = q ks i b m (keep_checks g d) (keep_rows g (λ n l. l) hs) in
      (s.0 ⧺ t.0, both_lines (keep_lines g' s.1) t.1, cons_to (subst (λ z. StmtTo r ks z s.0) (sym e) s.2) t.2 refl)

  abbrev pub Walks : (ℕ → Type 0) → (ℕ → Make (List ℕ)) → Type 0
  Walks Met walk = (n : ℕ) (ctx : Context) → GrowsTo ctx (λ ns c. Met n → LineTo ctx.is_result ctx.image n ns c.image) (walk n ctx)

  module _ (Met : ℕ → Type 0) (walk : ℕ → Make (List ℕ)) (walks : Walks Met walk) where
    pub rows_ok : (ns : List ℕ) (ctx : Context) →
        GrowsTo ctx (λ ms c. RowsTo Met ctx.is_result ctx.image ns ms c.image) (transform_returns walk ns ctx)
    unfolding flat_map
    rows_ok [] ctx = given (no_rows_lem Met ctx.is_result ctx.image ctx.image)
    rows_ok (n ∷ l) ctx =
        walks n ctx ▷ λ ns c₁ k₁ h₁. rows_ok l c₁ ▷ λ ms c₂ k₂ h₂.
        given (more_rows Met ctx.is_result k₁.image k₂.image h₁ (rw k₁.is_result at h₂))

    rows_list : (f : Field) (ctx : Context) →
        GrowsTo ctx (λ g c. ListTo Met ctx.is_result ctx.image f g c.image) (transform_list walk f ctx)
    rows_list f ctx =
        rows_ok (entries_of ctx.image f) ctx ▷ λ ms c₁ k₁ h₁. list_ok ms c₁ ▹ λ g c₂ k₂ h₂ ks i ns b m d x y.
        let s = h₁ ks i b m d (rw x.is y) in
        (ms, s.0, h₂, keep_lines k₂.image s.1, s.2)

    -- ---- any record, of which nothing is known

    rebuilt : (list : Field) (k span : ℕ) (fields : Field → List Field) (ctx : Context) →
        GrowsTo ctx (λ n c. OtherLine k → IsLine c.image n (a_statement other_statement))
        ((transform_list walk list >>= λ body. stmt k span (fields body)) ctx)
    rebuilt list k span fields ctx =
        rows_list list ctx ▷ λ body c₁ k₁ h₁. stmt_ok k span (fields body) c₁ ▹ λ n c₂ k₂ f o. f _ (an_other_line o)

    only_ok : (m : Make ℕ) (ctx : Context) (P : Type 0) → GrowsTo ctx (λ n c. P → IsLine c.image n (a_statement other_statement)) (m ctx) →
        GrowsTo ctx (λ ns c. P → Lines c.image ns (other_statement ▸ nil)) (only walk m ctx)
    only_ok m ctx P g = g ▷ λ n c k h. given λ p. a_line (h p) no_rows

    loop_ok : (r : Rec) (before : List Field) (list : Field) (ctx : Context) →
        GrowsTo ctx (λ ns c. OtherLine r.kind → Lines c.image ns (other_statement ▸ nil)) (only walk (loop walk r before list) ctx)
    loop_ok r before list ctx =
        only_ok (loop walk r before list) ctx (OtherLine r.kind) (rebuilt list r.kind (number r 0) (λ body. before ++ body ∷ []) ctx)

    arm_grows : (s : ℕ) (ctx : Context) → GrowsTo ctx Anything (transform_arm walk s ctx)
    unfolding transform_arm
    arm_grows s ctx = let r = record_of ctx.image Statements s in
        only_grows (rebuilt (field_of r 2) 76 (number r 0) (λ body. field_of r 1 ∷ body ∷ []) ctx)

    arms_grow : (ss : List ℕ) (ctx : Context) → GrowsTo ctx Anything (each (transform_arm walk) ss ctx)
    unfolding each
    arms_grow [] ctx = given tt
    arms_grow (s ∷ ss) ctx = arm_grows s ctx ▷ λ n c₁ k₁ h₁. arms_grow ss c₁ ▷ λ ns c₂ k₂ h₂. given tt

    match_ok : (r : Rec) (ctx : Context) → GrowsTo ctx (λ ns c. OtherLine 75 →
        Lines c.image ns (other_statement ▸ nil)) (only walk (match walk r) ctx)
    match_ok r ctx = only_ok (match walk r) ctx (OtherLine 75)
        (arms_grow (entries_of ctx.image (field_of r 2)) ctx ▷ λ ss c₁ k₁ h₁. list_ok ss c₁ ▷ λ arms c₂ k₂ h₂.
        stmt_ok 75 (number r 0) (field_of r 1 ∷ arms ∷ []) c₂ ▹ λ n c₃ k₃ f o. f _ (an_other_line o))

    branch_grows : (s : ℕ) (ctx : Context) → GrowsTo ctx Anything (transform_branch walk s ctx)
    unfolding transform_branch
    branch_grows s ctx = let r = record_of ctx.image Statements s in
        test (r.kind == 69) _ (give s) ctx
        (λ q. only_grows (rebuilt (field_of r 2) 69 (number r 0) (λ body. field_of r 1 ∷ body ∷ num 0 ∷ []) ctx)) (λ q. given tt)

    else_grows : (o : Optional) (ctx : Context) → GrowsTo ctx Anything (transform_else walk o ctx)
    else_grows None ctx = given tt
    else_grows (Some s) ctx = branch_grows s ctx ▷ λ n c k h. given tt

    conditional_grows : (r : Rec) (ctx : Context) → GrowsTo ctx Anything (only walk (makeConditional walk r) ctx)
    conditional_grows r ctx =
        (branch_grows (number r 1) ctx ▷ λ branch c₁ k₁ h₁. else_grows (optional (field_of r 2)) c₁ ▷ λ other c₂ k₂ h₂.
        only_grows (stmt_ok 68 (number r 0) (num branch ∷ optional_field other ∷ []) c₂)) ▷ λ n c k h. given tt

    -- the loops and the match that trees do not show, and what is left as it is
    abbrev others : ℕ → Rec → Make (List ℕ)
    others s r =
        cond (r.kind == 72) (only walk (loop walk r (field_of r 1 ∷ field_of r 2 ∷ field_of r 3 ∷ []) (field_of r 4)))
        (cond (r.kind == 73) (only walk (loop walk r (field_of r 1 ∷ field_of r 2 ∷ []) (field_of r 3)))
        (cond (r.kind == 74) (only walk (loop walk r (field_of r 1 ∷ field_of r 2 ∷ []) (field_of r 3)))
        (cond (r.kind == 75) (only walk (match walk r)) (give (s ∷ [])))))

    others_ok : (s : ℕ) (r : Rec) (ctx : Context) →
        GrowsTo ctx (λ ns c. OtherLine r.kind → IsLine ctx.image s (a_statement other_statement) → Lines c.image ns (other_statement ▸ nil))
        (others s r ctx)
    others_ok s r ctx =
        test (r.kind == 72) _ _ ctx
        (λ q. loop_ok r (field_of r 1 ∷ field_of r 2 ∷ field_of r 3 ∷ []) (field_of r 4) ctx ▹ λ ns c k h o x. h o) λ q₁.
        test (r.kind == 73) _ _ ctx (λ q. loop_ok r (field_of r 1 ∷ field_of r 2 ∷ []) (field_of r 3) ctx ▹ λ ns c k h o x. h o) λ q₂.
        test (r.kind == 74) _ _ ctx (λ q. loop_ok r (field_of r 1 ∷ field_of r 2 ∷ []) (field_of r 3) ctx ▹ λ ns c k h o x. h o) λ q₃.
        test (r.kind == 75) _ _ ctx (λ q. match_ok r ctx ▹ λ ns c k h o x. h (subst OtherLine (eqb-true r.kind 75 q) o)) λ q₄.
        given λ o x. a_line x no_rows

    statement_grows : (s : ℕ) (r : Rec) (ctx : Context) → GrowsTo ctx Anything (transform_statement_by walk ensures s r ctx)
    statement_grows s r ctx =
        test (r.kind == 66) _ _ ctx (λ q. only_grows (wrapped_ok (number r 1) ensures ctx)) λ q₁.
        test (r.kind == 67) _ _ ctx (λ q. expr_ok 16 [] ctx ▷ λ null c₁ k₁ h₁. only_grows (wrapped_ok null ensures c₁)) λ q₂.
        test (r.kind == 68) _ _ ctx (λ q. conditional_grows r ctx) λ q₃.
        test (r.kind == 70) _ _ ctx (λ q. only_grows (loop_ok r (field_of r 1 ∷ []) (field_of r 2) ctx)) λ q₄.
        test (r.kind == 71) _ _ ctx (λ q. only_grows (loop_ok r [] (field_of r 1) ctx)) λ q₅. only_grows (others_ok s r ctx)

    -- ---- a statement that stands for a tree

    module _ (ctx : Context) (ks : List (Check Text)) (d : Ensures ctx.image ks) where
      abbrev r : Bool
      r = ctx.is_result

      branch_known : {s : ℕ} {b : Branch Text} → Among Met s → IsLine ctx.image s (a_branch b) →
          GrowsTo ctx (λ n c. (b' : Branch Text) × IsLine c.image n (a_branch b') × BranchTo r ks b b') (transform_branch walk s ctx)
      unfolding transform_branch
      branch_known {s} met (stands_line k fs h (an_arm {o = o} {list = list} {ns = ns} {b = b} q c l rs)) =
          rw (h.is, q) (rows_list list ctx ▷ λ g c₁ k₁ h₁. stmt_ok 69 _ (o ∷ g ∷ num 0 ∷ []) c₁ ▹ λ m c₂ k₂ f.
          let t = h₁ ks s ns b met d l rs in
          (_, f _ (an_arm refl (keep_condition k₁.image c) t.2 t.3), branch_to t.4))

      -- a conditional that is an else branch is left alone
      chain_known : {s : ℕ} {b : Branch Text} {e : Else Text} → IsLine ctx.image s (a_statement (conditional b e)) →
          GrowsTo ctx (λ n c. IsLine c.image n (a_statement (conditional b e))) (transform_branch walk s ctx)
      unfolding transform_branch
      chain_known (stands_line k fs h (a_conditional q l x o)) = rw (h.is, q) (given (stands_line k fs h (a_conditional q l x o)))

      else_known : {i : ℕ} {o : Optional} {e : Else Text} → Among Met i → IsElse ctx.image i o e →
          GrowsTo ctx (λ o' c. (e' : Else Text) × IsElse c.image (size_of c.image Statements) o' e' × ElseTo r ks e e')
          (transform_else walk o ctx)
      else_known met without_else = given (_, without_else, no_else_to)
      else_known met (an_else l h) =
          branch_known (λ n k. met n (omega (arith, k, l))) h ▷ λ n c k t. given (_, an_else (line_inside t.1) t.1, else_branch_to t.2)
      else_known met (a_chain l h) = chain_known h ▷ λ n c k t. given (_, a_chain (line_inside t) t, else_conditional_to)

    module _ (ctx : Context) (ks : List (Check Text)) (d : Ensures ctx.image ks) where
      abbrev Result : Stmt Text → List ℕ → Context → Type 0
      Result s ns c = (a : Body Text) × Lines c.image ns a × StmtTo ctx.is_result ks s a

      -- one statement for one
      abbrev Single : Stmt Text → ℕ → Context → Type 0
      Single s n c = (a : Stmt Text) × IsLine c.image n (a_statement a) × StmtTo ctx.is_result ks s (a ▸ nil)

      alone : {s : Stmt Text} {o : Option (ℕ × Context)} → GrowsTo ctx (Single s) o → GrowsTo ctx (Result s) (and_then o (λ n. give (n ∷ [])))
      alone g = g ▷ λ n c k t. given (_, a_line t.1 no_rows, t.2)

      conditional_known : {i : ℕ} (n : ℕ) (o : Optional) (span : ℕ) {b : Branch Text} {e : Else Text} → Among Met i → n < i →
          IsLine ctx.image n (a_branch b) → IsElse ctx.image i o e →
          GrowsTo ctx (Single (conditional b e))
          ((transform_branch walk n >>= λ branch. transform_else walk o >>= λ other. stmt 68 span (num branch ∷ optional_field other ∷ [])) ctx)
      conditional_known n o span met l h x =
          branch_known ctx ks d (λ k z. met k (omega (arith, z, l))) h ▷ λ branch c₁ k₁ t.
          else_known c₁ ks (keep_checks k₁.image d) met (keep_else k₁.image (λ n l. l) x) ▷ λ other c₂ k₂ u.
          stmt_ok 68 span (num branch ∷ optional_field other ∷ []) c₂ ▹ λ m c₃ k₃ f.
          let b = keep_line k₂.image t.1 in
          (_, f _ (a_conditional refl (line_inside b) b (held_else u.1)), conditional_to t.2 (rw k₁.is_result at u.2))

      while_known : {i : ℕ} (n span : ℕ) (list : Field) {ns : List ℕ} {e : Expr Text} {b : Body Text} → Among Met i → IsExpr ctx.image n e →
          Holds ctx.image list ns →
          Rows ctx.image i ns b → GrowsTo ctx (Single (while e b)) ((transform_list walk list >>= λ body. stmt 70 span (num n ∷ body ∷ [])) ctx)
      while_known {i} n span list {ns} {b = b} met e h rs =
          rows_list list ctx ▷ λ g c₁ k₁ h₁. stmt_ok 70 span (num n ∷ g ∷ []) c₁ ▹ λ m c₂ k₂ f.
          let t = h₁ ks i ns b met d h rs in
          (_, f _ (a_while refl (keep k₁.image e) t.2 t.3), while_to t.4)

      loop_known : {i : ℕ} (span : ℕ) (list : Field) {ns : List ℕ} {b : Body Text} → Among Met i → Holds ctx.image list ns →
          Rows ctx.image i ns b → GrowsTo ctx (Single (loopTree b)) ((transform_list walk list >>= λ body. stmt 71 span (body ∷ [])) ctx)
      loop_known {i} span list {ns} {b = b} met h rs =
          rows_list list ctx ▷ λ g c₁ k₁ h₁. stmt_ok 71 span (g ∷ []) c₁ ▹ λ m c₂ k₂ f.
          let t = h₁ ks i ns b met d h rs in
          (_, f _ (a_loop refl t.2 t.3), loop_to t.4)

      other_known : (k : ℕ) (fs : List Field) (s : ℕ) → OtherLine k → IsLine ctx.image s (a_statement other_statement) →
          GrowsTo ctx (Result other_statement) (transform_statement_by walk ensures s (made k fs) ctx)
      unfolding statement_by
      other_known k fs s o x =
          test (k == 66) _ _ ctx (λ q. not_other k fs o (rw (eqb-true k 66 q) refl)) λ q₁.
          test (k == 67) _ _ ctx (λ q. not_other k fs o (rw (eqb-true k 67 q) refl)) λ q₂.
          test (k == 68) _ _ ctx (λ q. not_other k fs o (rw (eqb-true k 68 q) refl)) λ q₃.
          test (k == 70) _ _ ctx (λ q. not_other k fs o (rw (eqb-true k 70 q) refl)) λ q₄.
          test (k == 71) _ _ ctx (λ q. not_other k fs o (rw (eqb-true k 71 q) refl)) λ q₅.
          others_ok s (made k fs) ctx ▹ λ ns c l h. (_, h o x, other_to)

      -- as it is
      left : {s : ℕ} {x : Item Text} → IsLine ctx.image s x → StmtTo ctx.is_result ks (as_statement x) (as_statement x ▸ nil) →
          GrowsTo ctx (Result (as_statement x)) (some (s ∷ [], ctx))
      left h t = given (_, a_row (line_inside h) h refl no_rows, t)

      reads_known : {s k : ℕ} {fs : List Field} {x : Item Text} → Among Met s → IsLine ctx.image s x → ReadsLine ctx.image s k fs x →
          GrowsTo ctx (Result (as_statement x)) (transform_statement_by walk ensures s (made k fs) ctx)
      reads_known met is (a_declaration q t h) = rw q (left is declaration_to)
      reads_known met is (an_expression q h) = rw q (left is expression_to)
      reads_known met is (a_return {n = n} {e = e} q h) =
          rw q (wrapped_ok n ensures ctx ▹ λ ns c k w. (_, w.2 e ks h d, return_to w.0 w.1 refl))
      reads_known met is (a_return_alone q) =
          rw q (expr_ok 16 [] ctx ▷ λ n c₁ k₁ h₁. wrapped_ok n ensures c₁ ▹ λ ns c₂ k₂ w.
          (_, rw k₁.is_result at (w.2 null ks (h₁ _ (a_null refl)) (keep_checks k₁.image d)), return_alone_to w.0 w.1 refl))
      reads_known met is (a_conditional {n = n} {s = span} {o = o} q l h e) = rw q (alone (conditional_known n (optional o) (first span) met l h e))
      reads_known met is (an_arm q c h b) = rw q (left is other_to)
      reads_known met is (a_while {n = n} {s = span} {list = list} q e h rs) = rw q (alone (while_known n (first span) list met e h rs))
      reads_known met is (a_loop {s = span} {list = list} q h rs) = rw q (alone (loop_known (first span) list met h rs))
      reads_known met is (a_break q) = rw q (left is break_to)
      reads_known met is (a_continue q) = rw q (left is continue_to)
      reads_known {s} {k} {fs} met is (an_other_line o) = other_known k fs s o is

      statement_known : {s : ℕ} {x : Item Text} → Among Met s → IsLine ctx.image s x →
          GrowsTo ctx (Result (as_statement x)) (transform_statement_by walk ensures s (record_of ctx.image Statements s) ctx)
      statement_known met (stands_line k fs h t) = rw h.is (reads_known met (stands_line k fs h t) t)

    step_ok : (s : ℕ) → Among Met s → (ctx : Context) →
        GrowsTo ctx (λ ns c. LineTo ctx.is_result ctx.image s ns c.image)
        (transform_statement_by walk ensures s (record_of ctx.image Statements s) ctx)
    step_ok s met ctx =
        under (statement_grows s (record_of ctx.image Statements s) ctx) known ▹ λ ns c k h ks x d l. h (ks, x, d, l)
      where
        known : (p : (ks : List (Check Text)) × (x : Item Text) × Ensures ctx.image ks × IsLine ctx.image s x) →
            GrowsTo ctx (λ ns c. (a : Body Text) × Lines c.image ns a × StmtTo ctx.is_result p.0 (as_statement p.1) a)
            (transform_statement_by walk ensures s (record_of ctx.image Statements s) ctx)
        known p = statement_known ctx p.0 p.2 met p.3

  -- ---- all statements

  abbrev untouched : ℕ → Make (List ℕ)
  untouched s = give (s ∷ [])

  walks_below : (i : ℕ) → ((n : ℕ) → n < i → (ctx : Context) →
      GrowsTo ctx (λ ns c. LineTo ctx.is_result ctx.image n ns c.image)
      (transform_statement ensures n ctx)) → Walks (λ n. n < i) (below i untouched (transform_statement ensures))
  walks_below i h n ctx =
      test (nat_lt n i) (transform_statement ensures n) (untouched n) ctx (λ q. h n (ltb-true n i q) ctx ▹ λ ns c k t m. t)
      (λ q. given λ m. absurd (omega (arith, m, ltb-false n i q)))

  walk_under : (b i : ℕ) → i < b → (ctx : Context) →
      GrowsTo ctx (λ ns c. LineTo ctx.is_result ctx.image i ns c.image) (transform_statement ensures i ctx)
  unfolding transform_statement
  walk_under zero i l ctx = absurd (omega arith)
  walk_under (suc b) i l ctx = rw (descend_is untouched step i)
      (step_ok (λ n. n < i) (below i untouched (transform_statement ensures)) (walks_below i λ n m c. walk_under b n (omega arith) c) i
      (λ n m. m) ctx)
    where
      step : ℕ → (ℕ → Make (List ℕ)) → Make (List ℕ)
      step = λ s walk. image_so_far >>= λ im. transform_statement_by walk ensures s (record_of im Statements s)

  -- THEOREM: the transform of any statement; where it stands for a tree the new ones stand for what the tree is lowered to
  pub transform_ok : Walks (λ n. Unit {0}) (transform_statement ensures)
  transform_ok i ctx = walk_under (suc i) i (omega arith) ctx ▹ λ ns c k t m. t
