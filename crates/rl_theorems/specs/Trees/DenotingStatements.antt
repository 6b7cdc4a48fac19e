-- Each statement of a well-formed image stands for a statement or a branch.
-- Assumes nothing.
use Rattle.std.specs.Prelude.{◌≡◌, ℕ, zero, suc, ◌+◌, ◌<◌, ◌≤◌, Bool, true, false, cond, List, map, ◌==◌, Some}
use Rattle.std.proofs.Math.Path.{refl, subst}
use Rattle.std.proofs.Common.{ap, sym, ◌∙◌, arith, ne_eqb, eqb-true}
use Rattle.std.proofs.lemmas.Bool.{false≢true}
use Rattle.std.proofs.Math.Option.{Option, none, some}
use Rattle.rl_spec.specs.declared.Section.TheVariants.{Lists, Statements}
use Rattle.rl_spec.specs.declared.Target.TheVariants.{Expression, Statement, Branch as ABranch, ElseBranch}
use Rattle.rl_spec.specs.Answers.{Optional}
use Rattle.rl_spec.specs.declared.StatementForm.{StatementForm}
use Rattle.rl_spec.specs.declared.StatementForm.TheVariants as form
use Rattle.rl_spec.specs.Schema.{schema, sort_of, fields_in, fields_of}
use Rattle.rl_spec.specs.Image.{Field, num, pair, Image, size_of, record_of, entry_of, Refers, Entries, a_raw, a_byte, a_reference, an_option, a_list, FieldsFit, no_fields, ◌&◌, RecordFits, WellFormed}
use Rattle.rl_spec.specs.Tree.{Expr}
use Rattle.rl_spec.specs.Statement.{conditional, Body, nil, ◌▸◌, Branch, Else, statement_by, Item, a_statement, a_branch, as_statement}
use Rattle.rl_spec.specs.Ranges.{up_from}
use Rattle.rl_spec.specs.Mapped.{Text}
use Rattle.rl_spec.specs.Make.{made}
use Rattle.rl_laws.specs.Tests.{by_eqb}
use Rattle.rl_laws.specs.Optionals.{IfSome, no_index, an_index, optional_says}
use Rattle.rl_theorems.specs.Trees.Denotes.{Holds, IsExpr, OtherLine, IsCondition, no_condition, a_condition, IsLine, stands_line, ReadsLine, a_declaration, an_expression, a_return, a_return_alone, a_conditional, an_arm, a_while, a_loop, a_break, a_continue, an_other_line, IsElse, without_else, an_else, a_chain, Rows, no_rows, a_row}
use Rattle.rl_theorems.specs.Trees.DenotingExpressions.{at_record, text_says, expression_stands}

-- ---- kinds of branches

-- a form that is taken is not the other one
abbrev is_taken : StatementForm → Bool
is_taken (form.Declaration x n) = true
is_taken (form.Expression n) = true
is_taken (form.Return n) = true
is_taken form.ReturnAlone = true
is_taken (form.Conditional b e) = true
is_taken (form.Branch n list) = true
is_taken (form.While n list) = true
is_taken (form.Loop list) = true
is_taken form.Break = true
is_taken form.Continue = true
is_taken form.Other = false

pub not_other : {A : Type 0} (k : ℕ) (fs : List Field) → OtherLine k → is_taken (statement_by (made k fs)) ≡ true → A
not_other k fs o h = absurd (false≢true (sym (ap is_taken (o fs)) ∙ h))

module _ {im : Image} where
  reads_arm : {n k : ℕ} {fs : List Field} {x : Item Text} → ReadsLine im n k fs x → k ≡ 69 → (b : Branch Text) × (x ≡ a_branch b)
  unfolding statement_by
  reads_arm (a_declaration q t h) e = absurd (omega arith)
  reads_arm (an_expression q h) e = absurd (omega arith)
  reads_arm (a_return q h) e = absurd (omega arith)
  reads_arm (a_return_alone q) e = absurd (omega arith)
  reads_arm (a_conditional q l h o) e = absurd (omega arith)
  reads_arm (an_arm q c h b) e = (_, refl)
  reads_arm (a_while q c h b) e = absurd (omega arith)
  reads_arm (a_loop q h b) e = absurd (omega arith)
  reads_arm (a_break q) e = absurd (omega arith)
  reads_arm (a_continue q) e = absurd (omega arith)
  reads_arm (an_other_line {k = k} {fs = fs} o) e = not_other k fs o (rw e refl)

  reads_chain : {n k : ℕ} {fs : List Field} {x : Item Text} → ReadsLine im n k fs x → k ≡ 68 →
      (b : Branch Text) × (e : Else Text) × (x ≡ a_statement (conditional b e))
  unfolding statement_by
  reads_chain (a_declaration q t h) e = absurd (omega arith)
  reads_chain (an_expression q h) e = absurd (omega arith)
  reads_chain (a_return q h) e = absurd (omega arith)
  reads_chain (a_return_alone q) e = absurd (omega arith)
  reads_chain (a_conditional q l h o) e = (_, _, refl)
  reads_chain (an_arm q c h b) e = absurd (omega arith)
  reads_chain (a_while q c h b) e = absurd (omega arith)
  reads_chain (a_loop q h b) e = absurd (omega arith)
  reads_chain (a_break q) e = absurd (omega arith)
  reads_chain (a_continue q) e = absurd (omega arith)
  reads_chain (an_other_line {k = k} {fs = fs} o) e = not_other k fs o (rw e refl)

  pub is_arm : {n : ℕ} {x : Item Text} → IsLine im n x → (record_of im Statements n).kind ≡ 69 → (b : Branch Text) × IsLine im n (a_branch b)
  is_arm {n} (stands_line k fs h d) e =
      let r = reads_arm d (sym (ap (λ r. r.kind) h.is) ∙ e) in
      (r.0, subst (IsLine im n) r.1 (stands_line k fs h d))

  pub is_chain : {n : ℕ} {x : Item Text} → IsLine im n x → (record_of im Statements n).kind ≡ 68 →
      (b : Branch Text) × (e : Else Text) × IsLine im n (a_statement (conditional b e))
  is_chain {n} (stands_line k fs h d) e =
      let r = reads_chain d (sym (ap (λ r. r.kind) h.is) ∙ e) in
      (r.0, r.1, subst (IsLine im n) r.2 (stands_line k fs h d))

module _ (im : Image) (wf : WellFormed im) where
  abbrev Stands : ℕ → ℕ → List Field → Type 0
  Stands i k fs = (x : Item Text) × ReadsLine im i k fs x

  abbrev Fit : ℕ → ℕ → List Field → Type 0
  Fit i k fs = FieldsFit im Statements i 0 (map sort_of (fields_of k)) fs

  node : {i n : ℕ} → Refers im Statements i Expression n → (e : Expr Text) × IsExpr im n e
  node {n = n} r = expression_stands im wf n r.earlier

  condition : {i : ℕ} {o : Optional} → IfSome (Refers im Statements i Expression) o → (c : Option (Expr Text)) × IsCondition im o c
  condition no_index = (none, no_condition)
  condition (an_index r) = let e = node r in (some e.0, a_condition e.1)

  module _ (i : ℕ) (earlier : (n : ℕ) → n < i → (x : Item Text) × IsLine im n x) where
    rows_stand : (n k : ℕ) → Entries im Statements i n k Statement Statement → (b : Body Text) × Rows im i (map (entry_of im) (up_from k n)) b
    unfolding up_from
    rows_stand zero k h = (nil, no_rows)
    rows_stand (suc n) k h =
        let x = earlier (entry_of im k) h.0.earlier in
        let r = rows_stand n (k + 1) h.1 in
        (as_statement x.0 ▸ r.0, a_row h.0.earlier x.1 refl r.1)

    branch_stands : {n : ℕ} → Refers im Statements i ABranch n → (b : Branch Text) × IsLine im n (a_branch b)
    branch_stands {n} r = is_arm (earlier n r.earlier).1 (eqb-true (record_of im Statements n).kind 69 r.taken)

    else_by_lem : (n k : ℕ) → n < i → (record_of im Statements n).kind ≡ k → (t : Bool) → (k == 69) ≡ t → cond t true (k == 68) ≡ true →
        (e : Else Text) × IsElse im i (Some n) e
    else_by_lem n k l q true a h =
        let b = is_arm (earlier n l).1 (q ∙ eqb-true k 69 a) in
        (_, an_else l b.1)
    else_by_lem n k l q false a h =
        let b = is_chain (earlier n l).1 (q ∙ eqb-true k 68 h) in
        (_, a_chain l b.2)

    else_stands : {o : Optional} → IfSome (Refers im Statements i ElseBranch) o → (e : Else Text) × IsElse im i o e
    else_stands no_index = (_, without_else)
    else_stands (an_index {n = n} r) =
        let k : ℕ = (record_of im Statements n).kind in
        else_by_lem n k r.earlier refl (k == 69) refl r.taken

    held : {a n : ℕ} → a + n ≤ size_of im Lists → Holds im (pair a n) (map (entry_of im) (up_from a n))
    held h = record { inside = h; is = refl }

    declaration_reads : {fs : List Field} → Fit i 64 fs → Stands i 64 fs
    unfolding fields_of fields_in schema sort_of
    declaration_reads (a_raw w & a_reference {x = t} r & a_raw v & a_reference q & a_raw u & no_fields) =
        (_, a_declaration refl (text_says im wf t r.earlier) (node q).1)

    expression_reads : {fs : List Field} → Fit i 65 fs → Stands i 65 fs
    unfolding fields_of fields_in schema sort_of
    expression_reads (a_raw w & a_reference q & no_fields) = (_, an_expression refl (node q).1)

    return_reads : {fs : List Field} → Fit i 66 fs → Stands i 66 fs
    unfolding fields_of fields_in schema sort_of
    return_reads (a_raw w & a_reference q & no_fields) = (_, a_return refl (node q).1)

    alone_reads : {fs : List Field} → Fit i 67 fs → Stands i 67 fs
    unfolding fields_of fields_in schema sort_of
    alone_reads (a_raw w & no_fields) = (_, a_return_alone refl)

    conditional_reads : {fs : List Field} → Fit i 68 fs → Stands i 68 fs
    unfolding fields_of fields_in schema sort_of
    conditional_reads (a_raw w & a_reference q & an_option {x = x} o & no_fields) =
        (_, a_conditional refl q.earlier (branch_stands q).1 (else_stands (optional_says (num x) o)).1)

    branch_reads : {fs : List Field} → Fit i 69 fs → Stands i 69 fs
    unfolding fields_of fields_in schema sort_of
    branch_reads (a_raw w & an_option {x = x} o & a_list {a = a} {n = n} h z q & a_byte l m & no_fields) =
        (_, an_arm refl (condition (optional_says (num x) o)).1 (held h) (rows_stand n a q).1)

    while_reads : {fs : List Field} → Fit i 70 fs → Stands i 70 fs
    unfolding fields_of fields_in schema sort_of
    while_reads (a_raw w & a_reference r & a_list {a = a} {n = n} h z q & no_fields) = (_, a_while refl (node r).1 (held h) (rows_stand n a q).1)

    loop_reads : {fs : List Field} → Fit i 71 fs → Stands i 71 fs
    unfolding fields_of fields_in schema sort_of
    loop_reads (a_raw w & a_list {a = a} {n = n} h z q & no_fields) = (_, a_loop refl (held h) (rows_stand n a q).1)

    break_reads : {fs : List Field} → Fit i 77 fs → Stands i 77 fs
    unfolding fields_of fields_in schema sort_of
    break_reads (a_raw w & no_fields) = (_, a_break refl)

    continue_reads : {fs : List Field} → Fit i 78 fs → Stands i 78 fs
    unfolding fields_of fields_in schema sort_of
    continue_reads (a_raw w & no_fields) = (_, a_continue refl)

    reads : (k : ℕ) (fs : List Field) → Fit i k fs → Stands i k fs
    unfolding statement_by
    reads k fs h =
        try 64 declaration_reads λ a. try 65 expression_reads λ b. try 66 return_reads λ c. try 67 alone_reads λ d.
        try 68 conditional_reads λ e.
        try 69 branch_reads λ f. try 70 while_reads λ g. try 71 loop_reads λ l. try 77 break_reads λ m. try 78 continue_reads λ n.
        (_, an_other_line λ fs. rw (a, b, c, d, e, f, g, l, m, n) refl)
      where
        try : (K : ℕ) → (Fit i K fs → Stands i K fs) → ((k == K) ≡ false → Stands i k fs) → Stands i k fs
        try K found not =
            by_eqb k K (λ q. subst (λ k. Stands i k fs) (sym q) (found (subst (λ k. Fit i k fs) q h))) (λ n. not (ne_eqb k K n))

  all_below : (b i : ℕ) → i < b → i < size_of im Statements → (x : Item Text) × IsLine im i x
  all_below zero i l h = absurd (omega arith)
  all_below (suc b) i l h =
      let f : RecordFits im Statements i (record_of im Statements i) = wf.fits Statements i h in
      let r = reads i (λ n m. all_below b n (omega arith) (omega arith)) _ _ f.fields in
      (r.0, stands_line _ _ (at_record im wf Statements i h) r.1)

  -- THEOREM: each statement stands for something
  pub statement_stands : (i : ℕ) → i < size_of im Statements → (x : Item Text) × IsLine im i x
  statement_stands i h = all_below (suc i) i (omega arith) h
