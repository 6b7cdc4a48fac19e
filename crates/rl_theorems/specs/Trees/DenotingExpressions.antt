-- Each text and each expression of a well-formed image stands for something.
-- Assumes nothing.
use Rattle.std.specs.Prelude.{◌≡◌, ℕ, zero, suc, ◌+◌, ◌<◌, ◌≤◌, false, List, [], ◌∷◌, map, length, ◌==◌}
use Rattle.std.proofs.Math.Path.{refl, subst}
use Rattle.std.proofs.Common.{sym, arith, ne_eqb}
use Rattle.std.proofs.Math.Option.{Option}
use Rattle.rl_spec.specs.declared.Section.{Section}
use Rattle.rl_spec.specs.declared.Section.TheVariants.{Texts, Lists, Expressions, Statements, Parameters, Clauses, Functions, Calls}
use Rattle.rl_spec.specs.declared.Target.TheVariants.{Text as a_text, Expression}
use Rattle.rl_spec.specs.declared.Sort.TheVariants.{Raw}
use Rattle.rl_spec.specs.Schema.{limits, schema, sort_of, fields_in, fields_of}
use Rattle.rl_spec.specs.Image.{Field, Image, size_of, record_of, field_of, first, second, entry_of, text_of, Entries, a_raw, a_byte, a_part, a_reference, a_list, FieldsFit, no_fields, ◌&◌, RecordFits, WellFormed}
use Rattle.rl_spec.specs.Values.{ConstVal}
use Rattle.rl_spec.specs.Tree.{Expr, form_by}
use Rattle.rl_spec.specs.Ranges.{up_from}
use Rattle.rl_spec.specs.Mapped.{Text}
use Rattle.rl_spec.specs.Make.{made}
use Rattle.rl_laws.specs.Tests.{by_eqb}
use Rattle.rl_images.specs.Images.SchemaSorts.{kind_range}
use Rattle.rl_images.specs.Images.Limits.{size_within}
use Rattle.rl_images.specs.Lowering.NewRecords.{At}
use Rattle.rl_theorems.specs.Trees.Denotes.{Says, AllSay, none_say, also_says, Plain, an_integer, anSInt, aUInt, anSUInt, a_byte, anSByte, aBByte, aBSByte, a_bool, a_float, anSFloat, IsExpr, stands, Reads, a_null, a_literal, a_string, an_identifier, a_binary, a_unary, a_grouping, an_assign, a_call, an_ok, an_err, an_other, Args, no_args, an_arg}

module _ (im : Image) (wf : WellFormed im) where
  few : (o : Section) → size_of im o < 65535
  unfolding limits
  few Texts = omega (arith, size_within im wf Texts)
  few Lists = omega (arith, size_within im wf Lists)
  few Expressions = omega (arith, size_within im wf Expressions)
  few Statements = omega (arith, size_within im wf Statements)
  few Parameters = omega (arith, size_within im wf Parameters)
  few Clauses = omega (arith, size_within im wf Clauses)
  few Functions = omega (arith, size_within im wf Functions)
  few Calls = omega (arith, size_within im wf Calls)

  pub at_record : (o : Section) (i : ℕ) → i < size_of im o → At im o i (record_of im o i)
  at_record o i h = record { inside = h; small = omega (arith, few o); is = refl }

  -- ---- texts

  part_fits : {t : ℕ} {fs : List Field} → FieldsFit im Texts t 0 (map sort_of (fields_of 2)) fs →
      first (field_of (made 2 fs) 0) + second (field_of (made 2 fs) 0) ≤ length im.bytes
  unfolding fields_of fields_in schema sort_of
  part_fits (a_part p u & no_fields) = p

  pub text_says : (t : ℕ) → t < size_of im Texts → Says im t (text_of im t)
  text_says t h =
      let f : RecordFits im Texts t (record_of im Texts t) = wf.fits Texts t h in
      let q : (record_of im Texts t).kind ≡ 2 = omega (arith, kind_range Texts (record_of im Texts t).kind f.kind) in
      record { inside = h; part = part_fits (rw q at f.fields); is = refl }

  texts_say : (i n k : ℕ) → Entries im Expressions i n k a_text a_text → (xs : List Text) × AllSay im (map (entry_of im) (up_from k n)) xs
  unfolding up_from
  texts_say i zero k h = ([], none_say)
  texts_say i (suc n) k h =
      let r = texts_say i n (k + 1) h.1 in
      (text_of im (entry_of im k) ∷ r.0, also_says (text_says (entry_of im k) h.0.earlier) r.1)

  -- ---- expressions

  abbrev Some : ℕ → ℕ → List Field → Type 0
  Some i k fs = (e : Expr Text) × Reads im i k fs e

  abbrev Fit : ℕ → ℕ → List Field → Type 0
  Fit i k fs = FieldsFit im Expressions i 0 (map sort_of (fields_of k)) fs

  module _ (i : ℕ) (earlier : (n : ℕ) → n < i → (e : Expr Text) × IsExpr im n e) where
    args_stand : (n k : ℕ) → Entries im Expressions i n k Expression Expression →
        (es : List (Expr Text)) × Args im i (map (entry_of im) (up_from k n)) es
    unfolding up_from
    args_stand zero k h = ([], no_args)
    args_stand (suc n) k h =
        let e = earlier (entry_of im k) h.0.earlier in
        let r = args_stand n (k + 1) h.1 in
        (e.0 ∷ r.0, an_arg h.0.earlier e.1 r.1)

    null_reads : {fs : List Field} → Fit i 16 fs → Some i 16 fs
    unfolding fields_of fields_in schema sort_of
    null_reads (a_raw w & no_fields) = (_, a_null refl)

    -- a number behind the span
    number_reads : (k w : ℕ) → map sort_of (fields_of k) ≡ Raw 4 ∷ Raw w ∷ [] → ((n : ℕ) → (v : Option (ConstVal Text)) × Plain k n v) → {fs : List Field} →
        Fit i k fs → Some i k fs
    number_reads k w e plain {fs} h = go (subst (λ cs. FieldsFit im Expressions i 0 cs fs) e h)
      where
        go : {fs : List Field} → FieldsFit im Expressions i 0 (Raw 4 ∷ Raw w ∷ []) fs → Some i k fs
        go (a_raw s & a_raw {x = n} v & no_fields) = (_, a_literal (plain n).1)

    string_reads : {fs : List Field} → Fit i 25 fs → Some i 25 fs
    unfolding fields_of fields_in schema sort_of
    string_reads (a_raw w & a_reference {x = t} r & no_fields) = (_, a_string refl (text_says t r.earlier))

    bool_reads : {fs : List Field} → Fit i 26 fs → Some i 26 fs
    unfolding fields_of fields_in schema sort_of
    bool_reads (a_raw w & a_byte l h & no_fields) = (_, a_literal a_bool)

    identifier_reads : {fs : List Field} → Fit i 30 fs → Some i 30 fs
    unfolding fields_of fields_in schema sort_of
    identifier_reads (a_raw w & a_reference {x = t} r & no_fields) = (_, an_identifier refl (text_says t r.earlier))

    binary_reads : {fs : List Field} → Fit i 32 fs → Some i 32 fs
    unfolding fields_of fields_in schema sort_of
    binary_reads (a_raw w & a_reference {x = m} p & a_byte l h & a_reference {x = n} q & no_fields) =
        (_, a_binary refl p.earlier q.earlier (earlier m p.earlier).1 (earlier n q.earlier).1)

    unary_reads : {fs : List Field} → Fit i 33 fs → Some i 33 fs
    unfolding fields_of fields_in schema sort_of
    unary_reads (a_raw w & a_byte l h & a_reference {x = n} q & no_fields) = (_, a_unary refl q.earlier (earlier n q.earlier).1)

    grouping_reads : {fs : List Field} → Fit i 34 fs → Some i 34 fs
    unfolding fields_of fields_in schema sort_of
    grouping_reads (a_raw w & a_reference {x = n} q & no_fields) = (_, a_grouping refl q.earlier (earlier n q.earlier).1)

    assign_reads : {fs : List Field} → Fit i 39 fs → Some i 39 fs
    unfolding fields_of fields_in schema sort_of
    assign_reads (a_raw w & a_reference {x = t} r & a_reference {x = n} q & no_fields) =
        (_, an_assign refl (text_says t r.earlier) q.earlier (earlier n q.earlier).1)

    call_reads : {fs : List Field} → Fit i 41 fs → Some i 41 fs
    unfolding fields_of fields_in schema sort_of
    call_reads (a_raw w & a_list {a = a} {n = m} l y p & a_list {a = b} {n = n} h z q & no_fields) =
        let ts = texts_say i m a p in
        let es = args_stand n b q in
        (_, a_call refl (record { inside = l; is = refl }) ts.1 (record { inside = h; is = refl }) es.1 refl)

    ok_reads : {fs : List Field} → Fit i 49 fs → Some i 49 fs
    unfolding fields_of fields_in schema sort_of
    ok_reads (a_raw w & a_reference {x = n} q & no_fields) = (_, an_ok refl q.earlier (earlier n q.earlier).1)

    err_reads : {fs : List Field} → Fit i 50 fs → Some i 50 fs
    unfolding fields_of fields_in schema sort_of
    err_reads (a_raw w & a_reference {x = n} q & no_fields) = (_, an_err refl q.earlier (earlier n q.earlier).1)

    reads : (k : ℕ) (fs : List Field) → Fit i k fs → Some i k fs
    unfolding form_by fields_of fields_in schema sort_of
    reads k fs h =
        try 16 null_reads λ k16.
        try 17 (number_reads 17 8 refl λ n. (_, an_integer)) λ k17.
        try 18 (number_reads 18 4 refl λ n. (_, anSInt)) λ k18.
        try 19 (number_reads 19 8 refl λ n. (_, aUInt)) λ k19.
        try 20 (number_reads 20 4 refl λ n. (_, anSUInt)) λ k20.
        try 21 (number_reads 21 1 refl λ n. (_, a_byte)) λ k21.
        try 22 (number_reads 22 1 refl λ n. (_, anSByte)) λ k22.
        try 23 (number_reads 23 2 refl λ n. (_, aBByte)) λ k23.
        try 24 (number_reads 24 2 refl λ n. (_, aBSByte)) λ k24.
        try 25 string_reads λ k25.
        try 26 bool_reads λ k26.
        try 27 (number_reads 27 8 refl λ n. (_, a_float)) λ k27.
        try 28 (number_reads 28 4 refl λ n. (_, anSFloat)) λ k28.
        try 30 identifier_reads λ k30.
        try 32 binary_reads λ k32.
        try 33 unary_reads λ k33.
        try 34 grouping_reads λ k34.
        try 39 assign_reads λ k39.
        try 41 call_reads λ k41.
        try 49 ok_reads λ k49.
        try 50 err_reads λ k50.
        (_, an_other λ im fs. rw (k16, k17, k18, k19, k20, k21, k22, k23, k24, k25, k26, k27, k28, k30, k32, k33, k34, k39, k41, k49, k50) refl)
      where
        try : (K : ℕ) → (Fit i K fs → Some i K fs) → ((k == K) ≡ false → Some i k fs) → Some i k fs
        try K found not =
            by_eqb k K (λ q. subst (λ k. Some i k fs) (sym q) (found (subst (λ k. Fit i k fs) q h))) (λ n. not (ne_eqb k K n))

  all_below : (b i : ℕ) → i < b → i < size_of im Expressions → (e : Expr Text) × IsExpr im i e
  all_below zero i l h = absurd (omega arith)
  all_below (suc b) i l h =
      let f : RecordFits im Expressions i (record_of im Expressions i) = wf.fits Expressions i h in
      let r = reads i (λ n m. all_below b n (omega arith) (omega arith)) _ _ f.fields in
      (r.0, stands _ _ (at_record Expressions i h) r.1)

  -- THEOREM: each expression stands for a tree
  pub expression_stands : (i : ℕ) → i < size_of im Expressions → (e : Expr Text) × IsExpr im i e
  expression_stands i h = all_below (suc i) i (omega arith) h
