-- Where nothing is made: the context is full, or a limit would be passed.
-- Assumes nothing.
use Rattle.std.proofs.Common.{◌≡◌, ℕ, ◌+◌, ◌<◌, Bool, true, false, cond, ltb, List, [], ◌∷◌, ◌++◌, length, sym, refl, ap, ◌∙◌, subst, arith}
use mathlib.Core.Option.{Option, none, some}
use Rattle.rl_spec.specs.declared.Section.TheVariants.{Texts, Expressions, Statements}
use Rattle.rl_spec.specs.Image.{pair, Rec, Image}
use Rattle.rl_spec.specs.Make.{Context, Make, and_then, append, made, new_text}
use Rattle.rl_images.specs.Lowering.Gives.{Gives, stops, after}
use Rattle.rl_context.specs.declared.Ctx.{Ctx}
use Rattle.rl_context.specs.Additions.{context_of, Live}
use Rattle.rl_context.specs.Does.{State, at, nothing, Over, Start, Does}
use Rattle.rl_context.proofs.Composed.{not_both, by_full, ends_full}
use Rattle.rl_images.specs.Lowering.Adds.{Adds, adds_append, adds_text}
use Rattle.rl_context.proofs.StaysOver.{keeps_more}
use Rattle.rl_context.proofs.Grown.{with_bytes_lem, bytes_appended, texts_appended, expressions_appended, statements_appended}

pub stops_does : {A : Type 0} {im : Image} {j k : ℕ} {m : Make A} {s : State} {a : A} {t : State} (p : A → List ℕ) → t.ctx.full ≡ true → Adds m →
    ((x : Context) (ws : List ℕ) → s.ctx.full ≡ false → Live im j x ws s.ctx s.scratch s.waiting → m x ≡ none) → Does im j k p m s a t
stops_does {im = im} {j} {m = m} {s} p full more reason = record { does = λ ws o st. ends_full full (go ws o st) }
  where
    go : (ws : List ℕ) (o : Option (Unit {0} × Context)) → Start im j ws o s → Gives (λ b x. Over (ws ++ p b) x) (and_then o (λ _. m))
    go ws o st =
        by_full s (λ v. after (st.full v) (λ _ y h. (keeps_more p (λ (_ : Unit {0}). more)).keeps ws tt y h))
        (λ v.
        subst (λ z. Gives (λ b x. Over (ws ++ p b) x) (and_then z (λ _. m))) (sym (st.live v).is)
        (subst (Gives (λ b x. Over (ws ++ p b) x)) (sym (reason (st.live v).here (ws ++ []) v (st.live v).live)) stops))

-- a test that fails
refused : {A : Type 0} (b : Bool) (o : Option A) → b ≡ true → cond b none o ≡ none
refused b o e = ap (λ z. cond z none o) e

-- ---- texts

module _ (im : Image) (k : ℕ) (self : Ctx) (scratch w text : List ℕ) (a : ℕ) (t : State) (full : t.ctx.full ≡ true) where
  pub text_full : self.full ≡ true → Does im k k nothing (new_text text) (at self scratch w) a t
  text_full f = stops_does nothing full (adds_text text) (λ x ws v l. not_both f v)

  pub text_short : length scratch < 186496 → Does im k k nothing (new_text text) (at self scratch w) a t
  text_short h = stops_does nothing full (adds_text text) (λ x ws v l. absurd (omega (arith, l.kept.size)))

  pub text_bytes_lem : (b : Bool) → b ≡ ltb 16384 (self.bytes + length text) → b ≡ true → Does im k k nothing (new_text text) (at self scratch w) a t
  unfolding new_text
  text_bytes_lem b e q = stops_does nothing full (adds_text text) reason
    where
      reason : (x : Context) (ws : List ℕ) → self.full ≡ false → Live im k x ws self scratch w → new_text text x ≡ none
      reason x ws v l =
          ap (new_text text) l.context
          ∙ ap (λ o. and_then o (λ n. append Texts (made 2 (pair n (length text) ∷ []) ∷ []))) (bytes_appended im l.new self text self.bytes l.counted.bytes ∙ refused _ _ (sym e ∙ q))

  pub text_texts : (b : Bool) → b ≡ ltb 2048 (self.texts + 1) → b ≡ true → Does im k k nothing (new_text text) (at self scratch w) a t
  unfolding new_text
  text_texts b e q = stops_does nothing full (adds_text text) reason
    where
      either : (c : Bool) (x : Context) (f : ℕ → Make ℕ) (n : ℕ) → f n x ≡ none → and_then (cond c none (some (n, x))) f ≡ none
      either true x f n h = refl
      either false x f n h = h

      reason : (x : Context) (ws : List ℕ) → self.full ≡ false → Live im k x ws self scratch w → new_text text x ≡ none
      reason x ws v l =
          ap (new_text text) l.context
          ∙ ap (λ o. and_then o (λ n. append Texts (made 2 (pair n (length text) ∷ []) ∷ []))) (bytes_appended im l.new self text self.bytes l.counted.bytes)
          ∙ either (ltb 16384 (self.bytes + length text)) (context_of im (with_bytes_lem l.new text) self) (λ n. append Texts (made 2 (pair n (length text) ∷ []) ∷ [])) self.bytes (texts_appended im _ self _ self.texts l.counted.texts ∙ refused _ _ (sym e ∙ q))

-- ---- expressions and statements

module _ (im : Image) (k : ℕ) (self : Ctx) (scratch w : List ℕ) (r : Rec) (a : ℕ) (t : State) (full : t.ctx.full ≡ true) where
  pub expression_full : self.full ≡ true → Does im k k nothing (append Expressions (r ∷ [])) (at self scratch w) a t
  expression_full f = stops_does nothing full (adds_append Expressions tt (r ∷ [])) (λ x ws v l. not_both f v)

  pub expression_less : 186496 < self.expression_bytes → Does im k k nothing (append Expressions (r ∷ [])) (at self scratch w) a t
  expression_less h =
      stops_does nothing full (adds_append Expressions tt (r ∷ [])) (λ x ws v l. absurd (omega (arith, l.kept.size, l.counted.low_expressions, l.counted.expressions, l.counted.few_expressions)))

  pub expression_short : length scratch < 38912 + self.expression_bytes + 65 → Does im k k nothing (append Expressions (r ∷ [])) (at self scratch w) a t
  expression_short h =
      stops_does nothing full (adds_append Expressions tt (r ∷ [])) (λ x ws v l. absurd (omega (arith, l.kept.size, l.counted.low_expressions, l.counted.expressions, l.counted.few_expressions)))

  pub expression_many : (b : Bool) → b ≡ ltb 4096 (self.expressions + 1) → b ≡ true → Does im k k nothing (append Expressions (r ∷ [])) (at self scratch w) a t
  expression_many b e q =
      stops_does nothing full (adds_append Expressions tt (r ∷ []))
      (λ x ws v l. ap (append Expressions (r ∷ [])) l.context ∙ expressions_appended im l.new self (r ∷ []) self.expressions l.counted.expressions ∙ refused _ _ (sym e ∙ q))

  pub statement_full : (j : ℕ) → self.full ≡ true → Does im k j nothing (append Statements (r ∷ [])) (at self scratch w) a t
  statement_full j f = stops_does nothing full (adds_append Statements tt (r ∷ [])) (λ x ws v l. not_both f v)

  pub statement_less : (j : ℕ) → 186496 < self.statement_bytes → Does im k j nothing (append Statements (r ∷ [])) (at self scratch w) a t
  statement_less j h =
      stops_does nothing full (adds_append Statements tt (r ∷ [])) (λ x ws v l. absurd (omega (arith, l.kept.size, l.counted.low_statements, l.counted.statements, l.counted.few_statements)))

  pub statement_short : (j : ℕ) → length scratch < 137216 + self.statement_bytes + 65 → Does im k j nothing (append Statements (r ∷ [])) (at self scratch w) a t
  statement_short j h =
      stops_does nothing full (adds_append Statements tt (r ∷ [])) (λ x ws v l. absurd (omega (arith, l.kept.size, l.counted.low_statements, l.counted.statements, l.counted.few_statements)))

  pub statement_many : (j : ℕ) (b : Bool) → b ≡ ltb 2048 (self.statements + 1) → b ≡ true → Does im k j nothing (append Statements (r ∷ [])) (at self scratch w) a t
  statement_many j b e q =
      stops_does nothing full (adds_append Statements tt (r ∷ []))
      (λ x ws v l. ap (append Statements (r ∷ [])) l.context ∙ statements_appended im l.new self (r ∷ []) self.statements l.counted.statements ∙ refused _ _ (sym e ∙ q))
