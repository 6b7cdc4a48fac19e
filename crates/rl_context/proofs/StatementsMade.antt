-- The statements that lowering makes.
-- Assumes nothing.
use Rattle.std.proofs.Common.{◌≡◌, ℕ, Bool, true, false, cond, List, [], ◌∷◌, sym, refl, ap, ◌∙◌, subst}
use Rattle.rl_spec.specs.declared.Section.TheVariants.{Statements}
use Rattle.rl_spec.specs.declared.Interval.{Interval}
use Rattle.rl_spec.specs.Schema.{sort_of, schema, fields_in, fields_of}
use Rattle.rl_spec.specs.Image.{Field, num, pair, Rec, Image}
use Rattle.std.specs.Prelude.{None}
use Rattle.rl_spec.specs.Ranges.{optional_field}
use Rattle.rl_spec.specs.Make.{Make, ◌>>=◌, result_flag, append, made, new_text, new_list, stmt, new_stmt}
use Rattle.rl_spec.specs.Lower.{ident, err_lit, unwrap_call, violation, only_if, declare, return_of}
use Rattle.rl_encode.specs.Words.{word_fields, word_record}
use Rattle.rl_context.specs.Does.{State, nothing, Does}
use Rattle.rl_context.proofs.Composed.{does_bind, does_same}
use Rattle.rl_images.specs.Lowering.Adds.{Adds, adds_bind, adds_flag, adds_cond}
use Rattle.rl_context.proofs.StaysOver.{keeps_more}
use Rattle.rl_images.specs.Lowering.AddsLower.{adds_new, adds_call}
use Rattle.rl_context.proofs.NodesMade.{Word}

-- a record of the function's span
pub does_stmt : {im : Image} {j k : ℕ} {s t : State} {a : ℕ} (kind : ℕ) (fields : List Field) (r : Rec) → r ≡ made kind (num s.ctx.span ∷ fields) →
    Does im j k nothing (append Statements (r ∷ [])) s a t → Does im j k nothing (new_stmt kind fields) s a t
unfolding stmt
does_stmt kind fields r e d =
    does_same (new_stmt kind fields) (keeps_more nothing (λ _. adds_new kind fields))
    (λ x ws l.
    ap (λ z. append Statements (made kind (num z.span ∷ fields) ∷ []) x) l.context ∙ ap (λ z. append Statements (z ∷ []) x) (sym e)) d

-- what is made by the result flag
pub does_by_result : {A : Type 0} {im : Image} {j k : ℕ} {p : A → List ℕ} {s t : State} {a : A} (f : Bool → Make A) → ((b : Bool) → Adds (f b)) → Does im j k p (f s.ctx.is_result) s a t →
    Does im j k p (result_flag >>= f) s a t
does_by_result {p = p} f more d =
    does_same (result_flag >>= f) (keeps_more p (λ _. adds_bind adds_flag more))
    (λ x ws l. ap (λ z. f z.is_result x) l.context) d

module _ {im : Image} {j k : ℕ} {s t : State} {a : ℕ} (node : ℕ) where
  pub expression_does : Does im j k nothing (append Statements (word_record 65 (s.ctx.span ∷ node ∷ []) ∷ [])) s a t → Does im j k nothing (new_stmt 65 (num node ∷ [])) s a t
  unfolding word_record word_fields fields_of fields_in schema sort_of
  expression_does d = does_stmt 65 _ _ refl d

  pub return_does : Does im j k nothing (append Statements (word_record 66 (s.ctx.span ∷ node ∷ []) ∷ [])) s a t → Does im j k nothing (new_stmt 66 (num node ∷ [])) s a t
  unfolding word_record word_fields fields_of fields_in schema sort_of
  return_does d = does_stmt 66 _ _ refl d

pub declare_does : {im : Image} {j k : ℕ} {s t u : State} {n a : ℕ} (name : List ℕ) (value : ℕ) → Does im j j nothing (new_text name) s n t →
    Does im j k nothing (append Statements (word_record 64 (t.ctx.span ∷ n ∷ 0 ∷ value ∷ 0 ∷ []) ∷ [])) t a u → Does im j k nothing (declare name value) s a u
unfolding declare word_record word_fields fields_of fields_in schema sort_of
declare_does name value d e =
    does_bind d (keeps_more nothing (λ m. adds_new 64 (num m ∷ num 0 ∷ num value ∷ num 0 ∷ []))) (does_stmt 64 _ _ refl e)

pub return_of_does : {im : Image} {s t u : State} {n a : ℕ} (name : List ℕ) → Does im 0 0 nothing (ident name) s n t → Does im 0 0 nothing (new_stmt 66 (num n ∷ [])) t a u →
    Does im 0 0 nothing (return_of name) s a u
unfolding return_of
return_of_does name d e = does_bind d (keeps_more nothing (λ m. adds_new 66 (num m ∷ []))) e

-- ---- a violation

module _ {im : Image} {s t : State} {n : ℕ} (msg : ℕ) (d : Does im 0 0 nothing (err_lit msg) s n t) where
  abbrev violated : ℕ → Bool → Make ℕ
  violated err b = cond b (new_stmt 66 (num err ∷ [])) (unwrap_call err >>= λ abort. new_stmt 65 (num abort ∷ []))

  more_violated : (err : ℕ) (b : Bool) → Adds (violated err b)
  more_violated err b = adds_cond b (adds_new 66 _) (adds_bind (adds_call _ err) (λ abort. adds_new 65 _))

  by_flag : {u : State} {a : ℕ} → Does im 0 0 nothing (violated n t.ctx.is_result) t a u → Does im 0 0 nothing (violation msg) s a u
  unfolding violation
  by_flag e = does_bind d (keeps_more nothing (λ err. adds_bind adds_flag (more_violated err))) (does_by_result (violated n) (more_violated n) e)

  pub violation_returns : {u : State} {a : ℕ} → t.ctx.is_result ≡ true → Does im 0 0 nothing (new_stmt 66 (num n ∷ [])) t a u → Does im 0 0 nothing (violation msg) s a u
  violation_returns {u} {a} e f = by_flag (subst (λ b. Does im 0 0 nothing (violated n b) t a u) (sym e) f)

  pub violation_aborts : {u v : State} {b a : ℕ} → t.ctx.is_result ≡ false → Does im 0 0 nothing (unwrap_call n) t b u → Does im 0 0 nothing (new_stmt 65 (num b ∷ [])) u a v →
      Does im 0 0 nothing (violation msg) s a v
  violation_aborts {v = v} {a = a} e f g =
      by_flag (subst (λ b. Does im 0 0 nothing (violated n b) t a v) (sym e) (does_bind f (keeps_more nothing (λ m. adds_new 65 (num m ∷ []))) g))

-- ---- a conditional

branch_record : (span condition w : ℕ) (body : Interval) → Word w body →
    word_record 69 (span ∷ condition ∷ w ∷ 0 ∷ []) ≡ made 69 (num span ∷ num condition ∷ pair body.first body.count ∷ num 0 ∷ [])
unfolding word_record word_fields fields_of fields_in schema sort_of
branch_record span condition w body e = ap (λ p. made 69 (num span ∷ num condition ∷ p ∷ num 0 ∷ [])) e

pub only_if_does : {im : Image} {s t u v : State} {b a : ℕ} (condition stm : ℕ) (body : Interval) (w x : ℕ) → Does im 0 0 nothing (new_list (stm ∷ [])) s (pair body.first body.count) t →
    Word w body → num x ≡ optional_field None →
    Does im 0 0 nothing (append Statements (word_record 69 (t.ctx.span ∷ condition ∷ w ∷ 0 ∷ []) ∷ [])) t b u →
    Does im 0 0 nothing (append Statements (word_record 68 (u.ctx.span ∷ b ∷ x ∷ []) ∷ [])) u a v → Does im 0 0 nothing (only_if condition stm) s a v
unfolding only_if word_record word_fields fields_of fields_in schema sort_of
only_if_does {t = t} {u = u} {b = b} condition stm body w x d e o f g =
    does_bind d
    (keeps_more nothing (λ p. adds_bind (adds_new 69 (num condition ∷ p ∷ num 0 ∷ [])) (λ branch. adds_new 68 (num branch ∷ optional_field None ∷ []))))
    (does_bind (does_stmt 69 _ _ (branch_record t.ctx.span condition w body e) f) (keeps_more nothing (λ branch. adds_new 68 (num branch ∷ optional_field None ∷ [])))
    (does_stmt 68 _ _ (ap (λ z. made 68 (num u.ctx.span ∷ num b ∷ z ∷ [])) o) g))
