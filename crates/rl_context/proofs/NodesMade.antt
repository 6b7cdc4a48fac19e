-- The nodes that lowering makes.
-- Assumes nothing.
use Rattle.std.proofs.Common.{◌≡◌, ℕ, suc, ◌+◌, ◌*◌, ◌/◌, ◌%◌, ◌<◌, List, [], ◌∷◌, length, get_or, sym, refl, ap, ◌∙◌, subst, ap₂, suc-add, arith}
use mathlib.Core.Option.{Option, none, some}
use Rattle.rl_spec.specs.declared.Section.TheVariants.{Expressions}
use Rattle.rl_spec.specs.declared.Interval.{Interval}
use Rattle.rl_spec.specs.Schema.{sort_of, fields_of}
use Rattle.rl_spec.specs.Image.{Field, num, pair, Rec, Image}
use Rattle.rl_spec.specs.Tree.{ascii}
use Rattle.rl_spec.specs.Make.{Context, Make, and_then, ◌>>=◌, give, each, append, made, new_text, new_list}
use Rattle.rl_spec.specs.Lower.{expr, ident, str_lit, err_lit, res_call, unwrap_call, is_err_call}
use Rattle.rl_images.specs.Lowering.Gives.{gives, after}
use Rattle.rl_encode.specs.Words.{word_field, word_fields, word_record}
use Rattle.rl_context.specs.Does.{State, nothing, one, all, Does, Pushes, Listed}
use Rattle.rl_context.specs.Paths.{res_path}
use Rattle.rl_context.proofs.Composed.{Keeps, does_bind, does_then, does_give, does_same, does_push, does_each, does_list}
use Rattle.rl_images.specs.Lowering.Adds.{adds_text, adds_list, adds_bind, adds_each}
use Rattle.rl_context.proofs.StaysOver.{keeps_more, keeps_one}
use Rattle.rl_images.specs.Lowering.AddsLower.{adds_expr}

-- ---- computations

pub assoc : {A B C : Type 0} (m : Make A) (f : A → Make B) (g : B → Make C) → (m >>= f >>= g) ≡ (m >>= λ a. f a >>= g)
assoc {A} m f g = λ i x. go (m x) i
  where
    go : (o : Option (A × Context)) → and_then (and_then o f) g ≡ and_then o (λ a. f a >>= g)
    go none = refl
    go (some r) = refl

pub does_assoc : {A B C : Type 0} {im : Image} {j k : ℕ} {p : C → List ℕ} {s t : State} {c : C} (m : Make A) (f : A → Make B) (g : B → Make C) →
    Does im j k p (m >>= f >>= g) s c t → Does im j k p (m >>= λ a. f a >>= g) s c t
does_assoc {im = im} {j} {k} {p} {s} {t} {c} m f g d = subst (λ n. Does im j k p n s c t) (assoc m f g) d

-- no entries
pub does_none : {im : Image} {k : ℕ} (s : State) → Does im k k all (give []) s [] s
does_none s =
    record {
      does = λ ws o st.
          record {
            full = λ v. after (st.full v) (λ _ x h. gives h);
            live = λ v. record { here = (st.live v).here; is = ap (λ z. and_then z (λ _. give [])) (st.live v).is; live = (st.live v).live };
          };
    }

-- the one that waits, as all that wait
pub does_only : {im : Image} {j k : ℕ} {m : Make ℕ} {s t : State} {n : ℕ} → Does im j k one m s n t → Does im j k all (m >>= λ a. give (a ∷ [])) s (n ∷ []) t
does_only {im} {k = k} {t = t} {n} d =
    does_then (λ _. n ∷ []) d (does_give im k (tt {0}) t) (record { keeps = λ ws a x h. gives h }) refl (λ c. refl)

-- ---- a record of the function's span

pub does_expr : {im : Image} {k : ℕ} {s t : State} {a : ℕ} (kind : ℕ) (fields : List Field) (r : Rec) → r ≡ made kind (num s.ctx.span ∷ fields) →
    Does im k k nothing (append Expressions (r ∷ [])) s a t → Does im k k nothing (expr kind fields) s a t
unfolding expr
does_expr kind fields r e d =
    does_same (expr kind fields) (keeps_more nothing (λ _. adds_expr kind fields))
    (λ x ws l.
    ap (λ z. append Expressions (made kind (num z.span ∷ fields) ∷ []) x) l.context ∙ ap (λ z. append Expressions (z ∷ []) x) (sym e)) d

-- a list, as a word
abbrev pub Word : ℕ → Interval → Type 0
Word w list = pair (w % 65536) (w / 65536) ≡ pair list.first list.count

pub list_word : (list : Interval) (w : ℕ) → list.first < 65536 → w ≡ list.first + 65536 * list.count → Word w list
list_word list w h e = ap₂ pair (omega (arith, e)) (omega (arith, e))

words_behind : (x : ℕ) (l cs : List ℕ) (j : ℕ) → word_fields cs (x ∷ l) (suc j) ≡ word_fields cs l j
unfolding word_fields
words_behind x l [] j = refl
words_behind x l (c ∷ cs) j = ap (λ fs. word_field (sort_of c) (get_or l j 0) ∷ fs) (ap (word_fields cs (x ∷ l)) (suc-add j 1) ∙ words_behind x l cs (j + 1))

three : (l : List ℕ) → length l ≡ 3 → get_or l 0 0 ∷ get_or l 1 0 ∷ get_or l 2 0 ∷ [] ≡ l
three [] e = absurd (omega (arith, e))
three (a ∷ []) e = absurd (omega (arith, e))
three (a ∷ b ∷ []) e = absurd (omega (arith, e))
three (a ∷ b ∷ c ∷ []) e = refl
three (a ∷ b ∷ c ∷ d ∷ l) e = absurd (omega (arith, e))

expr_record : (kind span : ℕ) (l cs : List ℕ) → length l ≡ 3 → fields_of kind ≡ 3 ∷ cs →
    word_record kind (span ∷ get_or l 0 0 ∷ get_or l 1 0 ∷ get_or l 2 0 ∷ []) ≡ made kind (num span ∷ word_fields cs l 0)
unfolding word_record word_fields sort_of
expr_record kind span l cs h e =
    ap (λ z. made kind (word_fields z (span ∷ get_or l 0 0 ∷ get_or l 1 0 ∷ get_or l 2 0 ∷ []) 0)) e
    ∙ ap (λ fs. made kind (num span ∷ fs)) (words_behind span _ cs 0 ∙ ap (λ z. word_fields cs z 0) (three l h))

module _ {im : Image} {k : ℕ} {s t : State} {a : ℕ} where
  pub expr_does : (kind : ℕ) (l cs : List ℕ) → length l ≡ 3 → fields_of kind ≡ 3 ∷ cs →
      Does im k k nothing (append Expressions (word_record kind (s.ctx.span ∷ get_or l 0 0 ∷ get_or l 1 0 ∷ get_or l 2 0 ∷ []) ∷ [])) s a t →
      Does im k k nothing (expr kind (word_fields cs l 0)) s a t
  expr_does kind l cs h e d = does_expr kind _ _ (expr_record kind s.ctx.span l cs h e) d

  pub err_does : (msg : ℕ) → Does im k k nothing (expr 50 (num msg ∷ [])) s a t → Does im k k nothing (err_lit msg) s a t
  unfolding err_lit
  err_does msg d = d

-- ---- nodes with texts

module _ {im : Image} {k : ℕ} {s t u : State} {n a : ℕ} (text : List ℕ) (d : Does im k k nothing (new_text text) s n t) where
  pub str_does : Does im k k nothing (expr 25 (num n ∷ [])) t a u → Does im k k nothing (str_lit text) s a u
  unfolding str_lit
  str_does e = does_bind d (keeps_more nothing (λ m. adds_expr 25 (num m ∷ []))) e

  pub ident_does : Does im k k nothing (expr 30 (num n ∷ [])) t a u → Does im k k nothing (ident text) s a u
  unfolding ident
  ident_does e = does_bind d (keeps_more nothing (λ m. adds_expr 30 (num m ∷ []))) e

-- ---- calls

-- a list of one entry
pub list_of_does : {im : Image} {k : ℕ} {s t u : State} {list : Interval} (n : ℕ) → Pushes n s t → Listed s.ctx.waiting t list u →
    Does im k k nothing (new_list (n ∷ [])) s (pair list.first list.count) u
list_of_does {im} {k} {s} n p l = does_list s.ctx.waiting refl (does_only (does_push (does_give im k n s) p)) l

module _ {im : Image} {k : ℕ} (std res name : List ℕ) {s t u v : State} {a b c : ℕ} (d : Does im k k one (new_text std) s a t) (e : Does im k k one (new_text res) t b u)
    (f : Does im k k one (new_text name) u c v) where
  three_texts : Does im k k all (each new_text (std ∷ res ∷ name ∷ [])) s (a ∷ b ∷ c ∷ []) v
  unfolding each
  three_texts = does_each new_text std (res ∷ name ∷ []) (rest (res ∷ name ∷ [])) d (does_each new_text res (name ∷ []) (rest (name ∷ [])) e (does_each new_text name [] (rest []) f (does_none v)))
    where
      rest : (l : List (List ℕ)) → Keeps one (λ n. each new_text l >>= λ ns. give (n ∷ ns)) all
      rest l = keeps_one (λ n ns. n ∷ ns) (adds_each adds_text l) (λ n ns. omega arith)

pub path_does : {im : Image} {k : ℕ} {s t u v z : State} {a b c : ℕ} {list : Interval} (name : List ℕ) →
    Does im k k one (new_text (115 ∷ 116 ∷ 100 ∷ [])) s a t → Does im k k one (new_text (114 ∷ 101 ∷ 115 ∷ [])) t b u → Does im k k one (new_text name) u c v →
    Listed s.ctx.waiting v list z → Does im k k nothing (res_path name) s (pair list.first list.count) z
unfolding ascii
path_does {s = s} name d e f l = does_list s.ctx.waiting refl (three_texts (ascii "std") (ascii "res") name d e f) l

pub call_does : {im : Image} {k : ℕ} {s t u z : State} {a : ℕ} (name : List ℕ) (x : ℕ) (path args : Interval) (v w : ℕ) →
    Does im k k nothing (res_path name) s (pair path.first path.count) t → Does im k k nothing (new_list (x ∷ [])) t (pair args.first args.count) u →
    Word v path → Word w args → Does im k k nothing (expr 41 (pair (v % 65536) (v / 65536) ∷ pair (w % 65536) (w / 65536) ∷ [])) u a z →
    Does im k k nothing (res_call name x) s a z
unfolding res_call
call_does {im} {k} {u = u} {z} {a} name x path args v w d e p q f =
    does_assoc (each new_text (ascii "std" ∷ ascii "res" ∷ name ∷ [])) new_list (λ p. new_list (x ∷ []) >>= λ q. expr 41 (p ∷ q ∷ []))
    (does_bind d (keeps_more nothing (λ p. adds_bind (adds_list (x ∷ [])) (λ q. adds_expr 41 (p ∷ q ∷ []))))
    (does_bind e (keeps_more nothing (λ q. adds_expr 41 (pair path.first path.count ∷ q ∷ [])))
    (subst (λ fs. Does im k k nothing (expr 41 fs) u a z) (ap₂ (λ p q. p ∷ q ∷ []) p q) f)))

module _ {im : Image} {k : ℕ} {s t : State} {a : ℕ} (x : ℕ) where
  pub unwrap_does : Does im k k nothing (res_call (114 ∷ 101 ∷ 115 ∷ 117 ∷ 108 ∷ 116 ∷ 95 ∷ 117 ∷ 110 ∷ 119 ∷ 114 ∷ 97 ∷ 112 ∷ []) x) s a t →
      Does im k k nothing (unwrap_call x) s a t
  unfolding ascii
  unwrap_does d = d

  pub is_err_does : Does im k k nothing (res_call (105 ∷ 115 ∷ 95 ∷ 101 ∷ 114 ∷ 114 ∷ []) x) s a t → Does im k k nothing (is_err_call x) s a t
  unfolding ascii
  is_err_does d = d
