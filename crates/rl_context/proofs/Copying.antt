-- An expression's copy: its record, its fields one by one, and the new record.
-- Assumes nothing.
use Rattle.std.proofs.Common.{◌≡◌, ℕ, zero, suc, ◌+◌, ◌*◌, ◌/◌, ◌%◌, ◌^◌, ◌<◌, ◌≤◌, Bool, true, false, cond, eqb, ltb, List, [], ◌∷◌, ◌++◌, map, length, get_or, take, set, sym, refl, ap, ◌∙◌, subst, ap₂, append_assoc, arith, length-set, get_or-take, get_or-set_same, take-take, w64, Fits, ne_eqb}
use lib.ListN.{get_or-append}
use lib.Seq.{take-set-le}
use Rattle.rl_spec.specs.declared.Counts.{Counts}
use Rattle.rl_spec.specs.declared.Section.TheVariants.{Lists, Expressions}
use Rattle.rl_spec.specs.Schema.{sort_of, width_of, fields_of}
use Rattle.rl_spec.specs.Image.{Field, Image, size_of, no_record, records_of, record_of, field_of, entry_of, first, field_in, fields_at, record_in, FieldFits, FieldsFit, WellFormed}
use Rattle.rl_images.specs.Images.FieldFacts.{first_fits, others_fit}
use Rattle.rl_spec.specs.Found.{record_as, record_found, image_found}
use Rattle.rl_spec.specs.Ranges.{up_from}
use Rattle.rl_spec.specs.Make.{Context, Make, ◌>>=◌, give, image_so_far, append, made}
use Rattle.rl_spec.specs.Lower.{is_lambda, clone_field, clone_fields, clone_record, deep_clone_expr}
use Rattle.rl_laws.specs.Descend.{descend_is}
use Rattle.rl_laws.specs.Found.{record_found_lem, size_found}
use Rattle.rl_schema.specs.Codes.{codes_in, codes}
use Rattle.rl_schema.proofs.Rows.{codes_none, codes_more}
use Rattle.rl_arena.proofs.Laws.{width_small}
use Rattle.rl_encode.specs.Words.{word_field, word_fields, word_record}
use Rattle.rl_context.specs.Additions.{Live}
use Rattle.rl_context.specs.Does.{State, nothing, Does}
use Rattle.rl_context.proofs.Composed.{not_both, does_then, does_bind, does_give, does_same}
use Rattle.rl_images.specs.Lowering.Adds.{Adds, adds_bind, adds_append, adds_give, adds_cond}
use Rattle.rl_context.proofs.StaysOver.{keeps_more}
use Rattle.rl_images.specs.Lowering.AddsLower.{adds_clone, adds_fields}
use Rattle.rl_context.proofs.Appends.{stops_does}
use Rattle.rl_context.specs.Copies.{clone_below, Fitting, Copies, CopiesField}

-- ---- the record at hand

-- a record of the image is one of the image that has grown
pub old_record : {im : Image} {k : ℕ} {x : Context} {ws : List ℕ} {s : State} (id : ℕ) → Live im k x ws s.ctx s.scratch s.waiting → id < size_of im Expressions →
    record_of x.image Expressions id ≡ record_of im Expressions id
old_record {im} id l h =
    ap (λ z. record_of z.image Expressions id) l.context ∙ get_or-append (records_of im Expressions) l.new.expressions no_record id h

clone_step_lem : (id : ℕ) (x : Context) → deep_clone_expr id x ≡ clone_record (clone_below id) id (record_of x.image Expressions id) x
unfolding deep_clone_expr
clone_step_lem id x = λ i. descend_is give (λ n clone. image_so_far >>= λ im. clone_record clone n (record_of im Expressions n)) id i x

module _ (s p : List ℕ) (c : Counts) (id start kind : ℕ) (h : id < c.expressions) (e : start ≡ get_or p id 0) (q : kind ≡ get_or s start 0) where
  abbrev im : Image
  im = image_found s p c

  pub record_is : record_of im Expressions id ≡ record_as s kind start
  unfolding record_found
  record_is = record_found_lem s p c Expressions id h ∙ rw (← e, ← q) refl

  in_range : id < size_of im Expressions
  in_range = rw (size_found s p c Expressions) h

  clone_is : {k : ℕ} (x : Context) (ws : List ℕ) {t : State} → Live im k x ws t.ctx t.scratch t.waiting → deep_clone_expr id x ≡ clone_record (clone_below id) id (record_as s kind start) x
  clone_is x ws {t} l = clone_step_lem id x ∙ ap (λ r. clone_record (clone_below id) id r x) (old_record {s = t} id l in_range ∙ record_is)

  -- a Lambda's own id
  pub copies_lambda : (t : State) → is_lambda kind ≡ true → Copies im id t id t
  unfolding record_as
  copies_lambda t b = does_same (deep_clone_expr id) (keeps_more nothing (λ _. adds_clone id)) (λ x ws l. clone_is x ws {t = t} l ∙ ap (λ z. cond z (give id) (clone_fields (clone_below id) (fields_of kind) (fields_at s (fields_of kind) (start + 1)) >>= λ fs. append Expressions (made kind fs ∷ [])) x) b) (does_give im 0 id t)

  -- the copied fields, and the new record
  pub copies_record : (fs : List Field) (t u v : State) (index : ℕ) → is_lambda kind ≡ false → Does im 0 0 nothing (clone_fields (clone_below id) (fields_of kind) (fields_at s (fields_of kind) (start + 1))) t fs u →
      Does im 0 0 nothing (append Expressions (made kind fs ∷ [])) u index v → Copies im id t index v
  unfolding record_as
  copies_record fs t u v index b d e =
      does_same (deep_clone_expr id) (keeps_more nothing (λ _. adds_clone id)) (λ x ws l. clone_is x ws {t = t} l ∙ ap (λ z. cond z (give id) (clone_fields (clone_below id) (fields_of kind) (fields_at s (fields_of kind) (start + 1)) >>= λ fs. append Expressions (made kind fs ∷ [])) x) b)
      (does_bind d (keeps_more nothing (λ gs. adds_append Expressions tt (made kind gs ∷ []))) e)

  pub copies_full : (t u : State) (index : ℕ) → t.ctx.full ≡ true → u.ctx.full ≡ true → Copies im id t index u
  copies_full t u index f g = stops_does nothing g (adds_clone id) (λ x ws v l. not_both f v)

-- ---- the fields, one by one

module _ (clone : ℕ → Make ℕ) (more : (j : ℕ) → Adds (clone j)) where
  next_field : (s : List ℕ) (rest place : ℕ) → rest < 2 ^ 64 → (rest ≡ 0 → ⊥) →
      clone_fields clone (codes rest) (fields_at s (codes rest) place)
      ≡ (clone_field clone (sort_of (rest % 256)) (field_in s (sort_of (rest % 256)) place)
      >>= λ g. clone_fields clone (codes (rest / 256)) (fields_at s (codes (rest / 256)) (place + width_of (sort_of (rest % 256)))) >>= λ gs. give (g ∷ gs))
  unfolding clone_fields fields_at
  next_field s rest place l q = ap (λ cs. clone_fields clone cs (fields_at s cs place)) (codes_more rest l q)

codes_length : (f n : ℕ) → length (codes_in f n) ≤ f
unfolding codes_in
codes_length zero n = omega arith
codes_length (suc f) n = go (eqb n 0) (codes_length f (n / 256))
  where
    go : (b : Bool) → length (codes_in f (n / 256)) ≤ f → length (cond b [] (n % 256 ∷ codes_in f (n / 256))) ≤ suc f
    go true h = omega arith
    go false h = omega arith

-- the words so far give the fields so far
same_word : (ws vs : List ℕ) (j : ℕ) → take (j + 1) ws ≡ take (j + 1) vs → get_or ws j 0 ≡ get_or vs j 0
same_word ws vs j e = sym (get_or-take (j + 1) ws j 0 (omega arith)) ∙ ap (λ l. get_or l j 0) e ∙ get_or-take (j + 1) vs j 0 (omega arith)

pub record Copying (s p : List ℕ) (c : Counts) (id row at : ℕ) (start here : State) (words : List ℕ) (rest place j : ℕ) : Type 0 where
  pub small : rest < 2 ^ 64
  pub few : j + length (codes rest) ≤ 8
  pub near : place + 8 * length (codes rest) ≤ 65600
  pub size : length words ≡ 8
  pub done : List Field
  pub shown : (ws : List ℕ) → take j ws ≡ take j words → word_fields (codes row) ws 0 ≡ done ++ word_fields (codes rest) ws j
  pub fits : WellFormed (image_found s p c) → (before : ℕ) × FieldsFit (image_found s p c) Expressions id before (map sort_of (codes rest)) (fields_at s (codes rest) place)
  pub follows : (gs : List Field) (t : State) → Does (image_found s p c) 0 0 nothing (clone_fields (clone_below id) (codes rest) (fields_at s (codes rest) place)) here gs t →
      Does (image_found s p c) 0 0 nothing (clone_fields (clone_below id) (codes row) (fields_at s (codes row) at)) start (done ++ gs) t

pub adds_below : (id j : ℕ) → Adds (clone_below id j)
adds_below id j = adds_cond (ltb j id) (adds_clone j) (adds_give j)

module _ (s p : List ℕ) (c : Counts) (id row at : ℕ) (start : State) where
  pub copying_none : (kind : ℕ) (words : List ℕ) → length words ≡ 8 → row < 2 ^ 64 → at ≤ 65536 → id < c.expressions → codes row ≡ fields_of kind → (start₀ : ℕ) → at ≡ start₀ + 1 → start₀ ≡ get_or p id 0 → kind ≡ get_or s start₀ 0 →
      Copying s p c id row at start start words row at 0
  unfolding record_as codes codes_in
  copying_none kind words size small near h is start₀ a e q =
      record {
        small = small;
        few = omega (arith, short);
        near = omega (arith, short);
        size = size;
        done = [];
        shown = λ ws v. refl;
        fits = λ wf. (0, rw is (rw a (subst (λ r. FieldsFit (image_found s p c) Expressions id 0 (map sort_of (fields_of r.kind)) r.fields) (record_is s p c id start₀ kind h e q) (wf.fits Expressions id (rw (size_found s p c Expressions) h)).fields)));
        follows = λ gs t d. d;
      }
    where
      short : length (codes row) ≤ 8
      short = codes_length 8 row

  module _ (here : State) (words : List ℕ) (rest place j : ℕ) (w : Copying s p c id row at start here words rest place j) where
    pub copying_field : (rest ≡ 0 → ⊥) → Fitting (image_found s p c) s id (rest % 256) place
    unfolding fields_at
    copying_field q = λ wf. ((w.fits wf).0, fitted wf)
      where
        fitted : (wf : WellFormed (image_found s p c)) → FieldFits (image_found s p c) Expressions id (w.fits wf).0 (sort_of (rest % 256)) (field_in s (sort_of (rest % 256)) place)
        fitted wf = first_fits (subst (λ cs. FieldsFit (image_found s p c) Expressions id (w.fits wf).0 (map sort_of cs) (fields_at s cs place)) (codes_more rest w.small q) (w.fits wf).1)

    pub copying_more : (q : rest ≡ 0 → ⊥) (word width : ℕ) (next : State) (words' : List ℕ) → CopiesField (image_found s p c) s id (rest % 256) place here word next →
        width ≡ width_of (sort_of (rest % 256)) → words' ≡ set words j word → Copying s p c id row at start next words' (rest / 256) (place + width) (j + 1)
    unfolding word_fields fields_at
    copying_more q word width next words' d v o =
        record {
          small = omega (arith, w.small);
          few = omega (arith, w.few, counted);
          near = omega (arith, w.near, counted, v, width_small (rest % 256) (sort_of (rest % 256)) refl (width_of (sort_of (rest % 256))) refl);
          size = ap length o ∙ length-set words j word ∙ w.size;
          done = w.done ++ word_field (sort_of (rest % 256)) word ∷ [];
          shown = λ ws e.
              w.shown ws (shorter ws e)
              ∙ ap (λ cs. w.done ++ word_fields cs ws j) split
              ∙ ap (λ x. w.done ++ word_field (sort_of (rest % 256)) x ∷ word_fields (codes (rest / 256)) ws (j + 1)) (same_word ws words' j e ∙ ap (λ l. get_or l j 0) o ∙ get_or-set_same words j word 0 (omega (arith, w.size, w.few, counted)))
              ∙ sym (append_assoc w.done (word_field (sort_of (rest % 256)) word ∷ []) (word_fields (codes (rest / 256)) ws (j + 1)));
          fits = λ wf. (first (field_in s (sort_of (rest % 256)) place), rw v (others_fit (subst (λ cs. FieldsFit (image_found s p c) Expressions id (w.fits wf).0 (map sort_of cs) (fields_at s cs place)) split (w.fits wf).1)));
          follows = λ gs t f.
              subst (λ z. Does (image_found s p c) 0 0 nothing (clone_fields (clone_below id) (codes row) (fields_at s (codes row) at)) start z t)
              (sym (append_assoc w.done (word_field (sort_of (rest % 256)) word ∷ []) gs))
              (w.follows (word_field (sort_of (rest % 256)) word ∷ gs) t
              (subst (λ m. Does (image_found s p c) 0 0 nothing m here (word_field (sort_of (rest % 256)) word ∷ gs) t)
              (sym (next_field (clone_below id) (adds_below id) s rest place w.small q))
              (does_then (λ hs. word_field (sort_of (rest % 256)) word ∷ hs) d (subst (λ n. Does (image_found s p c) 0 0 nothing (clone_fields (clone_below id) (codes (rest / 256)) (fields_at s (codes (rest / 256)) (place + n))) next gs t) v f)
              (keeps_more nothing (λ g. adds_bind (adds_fields (clone_below id) (adds_below id) (codes (rest / 256)) _) (λ hs. adds_give (g ∷ hs)))) refl (λ hs. refl))));
        }
      where
        split : codes rest ≡ rest % 256 ∷ codes (rest / 256)
        split = codes_more rest w.small q

        counted : length (codes rest) ≡ suc (length (codes (rest / 256)))
        counted = ap length split

        shorter : (ws : List ℕ) → take (j + 1) ws ≡ take (j + 1) words' → take j ws ≡ take j words
        shorter ws e =
            sym (take-take j (j + 1) ws (omega arith))
            ∙ ap (take j) e
            ∙ take-take j (j + 1) words' (omega arith)
            ∙ ap (take j) o
            ∙ take-set-le j words j word (omega arith)

    -- all of them
    pub copying_all : rest ≡ 0 → Does (image_found s p c) 0 0 nothing (clone_fields (clone_below id) (codes row) (fields_at s (codes row) at)) start (word_fields (codes row) words 0) here
    unfolding clone_fields word_fields
    copying_all z =
        subst (λ fs. Does (image_found s p c) 0 0 nothing (clone_fields (clone_below id) (codes row) (fields_at s (codes row) at)) start fs here)
        (ap (λ cs. w.done ++ word_fields cs words j) (sym none_left) ∙ sym (w.shown words refl))
        (w.follows [] here (subst (λ cs. Does (image_found s p c) 0 0 nothing (clone_fields (clone_below id) cs (fields_at s cs place)) here [] here) (sym none_left) (does_give (image_found s p c) 0 [] here)))
      where
        none_left : codes rest ≡ []
        none_left = codes_none rest z

-- ---- entries of the image are those of the image that has grown

pub old_entries : {im : Image} (x : Context) (ws : List ℕ) (t : State) → Live im 0 x ws t.ctx t.scratch t.waiting → (a n : ℕ) → a + n ≤ size_of im Lists →
    map (entry_of x.image) (up_from a n) ≡ map (entry_of im) (up_from a n)
unfolding up_from
old_entries x ws t l a zero h = refl
old_entries {im} x ws t l a (suc n) h =
    ap₂ (λ e es. e ∷ es) (ap (λ z. entry_of z.image a) l.context ∙ ap (λ r. first (field_of r 0)) (get_or-append (records_of im Lists) l.new.lists no_record a (omega arith)))
    (old_entries x ws t l (a + 1) n (omega arith))

pub not_lambda : (kind : ℕ) → (kind ≡ 56 → ⊥) → (kind ≡ 57 → ⊥) → is_lambda kind ≡ false
not_lambda kind a b = rw (ne_eqb kind 56 a, ne_eqb kind 57 b) refl

-- the fields by the schema's row are those of the kind
pub copying_whole : (s p : List ℕ) (c : Counts) (id row kind at : ℕ) → codes row ≡ fields_of kind → (start here : State) (words : List ℕ) →
    Does (image_found s p c) 0 0 nothing (clone_fields (clone_below id) (codes row) (fields_at s (codes row) at)) start (word_fields (codes row) words 0) here →
    Does (image_found s p c) 0 0 nothing (clone_fields (clone_below id) (fields_of kind) (fields_at s (fields_of kind) at)) start (word_fields (fields_of kind) words 0) here
copying_whole s p c id row kind at e start here words d =
    subst (λ cs. Does (image_found s p c) 0 0 nothing (clone_fields (clone_below id) cs (fields_at s cs at)) start (word_fields cs words 0) here) e d

pub kind_in : (s : List ℕ) (at : ℕ) → (record_in s at).kind ≡ get_or s at 0
unfolding record_in
kind_in s at = refl

-- ---- the loop's counts

pub codes_few : (row : ℕ) → 0 + length (codes row) ≤ 8
unfolding codes
codes_few row = omega (arith, codes_length 8 row)

pub few_left : (j rest : ℕ) → rest < 2 ^ 64 → j + length (codes rest) ≤ 8 → (rest ≡ 0 → ⊥) → j + 1 + length (codes (rest / 256)) ≤ 8
few_left j rest l h q = omega (arith, h, ap length (codes_more rest l q))

pub place_left : (place width j : ℕ) → place ≤ 66000 + 8 * j → width ≤ 8 → place + width ≤ 66000 + 8 * (j + 1)
place_left place width j h k = omega arith

pub place_fits : (place width j rest : ℕ) → j + length (codes rest) ≤ 8 → place ≤ 66000 + 8 * j → width ≤ 8 → Fits w64 (place + width)
place_fits place width j rest f h k = omega arith

pub still_eight : (words next : List ℕ) (j word : ℕ) → length words ≡ 8 → next ≡ set words j word → length next ≡ 8
still_eight words next j word h e = ap length e ∙ length-set words j word ∙ h

pub small_left : (rest : ℕ) → rest < 2 ^ 64 → rest / 256 < 2 ^ 64
small_left rest h = omega arith

pub as_made : (im : Image) (kind : ℕ) (ws : List ℕ) (s : State) (index : ℕ) (t : State) → Does im 0 0 nothing (append Expressions (word_record kind ws ∷ [])) s index t →
    Does im 0 0 nothing (append Expressions (made kind (word_fields (fields_of kind) ws 0) ∷ [])) s index t
unfolding word_record
as_made _ kind ws s index t d = d
