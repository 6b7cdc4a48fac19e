-- A statement's record again: its fields as words, two of them replaced, and the list that a kind holds.
-- Assumes nothing.
use Prim.Native.Nat.{ℕ, zero, suc, ◌+◌, ◌*◌, ◌/◌, ◌%◌, ◌^◌, ◌≤◌, ◌<◌}
use mathlib.Core.Path.{◌≡◌, refl, ap, ap₂, sym, ◌∙◌, subst}
use mathlib.Core.List.{List, [], ◌∷◌, ◌++◌, append_assoc}
use native.Mathlib.Omega.{arith}
use lib.ListN.{length, get_or, set, length-set}
use lib.Seq.{get_or-set_same, get_or-set_other}
use mir.Syntax.{w64}
use mir.Val.{Fits}
use Rattle.rl_spec.specs.declared.Counts.{Counts}
use Rattle.rl_spec.specs.declared.Section.TheVariants.{Statements}
use Rattle.rl_spec.specs.declared.Sort.{Sort}
use Rattle.rl_spec.specs.Schema.{sort_of, width_of, fields_of}
use Rattle.rl_spec.specs.Image.{Field, record_of, field_in, fields_at}
use Rattle.rl_spec.specs.Found.{record_as, record_found, image_found}
use Rattle.rl_spec.specs.Make.{append, made}
use Rattle.rl_laws.specs.Found.{record_found_lem}
use Rattle.rl_schema.specs.Codes.{codes}
use Rattle.rl_schema.proofs.Rows.{codes_none, codes_more}
use Rattle.rl_arena.proofs.Laws.{width_small}
use Rattle.rl_encode.specs.Words.{word_field, word_fields, word_record}
use Rattle.rl_context.specs.Does.{State}
use Rattle.rl_context.proofs.Copying.{codes_few, few_left}
use Rattle.rl_transform.specs.Transforms.{field_of_word, rebuilt}
use Rattle.rl_context.specs.Guards.{Makes}

-- ---- the fields of a record as words, one by one

pub record Reading (s : List ℕ) (row at : ℕ) (words : List ℕ) (rest place j : ℕ) : Type 0 where
  pub small : rest < 2 ^ 64
  pub few : j + length (codes rest) ≤ 8
  pub near : place + 8 * length (codes rest) ≤ 65600
  pub size : 8 ≡ length words
  pub done : List Field
  pub shown : (ws : List ℕ) → ((i : ℕ) → i < j → get_or ws i 0 ≡ get_or words i 0) → word_fields (codes row) ws 0 ≡ done ++ word_fields (codes rest) ws j
  pub follows : done ++ fields_at s (codes rest) place ≡ fields_at s (codes row) at

pub reading_none : (s : List ℕ) (row at : ℕ) (words : List ℕ) → row < 2 ^ 64 → at ≤ 65536 → 8 ≡ length words → Reading s row at words row at 0
reading_none s row at words small near size =
    record {
      small = small;
      few = codes_few row;
      near = omega (arith, codes_few row);
      size = size;
      done = [];
      shown = λ ws e. refl;
      follows = refl;
    }

module _ (s : List ℕ) (row at : ℕ) (words : List ℕ) (rest place j : ℕ) (w : Reading s row at words rest place j) where
  module _ (q : rest ≡ 0 → ⊥) where
    counted : length (codes rest) ≡ suc (length (codes (rest / 256)))
    counted = ap length (codes_more rest w.small q)

    pub reading_index : Fits w64 (j + 1)
    reading_index = omega (arith, w.few)

    module _ (o : Sort) (e : o ≡ sort_of (rest % 256)) (width : ℕ) (f : width ≡ width_of o) where
      pub reading_place : Fits w64 (place + width)
      reading_place = omega (arith, w.near, width_small (rest % 256) o e width f)

      pub reading_more : (word : ℕ) (words' : List ℕ) → word_field (sort_of (rest % 256)) word ≡ field_in s (sort_of (rest % 256)) place →
          words' ≡ set words j word → Reading s row at words' (rest / 256) (place + width) (j + 1)
      unfolding word_fields fields_at
      reading_more word words' g u =
          record {
            small = omega (arith, w.small);
            few = few_left j rest w.small w.few q;
            near = omega (arith, w.near, counted, width_small (rest % 256) o e width f);
            size = w.size ∙ sym (ap length u ∙ length-set words j word);
            done = w.done ++ word_field (sort_of (rest % 256)) word ∷ [];
            shown = λ ws a.
                w.shown ws (λ i h. a i (omega arith) ∙ ap (λ l. get_or l i 0) u ∙ get_or-set_other words j i word 0 (λ z. omega arith))
                ∙ ap (λ cs. w.done ++ word_fields cs ws j) split
                ∙ ap (λ x. w.done ++ word_field (sort_of (rest % 256)) x ∷ word_fields (codes (rest / 256)) ws (j + 1))
                (a j (omega arith) ∙ ap (λ l. get_or l j 0) u ∙ get_or-set_same words j word 0 (omega (arith, w.size, w.few, counted)))
                ∙ sym (append_assoc w.done (word_field (sort_of (rest % 256)) word ∷ []) (word_fields (codes (rest / 256)) ws (j + 1)));
            follows =
                append_assoc w.done (word_field (sort_of (rest % 256)) word ∷ []) (fields_at s (codes (rest / 256)) (place + width))
                ∙ ap₂ (λ x n. w.done ++ x ∷ fields_at s (codes (rest / 256)) (place + n)) g (f ∙ ap width_of e)
                ∙ ap (λ cs. w.done ++ fields_at s cs place) (sym split)
                ∙ w.follows;
          }
        where
          split : codes rest ≡ rest % 256 ∷ codes (rest / 256)
          split = codes_more rest w.small q

  pub reading_all : rest ≡ 0 → word_fields (codes row) words 0 ≡ fields_at s (codes row) at
  unfolding word_fields fields_at
  reading_all z =
      w.shown words (λ i h. refl)
      ∙ ap (λ cs. w.done ++ word_fields cs words j) none
      ∙ ap (λ cs. w.done ++ fields_at s cs place) (sym none)
      ∙ w.follows
    where
      none : codes rest ≡ []
      none = codes_none rest z

-- ---- a word replaced is a field replaced

words_after : (cs ws : List ℕ) (i o w : ℕ) → i < o → word_fields cs (set ws i w) o ≡ word_fields cs ws o
unfolding word_fields
words_after [] ws i o w h = refl
words_after (c ∷ cs) ws i o w h =
    ap₂ (λ x xs. word_field (sort_of c) x ∷ xs) (get_or-set_other ws i o w 0 (λ e. omega arith)) (words_after cs ws i (o + 1) w (omega arith))

words_set : (cs ws : List ℕ) (j o i w : ℕ) → i ≡ o + j → i < length ws →
    word_fields cs (set ws i w) o ≡ set (word_fields cs ws o) j (word_field (sort_of (get_or cs j 0)) w)
unfolding word_fields
words_set [] ws j o i w e h = refl
words_set (c ∷ cs) ws zero o i w e h =
    ap₂ (λ x xs. word_field (sort_of c) x ∷ xs) (ap (λ n. get_or (set ws i w) n 0) n ∙ get_or-set_same ws i w 0 h) (words_after cs ws i (o + 1) w (omega arith))
  where
    n : o ≡ i
    n = omega arith
words_set (c ∷ cs) ws (suc j) o i w e h =
    ap₂ (λ x xs. word_field (sort_of c) x ∷ xs) (get_or-set_other ws i o w 0 (λ z. omega arith)) (words_set cs ws j (o + 1) i w (omega arith) h)

-- ---- the record again

module _ (s p : List ℕ) (c : Counts) (id start kind : ℕ) (h : id < c.statements) (e : start ≡ get_or p (c.expressions + id) 0) (q : kind ≡ get_or s start 0) where
  pub statement_is : record_of (image_found s p c) Statements id ≡ record_as s kind start
  unfolding record_found
  statement_is = record_found_lem s p c Statements id h ∙ rw (← e, ← q) refl

  module _
      (row : ℕ) (is : codes row ≡ fields_of kind) (ws : List ℕ) (n : 8 ≡ length ws) (f : word_fields (codes row) ws 0 ≡ fields_at s (codes row) (start + 1))
      (j w k v : ℕ) (a : j < 8) (b : k < 8) (us vs : List ℕ) (g : us ≡ set ws j w) (r : vs ≡ set us k v) where
    words_rebuilt : word_fields (fields_of kind) vs 0 ≡ set (set (fields_at s (fields_of kind) (start + 1)) j (field_of_word kind j w)) k (field_of_word kind k v)
    words_rebuilt =
        ap (λ l. word_fields (fields_of kind) l 0) r
        ∙ words_set (fields_of kind) us k 0 k v (omega arith) (omega (arith, n, ap length g, length-set ws j w))
        ∙ ap (λ fs. set fs k (field_of_word kind k v)) once
      where
        kept : word_fields (fields_of kind) ws 0 ≡ fields_at s (fields_of kind) (start + 1)
        kept = subst (λ cs. word_fields cs ws 0 ≡ fields_at s cs (start + 1)) is f

        once : word_fields (fields_of kind) us 0 ≡ set (fields_at s (fields_of kind) (start + 1)) j (field_of_word kind j w)
        once =
            ap (λ l. word_fields (fields_of kind) l 0) g
            ∙ words_set (fields_of kind) ws j 0 j w (omega arith) (omega (arith, n))
            ∙ ap (λ fs. set fs j (field_of_word kind j w)) kept

    record_rebuilt : word_record kind vs ≡ rebuilt (record_of (image_found s p c) Statements id) j w k v
    unfolding record_as word_record
    record_rebuilt = ap (made kind) words_rebuilt ∙ ap (λ x. rebuilt x j w k v) (sym statement_is)

    pub makes_rebuilt : (t : State) (index : ℕ) (u : State) → Makes (image_found s p c) (append Statements (word_record kind vs ∷ [])) t index u →
        Makes (image_found s p c) (append Statements (rebuilt (record_of (image_found s p c) Statements id) j w k v ∷ [])) t index u
    makes_rebuilt t index u d = subst (λ x. Makes (image_found s p c) (append Statements (x ∷ [])) t index u) record_rebuilt d
