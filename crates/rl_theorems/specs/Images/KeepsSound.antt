-- Computations under which an image stays sound, and what each making of records gives there.
-- Assumes nothing.
use Rattle.std.specs.Prelude.{◌≡◌, ℕ, zero, suc, ◌+◌, ◌%◌, ◌^◌, ◌<◌, ◌≤◌, Bool, true, false, cond, List, [], ◌∷◌, ◌++◌, map, length, get_or, take, drop, slice_index, slice_index_or, refl}
use Rattle.std.proofs.Common.{ap, ◌∙◌, arith, length-append, get_or-append-add}
use Rattle.std.proofs.Math.Option.{Option, none, some}
use Rattle.std.proofs.lemmas.List.{length-map}
use Rattle.std.proofs.Math.Seq.{take-length, drop-append_seam, get_or-append_seam}
use Rattle.rl_spec.specs.declared.Section.{Section}
use Rattle.rl_spec.specs.declared.Section.TheVariants.{Texts, Lists, Expressions, Statements}
use Rattle.rl_spec.specs.declared.Target.{Target}
use Rattle.rl_spec.specs.declared.Target.TheVariants.{Text, Expression, Statement, Branch, ElseBranch, Arm}
use Rattle.rl_spec.specs.declared.Sort.{Sort}
use Rattle.rl_spec.specs.declared.Sort.TheVariants.{Many}
use Rattle.rl_spec.specs.Schema.{in_section, sort_of, fields_of, fields_in, schema}
use Rattle.rl_spec.specs.Fields.{takes}
use Rattle.rl_spec.specs.Image.{Field, num, pair, no_record, Rec, Image, records_of, size_of, record_of, entry_of, section_of, same_section, height_of, tallest_entry, tallest_child, heights, Entries, a_raw, a_part, a_list, FieldsFit, no_fields, ◌&◌, RecordFits}
use Rattle.rl_spec.specs.Make.{Context, Make, and_then, with_image, with_bytes, append, made, new_text, new_list, most, most_bytes}
use Rattle.rl_images.specs.Encoding.Header.{bounded}
use Rattle.rl_images.specs.Lowering.Grows.{size_grows, appended, with_text, text_records, list_records, records_own, Growing}
use Rattle.rl_images.specs.Lowering.GrowsTo.{Later, GrowsTo, given, stopped, append_good, text_good, list_good, ◌⊕◌, ◌▷◌, ◌▹◌}
use Rattle.rl_theorems.specs.Images.KeptHeights.{Flat, flat_height}
use Rattle.rl_theorems.specs.Images.ProperTexts.{Proper}
use Rattle.rl_theorems.specs.Images.SoundImages.{Sound, longer_grows, own, new_height, appended_sound, one_sound, bytes_sound}
use Rattle.rl_theorems.specs.Images.NewReferences.{Ref, ref_there, Refs, no_refs, ref, Held, AllHeld, ref_kept, refs_kept, held_kept, all_kept}

infixr 1 ◌⇝◌ ◌↠◌
infixl 20 ◌then◌
-- ---- a sound image, a span that fits a record, and limits

pub record Ready (c : Context) : Type 0 where
  pub sound : Sound c.image
  pub span : c.span < 256 ^ 4
  pub limited : c.limited ≡ true

-- from one such context to a later one
pub record Onward (c d : Context) : Type 0 where
  pub was : Ready c
  pub later : Later c d
  pub ready : Ready d

pub ◌then◌ : {a b c : Context} → Onward a b → Onward b c → Onward a c
◌then◌ p q = record { was = p.was; later = p.later ⊕ q.later; ready = q.ready }

-- where a sound image is given, what is made is as Q says and the image then is sound
pub record KeepsSound {A : Type 0} (c : Context) (Q : A → Context → Type 0) (o : Option (A × Context)) : Type 0 where
  pub good : Ready c → GrowsTo c (λ a d. Ready d × Q a d) o

-- one computation, and then another; and what it gives, said more weakly
pub ◌⇝◌ : {A B : Type 0} {c : Context} {P : A → Context → Type 0} {Q : B → Context → Type 0} {o : Option (A × Context)} {f : A → Make B} →
    KeepsSound c P o → ((a : A) (d : Context) → Onward c d → P a d → KeepsSound d Q (f a d)) → KeepsSound c Q (and_then o f)
◌⇝◌ g k = record { good = λ r. g.good r ▷ λ a d l p. (k a d (record { was = r; later = l; ready = p.0 }) p.1).good p.0 }

pub ◌↠◌ : {A : Type 0} {c : Context} {P Q : A → Context → Type 0} {o : Option (A × Context)} →
    KeepsSound c P o → ((a : A) (d : Context) → Onward c d → P a d → Q a d) → KeepsSound c Q o
◌↠◌ g k = record { good = λ r. g.good r ▹ λ a d l p. (p.0, k a d (record { was = r; later = l; ready = p.0 }) p.1) }

pub sure_given : {A : Type 0} {c : Context} {Q : A → Context → Type 0} {a : A} → Q a c → KeepsSound c Q (some (a, c))
sure_given q = record { good = λ r. given (r, q) }

pub sure_stopped : {A : Type 0} {c : Context} {Q : A → Context → Type 0} → KeepsSound {A = A} c Q none
sure_stopped = record { good = λ r. stopped }

pub sure_test : {A : Type 0} {Q : A → Context → Type 0} (b : Bool) (m n : Make A) (c : Context) →
    (b ≡ true → KeepsSound c Q (m c)) → (b ≡ false → KeepsSound c Q (n c)) → KeepsSound c Q (cond b m n c)
sure_test true m n c p q = p refl
sure_test false m n c p q = q refl

-- the context may be taken to be ready
pub sure_ready : {A : Type 0} {c : Context} {Q : A → Context → Type 0} {o : Option (A × Context)} → (Ready c → KeepsSound c Q o) → KeepsSound c Q o
sure_ready k = record { good = λ r. (k r).good r }

-- ---- what is kept on the way

module _ {c d : Context} (on : Onward c d) where
  pub ref_on : {o : Section} {h : ℕ} {t : Target} {n : ℕ} → Ref c.image o h t n → Ref d.image o h t n
  ref_on {o} x = ref_kept on.was.sound on.later.image o x

  pub refs_on : {o : Section} {h : ℕ} {l r : Target} {ns : List ℕ} → Refs c.image o h l r ns → Refs d.image o h l r ns
  refs_on {o} x = refs_kept on.was.sound on.later.image o x

  pub held_on : {o : Section} {h : ℕ} {s : Sort} {f : Field} → Held c.image o h s f → Held d.image o h s f
  held_on {o} x = held_kept on.was.sound on.later.image o x

  pub all_on : {o : Section} {h b : ℕ} {cs : List ℕ} {fs : List Field} → AllHeld c.image o h b cs fs → AllHeld d.image o h b cs fs
  all_on {o} x = all_kept on.was.sound on.later.image o x

  pub there_on : {n : ℕ} (o : Section) → n < size_of c.image o → n < size_of d.image o
  there_on o p = omega (arith, size_grows on.later.image o)

-- an expression, a statement of a body, and the statements of one, no taller than h
abbrev pub Node : ℕ → ℕ → Context → Type 0
Node h n c = Ref c.image Expressions h Expression n

abbrev pub Line : ℕ → ℕ → Context → Type 0
Line h n c = Ref c.image Statements h Statement n

abbrev pub Lines : ℕ → List ℕ → Context → Type 0
Lines h ns c = Refs c.image Statements h Statement Statement ns

-- ---- a text

text_fits : (im : Image) (s : List ℕ) → Proper s →
    FieldsFit (with_bytes im (im.bytes ++ s)) Texts (size_of im Texts) 0 (map sort_of (fields_of 2)) (pair (length im.bytes) (length s) ∷ [])
unfolding fields_of fields_in schema sort_of
text_fits im s p =
    let e : take (length s) (drop (length im.bytes) (im.bytes ++ s)) ≡ s = rw (drop-append_seam im.bytes s) (take-length s) in
    a_part {a = length im.bytes} {n = length s} (rw length-append (omega arith)) (rw e p.is_utf8) & no_fields

text_low : (im : Image) (h : List ℕ) (f : Field) → tallest_child im Texts h (fields_of 2) (f ∷ []) ≡ 0
unfolding tallest_child fields_of fields_in schema sort_of
text_low im h f = refl

text_kind : in_section Texts 2 ≡ true
unfolding in_section
text_kind = refl

text_sound : (im : Image) (s : List ℕ) → Sound im → Proper s → length im.bytes + length s ≤ most_bytes →
    size_of im Texts + 1 ≤ most Texts → Sound (with_text im s)
text_sound im s sound p l m =
    let longer : Image = with_bytes im (im.bytes ++ s) in
    let x : Sound longer = bytes_sound im s sound p.bytes l in
    one_sound x Texts tt _ text_kind (text_fits im s p)
    (rw (text_low longer (heights longer Texts) (pair (length im.bytes) (length s))) (omega arith)) m

with_image_ready : {c : Context} {im : Image} → Ready c → Sound im → Ready (with_image c im)
with_image_ready r s = record { sound = s; span = r.span; limited = r.limited }

text_size : (im : Image) (s : List ℕ) → Sound im → size_of im Texts < size_of (with_text im s) Texts
text_size im s sound =
    rw (records_own (with_bytes im (im.bytes ++ s)) Texts (records_of im Texts ++ text_records im s) sound.eight, length-append) (omega arith)

pub text_sure : (s : List ℕ) → Proper s → (c : Context) → KeepsSound c (λ t d. t < size_of d.image Texts) (new_text s c)
text_sure s p c =
    record {
      good = λ r. text_good s c ▹ λ t d l n. rw (n.at, n.is)
          (with_image_ready r (text_sound c.image s r.sound p (n.bytes r.limited) (n.texts r.limited)), text_size c.image s r.sound);
    }

-- ---- a list

lists_flat : Flat Lists
lists_flat Text = refl
lists_flat Expression = refl
lists_flat Statement = refl
lists_flat Branch = refl
lists_flat ElseBranch = refl
lists_flat Arm = refl

entry_fits : (im : Image) (i n : ℕ) → n < 65536 → RecordFits im Lists i (made 3 (num n ∷ []))
unfolding in_section fields_of fields_in schema sort_of
entry_fits im i n p = record { kind = refl; fields = a_raw {n = 2} p & no_fields; height = flat_height im Lists lists_flat i }

refs_small : {im : Image} {o : Section} {h : ℕ} {l r : Target} (ns : List ℕ) → Sound im → Refs im o h l r ns → (j : ℕ) → j < length ns →
    slice_index ns j < 65536
refs_small [] s no_refs j p = absurd (omega arith)
refs_small {im} {l = l} (n ∷ ns) s (ref x xs) zero p = omega (arith, ref_there x, (bounded im s.counts).sizes (section_of l))
refs_small (n ∷ ns) s (ref x xs) (suc j) p = refs_small ns s xs j (omega arith)

list_record : (ns : List ℕ) (j : ℕ) → j < length ns → slice_index_or (list_records ns) j no_record ≡ made 3 (num (slice_index ns j) ∷ [])
list_record [] j p = absurd (omega arith)
list_record (n ∷ ns) zero p = refl
list_record (n ∷ ns) (suc j) p = list_record ns j (omega arith)

list_sound : {im : Image} (ns : List ℕ) → Sound im → ((j : ℕ) → j < length ns → slice_index ns j < 65536) →
    size_of im Lists + length ns ≤ most Lists → Sound (appended im Lists (list_records ns))
list_sound {im} ns s small l =
    let e : length (list_records ns) ≡ length ns = length-map ns (λ n. made 3 (num n ∷ [])) in
    appended_sound s Lists tt (list_records ns)
    (λ j p. rw (list_record ns j (rw e at p)) (entry_fits _ (size_of im Lists + j) (slice_index ns j) (small j (rw e at p)))) (rw e l)

list_entry : {im : Image} (s : Sound im) (ns : List ℕ) (j : ℕ) → j < length ns →
    entry_of (appended im Lists (list_records ns)) (size_of im Lists + j) ≡ slice_index ns j
list_entry {im} s ns j p =
    rw (own s Lists tt (list_records ns), get_or-append-add (records_of im Lists) (list_records ns) j no_record, list_record ns j p)

-- entries that are references make a list that fits
refs_entries : {im : Image} {o : Section} {h : ℕ} {l r : Target} (ns : List ℕ) (a : ℕ) → Refs im o h l r ns →
    ((j : ℕ) → j < length ns → entry_of im (a + j) ≡ slice_index ns j) →
    Entries im o (size_of im o) (length ns) a l r × (tallest_entry im o (heights im o) (length ns) a l r ≤ h)
unfolding tallest_entry
refs_entries [] a no_refs e = (tt, omega arith)
refs_entries {im} {o} {h} {l} {r} (n ∷ ns) a (ref x xs) e =
    let d : entry_of im a ≡ n = ap (entry_of im) (omega arith) ∙ e 0 (omega arith) in
    let q = refs_entries ns (a + 1) xs (λ j p. ap (entry_of im) (omega arith) ∙ e (suc j) (omega arith)) in
    let w : height_of im o (heights im o) l (entry_of im a) ≤ h = rw d x.low in
    ((rw d x.refers, q.0), omega (arith, w, q.1))

list_held : {im : Image} {o : Section} {h m : ℕ} {l r : Target} (s : Sound im) (ns : List ℕ) → Refs im o h l r ns → length ns % m ≡ 0 →
    Held (appended im Lists (list_records ns)) o h (Many l r m) (pair (size_of im Lists) (length ns))
list_held {im} {o} s ns xs e =
    let q = refs_entries ns (size_of im Lists) (refs_kept s (longer_grows s Lists tt (list_records ns)) o xs) (list_entry s ns) in
    let d : size_of (appended im Lists (list_records ns)) Lists ≡ size_of im Lists + length ns =
    ap length (own s Lists tt (list_records ns)) ∙ length-append (records_of im Lists) (list_records ns)
    ∙ ap (λ (n : ℕ). size_of im Lists + n) (length-map ns (λ n. made 3 (num n ∷ []))) in
    record { before = 0; fits = a_list {a = size_of im Lists} {n = length ns} (omega arith) e q.0; low = q.1 }

pub list_sure : {o : Section} {h : ℕ} {l r : Target} (m : ℕ) (ns : List ℕ) (c : Context) → length ns % m ≡ 0 → Refs c.image o h l r ns →
    KeepsSound c (λ list d. Held d.image o h (Many l r m) list) (new_list ns c)
list_sure m ns c e xs =
    record {
      good = λ r. list_good ns c ▹ λ list d l n. rw (n.at, n.is)
          (with_image_ready r (list_sound ns r.sound (refs_small ns r.sound xs) (n.within r.limited)), list_held r.sound ns xs e);
    }

-- ---- an expression and a statement

module _ {im : Image} (s : Sound im) (q : Section) (k : Growing q) (r : Rec) where
  last_is : record_of (appended im q (r ∷ [])) q (size_of im q) ≡ r
  last_is = ap (λ (l : List Rec). get_or l (size_of im q) no_record) (own s q k (r ∷ [])) ∙ get_or-append_seam (records_of im q) r [] no_record

  last_there : size_of im q < size_of (appended im q (r ∷ [])) q
  last_there = rw (own s q k (r ∷ []), length-append) (omega arith)

  last_low : {h : ℕ} → AllHeld im q h 0 (fields_of r.kind) r.fields → slice_index (heights (appended im q (r ∷ [])) q) (size_of im q) ≤ h + 1
  last_low x = rw (new_height s q k r x.fits) (omega (arith, x.low))

pub node_sure : {h : ℕ} (kind : ℕ) (fs : List Field) (c : Context) → in_section Expressions kind ≡ true → h < 68 →
    AllHeld c.image Expressions h 0 (fields_of kind) fs → KeepsSound c (Node (h + 1)) (append Expressions (made kind fs ∷ []) c)
node_sure {h} kind fs c e l x =
    record {
      good = λ r. append_good Expressions tt _ c ▹ λ n d z a. rw (a.at, a.is) (
        with_image_ready r (one_sound r.sound Expressions tt (made kind fs) e x.fits (omega (arith, x.low)) (a.within r.limited)),
        record {
          refers = record { earlier = last_there r.sound Expressions tt (made kind fs); taken = refl };
          low = last_low r.sound Expressions tt (made kind fs) x;
        },
      );
    }

-- the targets that a statement may be
abbrev pub OfStatements : Target → Type 0
OfStatements t = same_section Statements (section_of t) ≡ true

pub statement_sure : {h : ℕ} (t : Target) (kind : ℕ) (fs : List Field) (c : Context) → OfStatements t → takes t kind ≡ true →
    in_section Statements kind ≡ true → h < 36 → AllHeld c.image Statements h 0 (fields_of kind) fs →
    KeepsSound c (λ n d. Ref d.image Statements (h + 1) t n) (append Statements (made kind fs ∷ []) c)
statement_sure {h} t kind fs c o taken e l x =
    record {
      good = λ r. append_good Statements tt _ c ▹ λ n d z a. rw (a.at, a.is) (
        with_image_ready r (one_sound r.sound Statements tt (made kind fs) e x.fits (omega (arith, x.low)) (a.within r.limited)),
        record {
          refers = record
              { earlier = rw o (last_there r.sound Statements tt (made kind fs)); taken = rw (last_is r.sound Statements tt (made kind fs)) taken };
          low = rw o (last_low r.sound Statements tt (made kind fs) x);
        },
      );
    }
