-- The lowered image is well formed, so the reader accepts its bytes.
-- Assumes nothing.
use Rattle.std.specs.Prelude.{◌≡◌, ℕ, zero, suc, ◌+◌, ◌<◌, ◌≤◌, List, [], map, length, get_or, ◌≢◌, slice_index_or, slice_set}
use Rattle.std.proofs.Math.Path.{refl}
use Rattle.std.proofs.Common.{ap, sym, ◌∙◌, append-nil, arith, length-set, get_or-set_same, get_or-set_other}
use Rattle.std.proofs.Math.Option.{some}
use Rattle.rl_spec.specs.declared.Section.{Section}
use Rattle.rl_spec.specs.declared.Section.TheVariants.{Lists, Expressions, Statements, Functions}
use Rattle.rl_spec.specs.declared.Target.TheVariants.{Text, Expression, Statement, Branch, ElseBranch, Arm}
use Rattle.rl_spec.specs.declared.Sort.TheVariants.{Many}
use Rattle.rl_spec.specs.Answers.{accepted}
use Rattle.rl_spec.specs.Schema.{sort_of, fields_of, fields_in, schema}
use Rattle.rl_spec.specs.Read.{answer_of}
use Rattle.rl_spec.specs.Image.{Field, no_record, Rec, Image, order_of, records_of, size_of, record_of, field_of, first, heights, encode, image_of, Entries, FieldFits, a_list, FieldsFit, RecordFits, WellFormed}
use Rattle.rl_spec.specs.Make.{Context}
use Rattle.rl_spec.specs.Lower.{new_body, start, bodied, with_body, lowered, params_in, body_in, requires_in, ensures_in}
use Rattle.rl_laws.specs.Tests.{by_eqb}
use Rattle.rl_images.specs.Encoding.Encoded.{encoded_accepted, encoded_image}
use Rattle.rl_images.specs.Encoding.Header.{size_within}
use Rattle.rl_images.specs.Encoding.ReaderKnows.{counts}
use Rattle.rl_images.specs.Lowering.Grows.{as_long, size_grows, records_own, records_other}
use Rattle.rl_images.specs.Lowering.GrowsTo.{Later, good_is}
use Rattle.rl_images.specs.Lowering.Followed.{Lowering, untouched, rebuilt, lowering}
use Rattle.rl_theorems.specs.Images.KeptFields.{Keeps, fields_kept}
use Rattle.rl_theorems.specs.Images.KeptHeights.{Flat, flat_height, height_stays}
use Rattle.rl_images.specs.Images.SchemaSorts.{kind_range}
use Rattle.rl_theorems.specs.Images.SoundImages.{Sound, well_formed_sound, sound_well_formed, all_fit, counts_set, same_order}
use Rattle.rl_theorems.specs.Images.NewReferences.{Held}
use Rattle.rl_theorems.specs.Images.KeepsSound.{Ready, KeepsSound, list_sure, ◌⇝◌}
use Rattle.rl_theorems.specs.Images.NewFields.{fields_set}
use Rattle.rl_theorems.specs.Images.SoundBodies.{desugar_sure}
use Rattle.rl_theorems.specs.Images.FunctionReady.{Under, start_ready, params_ready, requires_ready, ensures_ready, body_ready}

-- ---- the new body

abbrev BodyHeld : Field → Context → Type 0
BodyHeld list d = Held d.image Statements 34 (Many Statement Statement 1) list

body_sure : (im : Image) (f : ℕ) → Sound im → Under 64 (heights im Expressions) → Under 32 (heights im Statements) →
    f < size_of im Functions → KeepsSound (start im f) BodyHeld (new_body im f (start im f))
unfolding new_body
body_sure im f s low lower p =
    desugar_sure (params_in im f) (body_in im f) (requires_in im f) (ensures_in im f) (start im f) (params_ready s f low lower p)
    (body_ready s f low lower p) (requires_ready s f low lower p) (ensures_ready s f low lower p) ⇝ λ ss d on ys.
    list_sure 1 ss d (omega arith) ys

-- ---- a function's body is changed

functions_flat : Flat Functions
functions_flat Text = refl
functions_flat Expression = refl
functions_flat Statement = refl
functions_flat Branch = refl
functions_flat ElseBranch = refl
functions_flat Arm = refl

module _ {im : Image} (s : Sound im) (f : ℕ) (p : f < size_of im Functions) (list : Field)
    (held : Held im Statements 34 (Many Statement Statement 1) list) where
  abbrev changed : Image
  changed = with_body im f list

  abbrev function : Rec
  function = record_of im Functions f

  other : (o : Section) → (order_of Functions ≢ order_of o) → records_of changed o ≡ records_of im o
  other o n = records_other im Functions o _ (λ e. n (sym e))

  functions_are : records_of changed Functions ≡ slice_set (records_of im Functions) f (bodied function list)
  functions_are = records_own im Functions _ s.eight

  size_same : (o : Section) → size_of changed o ≡ size_of im o
  size_same o =
      by_eqb (order_of Functions) (order_of o)
      (λ e.
      let d : o ≡ Functions = same_order Functions o e in
      rw (d, functions_are) (length-set (records_of im Functions) f (bodied function list)))
      (λ n. ap length (other o n))

  changed_keeps : Keeps im changed
  changed_keeps =
      record {
        bytes = as_long refl;
        sizes = λ o. omega (arith, size_same o);
        entries = λ k l. ap (λ (rs : List Rec). first (field_of (slice_index_or rs k no_record) 0)) (other Lists (λ e. omega arith));
        kinds = λ n l. ap (λ (rs : List Rec). (get_or rs n no_record).kind) (other Statements (λ e. omega arith));
      }

  kept_fields : (o : Section) (i : ℕ) → i < size_of im o →
      FieldsFit changed o i 0 (map sort_of (fields_of (record_of im o i).kind)) (record_of im o i).fields
  kept_fields o i l = fields_kept changed_keeps o i i (omega arith) (omega arith) (all_fit s o i l)

  other_fits : (o : Section) → (order_of Functions ≢ order_of o) → (i : ℕ) → i < size_of im o →
      RecordFits changed o i (record_of changed o i)
  other_fits o n i l =
      let e : record_of changed o i ≡ record_of im o i = ap (λ (rs : List Rec). get_or rs i no_record) (other o n) in
      rw e
      (record {
        kind = (s.fits o i l).kind;
        fields = kept_fields o i l;
        height = rw (height_stays changed_keeps o (all_fit s o) [] (other o n ∙ sym (append-nil (records_of im o))) i l) (s.fits o i l).height;
      })

  -- the list's entries are statements of a body for a function too
  entries_body : (n a : ℕ) → Entries im Statements (size_of im Statements) n a Statement Statement →
      Entries im Functions f n a Statement Statement
  entries_body zero a h = tt
  entries_body (suc n) a h = (record { earlier = h.0.earlier; taken = h.0.taken }, entries_body n (a + 1) h.1)

  list_fits : {a b : ℕ} {list : Field} → FieldFits im Statements (size_of im Statements) a (Many Statement Statement 1) list →
      FieldFits im Functions f b (Many Statement Statement 1) list
  list_fits (a_list {a = a} {n = n} p e es) = a_list p e (entries_body n a es)

  body_fits : FieldsFit im Functions f 0 (map sort_of (fields_of function.kind)) (slice_set function.fields 4 list)
  unfolding fields_of fields_in schema sort_of
  body_fits =
      let e : function.kind ≡ 82 = omega (arith, kind_range Functions function.kind (s.fits Functions f p).kind) in
      rw e (fields_set 4 (fields_of 82) list refl (λ a. list_fits held.fits) (rw e at (all_fit s Functions f p)))

  function_fits : (i : ℕ) → i < size_of im Functions → RecordFits changed Functions i (record_of changed Functions i)
  function_fits i l =
      by_eqb f i
      (λ e.
      let d : record_of changed Functions f ≡ bodied function list =
      ap (λ (rs : List Rec). get_or rs f no_record) functions_are ∙ get_or-set_same (records_of im Functions) f (bodied function list) no_record p in
      rw (← e, d)
      (record {
        kind = (s.fits Functions f p).kind;
        fields = fields_kept changed_keeps Functions f f (omega arith) (omega arith) body_fits;
        height = flat_height changed Functions functions_flat f;
      }))
      (λ n.
      let d : record_of changed Functions i ≡ record_of im Functions i =
      ap (λ (rs : List Rec). get_or rs i no_record) functions_are
      ∙ get_or-set_other (records_of im Functions) f i (bodied function list) no_record (λ e. n (sym e)) in
      rw d
      (record { kind = (s.fits Functions i l).kind; fields = kept_fields Functions i l; height = flat_height changed Functions functions_flat i }))

  changed_fits : (o : Section) (i : ℕ) → i < size_of changed o → RecordFits changed o i (record_of changed o i)
  changed_fits o i l =
      by_eqb (order_of Functions) (order_of o)
      (λ e.
      let d : o ≡ Functions = same_order Functions o e in
      let m : i < size_of im o = omega (arith, size_same o) in
      rw d (function_fits i (rw d at m)))
      (λ n. other_fits o n i (omega (arith, size_same o)))

  body_sound : Sound changed
  body_sound =
      record {
        arena = s.arena;
        bytes = s.bytes;
        counts = counts_set im Functions _ s.counts (rw length-set (size_within im s.counts Functions));
        eight = length-set im.records 6 _ ∙ s.eight;
        fits = changed_fits;
      }

-- ---- THE LOWERED IMAGE

module _ (im : Image) (f : ℕ) (wf : WellFormed im) (p : f < size_of im Functions) (low : Under 64 (heights im Expressions))
    (lower : Under 32 (heights im Statements)) where
  sound : Sound im
  sound = well_formed_sound im wf

  lowering_well_formed : (im' : Image) → Lowering im f im' → WellFormed im'
  lowering_well_formed im' untouched = wf
  lowering_well_formed im' (rebuilt {list} {c} d l) =
      let g : Later (start im f) c × (Ready c × BodyHeld list c) =
      good_is ((body_sure im f sound low lower p).good (start_ready sound f low lower p)) (record { sections = sound.eight; limits = refl }) d in
      sound_well_formed (with_body c.image f list)
      (body_sound g.1.0.sound f (omega (arith, p, size_grows g.0.image Functions)) list g.1.1) l

-- THEOREM
pub lowered_well_formed : (im im' : Image) (f : ℕ) → WellFormed im → f < size_of im Functions → Under 64 (heights im Expressions) →
    Under 32 (heights im Statements) → lowered im f ≡ some im' → WellFormed im'
lowered_well_formed im im' f wf p low lower e = lowering_well_formed im f wf p low lower im' (lowering im im' f e)

-- THEOREM: its bytes are accepted, and stand for it
pub lowered_accepted : (im im' : Image) (f k : ℕ) → WellFormed im → f < size_of im Functions → Under 64 (heights im Expressions) →
    Under 32 (heights im Statements) → lowered im f ≡ some im' → 8192 ≤ k →
    (answer_of (encode im') k ≡ accepted (record { 0 = im'.arena }) (counts im')) × (image_of (encode im') ≡ im')
lowered_accepted im im' f k wf p low lower e l =
    let wf' : WellFormed im' = lowered_well_formed im im' f wf p low lower e in
    (encoded_accepted im' k wf' l, encoded_image im' wf')
