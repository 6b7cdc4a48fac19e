-- Laws for the forms of expressions.
-- Assumes nothing.
use Rattle.std.proofs.Common.{◌≡◌, ℕ, ◌+◌, ◌<◌, ◌≤◌, Bool, true, false, not, ◌&&◌, eqb, List, [], ◌∷◌, get_or, ℤ, refl, ap, ◌∙◌, add-zero, arith, to_z-of_z, w8, w16, w32, w64, Fits, SFits, to_z, of_z, ne_eqb}
use lib.Ieee.{Float, of_bits, binary32, binary64}
use mir.Facts.{to_z_pos}
use Rattle.rl_spec.specs.declared.Counts.{Counts}
use Rattle.rl_spec.specs.declared.Interval.{Interval}
use Rattle.rl_spec.specs.declared.Section.TheVariants.{Expressions}
use Rattle.rl_spec.specs.declared.ConstVal.TheVariants.{Int, Float as Real, Str, Bool as Truth}
use Rattle.rl_spec.specs.Answers.{Folded}
use Rattle.std.specs.Prelude.{Some}
use Rattle.rl_spec.specs.declared.Form.{Form}
use Rattle.rl_spec.specs.declared.Form.TheVariants.{Null, Literal, Identifier, Unary, Binary, Grouping, Assign, OkLiteral, ErrLiteral, IsErr, ResultUnwrap, Other}
use Rattle.rl_spec.specs.Bytes.{num_at, u16_at, u32_at}
use Rattle.rl_spec.specs.Schema.{sort_of, schema, fields_in, fields_of}
use Rattle.rl_spec.specs.Values.{same_text}
use Rattle.rl_spec.specs.Image.{pair, entry_of, text_of, fields_at}
use Rattle.rl_spec.specs.Tree.{ascii, signed, unsigned, is_res_path, call_form, form_by, form_of}
use Rattle.rl_spec.specs.Ranges.{interval}
use Rattle.rl_spec.specs.Found.{record_as, record_found, image_found}
use Rattle.rl_laws.specs.Found.{record_found_lem, record_missing}
use Rattle.rl_bytes.proofs.Laws.{one, two, four}

other : (a : Bool) {b : Bool} → not a ≡ b → a ≡ not b
other true e = ap not e
other false e = ap not e

-- the names in the paths, as the code has them
abbrev std : List ℕ
std = 115 ∷ 116 ∷ 100 ∷ []

abbrev res : List ℕ
res = 114 ∷ 101 ∷ 115 ∷ []

abbrev is_err : List ℕ
is_err = 105 ∷ 115 ∷ 95 ∷ 101 ∷ 114 ∷ 114 ∷ []

abbrev result_unwrap : List ℕ
result_unwrap = 114 ∷ 101 ∷ 115 ∷ 117 ∷ 108 ∷ 116 ∷ 95 ∷ 117 ∷ 110 ∷ 119 ∷ 114 ∷ 97 ∷ 112 ∷ []

module _ (s : List ℕ) (c : Counts) where
  -- ---- a path

  -- whether the k-th list entry names a text of these bytes
  abbrev named : List ℕ → ℕ → List ℕ → Bool
  named p k name = same_text (text_of (image_found s p c) (entry_of (image_found s p c) k)) name

  pub entry_text : (k t : ℕ) (text name : List ℕ) (r : Bool) → ((p : List ℕ) → t ≡ entry_of (image_found s p c) k) → ((p : List ℕ) → text ≡ text_of (image_found s p c) t) → r ≡ same_text text name → (p : List ℕ) → r ≡ named p k name
  entry_text k t text name r e f g p = g ∙ rw (f p, e p) refl

  module _ (path : Interval) (name : List ℕ) where
    abbrev is_path : List ℕ → Bool
    is_path p = is_res_path (image_found s p c) (pair path.first path.count) name

    path_is : (p : List ℕ) → is_path p ≡ (eqb path.count 3 && named p path.first std && named p (path.first + 1) res && named p (path.first + 2) name)
    unfolding is_res_path ascii
    path_is p = rw (add-zero path.first) refl

    pub path_long : (path.count ≡ 3 → ⊥) → (p : List ℕ) → false ≡ is_path p
    path_long h p = rw (path_is p, ne_eqb path.count 3 h) refl

    module _ (e : path.count ≡ 3) (a : Bool) (f : (p : List ℕ) → a ≡ named p path.first std) where
      pub path_first : not a ≡ true → (p : List ℕ) → false ≡ is_path p
      path_first t p = rw (path_is p, e, ← f p, other a t) refl

      module _ (t : not a ≡ false) (b : Bool) (g : (p : List ℕ) → b ≡ named p (path.first + 1) res) where
        pub path_second : not b ≡ true → (p : List ℕ) → false ≡ is_path p
        path_second u p = rw (path_is p, e, ← f p, ← g p, other a t, other b u) refl

        pub path_third : not b ≡ false → (r : Bool) → ((p : List ℕ) → r ≡ named p (path.first + 2) name) → (p : List ℕ) → r ≡ is_path p
        path_third u r h p = rw (path_is p, e, ← f p, ← g p, ← h p, other a t, other b u) refl

  -- ---- a call

  module _ (path args : Interval) where
    abbrev formed : List ℕ → Form
    formed p = call_form (image_found s p c) (pair path.first path.count) (pair args.first args.count)

    pub call_other : (args.count ≡ 1 → ⊥) → (p : List ℕ) → Other ≡ formed p
    unfolding call_form
    call_other h p = rw (ne_eqb args.count 1 h) refl

    module _ (e : args.count ≡ 1) (a : Bool) (g : (p : List ℕ) → a ≡ is_path path is_err p) where
      pub call_is_err : a ≡ true → (x : ℕ) → ((p : List ℕ) → x ≡ entry_of (image_found s p c) args.first) → (p : List ℕ) → IsErr x ≡ formed p
      unfolding call_form ascii
      call_is_err t x f p = rw (e, ← g p, t) (ap IsErr (f p))

      module _ (t : a ≡ false) (b : Bool) (h : (p : List ℕ) → b ≡ is_path path result_unwrap p) where
        pub call_unwrap : b ≡ true → (x : ℕ) → ((p : List ℕ) → x ≡ entry_of (image_found s p c) args.first) → (p : List ℕ) → ResultUnwrap x ≡ formed p
        unfolding call_form ascii
        call_unwrap u x f p = rw (e, ← g p, ← h p, t, u) (ap ResultUnwrap (f p))

        pub call_neither : b ≡ false → (p : List ℕ) → Other ≡ formed p
        unfolding call_form ascii
        call_neither u p = rw (e, ← g p, ← h p, t, u) refl

  -- ---- the form of the record that starts at a place; k is its kind

  module _ (start k : ℕ) (e : k ≡ get_or s start 0) where
    abbrev at : ℕ
    at = start + 1 + 4

    abbrev form : List ℕ → Form
    form p = form_by (image_found s p c) (record_as s (get_or s start 0) start)

    -- the form of a whole number
    abbrev whole : ℤ → Form
    whole v = Literal (Some (Int v))

    pub form_null : k ≡ 16 → (p : List ℕ) → Null ≡ form p
    unfolding form_by record_as
    form_null q p = rw (← e, q) refl

    pub form_int : k ≡ 17 → (n : ℕ) → n ≡ num_at s at 8 → (v : ℤ) → v ≡ signed 64 n → SFits w64 v → (r : Form) → r ≡ Literal (Some (Int (to_z w64 (of_z w64 v)))) → (p : List ℕ) → r ≡ form p
    unfolding form_by record_as fields_at fields_of fields_in schema sort_of
    form_int q n f v g h r i p = rw (← e, q, ← f, ← g) (i ∙ rw (to_z-of_z h) refl)

    pub form_sint : k ≡ 18 → (n : ℕ) → n ≡ u32_at s at → (v : ℤ) → v ≡ signed 32 n → SFits w64 v → (r : Form) → r ≡ Literal (Some (Int (to_z w64 (of_z w64 v)))) → (p : List ℕ) → r ≡ form p
    unfolding form_by record_as fields_at fields_of fields_in schema sort_of
    form_sint q n f v g h r i p = rw (← e, q, ← four s at, ← f, ← g) (i ∙ rw (to_z-of_z h) refl)

    pub form_uint : k ≡ 19 → (n : ℕ) → n ≡ num_at s at 8 → (v : Folded) → v ≡ unsigned n → (p : List ℕ) → Literal v ≡ form p
    unfolding form_by record_as fields_at fields_of fields_in schema sort_of
    form_uint q n f v g p = rw (← e, q, ← f, ← g) refl

    pub form_suint : k ≡ 20 → (n : ℕ) → n ≡ u32_at s at → Fits w32 n → (r : Form) → r ≡ Literal (Some (Int (to_z w64 n))) → (p : List ℕ) → r ≡ form p
    unfolding form_by record_as fields_at fields_of fields_in schema sort_of
    form_suint q n f h r i p = rw (← e, q, ← four s at, ← f) (i ∙ ap whole (to_z_pos w64 (omega (arith, h.fits))))

    pub form_byte : k ≡ 21 → (n : ℕ) → n ≡ get_or s at 0 → Fits w8 n → (r : Form) → r ≡ Literal (Some (Int (to_z w64 n))) → (p : List ℕ) → r ≡ form p
    unfolding form_by record_as fields_at fields_of fields_in schema sort_of
    form_byte q n f h r i p = rw (← e, q, ← one s at, ← f) (i ∙ ap whole (to_z_pos w64 (omega (arith, h.fits))))

    pub form_bbyte : k ≡ 23 → (n : ℕ) → n ≡ u16_at s at → Fits w16 n → (r : Form) → r ≡ Literal (Some (Int (to_z w64 n))) → (p : List ℕ) → r ≡ form p
    unfolding form_by record_as fields_at fields_of fields_in schema sort_of
    form_bbyte q n f h r i p = rw (← e, q, ← two s at, ← f) (i ∙ ap whole (to_z_pos w64 (omega (arith, h.fits))))

    pub form_sbyte : k ≡ 22 → (n : ℕ) → n ≡ get_or s at 0 → (v : ℤ) → v ≡ signed 8 n → SFits w64 v → (r : Form) → r ≡ Literal (Some (Int (to_z w64 (of_z w64 v)))) → (p : List ℕ) → r ≡ form p
    unfolding form_by record_as fields_at fields_of fields_in schema sort_of
    form_sbyte q n f v g h r i p = rw (← e, q, ← one s at, ← f, ← g) (i ∙ rw (to_z-of_z h) refl)

    pub form_bsbyte : k ≡ 24 → (n : ℕ) → n ≡ u16_at s at → (v : ℤ) → v ≡ signed 16 n → SFits w64 v → (r : Form) → r ≡ Literal (Some (Int (to_z w64 (of_z w64 v)))) → (p : List ℕ) → r ≡ form p
    unfolding form_by record_as fields_at fields_of fields_in schema sort_of
    form_bsbyte q n f v g h r i p = rw (← e, q, ← two s at, ← f, ← g) (i ∙ rw (to_z-of_z h) refl)

    pub form_str : k ≡ 25 → (n : ℕ) → n ≡ u16_at s at → (r : Form) → r ≡ Literal (Some (Str n)) → (p : List ℕ) → r ≡ form p
    unfolding form_by record_as fields_at fields_of fields_in schema sort_of
    form_str q n f r i p = rw (← e, q, ← two s at, ← f) i

    pub form_bool : k ≡ 26 → (n : ℕ) → n ≡ get_or s at 0 → (r : Form) → r ≡ Literal (Some (Truth (eqb n 1))) → (p : List ℕ) → r ≡ form p
    unfolding form_by record_as fields_at fields_of fields_in schema sort_of
    form_bool q n f r i p = rw (← e, q, ← one s at, ← f) i

    pub form_float : k ≡ 27 → (n : ℕ) → n ≡ num_at s at 8 → (x : Float) → x ≡ of_bits binary64 n → (r : Form) → r ≡ Literal (Some (Real x)) → (p : List ℕ) → r ≡ form p
    unfolding form_by record_as fields_at fields_of fields_in schema sort_of
    form_float q n f x g r i p = rw (← e, q, ← f, ← g) i

    pub form_sfloat : k ≡ 28 → (n : ℕ) → n ≡ u32_at s at → (x : Float) → x ≡ of_bits binary32 n → (r : Form) → r ≡ Literal (Some (Real x)) → (p : List ℕ) → r ≡ form p
    unfolding form_by record_as fields_at fields_of fields_in schema sort_of
    form_sfloat q n f x g r i p = rw (← e, q, ← four s at, ← f, ← g) i

    pub form_identifier : k ≡ 30 → (x : ℕ) → x ≡ u16_at s at → (p : List ℕ) → Identifier x ≡ form p
    unfolding form_by record_as fields_at fields_of fields_in schema sort_of
    form_identifier q x f p = rw (← e, q, ← two s at, ← f) refl

    pub form_binary : k ≡ 32 → (x y z : ℕ) → x ≡ u16_at s at → y ≡ get_or s (at + 2) 0 → z ≡ u16_at s (at + 2 + 1) → (p : List ℕ) → Binary x y z ≡ form p
    unfolding form_by record_as fields_at fields_of fields_in schema sort_of
    form_binary q x y z f g h p = rw (← e, q, ← two s at, ← one s (at + 2), ← two s (at + 2 + 1), ← f, ← g, ← h) refl

    pub form_unary : k ≡ 33 → (x y : ℕ) → x ≡ get_or s at 0 → y ≡ u16_at s (at + 1) → (p : List ℕ) → Unary x y ≡ form p
    unfolding form_by record_as fields_at fields_of fields_in schema sort_of
    form_unary q x y f g p = rw (← e, q, ← one s at, ← two s (at + 1), ← f, ← g) refl

    pub form_grouping : k ≡ 34 → (x : ℕ) → x ≡ u16_at s at → (p : List ℕ) → Grouping x ≡ form p
    unfolding form_by record_as fields_at fields_of fields_in schema sort_of
    form_grouping q x f p = rw (← e, q, ← two s at, ← f) refl

    pub form_assign : k ≡ 39 → (x y : ℕ) → x ≡ u16_at s at → y ≡ u16_at s (at + 2) → (p : List ℕ) → Assign x y ≡ form p
    unfolding form_by record_as fields_at fields_of fields_in schema sort_of
    form_assign q x y f g p = rw (← e, q, ← two s at, ← two s (at + 2), ← f, ← g) refl

    pub form_call : k ≡ 41 → (path args : Interval) → path ≡ interval (pair (u16_at s at) (u16_at s (at + 2))) → args ≡ interval (pair (u16_at s (at + 4)) (u16_at s (at + 4 + 2))) → (r : Form) → ((p : List ℕ) → r ≡ formed path args p) → (p : List ℕ) → r ≡ form p
    unfolding form_by record_as fields_at fields_of fields_in schema sort_of
    form_call q path args f g r i p = i p ∙ rw (← e, q, f, g) refl

    pub form_ok : k ≡ 49 → (x : ℕ) → x ≡ u16_at s at → (p : List ℕ) → OkLiteral x ≡ form p
    unfolding form_by record_as fields_at fields_of fields_in schema sort_of
    form_ok q x f p = rw (← e, q, ← two s at, ← f) refl

    pub form_err : k ≡ 50 → (x : ℕ) → x ≡ u16_at s at → (p : List ℕ) → ErrLiteral x ≡ form p
    unfolding form_by record_as fields_at fields_of fields_in schema sort_of
    form_err q x f p = rw (← e, q, ← two s at, ← f) refl

    pub form_other : (k ≡ 16 → ⊥) → (k ≡ 17 → ⊥) → (k ≡ 18 → ⊥) → (k ≡ 19 → ⊥) → (k ≡ 20 → ⊥) → (k ≡ 21 → ⊥) → (k ≡ 22 → ⊥) → (k ≡ 23 → ⊥) → (k ≡ 24 → ⊥) → (k ≡ 25 → ⊥) → (k ≡ 26 → ⊥) → (k ≡ 27 → ⊥) → (k ≡ 28 → ⊥) → (k ≡ 30 → ⊥) → (k ≡ 32 → ⊥) → (k ≡ 33 → ⊥) → (k ≡ 34 → ⊥) → (k ≡ 39 → ⊥) → (k ≡ 41 → ⊥) → (k ≡ 49 → ⊥) → (k ≡ 50 → ⊥) → (p : List ℕ) → Other ≡ form p
    unfolding form_by record_as
    form_other h16 h17 h18 h19 h20 h21 h22 h23 h24 h25 h26 h27 h28 h30 h32 h33 h34 h39 h41 h49 h50 p =
        rw (
          ← e,
          ne_eqb k 16 h16,
          ne_eqb k 17 h17,
          ne_eqb k 18 h18,
          ne_eqb k 19 h19,
          ne_eqb k 20 h20,
          ne_eqb k 21 h21,
          ne_eqb k 22 h22,
          ne_eqb k 23 h23,
          ne_eqb k 24 h24,
          ne_eqb k 25 h25,
          ne_eqb k 26 h26,
          ne_eqb k 27 h27,
          ne_eqb k 28 h28,
          ne_eqb k 30 h30,
          ne_eqb k 32 h32,
          ne_eqb k 33 h33,
          ne_eqb k 34 h34,
          ne_eqb k 39 h39,
          ne_eqb k 41 h41,
          ne_eqb k 49 h49,
          ne_eqb k 50 h50,
        ) refl

  -- ---- the n-th expression

  module _ (p : List ℕ) (n : ℕ) where
    pub form_missing : c.expressions ≤ n → Other ≡ form_of (image_found s p c) n
    unfolding form_by
    form_missing h = rw (record_missing s p c Expressions n h) refl

    pub form_found : n < c.expressions → (start : ℕ) → start ≡ get_or p n 0 → (r : Form) → ((q : List ℕ) → r ≡ form_by (image_found s q c) (record_as s (get_or s start 0) start)) → r ≡ form_of (image_found s p c) n
    unfolding record_found
    form_found h start e r f = rw (record_found_lem s p c Expressions n h, ← e) (f p)
