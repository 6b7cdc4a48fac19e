-- The loop that writes a record's fields.
-- Assumes nothing.
use Prim.Native.Nat.{ℕ, suc, ◌+◌, ◌/◌, ◌%◌, ◌^◌, ◌≤◌, ◌<◌}
use mathlib.Core.Path.{◌≡◌, refl, ap, ap₂, sym, ◌∙◌}
use mathlib.Core.Bool.{Bool, true, false, cond}
use mathlib.Core.List.{List, [], ◌∷◌, ◌++◌, append_assoc, append-nil}
use native.Mathlib.Omega.{arith}
use native.Mathlib.Nat.{add-zero}
use lib.ListN.{length, get_or, length-append}
use Rattle.rl_spec.specs.declared.Sort.{Sort}
use Rattle.rl_spec.specs.Schema.{sort_of, width_of}
use Rattle.rl_spec.specs.Image.{num, pair, is_pair, bytes_of, encode_field, encode_fields}
use Rattle.rl_schema.specs.Codes.{codes}
use Rattle.rl_schema.proofs.Rows.{codes_none, codes_more}
use Rattle.rl_images.specs.Reading.Decode.{pair_width}
use Rattle.rl_images.specs.Encoding.BytesAt.{length_bytes}
use Rattle.rl_encode.specs.Words.{word_field, word_fields, over}
use Rattle.rl_encode.proofs.Over.{over_none, over_over, length_over}

two_numbers : (w : ℕ) → bytes_of 2 (w % 65536) ++ bytes_of 2 (w / 65536) ≡ bytes_of 4 w
unfolding bytes_of
two_numbers w = λ i. a i ∷ b i ∷ c i ∷ d i ∷ []
  where
    a : w % 65536 % 256 ≡ w % 256
    a = omega arith

    b : w % 65536 / 256 % 256 ≡ w / 256 % 256
    b = omega arith

    c : w / 65536 % 256 ≡ w / 256 / 256 % 256
    c = omega arith

    d : w / 65536 / 256 % 256 ≡ w / 256 / 256 / 256 % 256
    d = omega arith

-- a field of a word takes the word's bytes
pub field_word : (o : Sort) (w : ℕ) → encode_field o (word_field o w) ≡ bytes_of (width_of o) w
field_word o w = go (is_pair o) refl
  where
    go : (b : Bool) → is_pair o ≡ b → encode_field o (cond b (pair (w % 65536) (w / 65536)) (num w)) ≡ bytes_of (width_of o) w
    go true e = two_numbers w ∙ ap (λ n. bytes_of n w) (sym (pair_width o e))
    go false e = refl

abbrev pub bytes_in : List ℕ → List ℕ → ℕ → List ℕ
bytes_in cs ws j = encode_fields cs (word_fields cs ws j)

fields_more : (rest : ℕ) (ws : List ℕ) (j : ℕ) → rest < 2 ^ 64 → (rest ≡ 0 → ⊥) →
    bytes_in (codes rest) ws j ≡ bytes_of (width_of (sort_of (rest % 256))) (get_or ws j 0) ++ bytes_in (codes (rest / 256)) ws (j + 1)
unfolding encode_fields word_fields
fields_more rest ws j l q =
    ap (λ cs. bytes_in cs ws j) (codes_more rest l q)
    ∙ ap (λ s. s ++ bytes_in (codes (rest / 256)) ws (j + 1)) (field_word (sort_of (rest % 256)) (get_or ws j 0))

-- what is put, and what is still to be put
pub record Recording (out₀ : List ℕ) (at row : ℕ) (ws out : List ℕ) (rest place j : ℕ) : Type 0 where
  pub room : at + length (bytes_in (codes row) ws 0) ≤ length out₀
  pub small : rest < 2 ^ 64
  pub few : j + rest < 2 ^ 64
  pub put : List ℕ
  pub is : out ≡ over out₀ at put
  pub size : length out ≡ length out₀
  pub ends : place ≡ at + length put
  pub whole : bytes_in (codes row) ws 0 ≡ put ++ bytes_in (codes rest) ws j

pub recording_none : (out : List ℕ) (at row : ℕ) (ws : List ℕ) → at + length (bytes_in (codes row) ws 0) ≤ length out → row < 2 ^ 64 →
    Recording out at row ws out row at 0
recording_none out at row ws room l =
    record {
      room = room;
      small = l;
      few = omega arith;
      put = [];
      is = sym (over_none out at);
      size = refl;
      ends = sym (add-zero at);
      whole = refl;
    }

module _ (out₀ : List ℕ) (at row : ℕ) (ws out : List ℕ) (rest place j : ℕ) (r : Recording out₀ at row ws out rest place j) where
  last : rest ≡ 0 → r.put ≡ bytes_in (codes row) ws 0
  unfolding encode_fields word_fields
  last z = sym (append-nil r.put) ∙ ap (λ cs. r.put ++ bytes_in cs ws j) (sym (codes_none rest z)) ∙ sym r.whole

  pub recording_all : rest ≡ 0 → out ≡ over out₀ at (bytes_in (codes row) ws 0)
  recording_all z = r.is ∙ ap (over out₀ at) (last z)

  pub recording_end : rest ≡ 0 → place ≡ at + length (bytes_in (codes row) ws 0)
  recording_end z = r.ends ∙ ap (λ s. at + length s) (last z)

  module _ (q : rest ≡ 0 → ⊥) (sort : Sort) (width : ℕ) (o : sort ≡ sort_of (rest % 256)) (v : width ≡ width_of sort) where
    w : width ≡ width_of (sort_of (rest % 256))
    w = v ∙ ap width_of o

    pub recording_room : place + width ≤ length out
    recording_room = rw r.size (omega (arith, r.room, r.ends, e))
      where
        e : length (bytes_in (codes row) ws 0) ≡ length r.put + (width + length (bytes_in (codes (rest / 256)) ws (j + 1)))
        e =
            ap length (r.whole ∙ ap (λ s. r.put ++ s) (fields_more rest ws j r.small q))
            ∙ length-append r.put _
            ∙ ap (λ n. length r.put + n)
            (length-append (bytes_of (width_of (sort_of (rest % 256))) (get_or ws j 0)) _
            ∙ ap (λ n. n + length (bytes_in (codes (rest / 256)) ws (j + 1))) (length_bytes _ _ ∙ sym w))

    pub recording_more : (next : List ℕ) (x : ℕ) → x ≡ get_or ws j 0 → next ≡ over out place (bytes_of width x) →
        Recording out₀ at row ws next (rest / 256) (place + width) (j + 1)
    recording_more next x g e =
        record {
          room = r.room;
          small = omega (arith, r.small);
          few = omega (arith, r.few);
          put = r.put ++ bytes_of width x;
          is =
              e
              ∙ ap₂ (λ o p. over o p (bytes_of width x)) r.is r.ends
              ∙ over_over out₀ at r.put (bytes_of width x) (omega (arith, r.room));
          size = ap length e ∙ length_over out place (bytes_of width x) (rw (length_bytes width x) recording_room) ∙ r.size;
          ends = ap (λ p. p + width) r.ends ∙ end;
          whole =
              r.whole
              ∙ ap (λ s. r.put ++ s)
              (fields_more rest ws j r.small q ∙ ap₂ (λ n y. bytes_of n y ++ bytes_in (codes (rest / 256)) ws (j + 1)) (sym w) (sym g))
              ∙ sym (append_assoc r.put (bytes_of width x) (bytes_in (codes (rest / 256)) ws (j + 1)));
        }
      where
        end : at + length r.put + width ≡ at + length (r.put ++ bytes_of width x)
        end = rw (length-append r.put (bytes_of width x), length_bytes width x) (omega arith)

-- ---- a record: its kind, and its fields

module _ (out₀ : List ℕ) (at kind row : ℕ) (ws out : List ℕ) (room : at + length (kind ∷ bytes_in (codes row) ws 0) ≤ length out₀) (small : kind < 256)
    (e : out ≡ over out₀ at (bytes_of 1 kind)) where
  one_byte : bytes_of 1 kind ≡ kind ∷ []
  unfolding bytes_of
  one_byte = ap (λ k. k ∷ []) is
    where
      is : kind % 256 ≡ kind
      is = omega arith

  pub fields_room : at + 1 + length (bytes_in (codes row) ws 0) ≤ length out
  fields_room = rw (e, length_over out₀ at (bytes_of 1 kind) (rw (length_bytes 1 kind) (omega arith))) (omega (arith, room))

  pub record_put : (next : List ℕ) → next ≡ over out (at + 1) (bytes_in (codes row) ws 0) → next ≡ over out₀ at (kind ∷ bytes_in (codes row) ws 0)
  record_put next f = f ∙ ap (λ o. over o (at + 1) (bytes_in (codes row) ws 0)) (e ∙ ap (over out₀ at) one_byte) ∙ over_over out₀ at (kind ∷ []) (bytes_in (codes row) ws 0) (omega arith)

pub record_ends : (at n r : ℕ) → r ≡ at + 1 + n → r ≡ at + suc n
record_ends at n r h = omega arith

pub ruleset record_laws = (fields_room, record_put, record_ends)
