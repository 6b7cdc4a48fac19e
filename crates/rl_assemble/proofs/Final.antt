-- The pieces that are put are the lowered image's bytes.
-- Assumes nothing.
use Prim.Native.Nat.{ℕ, suc, ◌+◌, ◌-◌, ◌*◌, ◌<◌}
use mathlib.Core.Path.{◌≡◌, refl, ap, ap₂, sym, ◌∙◌}
use mathlib.Core.Bool.{cond}
use mathlib.Core.List.{List, [], ◌∷◌, ◌++◌, append_assoc}
use native.Mathlib.Omega.{arith}
use lib.ListN.{length, get_or, set, take, drop, length-append, length-set}
use borrow.Author.Tests.{eq-eqb, ne_eqb}
use Rattle.rl_spec.specs.declared.Counts.{Counts}
use Rattle.rl_spec.specs.declared.Interval.{Interval}
use Rattle.rl_spec.specs.declared.Section.TheVariants.{Texts, Lists, Expressions, Statements, Parameters, Clauses, Functions, Calls}
use Rattle.rl_spec.specs.Image.{pair, Rec, Image, records_of, size_of, record_of, bytes_of, encode_records, encode, WellFormed}
use Rattle.rl_spec.specs.Found.{parameters_at}
use Rattle.rl_spec.specs.Lower.{bodied, with_body}
use Rattle.rl_laws.specs.Tests.{by_eqb}
use Rattle.rl_images.specs.Encoding.BytesAt.{BytesAt, length_bytes}
use Rattle.rl_images.specs.Encoding.ReaderKnows.{counts}
use Rattle.rl_images.specs.Encoding.Sections.{place_of}
use Rattle.rl_context.specs.declared.Ctx.{Ctx}
use Rattle.rl_context.specs.Additions.{New, grown, texts_from, lists_from, expressions_from, statements_from, Held, Counted, Kept}
use Rattle.rl_assemble.specs.Pieces.{both, expressions_at, statements_at, new_counts, new_header, new_text, new_texts, new_lists, new_trees, new_bytes, new_length}
use Rattle.rl_assemble.proofs.Laid.{Sections, layout_length, five_counts, four_counts, rest_of, laid, four_length, laid_length, append_records}
use Rattle.rl_assemble.proofs.Parts.{part_is, of_image, texts_length, lists_length, whole_length, statements_place, parameters_place, front_stands, counts_stand, bytes_stand, texts_stand, lists_stand, expressions_stand, statements_stand}
use Rattle.rl_assemble.proofs.Rest.{rest_is, rest_same}

-- a section with its new records
both_are : {s : List ℕ} {from : ℕ} (rs : List Rec) → BytesAt s from (encode_records rs) → (n : ℕ) → n ≡ length (encode_records rs) →
    (z : List ℕ) (place m : ℕ) (qs : List Rec) → m ≡ length (encode_records qs) → Held place (encode_records qs) z →
    both s from n z place m ≡ encode_records (rs ++ qs)
both_are {from = from} rs st n e z place m qs f h =
    ap₂ (λ x y. x ++ y) (part_is st from n refl e) (ap (λ k. take k (drop place z)) f ∙ h) ∙ sym (append_records rs qs)

empty : (rs : List Rec) → length rs ≡ 0 → length (encode_records rs) ≡ 0
unfolding encode_records
empty [] e = refl
empty (r ∷ rs) e = absurd (omega arith)

module _ (im : Image) (wf : WellFormed im) (new : New) (ctx : Ctx) (z : List ℕ) (counted : Counted im new ctx) (kept : Kept im new z) where
  abbrev s : List ℕ
  s = encode im

  abbrev c : Counts
  c = counts im

  -- ---- the sections

  text_is : new_text s c ctx z ≡ im.bytes ++ new.bytes
  unfolding new_text
  text_is =
      ap₂ (λ x y. x ++ y) (part_is (bytes_stand im wf) 23 (length im.bytes) refl refl)
      (ap (λ k. take k (drop (length im.bytes) z)) size ∙ kept.bytes)
    where
      size : ctx.bytes - length im.bytes ≡ length new.bytes
      size = omega (arith, counted.bytes)

  texts_are : new_texts s c ctx z ≡ encode_records (records_of im Texts ++ new.texts)
  unfolding new_texts
  texts_are =
      both_are (records_of im Texts) (texts_stand im wf) (c.texts * 5) (sym (texts_length im wf)) z (texts_from + c.texts * 5) ((ctx.texts - c.texts) * 5)
      new.texts (omega (arith, counted.texts, counted.text_bytes_lem)) kept.texts

  lists_are : new_lists s c ctx z ≡ encode_records (records_of im Lists ++ new.lists)
  unfolding new_lists
  lists_are =
      both_are (records_of im Lists) (lists_stand im wf) (c.lists * 3) (sym (lists_length im wf)) z (lists_from + c.lists * 3) ((ctx.lists - c.lists) * 3)
      new.lists (omega (arith, counted.lists, counted.list_bytes)) kept.lists

  abbrev expressions_now : List ℕ
  expressions_now = encode_records (records_of im Expressions ++ new.expressions)

  abbrev statements_now : List ℕ
  statements_now = encode_records (records_of im Statements ++ new.statements)

  trees_are : new_trees s (expressions_at c) (place_of im Statements) (parameters_at s c) ctx z ≡ expressions_now ++ statements_now
  unfolding new_trees
  trees_are =
      ap₂ (λ x y. x ++ y)
      (both_are (records_of im Expressions) (expressions_stand im wf) (place_of im Statements - expressions_at c) (omega (arith, statements_place im wf)) z expressions_from
      ctx.expression_bytes new.expressions counted.expression_bytes_lem kept.expressions)
      (both_are (records_of im Statements) (statements_stand im wf) (parameters_at s c - place_of im Statements)
      (omega (arith, statements_place im wf, parameters_place im wf)) z statements_from ctx.statement_bytes new.statements
      counted.statement_bytes_lem kept.statements)

  -- ---- where the statements start

  statements_are : (p : List ℕ) → (0 < size_of im Statements → get_or p (size_of im Expressions) 0 ≡ place_of im Statements) →
      statements_at s p c ≡ place_of im Statements
  statements_are p h = by_eqb (size_of im Statements) 0 none some
    where
      none : size_of im Statements ≡ 0 → statements_at s p c ≡ place_of im Statements
      none e =
          ap (λ b. cond b (parameters_at s c) (get_or p (size_of im Expressions) 0)) (eq-eqb (size_of im Statements) 0 e)
          ∙ parameters_place im wf
          ∙ omega (arith, statements_place im wf, empty (records_of im Statements) e)

      some : (size_of im Statements ≡ 0 → ⊥) → statements_at s p c ≡ place_of im Statements
      some q = ap (λ b. cond b (parameters_at s c) (get_or p (size_of im Expressions) 0)) (ne_eqb (size_of im Statements) 0 q) ∙ h (omega arith)

  module _ (f : ℕ) (l : f < size_of im Functions) (list : Interval) where
    abbrev pub final : Image
    final = with_body (grown im new) f (pair list.first list.count)

    abbrev after : Sections
    after =
        record {
          texts = records_of im Texts ++ new.texts;
          lists = records_of im Lists ++ new.lists;
          expressions = records_of im Expressions ++ new.expressions;
          statements = records_of im Statements ++ new.statements;
          parameters = records_of im Parameters;
          clauses = records_of im Clauses;
          functions = set (records_of im Functions) f (bodied (record_of im Functions f) (pair list.first list.count));
          calls = records_of im Calls;
        }

    counts_are : new_counts ctx ≡ five_counts (im.bytes ++ new.bytes) after
    unfolding new_counts
    counts_are =
        λ i.
        bytes_of 2 ((counted.bytes ∙ sym (length-append im.bytes new.bytes)) i)
        ++ bytes_of 2 ((counted.texts ∙ sym (length-append (records_of im Texts) new.texts)) i)
        ++ bytes_of 2 ((counted.lists ∙ sym (length-append (records_of im Lists) new.lists)) i)
        ++ bytes_of 2 ((counted.expressions ∙ sym (length-append (records_of im Expressions) new.expressions)) i)
        ++ bytes_of 2 ((counted.statements ∙ sym (length-append (records_of im Statements) new.statements)) i)

    four_are : four_counts (of_image im) ≡ four_counts after
    four_are =
        ap (λ n. bytes_of 2 (size_of im Parameters) ++ bytes_of 2 (size_of im Clauses) ++ bytes_of 2 n ++ bytes_of 2 (size_of im Calls))
        (sym (length-set (records_of im Functions) f _))

    header_is : new_header s ctx ≡ (1 ∷ bytes_of 4 im.arena) ++ five_counts (im.bytes ++ new.bytes) after ++ four_counts after
    unfolding new_header
    header_is =
        λ i.
        part_is (front_stands im wf) 0 5 refl (ap suc (sym (length_bytes 4 im.arena))) i ++ counts_are i
        ++ (part_is (counts_stand im wf) 15 8 refl (sym (four_length (of_image im))) ∙ four_are) i

    regroup : (h n m b t l e s r : List ℕ) → h ++ n ++ m ++ b ++ t ++ l ++ (e ++ s) ++ r ≡
        h ++ (n ++ (m ++ (b ++ (t ++ (l ++ (e ++ (s ++ r)))))))
    regroup h n m b t l e s r = simp append_assoc

    -- THE LAW: what is put
    pub bytes_are : (p : List ℕ) → (0 < size_of im Statements → get_or p (size_of im Expressions) 0 ≡ place_of im Statements) →
        new_bytes s p c ctx z f list ≡ encode final
    unfolding new_bytes
    bytes_are p h =
        (λ i.
        header_is i ++ text_is i ++ texts_are i ++ lists_are i
        ++ (ap (λ n. new_trees s (expressions_at c) n (parameters_at s c) ctx z) (statements_are p h) ∙ trees_are) i
        ++ rest_is im wf f l list i)
        ∙ regroup (1 ∷ bytes_of 4 im.arena) (five_counts (im.bytes ++ new.bytes) after) (four_counts after) (im.bytes ++ new.bytes)
        (encode_records after.texts) (encode_records after.lists) (encode_records after.expressions) (encode_records after.statements) (rest_of after)
        ∙ sym (laid im.arena (im.bytes ++ new.bytes) after)

    grown_length : (rs qs : List Rec) → length (encode_records (rs ++ qs)) ≡ length (encode_records rs) + length (encode_records qs)
    grown_length rs qs = ap length (append_records rs qs) ∙ length-append (encode_records rs) (encode_records qs)

    final_length : length (encode final) ≡ layout_length (im.bytes ++ new.bytes) after
    final_length =
        ap length (laid im.arena (im.bytes ++ new.bytes) after)
        ∙ laid_length im.arena (im.bytes ++ new.bytes) after

    -- THE LAW: how many bytes they are
    pub length_is : new_length s c ctx ≡ length (encode final)
    unfolding new_length
    length_is =
        omega (
          arith,
          final_length,
          whole_length im wf,
          length-append im.bytes new.bytes,
          grown_length (records_of im Texts) new.texts,
          grown_length (records_of im Lists) new.lists,
          grown_length (records_of im Expressions) new.expressions,
          grown_length (records_of im Statements) new.statements,
          rest_same im wf f l list.first list.count,
          counted.bytes,
          counted.texts,
          counted.lists,
          counted.text_bytes_lem,
          counted.list_bytes,
          counted.expression_bytes_lem,
          counted.statement_bytes_lem,
        )
