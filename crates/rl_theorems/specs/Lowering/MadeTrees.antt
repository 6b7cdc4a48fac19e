-- What is made stands for what is meant: texts, lists, expressions and statements.
-- Assumes nothing.
use Rattle.std.specs.Prelude.{◌≡◌, ℕ, List, [], ◌∷◌, ◌++◌, map, length, get_or, take, slice_index_or, refl}
use Rattle.std.proofs.Common.{ap, ap₂, sym, ◌∙◌, append_assoc, arith, length-append}
use Rattle.std.proofs.lemmas.List.{length-map}
use Rattle.std.proofs.Math.Seq.{take-length, get_or-append_seam, drop-append_seam}
use Rattle.rl_spec.specs.declared.Section.TheVariants.{Texts, Lists, Expressions, Statements}
use Rattle.rl_spec.specs.Image.{Field, num, pair, Rec, Image, records_of, size_of, no_record, record_of, field_of, first}
use Rattle.rl_spec.specs.Tree.{Expr}
use Rattle.rl_spec.specs.Ranges.{up_from}
use Rattle.rl_spec.specs.Mapped.{Text}
use Rattle.rl_spec.specs.Make.{Context, with_bytes, made, new_text, new_list, stmt}
use Rattle.rl_spec.specs.Lower.{expr}
use Rattle.rl_spec.specs.Statement.{Item}
use Rattle.rl_images.specs.Lowering.Gives.{weaker}
use Rattle.rl_images.specs.Lowering.Grows.{Eight, records_own, appended, text_records, with_text, list_records}
use Rattle.rl_images.specs.Lowering.GrowsTo.{GrowsTo, ◌▹◌, text_good, list_good}
use Rattle.rl_images.specs.Lowering.NewRecords.{record_ok}
use Rattle.rl_theorems.specs.Trees.Denotes.{Says, Holds, IsExpr, stands, Reads, keep_reads, IsLine, stands_line, ReadsLine, keep_reads_line}

-- ---- one record

pub expr_ok : (k : ℕ) (fs : List Field) (ctx : Context) →
    GrowsTo ctx (λ n c. (e : Expr Text) → Reads ctx.image (size_of ctx.image Expressions) k (num ctx.span ∷ fs) e → IsExpr c.image n e)
    (expr k fs ctx)
unfolding expr
expr_ok k fs ctx =
    record_ok Expressions tt (made k (num ctx.span ∷ fs)) ctx ▹ λ n c l h e d.
    stands k (num ctx.span ∷ fs) h.1 (rw h.0 (keep_reads l.image d))

pub stmt_ok : (k span : ℕ) (fs : List Field) (ctx : Context) →
    GrowsTo ctx (λ n c. (x : Item Text) → ReadsLine ctx.image (size_of ctx.image Statements) k (num span ∷ fs) x → IsLine c.image n x)
    (stmt k span fs ctx)
unfolding stmt
stmt_ok k span fs ctx =
    record_ok Statements tt (made k (num span ∷ fs)) ctx ▹ λ n c l h x d.
    stands_line k (num span ∷ fs) h.1 (rw h.0 (keep_reads_line l.image d))

-- where the first stands for a tree, the second stands in the later image for f of it
abbrev pub Turned : (Expr Text → Expr Text) → Context → ℕ → ℕ → Context → Type 0
Turned f ctx n m c = (e : Expr Text) → IsExpr ctx.image n e → IsExpr c.image m (f e)

-- ---- a text, and a list

text_says : (im : Image) (s : List ℕ) → Eight im → Says (with_text im s) (size_of im Texts) s
text_says im s e = record {
  inside = rw (own, length-append) (omega arith);
  part = rw record_is (rw length-append (omega arith));
  is = rw record_is (ap (take (length s)) (drop-append_seam im.bytes s) ∙ take-length s);
}
  where
    own : records_of (with_text im s) Texts ≡ records_of im Texts ++ text_records im s
    own = records_own (with_bytes im (im.bytes ++ s)) Texts (records_of im Texts ++ text_records im s) e

    record_is : record_of (with_text im s) Texts (size_of im Texts) ≡ made 2 (pair (length im.bytes) (length s) ∷ [])
    record_is = ap (λ l. get_or l (size_of im Texts) no_record) own ∙ get_or-append_seam (records_of im Texts) _ [] no_record

pub text_ok : (s : List ℕ) (ctx : Context) → GrowsTo ctx (λ t c. Says c.image t s) (new_text s ctx)
text_ok s ctx =
    record { makes = λ e. weaker ((text_good s ctx).makes e) λ t c h. (h.0, rw (h.1.is, h.1.at) (text_says ctx.image s e.sections)) }

-- the entries at these places among these records
abbrev entries_in : List Rec → ℕ → ℕ → List ℕ
entries_in l a n = map (λ k. first (field_of (slice_index_or l k no_record) 0)) (up_from a n)

new_entries : (l : List Rec) (ns : List ℕ) → entries_in (l ++ list_records ns) (length l) (length ns) ≡ ns
unfolding up_from
new_entries l [] = refl
new_entries l (n ∷ ns) =
    ap₂ (λ m ms. m ∷ ms) (ap (λ r. first (field_of r 0)) (get_or-append_seam l r (list_records ns) no_record))
    (ap₂ (λ m a. entries_in m a (length ns)) (sym (append_assoc l (r ∷ []) (list_records ns))) (sym (length-append l (r ∷ [])))
    ∙ new_entries (l ++ r ∷ []) ns)
  where
    r : Rec
    r = made 3 (num n ∷ [])

pub list_ok : (ns : List ℕ) (ctx : Context) → GrowsTo ctx (λ list c. Holds c.image list ns) (new_list ns ctx)
list_ok ns ctx = record {
  makes = λ e. weaker ((list_good ns ctx).makes e) λ list c h. (h.0, rw (h.1.is, h.1.at) (held e.sections));
}
  where
    im : Image
    im = ctx.image

    held : Eight im → Holds (appended im Lists (list_records ns)) (pair (size_of im Lists) (length ns)) ns
    held e = let own = records_own im Lists (records_of im Lists ++ list_records ns) e in record {
      inside = rw (own, length-append, length-map ns (λ n. made 3 (num n ∷ []))) (omega arith);
      is = ap (λ l. entries_in l (size_of im Lists) (length ns)) own ∙ new_entries (records_of im Lists) ns;
    }
