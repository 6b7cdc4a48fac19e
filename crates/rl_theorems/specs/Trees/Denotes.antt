-- How a record stands for a tree whose texts are bytes; and that it does so still where the image grows.
-- Assumes nothing.
use Rattle.std.specs.Prelude.{◌≡◌, ℕ, zero, suc, ◌+◌, ◌^◌, ◌<◌, ◌≤◌, Bool, false, cond, ◌&&◌, List, [], ◌∷◌, map, length, pos, ◌==◌, from_bits, nat_lt, None, Some}
use Rattle.std.proofs.Math.Path.{refl}
use Rattle.std.proofs.Common.{ap, ◌∙◌, arith}
use Rattle.std.proofs.Math.Option.{Option, none, some}
use Rattle.std.specs.Float.{binary32, binary64}
use Rattle.rl_spec.specs.declared.Section.{Section}
use Rattle.rl_spec.specs.declared.Section.TheVariants.{Texts, Lists, Expressions, Statements}
use Rattle.rl_spec.specs.Answers.{Optional}
use Rattle.rl_spec.specs.declared.Form.TheVariants.{Other}
use Rattle.rl_spec.specs.declared.StatementForm.TheVariants as form
use Rattle.rl_spec.specs.Image.{Field, num, Rec, Image, size_of, record_of, field_of, first, second, entry_of, text_of}
use Rattle.rl_spec.specs.Values.{ConstVal, int, float, str, bool, same_text}
use Rattle.rl_spec.specs.Tree.{Expr, null, literal, identifier, unary, binary, grouping, assign, ok_literal, err_literal, is_err, result_unwrap, other, ascii, signed, form_by}
use Rattle.rl_spec.specs.Statement.{Stmt, declaration, expression, return, return_alone, conditional, while, loop, break, continue, other_statement, Body, nil, ◌▸◌, Branch, branch, Else, no_else, else_branch, else_conditional, Item, a_statement, a_branch, as_statement, statement_by}
use Rattle.rl_spec.specs.Ranges.{up_from, optional}
use Rattle.rl_spec.specs.Mapped.{Text}
use Rattle.rl_spec.specs.Make.{made, entries_of}
use Rattle.rl_images.specs.Lowering.Grows.{Grows, size_grows, record_kept, entry_kept, text_kept, longer_length}
use Rattle.rl_images.specs.Lowering.NewRecords.{At}

-- ---- texts and lists that are there

pub record Says (im : Image) (t : ℕ) (x : Text) : Type 0 where
  pub inside : t < size_of im Texts
  pub part : first (field_of (record_of im Texts t) 0) + second (field_of (record_of im Texts t) 0) ≤ length im.bytes
  pub is : text_of im t ≡ x

-- the texts of a list
pub data AllSay (im : Image) : List ℕ → List Text → Type 0 where
  none_say : AllSay im [] []
  also_says : {t : ℕ} {x : Text} {ts : List ℕ} {xs : List Text} → Says im t x → AllSay im ts xs → AllSay im (t ∷ ts) (x ∷ xs)

pub record Holds (im : Image) (list : Field) (ns : List ℕ) : Type 0 where
  pub inside : first list + second list ≤ size_of im Lists
  pub is : entries_of im list ≡ ns

-- ---- expressions

-- a literal without a text
pub data Plain : ℕ → ℕ → Option (ConstVal Text) → Type 0 where
  an_integer : {n : ℕ} → Plain 17 n (some (int (signed 64 n)))
  anSInt : {n : ℕ} → Plain 18 n (some (int (signed 32 n)))
  aUInt : {n : ℕ} → Plain 19 n (cond (nat_lt n (2 ^ 63)) (some (int (pos n))) none)
  anSUInt : {n : ℕ} → Plain 20 n (some (int (pos n)))
  a_byte : {n : ℕ} → Plain 21 n (some (int (pos n)))
  anSByte : {n : ℕ} → Plain 22 n (some (int (signed 8 n)))
  aBByte : {n : ℕ} → Plain 23 n (some (int (pos n)))
  aBSByte : {n : ℕ} → Plain 24 n (some (int (signed 16 n)))
  a_bool : {n : ℕ} → Plain 26 n (some (bool (n == 1)))
  a_float : {n : ℕ} → Plain 27 n (some (float (from_bits binary64 n)))
  anSFloat : {n : ℕ} → Plain 28 n (some (float (from_bits binary32 n)))

-- the path std::res::NAME
abbrev pub is_res : List Text → Text → Bool
is_res [] name = false
is_res (a ∷ []) name = false
is_res (a ∷ b ∷ []) name = false
is_res (a ∷ b ∷ c ∷ []) name = same_text a (ascii "std") && same_text b (ascii "res") && same_text c name
is_res (a ∷ b ∷ c ∷ d ∷ xs) name = false

abbrev pub call_tree : List Text → List (Expr Text) → Expr Text
call_tree path [] = other
call_tree path (e ∷ []) = cond (is_res path (ascii "is_err")) (is_err e) (cond (is_res path (ascii "result_unwrap")) (result_unwrap e) other)
call_tree path (e ∷ d ∷ es) = other

-- a kind that is not taken
abbrev pub OtherKind : ℕ → Type 0
OtherKind k = (im : Image) (fs : List Field) → form_by im (made k fs) ≡ Other

mutual
  pub data IsExpr (im : Image) : ℕ → Expr Text → Type 0 where
    stands : {i : ℕ} {e : Expr Text} (k : ℕ) (fs : List Field) → At im Expressions i (made k fs) → Reads im i k fs e → IsExpr im i e

  -- as the i-th expression
  pub data Reads (im : Image) : ℕ → ℕ → List Field → Expr Text → Type 0 where
    a_null : {i k : ℕ} {s : Field} → k ≡ 16 → Reads im i k (s ∷ []) null
    a_literal : {i k n : ℕ} {s : Field} {v : Option (ConstVal Text)} → Plain k n v → Reads im i k (s ∷ num n ∷ []) (literal v)
    a_string : {i t k : ℕ} {s : Field} {x : Text} → k ≡ 25 → Says im t x → Reads im i k (s ∷ num t ∷ []) (literal (some (str x)))
    an_identifier : {i t k : ℕ} {s : Field} {x : Text} → k ≡ 30 → Says im t x → Reads im i k (s ∷ num t ∷ []) (identifier x)
    a_binary : {i l op r k : ℕ} {s : Field} {d e : Expr Text} → k ≡ 32 → l < i → r < i → IsExpr im l d → IsExpr im r e →
        Reads im i k (s ∷ num l ∷ num op ∷ num r ∷ []) (binary d op e)
    a_unary : {i op n k : ℕ} {s : Field} {e : Expr Text} → k ≡ 33 → n < i → IsExpr im n e →
        Reads im i k (s ∷ num op ∷ num n ∷ []) (unary op e)
    a_grouping : {i n k : ℕ} {s : Field} {e : Expr Text} → k ≡ 34 → n < i → IsExpr im n e → Reads im i k (s ∷ num n ∷ []) (grouping e)
    an_assign : {i t n k : ℕ} {s : Field} {x : Text} {e : Expr Text} → k ≡ 39 → Says im t x → n < i → IsExpr im n e →
        Reads im i k (s ∷ num t ∷ num n ∷ []) (assign x e)
    a_call : {i k : ℕ} {s path args : Field} {ts ns : List ℕ} {xs : List Text} {es : List (Expr Text)} {e : Expr Text} → k ≡ 41 →
        Holds im path ts → AllSay im ts xs →
        Holds im args ns → Args im i ns es → e ≡ call_tree xs es → Reads im i k (s ∷ path ∷ args ∷ []) e
    an_ok : {i n k : ℕ} {s : Field} {e : Expr Text} → k ≡ 49 → n < i → IsExpr im n e → Reads im i k (s ∷ num n ∷ []) (ok_literal e)
    an_err : {i n k : ℕ} {s : Field} {e : Expr Text} → k ≡ 50 → n < i → IsExpr im n e → Reads im i k (s ∷ num n ∷ []) (err_literal e)
    an_other : {i k : ℕ} {fs : List Field} → OtherKind k → Reads im i k fs other

  pub data Args (im : Image) : ℕ → List ℕ → List (Expr Text) → Type 0 where
    no_args : {i : ℕ} → Args im i [] []
    an_arg : {i n : ℕ} {e : Expr Text} {ns : List ℕ} {es : List (Expr Text)} → n < i → IsExpr im n e → Args im i ns es →
        Args im i (n ∷ ns) (e ∷ es)

-- ---- statements

abbrev pub OtherLine : ℕ → Type 0
OtherLine k = (fs : List Field) → statement_by (made k fs) ≡ form.Other

-- a condition or none
pub data IsCondition (im : Image) : Optional → Option (Expr Text) → Type 0 where
  no_condition : IsCondition im None none
  a_condition : {n : ℕ} {e : Expr Text} → IsExpr im n e → IsCondition im (Some n) (some e)

mutual
  pub data IsLine (im : Image) : ℕ → Item Text → Type 0 where
    stands_line : {i : ℕ} {x : Item Text} (k : ℕ) (fs : List Field) → At im Statements i (made k fs) → ReadsLine im i k fs x → IsLine im i x

  -- as the i-th statement
  pub data ReadsLine (im : Image) : ℕ → ℕ → List Field → Item Text → Type 0 where
    a_declaration : {i t n k : ℕ} {s type rest : Field} {x : Text} {e : Expr Text} → k ≡ 64 → Says im t x → IsExpr im n e →
        ReadsLine im i k (s ∷ num t ∷ type ∷ num n ∷ rest ∷ []) (a_statement (declaration x e))
    an_expression : {i n k : ℕ} {s : Field} {e : Expr Text} → k ≡ 65 → IsExpr im n e →
        ReadsLine im i k (s ∷ num n ∷ []) (a_statement (expression e))
    a_return : {i n k : ℕ} {s : Field} {e : Expr Text} → k ≡ 66 → IsExpr im n e → ReadsLine im i k (s ∷ num n ∷ []) (a_statement (return e))
    a_return_alone : {i k : ℕ} {s : Field} → k ≡ 67 → ReadsLine im i k (s ∷ []) (a_statement return_alone)
    a_conditional : {i n k : ℕ} {s o : Field} {b : Branch Text} {e : Else Text} → k ≡ 68 → n < i → IsLine im n (a_branch b) →
        IsElse im i (optional o) e → ReadsLine im i k (s ∷ num n ∷ o ∷ []) (a_statement (conditional b e))
    an_arm : {i k : ℕ} {s o list scope : Field} {ns : List ℕ} {c : Option (Expr Text)} {b : Body Text} → k ≡ 69 →
        IsCondition im (optional o) c → Holds im list ns →
        Rows im i ns b → ReadsLine im i k (s ∷ o ∷ list ∷ scope ∷ []) (a_branch (branch c b))
    a_while : {i n k : ℕ} {s list : Field} {ns : List ℕ} {e : Expr Text} {b : Body Text} → k ≡ 70 → IsExpr im n e → Holds im list ns →
        Rows im i ns b →
        ReadsLine im i k (s ∷ num n ∷ list ∷ []) (a_statement (while e b))
    a_loop : {i k : ℕ} {s list : Field} {ns : List ℕ} {b : Body Text} → k ≡ 71 → Holds im list ns → Rows im i ns b →
        ReadsLine im i k (s ∷ list ∷ []) (a_statement (loop b))
    a_break : {i k : ℕ} {s : Field} → k ≡ 77 → ReadsLine im i k (s ∷ []) (a_statement break)
    a_continue : {i k : ℕ} {s : Field} → k ≡ 78 → ReadsLine im i k (s ∷ []) (a_statement continue)
    an_other_line : {i k : ℕ} {fs : List Field} → OtherLine k → ReadsLine im i k fs (a_statement other_statement)

  pub data IsElse (im : Image) : ℕ → Optional → Else Text → Type 0 where
    without_else : {i : ℕ} → IsElse im i None no_else
    an_else : {i n : ℕ} {b : Branch Text} → n < i → IsLine im n (a_branch b) → IsElse im i (Some n) (else_branch b)
    a_chain : {i n : ℕ} {b : Branch Text} {e : Else Text} → n < i → IsLine im n (a_statement (conditional b e)) →
        IsElse im i (Some n) (else_conditional b e)

  -- statements in a row, all before the i-th
  pub data Rows (im : Image) : ℕ → List ℕ → Body Text → Type 0 where
    no_rows : {i : ℕ} → Rows im i [] nil
    a_row : {i n : ℕ} {x : Item Text} {ns : List ℕ} {s : Stmt Text} {b : Body Text} → n < i → IsLine im n x → s ≡ as_statement x → Rows im i ns b →
        Rows im i (n ∷ ns) (s ▸ b)

-- ---- growth keeps them

module _ {im im' : Image} (g : Grows im im') where
  pub keep_at : {o : Section} {i : ℕ} {r : Rec} → At im o i r → At im' o i r
  keep_at {o} {i} h = record { inside = omega (arith, h.inside, size_grows g o); small = h.small; is = record_kept g o i h.inside ∙ h.is }

  pub keep_says : {t : ℕ} {x : Text} → Says im t x → Says im' t x
  keep_says {t} h = record {
    inside = omega (arith, h.inside, size_grows g Texts);
    part = rw (record_kept g Texts t h.inside) (omega (arith, h.part, longer_length g.bytes));
    is = text_kept g t h.inside h.part ∙ h.is;
  }

  pub keep_all : {ts : List ℕ} {xs : List Text} → AllSay im ts xs → AllSay im' ts xs
  keep_all none_say = none_say
  keep_all (also_says h hs) = also_says (keep_says h) (keep_all hs)

  keep_entries : (a n : ℕ) → a + n ≤ size_of im Lists → map (entry_of im') (up_from a n) ≡ map (entry_of im) (up_from a n)
  unfolding up_from
  keep_entries a zero h = refl
  keep_entries a (suc n) h = rw (entry_kept g a (omega arith)) (ap (λ l. entry_of im a ∷ l) (keep_entries (a + 1) n (omega arith)))

  pub keep_holds : {list : Field} {ns : List ℕ} → Holds im list ns → Holds im' list ns
  keep_holds {list} h = record {
    inside = omega (arith, h.inside, size_grows g Lists);
    is = keep_entries (first list) (second list) h.inside ∙ h.is;
  }

  mutual
    pub keep : {i : ℕ} {e : Expr Text} → IsExpr im i e → IsExpr im' i e
    keep (stands k fs h d) = stands k fs (keep_at h) (keep_reads d)

    pub keep_reads : {i k : ℕ} {fs : List Field} {e : Expr Text} → Reads im i k fs e → Reads im' i k fs e
    keep_reads (a_null q) = a_null q
    keep_reads (a_literal p) = a_literal p
    keep_reads (a_string q t) = a_string q (keep_says t)
    keep_reads (an_identifier q t) = an_identifier q (keep_says t)
    keep_reads (a_binary q l m h k) = a_binary q l m (keep h) (keep k)
    keep_reads (a_unary q l h) = a_unary q l (keep h)
    keep_reads (a_grouping q l h) = a_grouping q l (keep h)
    keep_reads (an_assign q t l h) = an_assign q (keep_says t) l (keep h)
    keep_reads (a_call q p ts a es d) = a_call q (keep_holds p) (keep_all ts) (keep_holds a) (keep_args (λ n l. l) es) d
    keep_reads (an_ok q l h) = an_ok q l (keep h)
    keep_reads (an_err q l h) = an_err q l (keep h)
    keep_reads (an_other k) = an_other k

    pub keep_args : {i j : ℕ} {ns : List ℕ} {es : List (Expr Text)} → ((n : ℕ) → n < i → n < j) → Args im i ns es → Args im' j ns es
    keep_args w no_args = no_args
    keep_args w (an_arg {n = n} l h hs) = an_arg (w n l) (keep h) (keep_args w hs)

  pub keep_condition : {o : Optional} {c : Option (Expr Text)} → IsCondition im o c → IsCondition im' o c
  keep_condition no_condition = no_condition
  keep_condition (a_condition h) = a_condition (keep h)

  mutual
    pub keep_line : {i : ℕ} {x : Item Text} → IsLine im i x → IsLine im' i x
    keep_line (stands_line k fs h d) = stands_line k fs (keep_at h) (keep_reads_line d)

    pub keep_reads_line : {i k : ℕ} {fs : List Field} {x : Item Text} → ReadsLine im i k fs x → ReadsLine im' i k fs x
    keep_reads_line (a_declaration q t h) = a_declaration q (keep_says t) (keep h)
    keep_reads_line (an_expression q h) = an_expression q (keep h)
    keep_reads_line (a_return q h) = a_return q (keep h)
    keep_reads_line (a_return_alone q) = a_return_alone q
    keep_reads_line (a_conditional q l h e) = a_conditional q l (keep_line h) (keep_else (λ n l. l) e)
    keep_reads_line (an_arm q c h b) = an_arm q (keep_condition c) (keep_holds h) (keep_rows (λ n l. l) b)
    keep_reads_line (a_while q e h b) = a_while q (keep e) (keep_holds h) (keep_rows (λ n l. l) b)
    keep_reads_line (a_loop q h b) = a_loop q (keep_holds h) (keep_rows (λ n l. l) b)
    keep_reads_line (a_break q) = a_break q
    keep_reads_line (a_continue q) = a_continue q
    keep_reads_line (an_other_line k) = an_other_line k

    pub keep_else : {i j : ℕ} {o : Optional} {e : Else Text} → ((n : ℕ) → n < i → n < j) → IsElse im i o e → IsElse im' j o e
    keep_else w without_else = without_else
    keep_else w (an_else {n = n} l h) = an_else (w n l) (keep_line h)
    keep_else w (a_chain {n = n} l h) = a_chain (w n l) (keep_line h)

    pub keep_rows : {i j : ℕ} {ns : List ℕ} {b : Body Text} → ((n : ℕ) → n < i → n < j) → Rows im i ns b → Rows im' j ns b
    keep_rows w no_rows = no_rows
    keep_rows w (a_row {n = n} l h q hs) = a_row (w n l) (keep_line h) q (keep_rows w hs)
