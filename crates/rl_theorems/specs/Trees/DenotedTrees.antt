-- A record that stands for a tree has it for its tree.
-- Assumes nothing.
use Rattle.std.specs.Prelude.{◌≡◌, ℕ, zero, suc, ◌+◌, ◌^◌, ◌<◌, Bool, true, false, cond, List, [], ◌∷◌, map, length, pos, nat_lt, slice_index, None, Some}
use Rattle.std.proofs.Math.Path.{refl, ap, ap₂, sym}
use Rattle.std.proofs.Common.{◌∙◌, arith, ne_eqb}
use Rattle.std.proofs.lemmas.Simd.{map-map}
use Rattle.std.proofs.Math.Option
use Rattle.std.proofs.Math.Option.{Option, none, some}
use Rattle.rl_spec.specs.Answers.{Optional}
use Rattle.rl_spec.specs.declared.ConstVal.TheVariants.{Int}
use Rattle.rl_spec.specs.declared.Form.TheVariants.{IsErr, ResultUnwrap, Other}
use Rattle.rl_spec.specs.Image.{Field, num, Image, first, second, entry_of, text_of}
use Rattle.rl_spec.specs.Values.{ConstVal, int, str}
use Rattle.rl_spec.specs.Folded.{folded_of}
use Rattle.rl_spec.specs.Tree.{Expr, literal, identifier, unary, binary, grouping, assign, ok_literal, err_literal, is_err, result_unwrap, other, ascii, below, is_res_path, call_form, form_by, tree_by, expr_tree, optional_tree}
use Rattle.rl_spec.specs.Statement.{declaration, expression, return, conditional, while, loop, other_statement, Body, ◌▸◌, branch, Else, Item, a_statement, a_branch, as_statement, as_branch, as_else, body_from, body_by, else_by, statement_by, item_by, item_tree, body_tree}
use Rattle.rl_spec.specs.Ranges.{interval, up_from}
use Rattle.rl_spec.specs.Mapped.{Text, map_const, map_expr, map_stmt, map_body, map_else, map_item}
use Rattle.rl_spec.specs.Make.{made}
use Rattle.rl_laws.specs.Descend.{tree_is, item_is, below_earlier, under_earlier}
use Rattle.rl_theorems.specs.Trees.MappedItems.{statement_mapped, branch_mapped, else_mapped}
use Rattle.rl_theorems.specs.Trees.Denotes.{AllSay, none_say, also_says, Holds, Plain, an_integer, anSInt, aUInt, anSUInt, a_byte, anSByte, aBByte, aBSByte, a_bool, a_float, anSFloat, is_res, call_tree, IsExpr, stands, Reads, a_null, a_literal, a_string, an_identifier, a_binary, a_unary, a_grouping, an_assign, a_call, an_ok, an_err, an_other, Args, no_args, an_arg, IsCondition, no_condition, a_condition, IsLine, stands_line, ReadsLine, a_declaration, an_expression, a_return, a_return_alone, a_conditional, an_arm, a_while, a_loop, a_break, a_continue, an_other_line, IsElse, without_else, an_else, a_chain, Rows, no_rows, a_row}

-- ---- lists

module _ (im : Image) where
  length_from : (a n : ℕ) → length (map (entry_of im) (up_from a n)) ≡ n
  unfolding up_from
  length_from a zero = refl
  length_from a (suc n) = ap suc (length_from (a + 1) n)

  from_at : (a n k : ℕ) → k < n → entry_of im (a + k) ≡ slice_index (map (entry_of im) (up_from a n)) k
  unfolding up_from
  from_at a zero k h = absurd (omega arith)
  from_at a (suc n) zero h = ap (entry_of im) (omega arith)
  from_at a (suc n) (suc k) h = ap (entry_of im) (omega arith) ∙ from_at (a + 1) n k (omega arith)

module _ {im : Image} where
  pub holds_length : {list : Field} {ns : List ℕ} → Holds im list ns → second list ≡ length ns
  holds_length {list} h = sym (length_from im (first list) (second list)) ∙ ap length h.is

  pub holds_at : {list : Field} {ns : List ℕ} (k : ℕ) → Holds im list ns → k < length ns → entry_of im (first list + k) ≡ slice_index ns k
  holds_at {list} k h l = from_at im (first list) (second list) k (rw (holds_length h) l) ∙ ap (λ ns. slice_index ns k) h.is

  pub holds_first : {list : Field} {n : ℕ} {ns : List ℕ} → Holds im list (n ∷ ns) → entry_of im (first list) ≡ n
  holds_first {list} h = ap (entry_of im) (omega arith) ∙ holds_at {list = list} 0 h (omega arith)

  -- ---- a call's path

  path_is : {path : Field} {ts : List ℕ} {xs : List Text} (name : Text) → AllSay im ts xs → Holds im path ts →
      is_res_path im path name ≡ is_res xs name
  unfolding is_res_path
  path_is name none_say h = rw (holds_length h) refl
  path_is name (also_says p none_say) h = rw (holds_length h) refl
  path_is name (also_says p (also_says q none_say)) h = rw (holds_length h) refl
  path_is name (also_says p (also_says q (also_says r none_say))) h =
      rw (holds_length h, holds_at 0 h (omega arith), holds_at 1 h (omega arith), holds_at 2 h (omega arith), p.is, q.is, r.is) refl
  path_is {path} name (also_says p (also_says q (also_says r (also_says s rest)))) h =
      rw (ne_eqb (second path) 3 (λ e. omega (arith, holds_length h))) refl

-- ---- expressions

unsigned_is : (f : ℕ → Text) (n : ℕ) (b : Bool) →
    Option.map (map_const f) (folded_of (cond b (Some (Int (pos n))) None)) ≡ cond b (some (int (pos n))) none
unsigned_is f n true = refl
unsigned_is f n false = refl

module _ (im : Image) where
  abbrev texts : ℕ → Text
  texts = text_of im

  plain_is : {k n : ℕ} {v : Option (ConstVal Text)} (s : Field) (tree : ℕ → Expr ℕ) → Plain k n v →
      map_expr texts (tree_by im (form_by im (made k (s ∷ num n ∷ []))) tree) ≡ literal v
  unfolding form_by map_expr
  plain_is s tree an_integer = refl
  plain_is s tree anSInt = refl
  plain_is s tree (aUInt {n = n}) = ap literal (unsigned_is texts n (nat_lt n (2 ^ 63)))
  plain_is s tree anSUInt = refl
  plain_is s tree a_byte = refl
  plain_is s tree anSByte = refl
  plain_is s tree aBByte = refl
  plain_is s tree aBSByte = refl
  plain_is s tree a_bool = refl
  plain_is s tree a_float = refl
  plain_is s tree anSFloat = refl

  call_by : (b c : Bool) (n : ℕ) (tree : ℕ → Expr ℕ) →
      map_expr texts (tree_by im (cond b (IsErr n) (cond c (ResultUnwrap n) Other)) tree)
      ≡ cond b (is_err (map_expr texts (tree n))) (cond c (result_unwrap (map_expr texts (tree n))) other)
  unfolding map_expr
  call_by true c n tree = refl
  call_by false true n tree = refl
  call_by false false n tree = refl

  before : {i n : ℕ} {e : Expr Text} → n < i → map_expr texts (expr_tree im n) ≡ e → map_expr texts (below i (λ _. other) (expr_tree im) n) ≡ e
  before {i} {n} l h = ap (map_expr texts) (below_earlier im i n l) ∙ h

  mutual
    unfolding form_by call_form map_expr

    pub tree_of : {i : ℕ} {e : Expr Text} → IsExpr im i e → map_expr texts (expr_tree im i) ≡ e
    tree_of (stands {i = i} k fs h d) =
        ap (map_expr texts) (tree_is im i ∙ ap (λ r. tree_by im (form_by im r) (below i (λ _. other) (expr_tree im))) h.is) ∙ tree_reads d

    tree_reads : {i k : ℕ} {fs : List Field} {e : Expr Text} → Reads im i k fs e →
        map_expr texts (tree_by im (form_by im (made k fs)) (below i (λ _. other) (expr_tree im))) ≡ e
    tree_reads (a_null q) = rw q refl
    tree_reads (a_literal {i = i} {s = s} p) = plain_is s (below i (λ _. other) (expr_tree im)) p
    tree_reads (a_string q t) = rw q (ap (λ x. literal (some (str x))) t.is)
    tree_reads (an_identifier q t) = rw q (ap identifier t.is)
    tree_reads (a_binary {op = op} q l m h k) = rw q (ap₂ (λ d e. binary d op e) (before l (tree_of h)) (before m (tree_of k)))
    tree_reads (a_unary {op = op} q l h) = rw q (ap (unary op) (before l (tree_of h)))
    tree_reads (a_grouping q l h) = rw q (ap grouping (before l (tree_of h)))
    tree_reads (an_assign q t l h) = rw q (ap₂ assign t.is (before l (tree_of h)))
    tree_reads (a_call q p ts a es d) = rw q (tree_call p ts a es ∙ sym d)
    tree_reads (an_ok q l h) = rw q (ap ok_literal (before l (tree_of h)))
    tree_reads (an_err q l h) = rw q (ap err_literal (before l (tree_of h)))
    tree_reads (an_other {i = i} {fs = fs} k) = ap (λ f. map_expr texts (tree_by im f (below i (λ _. other) (expr_tree im)))) (k im fs)

    tree_call : {i : ℕ} {path args : Field} {ts ns : List ℕ} {xs : List Text} {es : List (Expr Text)} → Holds im path ts → AllSay im ts xs →
        Holds im args ns → Args im i ns es → map_expr texts (tree_by im (call_form im path args) (below i (λ _. other) (expr_tree im))) ≡ call_tree xs es
    tree_call p ts a no_args = rw (holds_length a) refl
    tree_call {i} {path} {args} {xs = xs} p ts a (an_arg {n = n} l h no_args) =
        rw (holds_length a, path_is (ascii "is_err") ts p, path_is (ascii "result_unwrap") ts p, holds_first a)
        (call_by (is_res xs (ascii "is_err")) (is_res xs (ascii "result_unwrap")) n (below i (λ _. other) (expr_tree im))
        ∙ ap (λ e. call_tree xs (e ∷ [])) (before l (tree_of h)))
    tree_call {args = args} p ts a (an_arg l h (an_arg m k es)) = rw (ne_eqb (second args) 1 (λ e. omega (arith, holds_length a))) refl

  -- ---- statements

  condition_of : {o : Optional} {c : Option (Expr Text)} → IsCondition im o c → Option.map (map_expr texts) (optional_tree im o) ≡ c
  condition_of no_condition = refl
  condition_of (a_condition h) = ap some (tree_of h)

  -- the items before the i-th
  abbrev items : ℕ → ℕ → Item ℕ
  items i = below i (λ _. a_statement other_statement) (item_tree im)

  earlier : {i n : ℕ} {x : Item Text} → n < i → map_item texts (item_tree im n) ≡ x → map_item texts (items i n) ≡ x
  earlier {i} {n} l h = ap (map_item texts) (under_earlier (λ _. a_statement other_statement) (item_tree im) i n l) ∙ h

  list_is : (item : ℕ → Item ℕ) (list : Field) (ns : List ℕ) → Holds im list ns → body_by im item (interval list) ≡ body_from (map item ns)
  list_is item list ns h = ap body_from (sym (map-map item (entry_of im) (up_from (first list) (second list))) ∙ ap (map item) h.is)

  mutual
    unfolding statement_by map_stmt

    pub line_of : {i : ℕ} {x : Item Text} → IsLine im i x → map_item texts (item_tree im i) ≡ x
    line_of (stands_line {i = i} k fs h d) =
        ap (map_item texts) (item_is im i ∙ ap (λ r. item_by im (statement_by r) (items i)) h.is) ∙ line_reads d

    line_reads : {i k : ℕ} {fs : List Field} {x : Item Text} → ReadsLine im i k fs x → map_item texts (item_by im (statement_by (made k fs)) (items i)) ≡ x
    line_reads (a_declaration q t h) = rw q (ap₂ (λ x e. a_statement (declaration x e)) t.is (tree_of h))
    line_reads (an_expression q h) = rw q (ap (λ e. a_statement (expression e)) (tree_of h))
    line_reads (a_return q h) = rw q (ap (λ e. a_statement (return e)) (tree_of h))
    line_reads (a_return_alone q) = rw q refl
    line_reads (a_conditional {i = i} {n = n} q l h e) =
        rw q (ap₂ (λ b e. a_statement (conditional b e)) (branch_mapped texts (items i n) ∙ ap as_branch (earlier l (line_of h))) (else_reads e))
    line_reads (an_arm {i = i} {list = list} {ns = ns} q c h b) =
        rw q (ap₂ (λ c b. a_branch (branch c b)) (condition_of c) (ap (map_body texts) (list_is (items i) list ns h) ∙ rows_read b))
    line_reads (a_while {i = i} {list = list} {ns = ns} q e h b) =
        rw q (ap₂ (λ e b. a_statement (while e b)) (tree_of e) (ap (map_body texts) (list_is (items i) list ns h) ∙ rows_read b))
    line_reads (a_loop {i = i} {list = list} {ns = ns} q h b) =
        rw q (ap (λ b. a_statement (loop b)) (ap (map_body texts) (list_is (items i) list ns h) ∙ rows_read b))
    line_reads (a_break q) = rw q refl
    line_reads (a_continue q) = rw q refl
    line_reads (an_other_line {i = i} {fs = fs} k) = ap (λ f. map_item texts (item_by im f (items i))) (k fs)

    else_reads : {i : ℕ} {o : Optional} {e : Else Text} → IsElse im i o e → map_else texts (else_by (items i) o) ≡ e
    else_reads without_else = refl
    else_reads (an_else {i = i} {n = n} l h) = else_mapped texts (items i n) ∙ ap as_else (earlier l (line_of h))
    else_reads (a_chain {i = i} {n = n} l h) = else_mapped texts (items i n) ∙ ap as_else (earlier l (line_of h))

    rows_read : {i : ℕ} {ns : List ℕ} {b : Body Text} → Rows im i ns b → map_body texts (body_from (map (items i) ns)) ≡ b
    rows_read no_rows = refl
    rows_read (a_row {i = i} {n = n} l h q hs) =
        ap₂ (λ s b. s ▸ b) (statement_mapped texts (items i n) ∙ ap as_statement (earlier l (line_of h)) ∙ sym q) (rows_read hs)

  body_rows : {i : ℕ} {ns : List ℕ} {b : Body Text} → Rows im i ns b → map_body texts (body_from (map (item_tree im) ns)) ≡ b
  unfolding map_stmt
  body_rows no_rows = refl
  body_rows (a_row {n = n} l h q hs) = ap₂ (λ s b. s ▸ b) (statement_mapped texts (item_tree im n) ∙ ap as_statement (line_of h) ∙ sym q) (body_rows hs)

  -- THEOREM: the body of a list
  pub body_of : {i : ℕ} {ns : List ℕ} {b : Body Text} (list : Field) → Holds im list ns → Rows im i ns b →
      map_body texts (body_tree im (interval list)) ≡ b
  body_of {ns = ns} list h hs = ap (map_body texts) (list_is (item_tree im) list ns h) ∙ body_rows hs
