-- Statements that hold statements: what their parts come to. Assumes nothing.
use Prim.Native.Nat.{ℕ, ◌+◌, ◌-◌, ◌<◌, ◌≤◌}
use mathlib.Core.Path.{◌≡◌, refl, ap, ◌∙◌, sym, subst}
use mathlib.Core.Bool.{Bool, true, false}
use mathlib.Core.List.{List}
use mathlib.Core.Option.{none, some}
use native.Mathlib.Omega.{arith}
use lib.ListN.{length, drop}
use Rattle.rl_spec.specs.declared.Counts.{Counts}
use Rattle.rl_spec.specs.declared.Interval.{Interval}
use Rattle.rl_spec.specs.Answers.{Optional}
use Rattle.std.specs.Prelude.{Option as Maybe, None, Some}
use Rattle.rl_spec.specs.declared.StatementForm.{StatementForm}
use Rattle.rl_spec.specs.declared.StatementForm.TheVariants as form
use Rattle.rl_spec.specs.Image.{Image, text_of}
use Rattle.rl_spec.specs.Found.{image_found}
use Rattle.rl_spec.specs.Tree.{expr_tree, optional_tree}
use Rattle.rl_spec.specs.Statement.{other_statement, Body, nil, Branch, branch, Else, no_else, Item, a_statement, as_statement, as_branch, as_else, body_by, else_by, statement_of, item_by, item_tree}
use Rattle.rl_spec.specs.Run.{Env, Result, got, ended, Run, and_then, give, leaving, scoped}
use Rattle.rl_spec.specs.Reading as reading
use Rattle.rl_spec.specs.Reading.{plainly, taken, when, stmt, body, branch_or}
use Rattle.rl_laws.specs.Descend.{item_is, under_earlier, under_later}
use Rattle.rl_machine.specs.declared.types.Flow.{Flow}
use Rattle.rl_machine.specs.declared.types.Flow.TheVariants.{Onward, Breaks, Continues, Skipped, Over}
use Rattle.rl_machine.specs.Machine.{result_of, flows, body_run, tested, guarded, compound, item_under}
use Rattle.rl_statements.specs.declared.types.Block.{Block}
use Rattle.rl_statements.specs.declared.types.ElseForm.{ElseForm}
use Rattle.rl_statements.specs.declared.types.CompoundForm.{CompoundForm}
use Rattle.rl_statements.specs.Lists as lists
use Rattle.rl_statements.specs.Lists.{body_left, run_of, statement_run, unskipped}
use Rattle.rl_statements.specs.Views.{branch_of, else_of, compound_of, or_else, BranchIs, ElseIs, CompoundIs}

-- ---- the parts of a form

abbrev none_item : Item ℕ
none_item = a_statement other_statement

item_at : (im : Image) (limit b : ℕ) (x : StatementForm) → b < limit → statement_of im b ≡ x → item_under im limit b ≡ item_by im x (item_under im b)
item_at im limit b x h e =
    under_earlier (λ _. none_item) (item_tree im) limit b h ∙ item_is im b ∙ ap (λ y. item_by im y (item_under im b)) e

statement_at : (im : Image) (s : ℕ) (x : StatementForm) → statement_of im s ≡ x → as_statement (item_tree im s) ≡ as_statement (item_by im x (item_under im s))
statement_at im s x e = ap as_statement (item_is im s ∙ ap (λ y. item_by im y (item_under im s)) e)

plus_none : (n : ℕ) → n + 0 ≡ n
plus_none n = omega arith

less_none : (n : ℕ) → n - 0 ≡ n
less_none n = omega arith

-- nothing of the list is done
whole_list : (im : Image) (b : ℕ) (list : Interval) → body_left im b list 0 ≡ body_by im (item_under im b) list
whole_list im b list = rw (plus_none list.first, less_none list.count) refl

-- ---- a branch

all_less : (n : ℕ) → n - n ≡ 0
all_less n = omega arith

-- a branch that is missing
nothing_done : (im : Image) (env : Env ℕ) (n : ℕ) → guarded im none nil env n ≡ got Onward env n
unfolding body
nothing_done im env n = ap (λ k. got Onward (drop k env) n) (all_less (length env))

abbrev branch_in : Image → Item ℕ → Run ℕ Flow
branch_in im i = lists.branch_of im (as_branch i)

module _ (im : Image) (limit b : ℕ) where
  -- no branch stands there
  no_branch : (i : Item ℕ) → item_under im limit b ≡ i → as_branch i ≡ branch none nil → BranchIs im limit b None
  no_branch i e f env n = ap (λ j. branch_in im j env n) e ∙ ap (λ p. lists.branch_of im p env n) f ∙ nothing_done im env n

  branch_is : (x : StatementForm) → b < limit → statement_of im b ≡ x → BranchIs im limit b (branch_of x b)
  branch_is (form.Declaration y n) h e = no_branch _ (item_at im limit b _ h e) refl
  branch_is (form.Expression n) h e = no_branch _ (item_at im limit b _ h e) refl
  branch_is (form.Return n) h e = no_branch _ (item_at im limit b _ h e) refl
  branch_is form.ReturnAlone h e = no_branch _ (item_at im limit b _ h e) refl
  branch_is (form.Conditional c o) h e = no_branch _ (item_at im limit b _ h e) refl
  branch_is (form.Branch n list) h e = (
    h,
    λ env m. ap (λ i. branch_in im i env m) (item_at im limit b (form.Branch n list) h e)
        ∙ ap (λ k. guarded im (optional_tree im n) k env m) (sym (whole_list im b list)),
  )
  branch_is (form.While n list) h e = no_branch _ (item_at im limit b _ h e) refl
  branch_is (form.Loop list) h e = no_branch _ (item_at im limit b _ h e) refl
  branch_is form.Break h e = no_branch _ (item_at im limit b _ h e) refl
  branch_is form.Continue h e = no_branch _ (item_at im limit b _ h e) refl
  branch_is form.Other h e = no_branch _ (item_at im limit b _ h e) refl

-- ---- a branch, and what is done where it is skipped

module _ (im : Image) (k : Run ℕ reading.Flow) where
  abbrev els : Flow → Run ℕ Flow
  els = or_else (λ env n. flows (k env n))

  left_scope : (base : ℕ) (r : Result ℕ reading.Flow) → flows (leaving base r) ≡ and_then (leaving base (flows r)) els
  left_scope base (got reading.onward env n) = refl
  left_scope base (got reading.breaks env n) = refl
  left_scope base (got reading.continues env n) = refl
  left_scope base (ended o n) = refl

  by_test : (b : Body ℕ) (r : Result ℕ Bool) →
      flows (and_then r (λ t. when t (scoped (body (text_of im) plainly b)) k))
      ≡ and_then (and_then r (λ t. tested im t (λ env n. leaving (length env) (body_run im b env n)))) els
  by_test b (got true env n) = left_scope (length env) (body (text_of im) plainly b env n)
  by_test b (got false env n) = refl
  by_test b (ended o n) = refl

  branch_or_lem : (p : Branch ℕ) (env : Env ℕ) (n : ℕ) →
      flows (branch_or (text_of im) plainly p k env n) ≡ and_then (lists.branch_of im p env n) els
  unfolding branch_or
  branch_or_lem (branch c b) env n = by_test b (taken (text_of im) c env n)

unskips : (r : Result ℕ Flow) → and_then r (or_else (give Onward)) ≡ and_then r (λ f. result_of (unskipped f))
unskips (got Onward env n) = refl
unskips (got Breaks env n) = refl
unskips (got Continues env n) = refl
unskips (got Skipped env n) = refl
unskips (got (Over o) env n) = refl
unskips (ended o n) = refl

-- ---- what stands behind a branch

module _ (im : Image) (limit : ℕ) (other : Optional) where
  abbrev else_in : Else ℕ → Run ℕ Flow
  else_in x env n = flows (reading.or_else (text_of im) plainly x env n)

  no_else_lem : else_by (item_under im limit) other ≡ no_else → ElseIs im limit other None
  unfolding reading.or_else
  no_else_lem e env n = ap (λ x. else_in x env n) e

  else_some : (s : ℕ) (i : Item ℕ) → other ≡ Some s → item_under im limit s ≡ i → else_by (item_under im limit) other ≡ as_else i
  else_some s i h e = ap (else_by (item_under im limit)) h ∙ ap as_else e

  else_is : (x : StatementForm) (s : ℕ) → other ≡ Some s → s < limit → statement_of im s ≡ x → ElseIs im limit other (else_of x s)
  unfolding reading.or_else stmt
  else_is (form.Declaration y n) s g h e = no_else_lem (else_some s _ g (item_at im limit s _ h e))
  else_is (form.Expression n) s g h e = no_else_lem (else_some s _ g (item_at im limit s _ h e))
  else_is (form.Return n) s g h e = no_else_lem (else_some s _ g (item_at im limit s _ h e))
  else_is form.ReturnAlone s g h e = no_else_lem (else_some s _ g (item_at im limit s _ h e))
  else_is (form.Conditional c o) s g h e = (
    h,
    λ env n. ap (λ x. else_in x env n) (else_some s _ g (item_at im limit s _ h e))
        ∙ sym (ap (λ y. compound im y env n) (statement_at im s (form.Conditional c o) e)),
  )
  else_is (form.Branch c list) s g h e =
      λ env n. ap (λ x. else_in x env n) (else_some s _ g (item_at im limit s (form.Branch c list) h e))
      ∙ branch_or_lem im (give reading.onward) (as_branch (item_by im (form.Branch c list) (item_under im s))) env n
      ∙ unskips (branch_in im (item_by im (form.Branch c list) (item_under im s)) env n)
      ∙ sym (ap (λ i. and_then (branch_in im i env n) (λ f. result_of (unskipped f))) (item_at im limit s (form.Branch c list) h e))
  else_is (form.While n list) s g h e = no_else_lem (else_some s _ g (item_at im limit s _ h e))
  else_is (form.Loop list) s g h e = no_else_lem (else_some s _ g (item_at im limit s _ h e))
  else_is form.Break s g h e = no_else_lem (else_some s _ g (item_at im limit s _ h e))
  else_is form.Continue s g h e = no_else_lem (else_some s _ g (item_at im limit s _ h e))
  else_is form.Other s g h e = no_else_lem (else_some s _ g (item_at im limit s _ h e))

-- ---- a statement that holds statements

module _ (im : Image) (s : ℕ) where
  made : (x : StatementForm) → statement_of im s ≡ x → (env : Env ℕ) (n : ℕ)
      → statement_run im s env n ≡ compound im (as_statement (item_by im x (item_under im s))) env n
  made x e env n = ap (λ y. compound im y env n) (statement_at im s x e)

  compound_is : (x : StatementForm) → statement_of im s ≡ x → CompoundIs im s (compound_of x s)
  unfolding stmt
  compound_is (form.Declaration y n) e = made _ e
  compound_is (form.Expression n) e = made _ e
  compound_is (form.Return n) e = made _ e
  compound_is form.ReturnAlone e = made _ e
  compound_is (form.Conditional b other) e =
      λ env n. made _ e env n
      ∙ branch_or_lem im (reading.or_else (text_of im) plainly (else_by (item_under im s) other)) (as_branch (item_under im s b)) env n
  compound_is (form.Branch n list) e = made _ e
  compound_is (form.While n list) e = (
    omega arith,
    λ env m. made _ e env m
        ∙ ap (λ b. run_of im true (some (expr_tree im n)) b env m) (sym (whole_list im s list)),
  )
  compound_is (form.Loop list) e = (omega arith, λ env m. made _ e env m ∙ ap (λ b. run_of im true none b env m) (sym (whole_list im s list)))
  compound_is form.Break e = made _ e
  compound_is form.Continue e = made _ e
  compound_is form.Other e = made _ e

-- ---- what stands at an index

module _ (b p : List ℕ) (c : Counts) where
  abbrev here : Image
  here = image_found b p c

  pub branch_late : (limit i : ℕ) → limit ≤ i → BranchIs here limit i None
  branch_late limit i h = no_branch here limit i none_item (under_later (λ _. none_item) (item_tree here) limit i h) refl

  pub branch_view : (limit i : ℕ) (x : StatementForm) (r : Maybe Block) → i < limit → x ≡ statement_of here i → r ≡ branch_of x i → BranchIs here limit i r
  branch_view limit i x r h e f = subst (BranchIs here limit i) (sym f) (branch_is here limit i x h (sym e))

  module _ (limit : ℕ) (other : Optional) where
    pub no_other : other ≡ None → ElseIs here limit other None
    no_other e = no_else_lem here limit other (ap (else_by (item_under here limit)) e)

    pub other_late : (s : ℕ) → other ≡ Some s → limit ≤ s → ElseIs here limit other None
    other_late s g h = no_else_lem here limit other (else_some here limit other s none_item g (under_later (λ _. none_item) (item_tree here) limit s h))

    pub else_view : (s : ℕ) (x : StatementForm) (r : Maybe ElseForm) → other ≡ Some s → s < limit → x ≡ statement_of here s → r ≡ else_of x s → ElseIs here limit other r
    else_view s x r g h e f = subst (ElseIs here limit other) (sym f) (else_is here limit other x s g h (sym e))

  pub compound_view : (s : ℕ) (x : StatementForm) (r : Maybe CompoundForm) → x ≡ statement_of here s → r ≡ compound_of x s → CompoundIs here s r
  compound_view s x r e f = subst (CompoundIs here s) (sym f) (compound_is here s x (sym e))
