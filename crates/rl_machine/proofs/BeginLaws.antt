-- What a list and a statement of each form begin with.
-- Assumes nothing.
use Prim.Native.Nat.{ℕ, ◌≤◌, ◌<◌}
use mathlib.Core.Path.{◌≡◌, refl, sym, ◌∙◌}
use mathlib.Core.Bool.{Bool, true, false}
use mathlib.Core.Logic.{◌⊎◌, inl, inr}
use mathlib.Core.List.{List}
use native.Mathlib.Omega.{arith}
use Rattle.rl_spec.specs.declared.Counts.{Counts}
use Rattle.rl_spec.specs.declared.Interval.{Interval}
use Rattle.rl_spec.specs.Answers.{Optional}
use Rattle.rl_spec.specs.declared.Outcome.TheVariants.{Returned, Fault}
use Rattle.rl_spec.specs.declared.Plain.TheVariants.{Null}
use Rattle.rl_spec.specs.declared.Value.TheVariants.{Plain}
use Rattle.rl_spec.specs.declared.StatementForm.{StatementForm}
use Rattle.rl_spec.specs.declared.StatementForm.TheVariants as form
use Rattle.rl_spec.specs.Image.{Image, text_of}
use Rattle.rl_spec.specs.Found.{image_found}
use Rattle.rl_spec.specs.Run as run
use Rattle.rl_spec.specs.Run.{eval, bind}
use Rattle.rl_spec.specs.Reading.{stmt}
use Rattle.rl_spec.specs.Tree.{below, expr_tree}
use Rattle.rl_spec.specs.Statement.{Stmt, declaration, return, return_alone, break, continue, other_statement, a_statement, as_statement, statement_of, item_by, item_tree}
use Rattle.rl_laws.specs.Tests.{by_ltb}
use Rattle.rl_laws.specs.Descend.{item_is, under_earlier, under_later, below_earlier, below_later}
use Rattle.rl_laws.specs.Heights.{expr_height}
use Rattle.rl_machine.specs.declared.types.Flow.TheVariants.{Breaks, Continues, Over}
use Rattle.rl_machine.specs.declared.types.Frame.TheVariants.{Declare, Discard, Return}
use Rattle.rl_machine.specs.declared.types.State.{State}
use Rattle.rl_machine.specs.declared.types.State.TheVariants.{Compound, Push, Ends}
use Rattle.rl_machine.specs.Machine.{tree_under, item_under, as_return, last_as, begun_run, compound, Low, Room, Begins}
use Rattle.rl_machine.proofs.Results.{through}

under_low : (im : Image) (n : ℕ) → Low im → expr_height (tree_under im 65536 n) ≤ 68
unfolding expr_height
under_low im n low = by_ltb n 65536 (λ h. rw (below_earlier im 65536 n h) (low n)) (λ h. rw (below_later im 65536 n h) (omega arith))

-- ---- a statement

last_same : (last : Bool) (t : Stmt ℕ) → as_return t ≡ t → last_as last t ≡ t
last_same true t e = e
last_same false t e = refl

-- by its form
made : (im : Image) (s : ℕ) (x : StatementForm) → statement_of im s ≡ x → as_statement (item_tree im s) ≡ as_statement (item_by im x (below s (λ _. a_statement other_statement) (item_tree im)))
made im s x e = rw (item_is im s, e) refl

-- one that holds statements
holds : (im : Image) (s : ℕ) (last : Bool) (t : Stmt ℕ) → as_statement (item_tree im s) ≡ t → as_return t ≡ t → compound im t ≡ begun_run im t → Begins im (last_as last (as_statement (item_tree im s))) (Compound s)
holds im s last t e f g base rest k env n = rw (e, last_same last t f, g) refl

module _ (x : StatementForm) (s : ℕ) (last : Bool) where
  abbrev Begun : State → Type 0
  Begun r =
      ((im : Image) → statement_of im s ≡ x → Begins im (last_as last (as_statement (item_tree im s))) r)
      × ((im : Image) (bound : ℕ) → s < bound → Low im → Room im bound 0 r)

  -- one that the last bare expression may not stand for
  as_made : (im : Image) (y : StatementForm) (t : Stmt ℕ) → statement_of im s ≡ x → x ≡ y → as_statement (item_by im y (below s (λ _. a_statement other_statement) (item_tree im))) ≡ t → as_return t ≡ t → last_as last (as_statement (item_tree im s)) ≡ t
  as_made im y t e f g h = rw (made im s x e, f, g) (last_same last t h)

  pub begin_alone : x ≡ form.ReturnAlone → Begun (Ends (Over (Returned (Plain Null))))
  unfolding stmt
  begin_alone e = (λ im g base rest k env n. rw (as_made im form.ReturnAlone return_alone g e refl refl) refl, λ im b below low. tt)

  pub begin_break : x ≡ form.Break → Begun (Ends Breaks)
  unfolding stmt
  begin_break e = (λ im g base rest k env n. rw (as_made im form.Break break g e refl refl) refl, λ im b below low. tt)

  pub begin_continue : x ≡ form.Continue → Begun (Ends Continues)
  unfolding stmt
  begin_continue e = (λ im g base rest k env n. rw (as_made im form.Continue continue g e refl refl) refl, λ im b below low. tt)

  begin_conditional : (branch : ℕ) (or_else : Optional) → x ≡ form.Conditional branch or_else → Begun (Compound s)
  begin_conditional branch or_else e = (λ im g. holds im s last _ (made im s (form.Conditional branch or_else) (g ∙ e)) refl refl, λ im b below low. below)

  begin_while : (n : ℕ) (list : Interval) → x ≡ form.While n list → Begun (Compound s)
  begin_while n list e = (λ im g. holds im s last _ (made im s (form.While n list) (g ∙ e)) refl refl, λ im b below low. below)

  begin_loop : (list : Interval) → x ≡ form.Loop list → Begun (Compound s)
  begin_loop list e = (λ im g. holds im s last _ (made im s (form.Loop list) (g ∙ e)) refl refl, λ im b below low. below)

  pub begin_compound :
      ((n : ℕ) × (o : Optional) × (x ≡ form.Conditional n o)) ⊎ (((n : ℕ) × (list : Interval) × (x ≡ form.While n list)) ⊎ ((list : Interval) × (x ≡ form.Loop list)))
      → Begun (Compound s)
  begin_compound (inl (n, o, e)) = begin_conditional n o e
  begin_compound (inr (inl (n, list, e))) = begin_while n list e
  begin_compound (inr (inr (list, e))) = begin_loop list e

  module _ (r : State) where
    begin_branch : (n : Optional) (list : Interval) → x ≡ form.Branch n list → r ≡ Ends (Over (Fault 1)) → Begun r
    unfolding stmt
    begin_branch n list e f = rw f (λ im g base rest k env m. rw (as_made im (form.Branch n list) other_statement g e refl refl) refl, λ im b below low. tt)

    begin_other : x ≡ form.Other → r ≡ Ends (Over (Fault 1)) → Begun r
    unfolding stmt
    begin_other e f = rw f (λ im g base rest k env m. rw (as_made im form.Other other_statement g e refl refl) refl, λ im b below low. tt)

    pub begin_fault : ((n : Optional) × (list : Interval) × (x ≡ form.Branch n list)) ⊎ (x ≡ form.Other) → r ≡ Ends (Over (Fault 1)) → Begun r
    begin_fault (inl (n, list, e)) f = begin_branch n list e f
    begin_fault (inr e) f = begin_other e f

    -- ---- expressions

    module _ (n : ℕ) (fits : n < 65536) where
      pub begin_declaration : (name : ℕ) → x ≡ form.Declaration name n → r ≡ Push (Declare name) n 65536 → Begun r
      unfolding stmt
      begin_declaration name e f =
          rw f (
            λ im g base rest k env m. rw (as_made im (form.Declaration name n) (declaration name (expr_tree im n)) g e refl refl, below_earlier im 65536 n fits) (through (eval (text_of im) (expr_tree im n) env m) _ _ _ _ (λ v env m. through (bind (run.named name v) env m) _ _ _ _ (λ u env m. refl))),
            λ im b below low. (omega (arith, under_low im n low), tt),
          )

      pub begin_return : x ≡ form.Return n → r ≡ Push Return n 65536 → Begun r
      unfolding stmt
      begin_return e f =
          rw f (
            λ im g base rest k env m. rw (as_made im (form.Return n) (return (expr_tree im n)) g e refl refl, below_earlier im 65536 n fits) (through (eval (text_of im) (expr_tree im n) env m) _ _ _ _ (λ v env m. refl)),
            λ im b below low. (omega (arith, under_low im n low), tt),
          )

      pub begin_value : x ≡ form.Expression n → last ≡ true → r ≡ Push Return n 65536 → Begun r
      unfolding stmt
      begin_value e l f =
          rw f (
            λ im g base rest k env m. rw (made im s (form.Expression n) (g ∙ e), l, below_earlier im 65536 n fits) (through (eval (text_of im) (expr_tree im n) env m) _ _ _ _ (λ v env m. refl)),
            λ im b below low. (omega (arith, under_low im n low), tt),
          )

      pub begin_expression : x ≡ form.Expression n → last ≡ false → r ≡ Push Discard n 65536 → Begun r
      unfolding stmt
      begin_expression e l f =
          rw f (
            λ im g base rest k env m. rw (made im s (form.Expression n) (g ∙ e), l, below_earlier im 65536 n fits) (through (eval (text_of im) (expr_tree im n) env m) _ _ _ _ (λ v env m. refl)),
            λ im b below low. (omega (arith, under_low im n low), tt),
          )

-- ---- a statement below a limit

module _ (b p : List ℕ) (c : Counts) (limit s : ℕ) (last : Bool) (r : State) where
  abbrev here : Image
  here = image_found b p c

  abbrev Reached : Type 0
  Reached =
      Begins here (last_as last (as_statement (item_under here limit s))) r × ((im : Image) → Low im → Room im limit 0 r)

  pub begin_late : limit ≤ s → r ≡ Ends (Over (Fault 1)) → Reached
  unfolding stmt
  begin_late h e = rw (under_later (λ _. a_statement other_statement) (item_tree here) limit s h, last_same last other_statement refl, e) (λ base rest k env n. refl, λ im low. tt)

  pub begin_early : s < limit → (x : StatementForm) → x ≡ statement_of here s → Begun x s last r → Reached
  begin_early h x e f = rw (under_earlier (λ _. a_statement other_statement) (item_tree here) limit s h) (f.0 here (sym e), λ im low. f.1 im limit h low)
