use Rattle.std.proofs.Common.{◌∙◌, ◌≤◌, refl, arith, rules}
use mathlib.Core.Logic.{inl, inr}
use Rattle.rl_images.specs.Lowering.AddsLower.{adds_arm}
use Rattle.rl_context.proofs.Copying.{kind_in}
use Rattle.rl_transform.proofs.Loops.{flat_more, flat_all, each_more, each_all}
use Rattle.rl_transform.proofs.Steps.{adds_walk, below_untouched, statement_full, statement_return, statement_alone, statement_conditional, statement_match, statement_loop, statement_kept, field_low, flag_low, body_done, branch_body, branch_list, branch_kept, branch_earlier, else_earlier, conditional_alone, conditional_both, arm_made, arms_in, match_done, kind_here, loop_list}
use Rattle.rl_transform.proofs.cycle.+transform.Goals as goal
use Rattle.rl_transform.proofs.cycle.+transform.Goals.{transform_statement-in_default-via-then-kind-lt70, transform_statement-in_default-via-else-kind-lt70+else-kind-lt75}

pub transform_arms-loop-i-preserved : goal.transform_arms-loop-i-preserved
transform_arms-loop-i-preserved t c = (
  search rules,
  (
    search rules,
    λ r h k.
        each_more _ _ (adds_arm _ (adds_walk _ _)) _ _ _ _ _ _ _ (c.loop-i.invariant.1.1 r h k) c.loop-i-test.true _ _ (c.entry-s.ensures _)
        (arm_made _ _ _ _ _ r _ _ _ _ _ _ _ _ k c.loop-i-test.true (c.entry-s.ensures _) (c.transform_body-made.ensures r h)) (c.push-ctx.ensures _),
  ),
)

pub transform_arms-returns : goal.transform_arms-returns
transform_arms-returns t c = λ r h k. each_all _ _ (adds_arm _ (adds_walk _ _)) _ _ _ _ _ (c.loop-i.invariant.1.1 r h k) c.loop-i-test.false

pub transform_below-returns-then-limit-s : goal.transform_below-returns-then-limit-s
transform_below-returns-then-limit-s t c = λ r h. below_untouched _ _ _ _ _ _ _ _ c.if-limit-s.true (c.push.ensures _)

pub transform_body-returns : goal.transform_body-returns
transform_body-returns t c = λ r h k l.
    body_done _ _ _ _ _ r _ _ _ _ k c.statement_start-start.ensures (c.kind_at.ensures ∙ kind_in _ _) _ _ _ _ _ _ _ _ _ _ l _ c.list_field-field.ensures.place
    c.u16_at.ensures c.second_u16.ensures refl (c.transform_returns-done.ensures r h) c.new_list-list.ensures c.list_word-word.ensures _ _
    c.list_field-field.ensures.number c.list_field-field.ensures.flag
    (c.rebuild.ensures _ r.rows_are k (field_low c.kind_at.result _ c.list_field-field.ensures.number) (flag_low c.kind_at.result _ c.list_field-field.ensures.flag))

pub transform_branch-returns-then-kind-eq-BRANCH : goal.transform_branch-returns-then-kind-eq-BRANCH
transform_branch-returns-then-kind-eq-BRANCH t c = λ r h k.
    branch_body _ _ _ _ _ r _ _ _ _ _ k c.statement_start-start.ensures (c.kind_at-kind.ensures ∙ kind_in _ _) _ _ c.if-kind-eq-BRANCH.true
    (c.transform_body.ensures r h k (branch_list _ _ _ _ _ r _ _ _ k c.statement_start-start.ensures (c.kind_at-kind.ensures ∙ kind_in _ _) c.if-kind-eq-BRANCH.true))

pub transform_branch-returns : goal.transform_branch-returns
transform_branch-returns t c = λ r h k.
    branch_kept _ _ _ _ _ r _ _ _ _ _ k c.statement_start-start.ensures (c.kind_at-kind.ensures ∙ kind_in _ _) c.if-kind-eq-BRANCH.false

pub transform_conditional-returns-in-Some : goal.transform_conditional-returns-in-Some
transform_conditional-returns-in-Some t c = λ r h k.
    conditional_both _ _ _ _ _ r _ _ h c.statement_start-place.ensures k _ _ _ _ _ _ _ _ _ _ c.u16_at-first.ensures c.optional_at.ensures c.in-Some.is
    (c.transform_branch-branch.ensures r (omega (arith, h)) (branch_earlier _ _ _ _ _ r _ _ h c.statement_start-place.ensures k _ c.u16_at-first.ensures))
    (c.transform_branch-other.ensures r (omega (arith, h)) (else_earlier _ _ _ _ _ r _ _ h c.statement_start-place.ensures k _ _ c.optional_at.ensures c.in-Some.is))
    (c.rebuild_conditional.ensures _ r.rows_are h)

pub transform_conditional-returns-in-None : goal.transform_conditional-returns-in-None
transform_conditional-returns-in-None t c = λ r h k.
    conditional_alone _ _ _ _ _ r _ _ h c.statement_start-place.ensures k _ _ _ _ _ _ _ c.u16_at-first.ensures c.optional_at.ensures c.in-None.is
    (c.transform_branch-branch.ensures r (omega (arith, h)) (branch_earlier _ _ _ _ _ r _ _ h c.statement_start-place.ensures k _ c.u16_at-first.ensures))
    (c.rebuild_conditional-in-None.ensures _ r.rows_are h)

pub transform_match-returns : goal.transform_match-returns
transform_match-returns t c = λ r h k.
    match_done _ _ _ _ _ r _ _ h c.statement_start.ensures k _ _ _ refl c.u16_at.ensures c.second_u16.ensures _ _ _ _ _ _ _ _ refl
    (c.transform_arms-done.ensures r (omega (arith, h)) (arms_in _ _ _ _ _ r _ _ h c.statement_start.ensures k _ _ _ refl c.u16_at.ensures c.second_u16.ensures))
    c.new_list-list.ensures c.list_word-word.ensures
    (c.rebuild.ensures _ r.rows_are h (omega arith) (omega arith))

pub transform_returns-loop-i-preserved : goal.transform_returns-loop-i-preserved
transform_returns-loop-i-preserved t c = (
  search rules,
  (
    search rules,
    λ r h. flat_more _ _ (adds_walk _ _) _ _ _ _ _ _ (c.loop-i.invariant.1.1 r h) c.loop-i-test.true _ (c.entry-s.ensures _) (c.transform_below-ctx.ensures r h),
  ),
)

pub transform_returns-returns : goal.transform_returns-returns
transform_returns-returns t c = λ r h. flat_all _ _ (adds_walk _ _) _ _ _ _ _ (c.loop-i.invariant.1.1 r h) c.loop-i-test.false

pub transform_statement-returns-then-ctx : goal.transform_statement-returns-then-ctx
transform_statement-returns-then-ctx t c = λ r h. statement_full _ _ _ _ _ _ c.if-ctx.true

pub transform_statement-returns-in-66 : goal.transform_statement-returns-in-66
transform_statement-returns-in-66 t c = λ r h.
    statement_return _ _ _ _ _ _ _ h c.statement_start-start.ensures (c.kind_at-kind.ensures ∙ kind_in _ _) _ _ _ c.in-66.is c.u16_at-value.ensures
    (c.wrap_return.ensures r.rows_are r.conditions)

pub transform_statement-returns-in-67 : goal.transform_statement-returns-in-67
transform_statement-returns-in-67 t c = λ r h.
    statement_alone _ _ _ _ _ _ _ h c.statement_start-start.ensures (c.kind_at-kind.ensures ∙ kind_in _ _) _ _ _ _ c.in-67.is (c.null-null.ensures _ 0 _)
    (c.wrap_return-in-67.ensures r.rows_are r.conditions)

pub transform_statement-returns-in-68 : goal.transform_statement-returns-in-68
transform_statement-returns-in-68 t c = λ r h.
    statement_conditional _ _ _ _ _ _ _ h c.statement_start-start.ensures (c.kind_at-kind.ensures ∙ kind_in _ _) _ _ _ _ c.in-68.is
    (c.transform_conditional-made.ensures r h (kind_here _ _ _ _ _ r _ _ _ h c.statement_start-start.ensures (c.kind_at-kind.ensures ∙ kind_in _ _) _ c.in-68.is))
    (c.push.ensures _)

pub transform_statement-returns-in-75 : goal.transform_statement-returns-in-75
transform_statement-returns-in-75 t c = λ r h.
    statement_match _ _ _ _ _ _ _ h c.statement_start-start.ensures (c.kind_at-kind.ensures ∙ kind_in _ _) _ _ _ _ c.in-75.is
    (c.transform_match-made.ensures r h (kind_here _ _ _ _ _ r _ _ _ h c.statement_start-start.ensures (c.kind_at-kind.ensures ∙ kind_in _ _) _ c.in-75.is))
    (c.push-in-75.ensures _)

pub transform_statement-returns-in-70-to-74 : goal.transform_statement-returns-in-70-to-74
transform_statement-returns-in-70-to-74 t c = λ r h.
    let low : 70 ≤ c.kind_at-kind.result = omega arith in
    let high : c.kind_at-kind.result ≤ 74 = omega arith in
    statement_loop _ _ _ _ _ _ _ h c.statement_start-start.ensures (c.kind_at-kind.ensures ∙ kind_in _ _) _ _ _ _ low high
    (c.transform_body-made.ensures r (omega (arith, h)) h (loop_list _ _ _ _ _ r _ _ _ h c.statement_start-start.ensures (c.kind_at-kind.ensures ∙ kind_in _ _) low high))
    (c.push-in-70-to-74.ensures _)

pub transform_statement-returns-in_default : goal.transform_statement-returns-in_default
transform_statement-returns-in_default t c = λ r h.
    statement_kept _ _ _ _ _ _ _ h c.statement_start-start.ensures (c.kind_at-kind.ensures ∙ kind_in _ _) _ _ (λ z. omega (arith, z)) (λ z. omega (arith, z))
    (λ z. omega (arith, z)) (λ z. omega (arith, z))
    (elim c.in_default.branch [
      | transform_statement-in_default-via-then-kind-lt70 w ↦ inl (omega arith)
      | transform_statement-in_default-via-else-kind-lt70+else-kind-lt75 w ↦ inr (omega arith)
    ]) (c.push-in_default.ensures _)
