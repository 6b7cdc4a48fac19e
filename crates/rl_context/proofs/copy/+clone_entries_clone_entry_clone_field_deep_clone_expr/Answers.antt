use Rattle.std.proofs.Common.{refl, ap, ◌∙◌, arith, rules}
use Rattle.rl_spec.specs.Schema.{width_of}
use Rattle.rl_spec.specs.Lower.{is_lambda}
use Rattle.rl_schema.proofs.Rows.{row_codes}
use Rattle.rl_arena.proofs.Laws.{width_small}
use Rattle.rl_context.proofs.Copying.{kind_in, codes_few, small_left, as_made, few_left, place_left, still_eight, copies_full, copies_lambda, copies_record, not_lambda, copying_none, copying_field, copying_more, copying_all, copying_whole}
use Rattle.rl_context.proofs.CopiedEntries.{entries_more, entries_all, entry_copied, entry_kept, entry_late, field_shared, field_kept, field_copied, field_listed, list_fits}
use Rattle.rl_context.proofs.copy.+clone_entries_clone_entry_clone_field_deep_clone_expr.Goals as goal
use Rattle.rl_context.proofs.copy.+clone_entries_clone_entry_clone_field_deep_clone_expr.Goals.{clone_entry-else-is_node-via-then-is_node+else-n-id, clone_entry-else-is_node-via-else-is_node, deep_clone_expr-then-kind-eq-LAMBDA-via-then-kind-eq-LAMBDA, deep_clone_expr-then-kind-eq-LAMBDA-via-else-kind-eq-LAMBDA+then-kind-eq-RESOLVED_LAMBDA}

pub clone_entries-loop-i-preserved : goal.clone_entries-loop-i-preserved
clone_entries-loop-i-preserved t c = (
  search rules,
  (
    search rules,
    λ r h. entries_more _ _ _ _ _ _ _ _ _ _ _ _ _ (c.loop-i.invariant.1.1 r h) c.loop-i-test.true _ _ (c.entry-n.ensures _) (c.clone_entry-ctx.ensures r h),
  ),
)

pub clone_entries-returns : goal.clone_entries-returns
clone_entries-returns t c = λ r h k. entries_all _ _ _ _ _ _ _ _ _ _ _ _ _ (c.loop-i.invariant.1.1 r h) c.loop-i-test.false

pub clone_entry-returns-then-n-id : goal.clone_entry-returns-then-n-id
clone_entry-returns-then-n-id t c = λ r h.
    entry_copied _ _ c.args.target _ _ _ _ _ _ c.is_node.ensures c.if-is_node.true c.if-n-id.true (c.deep_clone_expr-copy.ensures r (omega (arith, c.if-n-id.true, h))) (c.push.ensures _)

pub clone_entry-returns-else-is_node : goal.clone_entry-returns-else-is_node
clone_entry-returns-else-is_node t c = λ r h.
    elim c.else-is_node.branch [
      | clone_entry-else-is_node-via-then-is_node+else-n-id b ↦ entry_late _ _ _ _ _ _ b.if-n-id.false (c.push-else-is_node.ensures _)
      | clone_entry-else-is_node-via-else-is_node b ↦ entry_kept _ _ _ _ _ _ _ c.is_node.ensures b.if-is_node.false (c.push-else-is_node.ensures _)
    ]

pub clone_field-returns-then-id-child : goal.clone_field-returns-then-id-child
clone_field-returns-then-id-child t c = λ r h k. field_shared _ _ _ _ _ _ _ _ c.sort_of.ensures c.plan_of.ensures _ c.in-Node.is c.u16_at-child.ensures _ c.if-id-child.true

pub clone_field-returns-in-Keep : goal.clone_field-returns-in-Keep
clone_field-returns-in-Keep t c = λ r h k. field_kept _ _ _ _ _ _ _ _ c.sort_of.ensures c.plan_of.ensures _ _ c.in-Keep.is c.word_of.ensures

pub clone_field-returns-else-id-child : goal.clone_field-returns-else-id-child
clone_field-returns-else-id-child t c = λ r h k.
    field_copied _ _ _ _ _ _ _ _ c.sort_of.ensures c.plan_of.ensures _ c.in-Node.is c.u16_at-child.ensures _ _ _ c.if-id-child.false
    (c.deep_clone_expr-copy.ensures r (omega (arith, c.if-id-child.false, h)))

pub clone_field-returns-in-List : goal.clone_field-returns-in-List
clone_field-returns-in-List t c = λ r h k.
    field_listed _ _ _ _ _ _ _ _ c.sort_of.ensures c.plan_of.ensures _ _ c.in-List.is _ _ c.u16_at.ensures c.second_u16.ensures _ _ _ _ _ _ k refl
    (c.clone_entries-entries.ensures r h (list_fits _ _ _ _ _ _ _ _ c.sort_of.ensures c.plan_of.ensures _ _ c.in-List.is _ _ c.u16_at.ensures c.second_u16.ensures k))
    c.new_list-copy.ensures c.list_word.ensures

pub deep_clone_expr-returns-then-ctx : goal.deep_clone_expr-returns-then-ctx
deep_clone_expr-returns-then-ctx t c = λ r h. copies_full _ _ _ _ _ _ h refl refl _ _ _ c.if-ctx.true c.if-ctx.true

pub deep_clone_expr-returns-then-kind-eq-LAMBDA : goal.deep_clone_expr-returns-then-kind-eq-LAMBDA
deep_clone_expr-returns-then-kind-eq-LAMBDA t c = λ r h. copies_lambda _ _ _ _ _ _ h c.expression_start-start.ensures (c.kind_at-kind.ensures ∙ kind_in _ _) _
    (elim c.then-kind-eq-LAMBDA.branch [
      | deep_clone_expr-then-kind-eq-LAMBDA-via-then-kind-eq-LAMBDA b ↦ ap is_lambda b.if-kind-eq-LAMBDA.true
      | deep_clone_expr-then-kind-eq-LAMBDA-via-else-kind-eq-LAMBDA+then-kind-eq-RESOLVED_LAMBDA b ↦ ap is_lambda b.if-kind-eq-RESOLVED_LAMBDA.true
    ])

pub deep_clone_expr-loop-rest-init : goal.deep_clone_expr-loop-rest-init
deep_clone_expr-loop-rest-init t c = (
  refl,
  (
    refl,
    (
      search rules,
      (
        codes_few _,
        (
          omega arith,
          (
            refl,
            λ r h. copying_none _ _ _ _ _ _ _ _ _ refl (search rules) (omega arith) h (row_codes _ _ _ r c.row_of-row.ensures) _ refl c.expression_start-start.ensures (c.kind_at-kind.ensures ∙ kind_in _ _),
          ),
        ),
      ),
    ),
  ),
)

pub deep_clone_expr-loop-rest-preserved : goal.deep_clone_expr-loop-rest-preserved
deep_clone_expr-loop-rest-preserved t c = (
  search rules,
  (
    search rules,
    (
      small_left _ c.loop-rest.invariant.1.1.0,
      (
        few_left _ _ c.loop-rest.invariant.1.1.0 c.loop-rest.invariant.1.1.1.0 c.loop-rest-test.true,
        (
          place_left _ _ _ c.loop-rest.invariant.1.1.1.1.0 (width_small _ _ c.sort_of.ensures _ c.width_of-place.ensures),
          (
            still_eight c.loop-rest.words _ c.loop-rest.j c.clone_field-field.result.made c.loop-rest.invariant.1.1.1.1.1.0 c.put.ensures,
            λ r h. copying_more _ _ _ _ _ _ _ _ _ _ _ _ (c.loop-rest.invariant.1.1.1.1.1.1 r h) c.loop-rest-test.true _ _ _ _ (c.clone_field-field.ensures r h (copying_field _ _ _ _ _ _ _ _ _ _ _ _ (c.loop-rest.invariant.1.1.1.1.1.1 r h) c.loop-rest-test.true)) (c.width_of-place.ensures ∙ ap width_of c.sort_of.ensures) c.put.ensures,
          ),
        ),
      ),
    ),
  ),
)

pub deep_clone_expr-returns : goal.deep_clone_expr-returns
deep_clone_expr-returns t c = λ r h.
    copies_record _ _ _ _ _ _ h c.expression_start-start.ensures (c.kind_at-kind.ensures ∙ kind_in _ _) _ _ _ _ _ (not_lambda _ c.if-kind-eq-LAMBDA.false c.if-kind-eq-RESOLVED_LAMBDA.false)
    (copying_whole _ _ _ _ _ _ _ (row_codes _ _ _ r c.row_of-row.ensures) _ _ _ (copying_all _ _ _ _ _ _ _ _ _ _ _ _ (c.loop-rest.invariant.1.1.1.1.1.1 r h) c.loop-rest-test.false))
    (as_made _ _ _ _ _ _ (c.new_expression.ensures _ _ _ (row_codes _ _ _ r c.row_of-row.ensures)))
