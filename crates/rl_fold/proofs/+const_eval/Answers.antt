use Rattle.rl_fold.proofs.FoldLaws.{remembered, at_literal, at_identifier, at_grouping, at_unary, at_binary, late_grouping, late_unary, late_left, late_right, at_other}
use Rattle.rl_records.specs.Found.{found}
use Rattle.rl_fold.specs.Folding.{Folds}
use Rattle.rl_fold.proofs.+const_eval.Goals as goal
use Rattle.rl_fold.proofs.+const_eval.Goals.{in-Literal, in-Identifier, in-Grouping+then-e-n, in-Grouping+else-e-n, in-Unary+else-operand-n, in-Binary+then-left-n+then-right-n, in-Binary+else-left-n, else-left-n-via-then-left-n+else-right-n, else-left-n-via-else-left-n, in_default-form}

pub returns : goal.returns
returns t c = remembered _ _ _ _ _ _ _ _ _ _ value c.remember-2.ensures.value c.remember-2.ensures.by_index
  where
    value : Folds (found c.args.image) c.args.names.classes.now c.args.names.words.now c.args.names.count c.args.n c.args.memory.now c.match-form.v c.match-form.memory
    value =
        elim c.match-form.branch [
          | in-Literal w ↦ rw (w.v-is, w.memory-is) (at_literal _ _ _ _ _ _ c.form.result c.form.ensures _ w.in-Literal.is)
          | in-Identifier w ↦ rw (w.v-is, w.memory-is) (at_identifier _ _ _ _ _ _ c.form.result c.form.ensures _ _ w.in-Identifier.is w.lookup-v.ensures)
          | in-Grouping+then-e-n w ↦ rw (w.v-is, w.memory-is) (at_grouping _ _ _ _ _ _ c.form.result c.form.ensures _ _ _ w.in-Grouping.is w.if-e-n.true w.const_eval.ensures)
          | in-Grouping+else-e-n w ↦ rw (w.v-is, w.memory-is) (late_grouping _ _ _ _ _ _ c.form.result c.form.ensures _ w.in-Grouping.is w.if-e-n.false)
          | in-Unary+else-operand-n w ↦ rw (w.v-is, w.memory-is) (late_unary _ _ _ _ _ _ c.form.result c.form.ensures _ _ w.in-Unary.is w.if-operand-n.false)
          | in-Binary+then-left-n+then-right-n w ↦ rw (w.v-is, w.memory-is) (at_binary _ _ _ _ _ _ c.form.result c.form.ensures _ _ _ _ _ _ _ _ w.in-Binary.is w.if-left-n.true w.if-right-n.true w.const_eval-a.ensures w.const_eval-b.ensures (w.binary_folded.ensures c.args.image.starts.now))
          | in-Binary+else-left-n w ↦
              rw (w.v-is, w.memory-is)
              (elim w.else-left-n.branch [
                | else-left-n-via-then-left-n+else-right-n v ↦ late_right _ _ _ _ _ _ c.form.result c.form.ensures _ _ _ w.in-Binary.is v.if-right-n.false
                | else-left-n-via-else-left-n v ↦ late_left _ _ _ _ _ _ c.form.result c.form.ensures _ _ _ w.in-Binary.is v.if-left-n.false
              ])
          | in_default-form w ↦ rw (w.v-is, w.memory-is) (at_other _ _ _ _ _ _ c.form.result c.form.ensures w.in_default-form.not-Literal w.in_default-form.not-Identifier w.in_default-form.not-Grouping w.in_default-form.not-Unary w.in_default-form.not-Binary)
        ]

pub returns-then-operand-n : goal.returns-then-operand-n
returns-then-operand-n t c =
    remembered _ _ _ _ _ _ _ _ _ _
    (at_unary _ _ _ _ _ _ c.form.result c.form.ensures _ _ _ _ _ c.in-Unary.is c.if-operand-n.true c.const_eval-then-operand-n.ensures c.unary_folded-v.ensures)
    c.remember.ensures.value c.remember.ensures.by_index
