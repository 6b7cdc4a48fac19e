use Rattle.rl_fold.proofs.+const_eval.Given as goal

abbrev pub decreases-const_eval : goal.decreases-const_eval
decreases-const_eval l = l.n
