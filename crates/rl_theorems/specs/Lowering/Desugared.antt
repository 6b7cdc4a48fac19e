-- The new body of a function that is made stands for the guards and then for what its body's tree is lowered to.
-- Assumes nothing.
use Rattle.std.specs.Prelude.{◌≡◌, ℕ, suc, ◌-◌, ◌%◌, ◌^◌, Bool, true, false, cond, List, [], ◌∷◌, ◌++◌, map, negsuc, ◌==◌, None}
use Rattle.std.proofs.Math.Path.{refl, subst}
use Rattle.std.proofs.Common.{ap, arith, lt-ltb, le-ltb}
use Rattle.std.proofs.Math.Option
use Rattle.std.proofs.Math.Option.{Option, none, some}
use Rattle.rl_laws.specs.Tests.{by_ltb}
use Rattle.rl_spec.specs.declared.Section.TheVariants.{Parameters}
use Rattle.rl_spec.specs.declared.RefineOp as operator
use Rattle.rl_spec.specs.declared.RefineOperand.TheVariants.{Integer, Str, Bool as Truth, Param as Named}
use Rattle.rl_spec.specs.Answers.{refined}
use Rattle.rl_spec.specs.declared.Clause.{Clause}
use Rattle.rl_spec.specs.Image.{num, Image, record_of, text_of}
use Rattle.rl_spec.specs.Values as value
use Rattle.rl_spec.specs.Values.{RefineOp, gt, ge, lt, le, eq, ne}
use Rattle.rl_spec.specs.Tree.{literal, identifier, binary, ascii, signed, number}
use Rattle.rl_spec.specs.Statement.{Body, nil, ◌▸◌}
use Rattle.rl_spec.specs.Words.{bits64}
use Rattle.rl_spec.specs.Records.{refine_op, param_at}
use Rattle.rl_spec.specs.FnContracts.{RefineOperand, integer, str, bool, param, ParamRefinement, refinement_of, param_of, is_empty}
use Rattle.rl_spec.specs.Message.{refinement_text}
use Rattle.rl_spec.specs.Mapped.{Text, map_operand, map_refinement, map_param}
use Rattle.rl_spec.specs.Functions.{operator_of, operand_node, refinement_check, check_first, refinement_checks}
use Rattle.rl_spec.specs.Reading.{Check}
use Rattle.rl_spec.specs.Make.{Context, give, flat_map}
use Rattle.rl_spec.specs.Lower.{token_of, operand_expr, refine_predicate, refinement_guard, ensured_body, desugar_fn_contracts}
use Rattle.rl_theorems.specs.Lowering.LowerTrees as tree
use Rattle.rl_theorems.specs.Lowering.LowerTrees.{◌⧺◌}
use Rattle.rl_theorems.specs.Lowering.LoweredTo.{EnsuredTo, as_is}
use Rattle.rl_theorems.specs.Lowering.LowerBodies.{Ensured}
use Rattle.rl_images.specs.Lowering.GrowsTo.{◌⊕◌, GrowsTo, ◌▷◌, ◌▹◌, given}
use Rattle.rl_theorems.specs.Trees.Denotes.{IsExpr, a_literal, an_integer, a_bool, a_binary, no_rows, keep}
use Rattle.rl_theorems.specs.Lowering.MadeTrees.{expr_ok}
use Rattle.rl_theorems.specs.Lowering.Copied.{inside_of}
use Rattle.rl_theorems.specs.Lowering.Guarded.{Lines, a_line, keep_lines, both_lines, ident_ok, string_ok, guard_ok, Checks, no_checks, a_check, keep_checks, guards_ok}
use Rattle.rl_theorems.specs.Lowering.Wrapped.{guards_append}
use Rattle.rl_theorems.specs.Lowering.Trailing.{ensured_ok}

-- ---- operands

-- an integer of 64 bits
abbrev Ranged : RefineOperand ℕ → Type 0
Ranged (integer v) = signed 64 (bits64 v) ≡ v
Ranged (str t) = Unit {0}
Ranged (bool b) = Unit {0}
Ranged (param t) = Unit {0}

signed_bits : (n : ℕ) → signed 64 (bits64 (signed 64 n)) ≡ signed 64 n
signed_bits n =
    by_ltb n (2 ^ 63) (λ h. rw (lt-ltb n (2 ^ 63) h) (rw (lt-ltb n (2 ^ 63) h) refl))
    (λ h. rw (le-ltb n (2 ^ 63) h) (rw (le-ltb (2 ^ 64 - suc (2 ^ 64 - suc n)) (2 ^ 63) (omega arith)) (ap negsuc (omega arith))))

bool_bits : (b : Bool) → (cond b 1 0 == 1) ≡ b
bool_bits true = refl
bool_bits false = refl

token_is : (op : RefineOp) → token_of op ≡ operator_of op
token_is gt = refl
token_is ge = refl
token_is lt = refl
token_is le = refl
token_is eq = refl
token_is ne = refl

module _ (im : Image) where
  operand_ok : (o : RefineOperand ℕ) → Ranged o → (ctx : Context) →
      GrowsTo ctx (λ n c. IsExpr c.image n (operand_node (map_operand (text_of im) o))) (operand_expr im o ctx)
  operand_ok (integer v) h ctx =
      expr_ok 17 (num (bits64 v) ∷ []) ctx ▹ λ n c k f.
      subst (λ v. IsExpr c.image n (literal (some (value.int v)))) h (f _ (a_literal an_integer))
  operand_ok (str t) h ctx = string_ok (text_of im t) ctx
  operand_ok (bool b) h ctx =
      expr_ok 26 (num (cond b 1 0) ∷ []) ctx ▹ λ n c k f.
      subst (λ b. IsExpr c.image n (literal (some (value.bool b)))) (bool_bits b) (f _ (a_literal a_bool))
  operand_ok (param t) h ctx = ident_ok (text_of im t) ctx

  predicate_ok : (name : ℕ) (p : ParamRefinement ℕ) → Ranged p.operand → (ctx : Context) →
      GrowsTo ctx (λ n c. IsExpr c.image n (refinement_check (text_of im name) (map_refinement (text_of im) p)).condition) (refine_predicate im name p ctx)
  unfolding refine_predicate
  predicate_ok name p h ctx =
      operand_ok p.operand h ctx ▷ λ right c₁ k₁ h₁. ident_ok (text_of im name) c₁ ▷ λ left c₂ k₂ h₂.
      expr_ok 32 (num left ∷ num (token_of p.op) ∷ num right ∷ []) c₂ ▹ λ n c₃ k₃ f.
      let r = keep k₂.image h₁ in
      subst (λ op. IsExpr c₃.image n (binary (identifier (text_of im name)) op (operand_node (map_operand (text_of im) p.operand)))) (token_is p.op)
      (f _ (a_binary refl (inside_of h₂) (inside_of r) h₂ r))

  abbrev RangedOption : Option (ParamRefinement ℕ) → Type 0
  RangedOption none = Unit {0}
  RangedOption (some p) = Ranged p.operand

  refinement_ok : (name : ℕ) (o : Option (ParamRefinement ℕ)) → RangedOption o → (ctx : Context) →
      GrowsTo ctx (λ ns c. Lines c.image ns (tree.guards ctx.is_result (check_first (text_of im name) (Option.map (map_refinement (text_of im)) o) []) nil)) (refinement_guard im name o ctx)
  unfolding tree.guards
  refinement_ok name none h ctx = given no_rows
  refinement_ok name (some p) h ctx =
      predicate_ok name p h ctx ▷ λ pred c₁ k₁ h₁. string_ok (refinement_text (text_of im name) (some (map_refinement (text_of im) p))) c₁ ▷ λ msg c₂ k₂ h₂.
      guard_ok pred msg c₂ ▷ λ s c₃ k₃ h₃.
      given (a_line (rw (k₁ ⊕ k₂).is_result at (h₃ (refinement_check (text_of im name) (map_refinement (text_of im) p)) (keep k₂.image h₁) h₂)) no_rows)

  by_sort : (op : operator.RefineOp) (x t : ℕ) (u : Bool) (absent a b c : Bool) →
      RangedOption (refinement_of (cond absent None (refined op (cond a (Integer (signed 64 x)) (cond b (Str t) (cond c (Truth u) (Named t)))))))
  by_sort op x t u true a b c = tt
  by_sort op x t u false true b c = signed_bits x
  by_sort op x t u false false true c = tt
  by_sort op x t u false false false true = tt
  by_sort op x t u false false false false = tt

  ranged : (i : ℕ) → RangedOption (param_of im i).refinement
  unfolding param_of param_at
  ranged i =
      let r = record_of im Parameters i in
      by_sort (refine_op (number r 2)) (number r 4) (number r 4 % 65536) (number r 4 == 1) (number r 2 == 0)
      (number r 3 == 1) (number r 3 == 2) (number r 3 == 3)

  guards_first : (r : Bool) (name : ℕ) (o : Option (ParamRefinement ℕ)) (rest : List (Check Text)) →
      tree.guards r (check_first (text_of im name) (Option.map (map_refinement (text_of im)) o) []) nil ⧺ tree.guards r rest nil ≡ tree.guards r (check_first (text_of im name) (Option.map (map_refinement (text_of im)) o) rest) nil
  unfolding tree.guards ◌⧺◌
  guards_first r name none rest = refl
  guards_first r name (some p) rest = refl

  -- the guards of the refinements
  refined_ok : (is : List ℕ) (ctx : Context) →
      GrowsTo ctx (λ ns c. Lines c.image ns (tree.guards ctx.is_result (refinement_checks (map (map_param (text_of im)) (map (param_of im) is))) nil))
      (flat_map (λ p. refinement_guard im p.name p.refinement) (map (param_of im) is) ctx)
  unfolding flat_map refinement_checks tree.guards
  refined_ok [] ctx = given no_rows
  refined_ok (i ∷ is) ctx =
      let p = param_of im i in
      refinement_ok p.name p.refinement (ranged i) ctx ▷ λ ns c₁ k₁ h₁. refined_ok is c₁ ▷ λ ms c₂ k₂ h₂.
      given (subst (Lines c₂.image (ns ++ ms))
      (guards_first ctx.is_result p.name p.refinement (refinement_checks (map (map_param (text_of im)) (map (param_of im) is))))
      (both_lines (keep_lines k₂.image h₁) (rw k₁.is_result at h₂)))

-- ---- the whole body

guards_both : (r : Bool) (xs ys : List (Check Text)) (b : Body Text) →
    (tree.guards r xs nil ⧺ tree.guards r ys nil) ⧺ b ≡ tree.guards r (xs ++ ys) b
unfolding tree.guards ◌⧺◌
guards_both r [] ys b = guards_append r ys b
guards_both r (k ∷ xs) ys b = ap (λ x. tree.guard r k ▸ x) (guards_both r xs ys b)

-- what comes behind the guards
rest_ok : (ctx : Context) {ns : List ℕ} {b : Body Text} {ensures : List Clause} {es : List (Check Text)} →
    Checks ctx.image (ascii "ensures violated") ensures es → Lines ctx.image ns b → Ensured es b →
    GrowsTo ctx (λ ms c. (rest : Body Text) × Lines c.image ms rest × EnsuredTo ctx.is_result es b rest)
    (cond (is_empty ensures) (give ns) (ensured_body ensures ns) ctx)
rest_ok ctx {b = b} no_checks h o = given (b, h, as_is refl)
rest_ok ctx {ns} {b} (a_check {c = c} {cs = cs} {k = k} {ks = ks} x m xs) h o =
    ensured_ok (c ∷ cs) ns ctx ▹ λ ms c₁ k₁ f. f k ks _ b (a_check x m xs) h o

-- THEOREM: the new body
pub desugared_ok : (is ns : List ℕ) (requires ensures : List Clause) (ctx : Context) (rs es : List (Check Text)) (b : Body Text) →
    Checks ctx.image (ascii "requires violated") requires rs → Checks ctx.image (ascii "ensures violated") ensures es →
    Lines ctx.image ns b → Ensured es b →
    GrowsTo ctx (λ ms c. (rest : Body Text)
    × Lines c.image ms (tree.guards ctx.is_result (refinement_checks (map (map_param (text_of ctx.image)) (map (param_of ctx.image) is)) ++ rs) rest)
    × EnsuredTo ctx.is_result es b rest)
    (desugar_fn_contracts (map (param_of ctx.image) is) ns requires ensures ctx)
unfolding desugar_fn_contracts
desugared_ok is ns requires ensures ctx rs es b p q x o =
    refined_ok ctx.image is ctx ▷ λ refined c₁ k₁ h₁. guards_ok (ascii "requires violated") requires c₁ ▷ λ required c₂ k₂ h₂.
    let k = k₁ ⊕ k₂ in
    rest_ok c₂ (keep_checks k.image q) (keep_lines k.image x) o ▷ λ last c₃ k₃ h₃.
    let required' = rw k₁.is_result at (h₂ rs (keep_checks k₁.image p)) in
    given (
      h₃.0,
      subst (Lines c₃.image _) (guards_both ctx.is_result (refinement_checks (map (map_param (text_of ctx.image)) (map (param_of ctx.image) is))) rs h₃.0)
          (both_lines (both_lines (keep_lines (k₂ ⊕ k₃).image h₁) (keep_lines k₃.image required')) h₃.1),
      rw k.is_result at h₃.2,
    )
