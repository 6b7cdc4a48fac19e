-- A wrapped return that is made stands for the one of the trees.
-- Assumes nothing.
use Rattle.std.specs.Prelude.{◌≡◌, ℕ, Bool, true, false, cond, List, [], ◌∷◌, ◌++◌, refl}
use Rattle.std.proofs.Common.{ap, subst}
use Rattle.rl_spec.specs.declared.Clause.{Clause}
use Rattle.rl_spec.specs.Image.{num, Image}
use Rattle.rl_spec.specs.Tree.{Expr, identifier, ascii}
use Rattle.rl_spec.specs.Statement.{declaration, return, Body, nil, ◌▸◌, a_statement}
use Rattle.rl_spec.specs.Message.{decimal}
use Rattle.rl_spec.specs.Mapped.{Text}
use Rattle.rl_spec.specs.Reading.{Check}
use Rattle.rl_spec.specs.Make.{Context, give}
use Rattle.rl_spec.specs.Lower.{declare, unwrap_call, return_of, skip_err, wrap_as, wrap_return}
use Rattle.rl_theorems.specs.Lowering.LowerTrees as tree
use Rattle.rl_theorems.specs.Lowering.LowerTrees.{◌⧺◌}
use Rattle.rl_theorems.specs.Lowering.LowerFrame.{begins}
use Rattle.rl_theorems.specs.Lowering.LowerBodies.{temporary_reserved}
use Rattle.rl_images.specs.Lowering.GrowsTo.{◌⊕◌, GrowsTo, ◌▷◌, ◌▹◌, given, temp_good}
use Rattle.rl_theorems.specs.Trees.Denotes.{IsExpr, IsLine, a_declaration, no_rows, keep, keep_line}
use Rattle.rl_theorems.specs.Lowering.MadeTrees.{stmt_ok, text_ok}
use Rattle.rl_theorems.specs.Lowering.Guarded.{Lines, a_line, keep_lines, both_lines, ident_ok, is_err_ok_lem, unwrap_ok, return_ok, only_ok, Checks, keep_checks, guards_ok}

-- ---- bodies

pub guards_append : (r : Bool) (ks : List (Check Text)) (b : Body Text) → tree.guards r ks nil ⧺ b ≡ tree.guards r ks b
unfolding ◌⧺◌ tree.guards
guards_append r [] b = refl
guards_append r (k ∷ ks) b = ap (λ a. tree.guard r k ▸ a) (guards_append r ks b)

wrap_parts : (r : Bool) (ks : List (Check Text)) (t : Text) (e : Expr Text) →
    ((declaration t e ▸ tree.skip_err r t nil) ⧺ (declaration tree.ret_name (tree.inner r t) ▸ tree.guards r ks nil))
    ⧺ (return (identifier t) ▸ nil)
    ≡ tree.wrap_as r ks t e
unfolding ◌⧺◌
wrap_parts true ks t e =
    ap (λ b. declaration t e ▸ tree.skip_err true t (declaration tree.ret_name (tree.inner true t) ▸ b))
    (guards_append true ks (return (identifier t) ▸ nil))
wrap_parts false ks t e =
    ap (λ b. declaration t e ▸ declaration tree.ret_name (tree.inner false t) ▸ b) (guards_append false ks (return (identifier t) ▸ nil))

-- ---- the parts

declare_ok : (name : Text) (value : ℕ) (ctx : Context) →
    GrowsTo ctx (λ n c. (e : Expr Text) → IsExpr ctx.image value e → IsLine c.image n (a_statement (declaration name e)))
    (declare name value ctx)
unfolding declare
declare_ok name value ctx =
    text_ok name ctx ▷ λ t c₁ k₁ h₁. stmt_ok 64 c₁.span (num t ∷ num 0 ∷ num value ∷ num 0 ∷ []) c₁ ▹ λ n c₂ k₂ f e h.
    f _ (a_declaration refl h₁ (keep k₁.image h))

return_of_ok : (temp : Text) (ctx : Context) → GrowsTo ctx (λ n c. IsLine c.image n (a_statement (return (identifier temp)))) (return_of temp ctx)
unfolding return_of
return_of_ok temp ctx = ident_ok temp ctx ▷ λ n c₁ k₁ h₁. return_ok n c₁ ▹ λ s c₂ k₂ f. f _ h₁

skip_ok : (r : Bool) (temp : Text) (ctx : Context) →
    GrowsTo ctx (λ ns c. Lines c.image ns (tree.skip_err r temp nil)) (cond r (skip_err temp) (give []) ctx)
skip_ok true temp ctx =
    ident_ok temp ctx ▷ λ n c₁ k₁ h₁. is_err_ok_lem n c₁ ▷ λ check c₂ k₂ h₂. return_of_ok temp c₂ ▷ λ s c₃ k₃ h₃.
    only_ok check s c₃ ▷ λ skip c₄ k₄ h₄. given (a_line (h₄ _ _ (keep k₃.image (h₂ _ h₁)) h₃) no_rows)
skip_ok false temp ctx = given no_rows

inner_ok : (r : Bool) (temp : Text) (n : ℕ) (ctx : Context) →
    GrowsTo ctx (λ m c. IsExpr ctx.image n (identifier temp) → IsExpr c.image m (tree.inner r temp)) (cond r (unwrap_call n) (give n) ctx)
inner_ok true temp n ctx = unwrap_ok n ctx ▹ λ m c k f h. f _ h
inner_ok false temp n ctx = given λ h. h

-- ---- the whole

abbrev pub WrapTo : Bool → Text → Image → ℕ → List Clause → Image → List ℕ → Type 0
WrapTo r temp im value ensures im' ns =
    (e : Expr Text) (ks : List (Check Text)) → IsExpr im value e → Checks im (ascii "ensures violated") ensures ks →
    Lines im' ns (tree.wrap_as r ks temp e)

wrap_ok : (temp : Text) (value : ℕ) (ensures : List Clause) (ctx : Context) →
    GrowsTo ctx (λ ns c. WrapTo ctx.is_result temp ctx.image value ensures c.image ns) (wrap_as temp ctx.is_result value ensures ctx)
unfolding wrap_as
wrap_ok temp value ensures ctx =
    declare_ok temp value ctx ▷ λ dec c₁ k₁ h₁. skip_ok r temp c₁ ▷ λ skip c₂ k₂ h₂. ident_ok temp c₂ ▷ λ n c₃ k₃ h₃.
    inner_ok r temp n c₃ ▷ λ m c₄ k₄ h₄. declare_ok (ascii "ret") m c₄ ▷ λ ret c₅ k₅ h₅.
    guards_ok (ascii "ensures violated") ensures c₅ ▷ λ gs c₆ k₆ h₆. return_of_ok temp c₆ ▷ λ s c₇ k₇ h₇.
    given λ e ks h d.
    let l₁ = a_line (keep_line (k₂ ⊕ k₃ ⊕ k₄ ⊕ k₅ ⊕ k₆ ⊕ k₇).image (h₁ e h)) (keep_lines (k₃ ⊕ k₄ ⊕ k₅ ⊕ k₆ ⊕ k₇).image h₂) in
    let before = k₁ ⊕ k₂ ⊕ k₃ ⊕ k₄ ⊕ k₅ in
    let l₂ = rw before.is_result at (h₆ ks (keep_checks before.image d)) in
    let l₃ = a_line (keep_line (k₆ ⊕ k₇).image (h₅ _ (h₄ h₃))) (keep_lines k₇.image l₂) in
    subst (Lines c₇.image _) (wrap_parts r ks temp e) (both_lines (both_lines l₁ l₃) (a_line h₇ no_rows))
  where
    r : Bool
    r = ctx.is_result

-- THEOREM: a wrapped return, under a name that is reserved
pub wrapped_ok : (value : ℕ) (ensures : List Clause) (ctx : Context) →
    GrowsTo ctx (λ ns c. (t : Text) × (begins tree.reserved t ≡ true) × WrapTo ctx.is_result t ctx.image value ensures c.image ns)
    (wrap_return value ensures ctx)
unfolding wrap_return
wrapped_ok value ensures ctx =
    temp_good ctx ▷ λ n c₁ k₁ h₁. wrap_ok (ascii "__ensure_ret_" ++ decimal n) value ensures c₁ ▹ λ ns c₂ k₂ h₂.
    (tree.temporary n, temporary_reserved n, λ e ks h d. rw k₁.is_result at (h₂ e ks (keep k₁.image h) (keep_checks k₁.image d)))
