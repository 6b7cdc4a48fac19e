-- Lowering on trees, as the records are lowered: guards first, then the body, its returns wrapped where something is ensured. It shares
-- no helper with the contract reading.
use Rattle.std.specs.Prelude.{ℕ, suc, Bool, true, false, List, [], ◌∷◌, ◌++◌}
use Rattle.std.proofs.Math.Option.{Option, none, some}
use Rattle.rl_spec.specs.Tree.{Expr, null, identifier, unary, err_literal, is_err, result_unwrap, ascii}
use Rattle.rl_spec.specs.Statement.{Stmt, declaration, expression, return, return_alone, conditional, while, loop, break, continue, other_statement, Body, nil, ◌▸◌, Branch, branch, Else, no_else, else_branch, else_conditional}
use Rattle.rl_spec.specs.Message.{decimal}
use Rattle.rl_spec.specs.Mapped.{Text}
use Rattle.rl_spec.specs.Reading.{Check, Function}

infixr 5 ◌⧺◌
-- a body, and then another
unfoldable pub ◌⧺◌ : Body Text → Body Text → Body Text
nil ⧺ b = b
(s ▸ a) ⧺ b = s ▸ (a ⧺ b)

-- ---- guards

-- `std::res::result_unwrap(err(message))`; in a result function `return err(message)`
abbrev pub violation : Bool → Expr Text → Stmt Text
violation true m = return (err_literal m)
violation false m = expression (result_unwrap (err_literal m))

-- `if (cond) { s }`
abbrev pub only_if : Expr Text → Stmt Text → Stmt Text
only_if e s = conditional (branch (some e) (s ▸ nil)) no_else

-- `if (!cond) { violation }`
abbrev pub guard : Bool → Check Text → Stmt Text
guard r c = only_if (unary 5 c.condition) (violation r c.message)

-- the guards, and then the rest
unfoldable pub guards : Bool → List (Check Text) → Body Text → Body Text
guards r [] b = b
guards r (c ∷ cs) b = guard r c ▸ guards r cs b

-- ---- a wrapped return

-- what the names of temporaries begin with
abbrev pub reserved : Text
reserved = ascii "__ensure_ret_"

abbrev pub temporary : ℕ → Text
temporary n = reserved ++ decimal n

abbrev pub ret_name : Text
ret_name = ascii "ret"

-- of a result function: `if (std::res::is_err(temp)) { return temp }`
abbrev pub skip_err : Bool → Text → Body Text → Body Text
skip_err false t b = b
skip_err true t b = only_if (is_err (identifier t)) (return (identifier t)) ▸ b

-- of a result function: what the Ok holds
abbrev pub inner : Bool → Text → Expr Text
inner false t = identifier t
inner true t = result_unwrap (identifier t)

-- under the temporary's name
abbrev pub wrap_as : Bool → List (Check Text) → Text → Expr Text → Body Text
wrap_as r cs t e =
    declaration t e ▸ skip_err r t (declaration ret_name (inner r t) ▸ guards r cs (return (identifier t) ▸ nil))

abbrev pub wrap_return : Bool → List (Check Text) → ℕ → Expr Text → Body Text
wrap_return r cs n e = wrap_as r cs (temporary n) e

-- ---- the transform: what stands for it, and the number of the next temporary. A conditional that is an else branch is left alone.

module _ (r : Bool) (cs : List (Check Text)) where
  unfoldable mutual
    pub transform_stmt : ℕ → Stmt Text → Body Text × ℕ
    transform_stmt n (declaration x e) = (declaration x e ▸ nil, n)
    transform_stmt n (expression e) = (expression e ▸ nil, n)
    transform_stmt n (return e) = (wrap_return r cs n e, suc n)
    transform_stmt n return_alone = (wrap_return r cs n null, suc n)
    transform_stmt n (conditional b e) =
        let (b', n') = transform_branch n b in
        let (e', n'') = transform_else n' e in
        (conditional b' e' ▸ nil, n'')
    transform_stmt n (while e b) =
        let (b', n') = transform_body n b in
        (while e b' ▸ nil, n')
    transform_stmt n (loop b) =
        let (b', n') = transform_body n b in
        (loop b' ▸ nil, n')
    transform_stmt n break = (break ▸ nil, n)
    transform_stmt n continue = (continue ▸ nil, n)
    transform_stmt n other_statement = (other_statement ▸ nil, n)

    pub transform_body : ℕ → Body Text → Body Text × ℕ
    transform_body n nil = (nil, n)
    transform_body n (s ▸ b) =
        let (s', n') = transform_stmt n s in
        let (b', n'') = transform_body n' b in
        (s' ⧺ b', n'')

    pub transform_branch : ℕ → Branch Text → Branch Text × ℕ
    transform_branch n (branch e b) =
        let (b', n') = transform_body n b in
        (branch e b', n')

    pub transform_else : ℕ → Else Text → Else Text × ℕ
    transform_else n no_else = (no_else, n)
    transform_else n (else_branch b) =
        let (b', n') = transform_branch n b in
        (else_branch b', n')
    transform_else n (else_conditional b e) = (else_conditional b e, n)

-- ---- a bare last expression is wrapped after the returns before it, and comes ahead of the other statements

abbrev pub expression_of : Stmt Text → Option (Expr Text)
expression_of (declaration x e) = none
expression_of (expression e) = some e
expression_of (return e) = none
expression_of return_alone = none
expression_of (conditional b e) = none
expression_of (while e b) = none
expression_of (loop b) = none
expression_of break = none
expression_of continue = none
expression_of other_statement = none

-- the expression that ends a body
unfoldable pub trailing : Body Text → Option (Expr Text)
trailing nil = none
trailing (s ▸ nil) = expression_of s
trailing (s ▸ (t ▸ b)) = trailing (t ▸ b)

unfoldable pub without_last : Body Text → Body Text
without_last nil = nil
without_last (s ▸ nil) = nil
without_last (s ▸ (t ▸ b)) = s ▸ without_last (t ▸ b)

abbrev pub wrap_trailing : Bool → List (Check Text) → ℕ → Body Text → Option (Expr Text) → Body Text
wrap_trailing r cs n b none = b
wrap_trailing r cs n b (some e) = wrap_return r cs n e ⧺ without_last b

-- a transformed body and the next number
abbrev pub ended : Bool → List (Check Text) → Body Text × ℕ → Body Text
ended r cs t = wrap_trailing r cs t.1 t.0 (trailing t.0)

-- the body, its returns wrapped where something is ensured
abbrev pub ensured : Bool → List (Check Text) → Body Text → Body Text
ensured r [] b = b
ensured r (c ∷ cs) b = ended r (c ∷ cs) (transform_body r (c ∷ cs) 0 b)

-- THE LOWERED FUNCTION: without contracts
unfoldable pub lowered : Function Text → Function Text
lowered f =
    record {
      name = f.name;
      params = f.params;
      is_result = f.is_result;
      entry = [];
      ensures = [];
      body = guards f.is_result f.entry (ensured f.is_result f.ensures f.body);
    }
