-- The fields of every kind, in 01's letters: what fills each of them, what is refused there and by which number, and bytes that end in it.
-- Assumes nothing.
use Rattle.std.specs.Prelude.{◌≡◌, ℕ, zero, suc, List, [], ◌∷◌, ◌++◌, map, replicate, refl}
use Rattle.rl_examples.specs.ByteRows.{Row, actual, expected, reading}
use Rattle.rl_examples.specs.FieldRows.{an_expression, a_statement, a_parameter, a_clause, a_function, a_call, Field, field, cut, changed, kind, u32, raw, set, flag, operator, scalar, t, n, n_or_none, s, branch, else_branch, l, l_of_t, pairsNN, pairsTN, body, arms, parameters, clauses}

-- ---- expressions and statements, with their span

abbrev node : ℕ → List Field → List Row
node k fs = kind an_expression k (u32 ∷ fs)

unfoldable pub expressions : List (List Row)
expressions =
    -- 16 Null; 17 Integer i64; 18 SInt i32; 19 UInt u64; 20 SUInt u32; 21 Byte u8; 22 SByte i8; 23 BByte u16; 24 BSByte i16
    node 16 []
    ∷ node 17 (raw 8 ∷ [])
    ∷ node 18 (raw 4 ∷ [])
    ∷ node 19 (raw 8 ∷ [])
    ∷ node 20 (raw 4 ∷ [])
    ∷ node 21 (raw 1 ∷ [])
    ∷ node 22 (raw 1 ∷ [])
    ∷ node 23 (raw 2 ∷ [])
    ∷ node 24 (raw 2 ∷ [])
    -- 25 String t; 26 Bool (0, 1); 27 Float 8 bytes; 28 SFloat 4 bytes; 29 Character u32, a Unicode scalar
    ∷ node 25 (t ∷ [])
    ∷ node 26 (flag ∷ [])
    ∷ node 27 (raw 8 ∷ [])
    ∷ node 28 (raw 4 ∷ [])
    ∷ node 29 (scalar ∷ [])
    -- 30 Identifier t; 31 ResolvedIdentifier t h h; 32 Binary n, operator, n; 33 Unary operator, n; 34 Grouping n
    ∷ node 30 (t ∷ [])
    ∷ node 31 (t ∷ u32 ∷ u32 ∷ [])
    ∷ node 32 (n ∷ operator ∷ n ∷ [])
    ∷ node 33 (operator ∷ n ∷ [])
    ∷ node 34 (n ∷ [])
    -- 35 ArrayLiteral l; 36 MapLiteral l of pairs n n; 37 SetLiteral l; 38 TupleLiteral l; 39 Assign t n; 40 ResolvedAssign t h h n
    ∷ node 35 (l ∷ [])
    ∷ node 36 (pairsNN ∷ [])
    ∷ node 37 (l ∷ [])
    ∷ node 38 (l ∷ [])
    ∷ node 39 (t ∷ n ∷ [])
    ∷ node 40 (t ∷ u32 ∷ u32 ∷ n ∷ [])
    -- 41 Call l of t, l; 42 CallExpr n l; 43 MethodCall n, l of t, l; 44 Index n n; 45 IndexAssign n n n; 46 Cast n h; 47 Is n h
    ∷ node 41 (l_of_t ∷ l ∷ [])
    ∷ node 42 (n ∷ l ∷ [])
    ∷ node 43 (n ∷ l_of_t ∷ l ∷ [])
    ∷ node 44 (n ∷ n ∷ [])
    ∷ node 45 (n ∷ n ∷ n ∷ [])
    ∷ node 46 (n ∷ u32 ∷ [])
    ∷ node 47 (n ∷ u32 ∷ [])
    -- 48 ErrorLiteral, 49 OkLiteral, 50 ErrLiteral, 51 Propagate: n
    ∷ node 48 (n ∷ [])
    ∷ node 49 (n ∷ [])
    ∷ node 50 (n ∷ [])
    ∷ node 51 (n ∷ [])
    -- 52 StructLiteral t, l of pairs t n; 53 FieldAccess n t; 54 FieldAssign n t n; 55 EnumVariant t t; 56 Lambda, 57 ResolvedLambda: h
    ∷ node 52 (t ∷ pairsTN ∷ [])
    ∷ node 53 (n ∷ t ∷ [])
    ∷ node 54 (n ∷ t ∷ n ∷ [])
    ∷ node 55 (t ∷ t ∷ [])
    ∷ node 56 (u32 ∷ [])
    ∷ node 57 (u32 ∷ [])
    ∷ []

-- THEOREM: they are answered so
pub expressions_so : map (map actual) expressions ≡ map (map expected) expressions
unfolding reading expressions cut changed
expressions_so = refl

abbrev statement : ℕ → List Field → List Row
statement k fs = kind a_statement k (u32 ∷ fs)

unfoldable pub statements : List (List Row)
statements =
    -- 64 VariableDeclaration t, h type, n, h rest; 65 Expression n; 66 Return n; 67 Return alone
    statement 64 (t ∷ u32 ∷ n ∷ u32 ∷ [])
    ∷ statement 65 (n ∷ [])
    ∷ statement 66 (n ∷ [])
    ∷ statement 67 []
    -- 68 Conditional s (a 69), s (69, 68 or none); 69 ConditionalBranch n or none, l, needs_scope (0, 1); 70 While n l; 71 Loop l
    ∷ statement 68 (branch ∷ else_branch ∷ [])
    ∷ statement 69 (n_or_none ∷ body ∷ flag ∷ [])
    ∷ statement 70 (n ∷ body ∷ [])
    ∷ statement 71 (body ∷ [])
    -- 72 For s n n l; 73 ForRange t s l; 74 ForEach t n l; 75 Match n, l of 76; 76 arm: n or none, l; 77 Break; 78 Continue; 79 h
    ∷ statement 72 (s ∷ n ∷ n ∷ body ∷ [])
    ∷ statement 73 (t ∷ s ∷ body ∷ [])
    ∷ statement 74 (t ∷ n ∷ body ∷ [])
    ∷ statement 75 (n ∷ arms ∷ [])
    ∷ statement 76 (n_or_none ∷ body ∷ [])
    ∷ statement 77 []
    ∷ statement 78 []
    ∷ statement 79 (u32 ∷ [])
    ∷ []

-- THEOREM: they are answered so
pub statements_so : map (map actual) statements ≡ map (map expected) statements
unfolding reading statements cut changed
statements_so = refl

-- ---- parameters, clauses, functions, calls

-- n bytes of which one is not 0
unfoldable pub spoiled : ℕ → List (List ℕ)
spoiled zero = []
spoiled (suc n) = (1 ∷ replicate n 0) ∷ map (λ s. 0 ∷ s) (spoiled n)

-- eight bytes, by those that are used: some, others, and those that are refused. The unused ones are 0
abbrev operand : List ℕ → List (List ℕ) → List (ℕ × List ℕ) → ℕ → Field
operand good also bad unused =
    field (good ++ replicate unused 0) (map (λ u. u ++ replicate unused 0) also)
    (map (λ (b : ℕ × List ℕ). (b.0, b.1 ++ replicate unused 0)) bad ++ map (λ s. (7, good ++ s)) (spoiled unused))

-- a text that is not there is 8, as in any other field
abbrev a_text : Field
a_text = operand (1 ∷ 0 ∷ []) ((0 ∷ 0 ∷ []) ∷ []) ((8, 2 ∷ 0 ∷ []) ∷ (8, 255 ∷ 255 ∷ []) ∷ []) 6

unfoldable pub others : List (List Row)
others =
    -- Parameter 80: t, h, refinement, operand sort, 8 bytes. Refinement 0 with operand sort 0, and with no other one
    kind a_parameter 80 (t ∷ u32 ∷ set 0 [] (7 ∷ 255 ∷ []) ∷ set 0 [] (1 ∷ 2 ∷ 3 ∷ 4 ∷ 5 ∷ []) ∷ operand [] [] [] 8 ∷ [])
    -- refinements 1 to 6 with operand sorts 1 to 4; 1, an i64
    ∷ kind a_parameter 80
    (t ∷ u32 ∷ set 1 (2 ∷ 3 ∷ 4 ∷ 5 ∷ 6 ∷ []) (7 ∷ []) ∷ set 1 (2 ∷ 3 ∷ 4 ∷ []) (0 ∷ 5 ∷ 255 ∷ [])
    ∷ field (replicate 8 0) (replicate 8 255 ∷ []) [] ∷ [])
    -- 2, a text; 3, 0 or 1; 4, a text
    ∷ kind a_parameter 80 (t ∷ u32 ∷ set 6 [] (7 ∷ []) ∷ set 2 [] (0 ∷ 5 ∷ []) ∷ a_text ∷ [])
    ∷ kind a_parameter 80
    (t ∷ u32 ∷ set 6 [] (7 ∷ []) ∷ set 3 [] (0 ∷ 5 ∷ [])
    ∷ operand (1 ∷ []) ((0 ∷ []) ∷ []) ((7, 2 ∷ []) ∷ (7, 255 ∷ []) ∷ []) 7 ∷ [])
    ∷ kind a_parameter 80 (t ∷ u32 ∷ set 6 [] (7 ∷ []) ∷ set 4 [] (0 ∷ 5 ∷ []) ∷ a_text ∷ [])
    -- Clause 81: n, message n or none. Function 82: t, span u32, parameters, result flag (0, 1), body l, requires and ensures. Call 83:
    -- callee t, span u32, l
    ∷ kind a_clause 81 (n ∷ n_or_none ∷ [])
    ∷ kind a_function 82 (t ∷ u32 ∷ parameters ∷ flag ∷ body ∷ clauses ∷ clauses ∷ [])
    ∷ kind a_call 83 (t ∷ u32 ∷ l ∷ [])
    ∷ []

-- THEOREM: they are answered so
pub others_so : map (map actual) others ≡ map (map expected) others
unfolding reading others spoiled cut changed
others_so = refl
