-- The lowered body of a function is sound.
-- Assumes nothing.
use Rattle.std.specs.Prelude.{◌≡◌, ℕ, zero, suc, ◌-◌, ◌<◌, ◌≤◌, Bool, true, false, cond, not, ◌&&◌, List, [], ◌∷◌, ◌++◌, length, take, ◌==◌, slice_index, refl}
use Rattle.std.proofs.lemmas.Bool.{false≢true}
use Rattle.std.proofs.Math.Option.{Option, none, some}
use Rattle.std.proofs.Common.{arith, eqb-true}
use Rattle.rl_spec.specs.declared.Section.{Section}
use Rattle.rl_spec.specs.declared.Target.{Target}
use Rattle.rl_spec.specs.declared.Target.TheVariants.{Statement}
use Rattle.rl_spec.specs.declared.Clause.{Clause}
use Rattle.rl_spec.specs.Schema.{in_section, sort_of, fields_of, fields_in, schema}
use Rattle.rl_spec.specs.Image.{num, Rec, Image, field_of, text_of}
use Rattle.rl_spec.specs.Values.{RefineOp, gt, ge, lt, le, eq, ne}
use Rattle.rl_spec.specs.Tree.{ascii, number}
use Rattle.rl_spec.specs.Words.{bits64}
use Rattle.rl_spec.specs.FnContracts.{RefineOperand, integer, str, bool, param, ParamRefinement, Param, is_empty}
use Rattle.rl_spec.specs.Mapped.{map_refinement}
use Rattle.rl_spec.specs.Message.{refinement_text}
use Rattle.rl_spec.specs.Make.{Context, ◌>>=◌, give, flat_map}
use Rattle.rl_spec.specs.Lower.{expr, wrap_return, token_of, operand_expr, refine_predicate, refinement_guard, last_of, wrap_trailing, transform_statement, ensured_body, desugar_fn_contracts}
use Rattle.rl_images.specs.Lowering.GrowsTo.{Every}
use Rattle.rl_theorems.specs.Images.ProperTexts.{Proper, OperandReady, refinement_proper, requires_proper}
use Rattle.rl_images.specs.Images.SchemaSorts.{and_left, and_right}
use Rattle.rl_theorems.specs.Images.NewReferences.{Ref, ref_there, Refs, no_refs, ref, refs_higher, refs_append, one_ref}
use Rattle.rl_theorems.specs.Images.KeepsSound.{KeepsSound, sure_given, sure_test, sure_ready, ref_on, refs_on, Node, Line, Lines, node_sure, ◌then◌, ◌⇝◌}
use Rattle.rl_theorems.specs.Images.NewFields.{nil_held, cons_held, raw_held, byte_held, one_held}
use Rattle.rl_theorems.specs.Images.SoundGuards.{every_on, ClauseReady, clause_on, clauses_sure, ident_sure, string_sure, guard_sure, wrap_sure}
use Rattle.rl_theorems.specs.Images.SoundTransforms.{own_field, flat_sure, transform_sure}

-- ---- refinements

truth_fits : (b : Bool) → (0 ≤ cond b 1 0) × (cond b 1 0 ≤ 1)
truth_fits true = (omega arith, omega arith)
truth_fits false = (omega arith, omega arith)

token_fits : (op : RefineOp) → (1 ≤ token_of op) × (token_of op ≤ 63)
token_fits gt = (omega arith, omega arith)
token_fits ge = (omega arith, omega arith)
token_fits lt = (omega arith, omega arith)
token_fits le = (omega arith, omega arith)
token_fits eq = (omega arith, omega arith)
token_fits ne = (omega arith, omega arith)

operand_sure : (im : Image) (x : RefineOperand ℕ) (c : Context) → OperandReady im x → KeepsSound c (Node 1) (operand_expr im x c)
unfolding expr in_section fields_of fields_in schema sort_of
operand_sure im (integer v) c p =
    sure_ready λ r. node_sure {h = 0} 17 (num c.span ∷ num (bits64 v) ∷ []) c refl (omega arith)
    (cons_held refl (raw_held r.span) (cons_held refl (raw_held p) nil_held))
operand_sure im (str s) c p = string_sure (text_of im s) p c
operand_sure im (bool b) c p =
    sure_ready λ r. node_sure {h = 0} 26 (num c.span ∷ num (cond b 1 0) ∷ []) c refl (omega arith)
    (cons_held refl (raw_held r.span) (cons_held refl (byte_held (truth_fits b)) nil_held))
operand_sure im (param t) c p = ident_sure (text_of im t) p c

predicate_sure : (im : Image) (name : ℕ) (r : ParamRefinement ℕ) (c : Context) → Proper (text_of im name) → OperandReady im r.operand →
    KeepsSound c (Node 2) (refine_predicate im name r c)
unfolding refine_predicate expr in_section fields_of fields_in schema sort_of
predicate_sure im name r c p q =
    operand_sure im r.operand c q ⇝ λ right d on x. ident_sure (text_of im name) p d ⇝ λ left e on' y.
    sure_ready λ ready. node_sure {h = 1} 32 (num e.span ∷ num left ∷ num (token_of r.op) ∷ num right ∷ []) e refl (omega arith)
    (cons_held refl (raw_held ready.span)
    (cons_held refl (one_held y) (cons_held refl (byte_held (token_fits r.op)) (cons_held refl (one_held (ref_on on' x)) nil_held))))

abbrev pub RefinementReady : Image → ℕ → Option (ParamRefinement ℕ) → Type 0
RefinementReady im name none = Unit {0}
RefinementReady im name (some r) = Proper (text_of im name) × OperandReady im r.operand

refinement_sure : (im : Image) (name : ℕ) (r : Option (ParamRefinement ℕ)) (c : Context) → RefinementReady im name r →
    KeepsSound c (Lines 3) (refinement_guard im name r c)
refinement_sure im name none c p = sure_given no_refs
refinement_sure im name (some r) c p =
    predicate_sure im name r c p.0 p.1 ⇝ λ pred d on x.
    string_sure (refinement_text (text_of im name) (some (map_refinement (text_of im) r))) (refinement_proper im name r p.0 p.1) d ⇝ λ msg e on' y.
    guard_sure pred msg e (omega arith) (omega arith) (ref_on on' x) y ⇝ λ s f on'' z.
    sure_given (ref z no_refs)

abbrev pub ParamsReady : Image → List (Param ℕ) → Type 0
ParamsReady im [] = Unit {0}
ParamsReady im (p ∷ ps) = RefinementReady im p.name p.refinement × ParamsReady im ps

refinements_sure : (im : Image) (ps : List (Param ℕ)) (c : Context) → ParamsReady im ps →
    KeepsSound c (Lines 3) (flat_map (λ p. refinement_guard im p.name p.refinement) ps c)
unfolding flat_map
refinements_sure im [] c h = sure_given no_refs
refinements_sure im (p ∷ ps) c h =
    refinement_sure im p.name p.refinement c h.0 ⇝ λ ss d on x. refinements_sure im ps d h.1 ⇝ λ ts e on' y.
    sure_given (refs_append (refs_on on' x) y)

-- ---- a bare last expression

refs_at : {im : Image} {o : Section} {h : ℕ} {t : Target} (ns : List ℕ) (j : ℕ) → j < length ns → Refs im o h t t ns →
    Ref im o h t (slice_index ns j)
refs_at [] j p no_refs = absurd (omega arith)
refs_at (n ∷ ns) zero p (ref x xs) = x
refs_at (n ∷ ns) (suc j) p (ref x xs) = refs_at ns j (omega arith) xs

refs_take : {im : Image} {o : Section} {h : ℕ} {t : Target} (ns : List ℕ) (j : ℕ) → Refs im o h t t ns → Refs im o h t t (take j ns)
refs_take ns zero xs = no_refs
refs_take [] (suc j) no_refs = no_refs
refs_take (n ∷ ns) (suc j) (ref x xs) = ref x (refs_take ns j xs)

some_length : (ns : List ℕ) → not (is_empty ns) ≡ true → length ns - 1 < length ns
some_length [] e = absurd (false≢true e)
some_length (n ∷ ns) e = omega arith

trailing_sure : (ensures : List Clause) (body : List ℕ) (c : Context) → Every ClauseReady c ensures → Lines 34 body c →
    KeepsSound c (Lines 34) (wrap_trailing ensures body c)
unfolding wrap_trailing fields_of fields_in schema sort_of
trailing_sure ensures body c es xs =
    let r : Rec = last_of c.image body in
    sure_ready λ ready.
    sure_test (not (is_empty body) && r.kind == 65)
    (wrap_return (number r 1) ensures >>= λ seq. give (seq ++ take (length body - 1) body)) (give body) c
    (λ e.
    let last : Line 34 (slice_index body (length body - 1)) c =
    refs_at body (length body - 1) (some_length body (and_left (not (is_empty body)) (r.kind == 65) e)) xs in
    let kind : r.kind ≡ 65 = eqb-true r.kind 65 (and_right (not (is_empty body)) (r.kind == 65) e) in
    wrap_sure (number r 1) ensures c (ref_there (one_ref (field_of r 1) (own_field Statement 65 1 refl ready last kind (omega arith, refl))))
    es ⇝ λ seq d on ys.
    sure_given (refs_append (refs_higher (omega arith) ys) (refs_on on (refs_take body (length body - 1) xs))))
    (λ e. sure_given xs)

-- ---- the whole body

ensured_sure : (ensures : List Clause) (body : List ℕ) (c : Context) → Every ClauseReady c ensures → Lines 32 body c →
    KeepsSound c (Lines 34) (ensured_body ensures body c)
ensured_sure ensures body c es xs =
    flat_sure ensures (transform_statement ensures) (transform_sure ensures) 32 body c (omega arith) es xs ⇝ λ ss d on ys.
    trailing_sure ensures ss d (every_on clause_on on es) ys

pub desugar_sure : (params : List (Param ℕ)) (body : List ℕ) (requires ensures : List Clause) (c : Context) →
    ParamsReady c.image params → Lines 32 body c → Every ClauseReady c requires → Every ClauseReady c ensures →
    KeepsSound c (Lines 34) (desugar_fn_contracts params body requires ensures c)
unfolding desugar_fn_contracts
desugar_sure params body requires ensures c ps xs rs es =
    let up : 3 ≤ 34 = omega arith in
    refinements_sure c.image params c ps ⇝ λ refined d on x.
    clauses_sure (ascii "requires violated") requires_proper requires d (every_on clause_on on rs) ⇝ λ required e on' y.
    sure_test {Q = Lines 34} (is_empty ensures) (give body) (ensured_body ensures body) e
    (λ z. sure_given (refs_higher (omega arith) (refs_on (on then on') xs)))
    (λ z. ensured_sure ensures body e (every_on clause_on (on then on') es) (refs_on (on then on') xs)) ⇝ λ rest f on'' z.
    sure_given (refs_append (refs_append (refs_higher up (refs_on (on' then on'') x)) (refs_higher up (refs_on on'' y))) z)
