-- Guards and wrapped returns are sound, and how tall they are.
-- Assumes nothing.
use Rattle.std.specs.Prelude.{◌≡◌, ℕ, ◌+◌, ◌^◌, ◌<◌, ◌≤◌, Bool, true, false, cond, List, [], ◌∷◌, ◌++◌, ◌==◌, refl, None}
use Rattle.std.proofs.Common.{inl, inr, arith, lit<, lit≤}
use Rattle.rl_spec.specs.Answers.{Optional}
use Rattle.rl_spec.specs.declared.Section.{Section}
use Rattle.rl_spec.specs.declared.Section.TheVariants.{Texts, Expressions, Statements}
use Rattle.rl_spec.specs.declared.Target.{Target}
use Rattle.rl_spec.specs.declared.Target.TheVariants.{Text, Expression, Statement, Branch}
use Rattle.rl_spec.specs.declared.Sort.TheVariants.{Many}
use Rattle.rl_spec.specs.declared.Clause.{Clause}
use Rattle.rl_spec.specs.Schema.{in_section, sort_of, fields_of, fields_in, schema}
use Rattle.rl_spec.specs.Image.{Field, num, Image, size_of, tallest_child, a_raw, a_byte, a_reference, an_option, no_fields, ◌&◌}
use Rattle.rl_spec.specs.Tree.{ascii}
use Rattle.rl_spec.specs.Ranges.{optional_field}
use Rattle.rl_spec.specs.Message.{decimal}
use Rattle.rl_spec.specs.Make.{Context, Make, ◌>>=◌, give, take_temp, counted, each, new_text, stmt, new_stmt}
use Rattle.rl_spec.specs.Lower.{expr, ident, str_lit, err_lit, res_call, unwrap_call, msg_expr_by, violation, only_if, guard, clause_guard, declare, return_of, skip_err, wrap_as, wrap_return}
use Rattle.rl_images.specs.Lowering.GrowsTo.{Every, no_more, more, temp_good, ◌▹◌}
use Rattle.rl_laws.specs.Optionals.{IfSome, no_index, an_index, if_some}
use Rattle.rl_theorems.specs.Images.ProperTexts.{Proper, std_proper, res_proper, unwrap_proper, is_err_proper, ret_proper, temp_proper, ensures_proper}
use Rattle.rl_theorems.specs.Images.NewReferences.{Ref, ref_there, ref_higher, Refs, no_refs, ref, refs_append, Held, AllHeld}
use Rattle.rl_theorems.specs.Images.NewFields.{plain_fits}
use Rattle.rl_theorems.specs.Images.KeepsSound.{Ready, Onward, KeepsSound, sure_given, sure_test, sure_ready, ref_on, refs_on, held_on, there_on, Node, Line, Lines, text_sure, list_sure, node_sure, statement_sure, ◌then◌, ◌⇝◌, ◌↠◌}
use Rattle.rl_theorems.specs.Images.SoundCopies.{clone_sure}

-- ---- one after the other

module _ {A : Type 0} {P : A → Context → Type 0} (keep : (a : A) (c d : Context) → Onward c d → P a c → P a d) where
  pub every_on : {c d : Context} {l : List A} → Onward c d → Every P c l → Every P d l
  every_on on no_more = no_more
  every_on {c} {d} on (more {a = a} p ps) = more (keep a c d on p) (every_on on ps)

module _ {A B : Type 0} (P : A → Context → Type 0) (Q : B → Context → Type 0)
    (keep_p : (a : A) (c d : Context) → Onward c d → P a c → P a d) (keepQ : (b : B) (c d : Context) → Onward c d → Q b c → Q b d)
    (f : A → Make B) (step : (a : A) (c : Context) → P a c → KeepsSound c Q (f a c)) where
  pub each_sure : (l : List A) (c : Context) → Every P c l → KeepsSound c (λ m d. Every Q d m) (each f l c)
  unfolding each
  each_sure [] c no_more = sure_given no_more
  each_sure (a ∷ l) c (more p ps) =
      step a c p ⇝ λ b d on q. each_sure l d (every_on keep_p on ps) ⇝ λ bs e on' qs. sure_given (more (keepQ b d e on' q) qs)

pub every_refs : {c : Context} {o : Section} {h : ℕ} {t : Target} {ns : List ℕ} → Every (λ n d. Ref d.image o h t n) c ns →
    Refs c.image o h t t ns
every_refs no_more = no_refs
every_refs (more p ps) = ref p (every_refs ps)

-- ---- expressions

name_held : (im : Image) (kind span t : ℕ) → fields_of kind ≡ fields_of 30 → span < 256 ^ 4 → t < size_of im Texts →
    AllHeld im Expressions 0 0 (fields_of kind) (num span ∷ num t ∷ [])
unfolding fields_of fields_in schema sort_of tallest_child
name_held im kind span t e p q = rw e (record { fits = a_raw p & a_reference (record { earlier = q; taken = refl }) & no_fields; low = omega arith })

pub ident_sure : (s : List ℕ) → Proper s → (c : Context) → KeepsSound c (Node 1) (ident s c)
unfolding ident expr in_section fields_of fields_in schema
ident_sure s p c =
    text_sure s p c ⇝ λ t d on y. sure_ready λ r. node_sure 30 _ d refl (omega arith) (name_held d.image 30 d.span t refl r.span y)

pub string_sure : (s : List ℕ) → Proper s → (c : Context) → KeepsSound c (Node 1) (str_lit s c)
unfolding str_lit expr in_section fields_of fields_in schema
string_sure s p c =
    text_sure s p c ⇝ λ t d on y. sure_ready λ r. node_sure 25 _ d refl (omega arith) (name_held d.image 25 d.span t refl r.span y)

err_held : {h : ℕ} (c : Context) (msg : ℕ) → Ready c → Node h msg c →
    AllHeld c.image Expressions h 0 (fields_of 50) (num c.span ∷ num msg ∷ [])
unfolding fields_of fields_in schema sort_of tallest_child
err_held c msg r x = record { fits = a_raw r.span & a_reference x.refers & no_fields; low = omega (arith, x.low) }

not_held_lem : {h : ℕ} (c : Context) (n : ℕ) → Ready c → Node h n c →
    AllHeld c.image Expressions h 0 (fields_of 33) (num c.span ∷ num 5 ∷ num n ∷ [])
unfolding fields_of fields_in schema sort_of tallest_child
not_held_lem c n r x = record { fits = a_raw r.span & a_byte (lit≤ tt) (lit≤ tt) & a_reference x.refers & no_fields; low = omega (arith, x.low) }

call_held : {h : ℕ} (c : Context) (path args : Field) → Ready c → Held c.image Expressions 0 (Many Text Text 1) path →
    Held c.image Expressions h (Many Expression Expression 1) args →
    AllHeld c.image Expressions h 0 (fields_of 41) (num c.span ∷ path ∷ args ∷ [])
unfolding fields_of fields_in schema sort_of tallest_child
call_held c path args r p q =
    record { fits = a_raw r.span & plain_fits refl p.fits & plain_fits refl q.fits & no_fields; low = omega (arith, p.low, q.low) }

-- the texts of a path
texts_sure : (ss : List (List ℕ)) (c : Context) → Every (λ s d. Proper s) c ss →
    KeepsSound c (λ ts d. Refs d.image Expressions 0 Text Text ts) (each new_text ss c)
texts_sure ss c ps =
    each_sure (λ s d. Proper s) (λ t d. Ref d.image Expressions 0 Text t) (λ s c d on p. p) (λ t c d on x. ref_on on x) new_text
    (λ s c p. text_sure s p c ↠ λ t d on y. record { refers = record { earlier = y; taken = refl }; low = omega arith }) ss c ps
    ↠ λ ts d on xs. every_refs xs

call_sure : {h : ℕ} (name : List ℕ) → Proper name → (x : ℕ) (c : Context) → h < 68 → Node h x c → KeepsSound c (Node (h + 1)) (res_call name x c)
unfolding res_call expr in_section
call_sure name p x c l q =
    texts_sure _ c (more std_proper (more res_proper (more p no_more))) ⇝ λ ts d on xs.
    list_sure 1 ts d (omega arith) xs ⇝ λ path e on' y.
    list_sure 1 (x ∷ []) e refl (ref (ref_on (on then on') q) no_refs) ⇝ λ args f on'' z.
    sure_ready λ r. node_sure 41 _ f refl l (call_held f path args r (held_on on'' y) z)

pub unwrap_sure : {h : ℕ} (x : ℕ) (c : Context) → h < 68 → Node h x c → KeepsSound c (Node (h + 1)) (unwrap_call x c)
unwrap_sure x c l q = call_sure (ascii "result_unwrap") unwrap_proper x c l q

-- ---- statements over expressions, and a conditional

there_held : (kind : ℕ) (c : Context) (n : ℕ) → fields_of kind ≡ fields_of 66 → Ready c → n < size_of c.image Expressions →
    AllHeld c.image Statements 0 0 (fields_of kind) (num c.span ∷ num n ∷ [])
unfolding fields_of fields_in schema sort_of tallest_child
there_held kind c n e r p = rw e (record { fits = a_raw r.span & a_reference (record { earlier = p; taken = refl }) & no_fields; low = omega arith })

return_sure : (n : ℕ) (c : Context) → n < size_of c.image Expressions → KeepsSound c (Line 1) (new_stmt 66 (num n ∷ []) c)
unfolding stmt in_section
return_sure n c p = sure_ready λ r. statement_sure Statement 66 _ c refl refl refl (omega arith) (there_held 66 c n refl r p)

bare_sure : (n : ℕ) (c : Context) → n < size_of c.image Expressions → KeepsSound c (Line 1) (new_stmt 65 (num n ∷ []) c)
unfolding stmt in_section fields_of fields_in schema
bare_sure n c p = sure_ready λ r. statement_sure Statement 65 _ c refl refl refl (omega arith) (there_held 65 c n refl r p)

cond_zero : (b : Bool) → ◌≡◌ {A = ℕ} (cond b 0 0) 0
cond_zero true = refl
cond_zero false = refl

branch_held : {h : ℕ} (c : Context) (condition : ℕ) (body : Field) → Ready c → condition < size_of c.image Expressions →
    Held c.image Statements h (Many Statement Statement 1) body →
    AllHeld c.image Statements h 0 (fields_of 69) (num c.span ∷ num condition ∷ body ∷ num 0 ∷ [])
unfolding fields_of fields_in schema sort_of tallest_child
branch_held c condition body r p q =
    record {
      fits = a_raw r.span & an_option (inr (record { earlier = p; taken = refl })) & plain_fits refl q.fits & a_byte (lit≤ tt) (lit≤ tt)
          & no_fields;
      low = omega (arith, q.low, cond_zero (condition == 65535));
    }

only_held : {h : ℕ} (c : Context) (branch : ℕ) → Ready c → Ref c.image Statements h Branch branch →
    AllHeld c.image Statements h 0 (fields_of 68) (num c.span ∷ num branch ∷ optional_field None ∷ [])
unfolding fields_of fields_in schema sort_of tallest_child
only_held c branch r x = record { fits = a_raw r.span & a_reference x.refers & an_option (inl refl) & no_fields; low = omega (arith, x.low) }

pub only_if_sure : {h : ℕ} (condition s : ℕ) (c : Context) → h < 34 → condition < size_of c.image Expressions → Line h s c →
    KeepsSound c (Line (h + 1 + 1)) (only_if condition s c)
unfolding only_if stmt in_section
only_if_sure condition s c l p x =
    list_sure 1 (s ∷ []) c refl (ref x no_refs) ⇝ λ body d on y.
    (sure_ready λ r.
    statement_sure Branch 69 _ d refl refl refl (omega arith) (branch_held d condition body r (there_on on Expressions p) y)) ⇝ λ branch e on' z.
    sure_ready λ r. statement_sure Statement 68 _ e refl refl refl (omega arith) (only_held e branch r z)

-- ---- guards

pub violation_sure : {h : ℕ} (msg : ℕ) (c : Context) → h < 67 → Node h msg c → KeepsSound c (Line 1) (violation msg c)
unfolding violation err_lit expr in_section
violation_sure {h} msg c l x =
    (sure_ready λ r. node_sure 50 _ c refl (omega arith) (err_held c msg r x)) ⇝ λ err d on y.
    sure_test d.is_result (new_stmt 66 (num err ∷ [])) (unwrap_call err >>= λ abort. new_stmt 65 (num abort ∷ [])) d
    (λ e. return_sure err d (ref_there y))
    (λ e. unwrap_sure err d (omega arith) y ⇝ λ abort f on' z. bare_sure abort f (ref_there z))

pub guard_sure : {h g : ℕ} (pred msg : ℕ) (c : Context) → h < 67 → g < 67 → Node h pred c → Node g msg c →
    KeepsSound c (Line 3) (guard pred msg c)
unfolding guard expr in_section
guard_sure {h} pred msg c l m x y =
    clone_sure h pred c (omega arith) x ⇝ λ copy d on z.
    (sure_ready λ r. node_sure 33 _ d refl (omega arith) (not_held_lem d copy r z)) ⇝ λ neg e on' w.
    violation_sure msg e m (ref_on (on then on') y) ⇝ λ s f on'' v.
    only_if_sure neg s f (omega arith) (there_on on'' Expressions (ref_there w)) v

-- a clause of the image
pub record ClauseReady (clause : Clause) (c : Context) : Type 0 where
  pub condition : Node 64 clause.condition c
  pub message : IfSome (λ n. Node 64 n c) clause.message

pub clause_on : (clause : Clause) (c d : Context) → Onward c d → ClauseReady clause c → ClauseReady clause d
clause_on clause c d on x = record { condition = ref_on on x.condition; message = if_some (λ n. ref_on on) x.message }

message_sure : {o : Optional} (default : List ℕ) → Proper default → (c : Context) → IfSome (λ n. Node 64 n c) o →
    KeepsSound c (Node 64) (msg_expr_by o default c)
message_sure default p c no_index = string_sure default p c ↠ λ n d on y. ref_higher (omega arith) y
message_sure default p c (an_index x) = sure_given x

pub clause_sure : (default : List ℕ) → Proper default → (clause : Clause) (c : Context) → ClauseReady clause c →
    KeepsSound c (Line 3) (clause_guard default clause c)
clause_sure default p clause c x =
    message_sure default p c x.message ⇝ λ msg d on y.
    guard_sure clause.condition msg d (omega arith) (omega arith) (ref_on on x.condition) y

pub clauses_sure : (default : List ℕ) → Proper default → (clauses : List Clause) (c : Context) → Every ClauseReady c clauses →
    KeepsSound c (Lines 3) (each (clause_guard default) clauses c)
clauses_sure default p clauses c xs =
    each_sure ClauseReady (Line 3) clause_on
    (λ n c d on x. ref_on on x) (clause_guard default) (clause_sure default p) clauses c xs ↠ λ ns d on ys. every_refs ys

-- ---- wrapped returns

declare_held : (c : Context) (t value : ℕ) → Ready c → t < size_of c.image Texts → value < size_of c.image Expressions →
    AllHeld c.image Statements 0 0 (fields_of 64) (num c.span ∷ num t ∷ num 0 ∷ num value ∷ num 0 ∷ [])
unfolding fields_of fields_in schema sort_of tallest_child
declare_held c t value r p q =
    record {
      fits = a_raw r.span & a_reference (record { earlier = p; taken = refl }) & a_raw (lit< tt)
          & a_reference (record { earlier = q; taken = refl }) & a_raw (lit< tt) & no_fields;
      low = omega arith;
    }

declare_sure : (name : List ℕ) → Proper name → (value : ℕ) (c : Context) → value < size_of c.image Expressions →
    KeepsSound c (Line 1) (declare name value c)
unfolding declare stmt in_section
declare_sure name p value c q =
    text_sure name p c ⇝ λ t d on y. sure_ready λ r.
    statement_sure Statement 64 _ d refl refl refl (omega arith) (declare_held d t value r y (there_on on Expressions q))

return_of_sure : (temp : List ℕ) → Proper temp → (c : Context) → KeepsSound c (Line 1) (return_of temp c)
unfolding return_of
return_of_sure temp p c = ident_sure temp p c ⇝ λ n d on x. return_sure n d (ref_there x)

skip_sure : (temp : List ℕ) → Proper temp → (c : Context) → KeepsSound c (Lines 3) (skip_err temp c)
skip_sure temp p c =
    ident_sure temp p c ⇝ λ n d on x.
    call_sure (ascii "is_err") is_err_proper n d (omega arith) x ⇝ λ check e on' y.
    return_of_sure temp p e ⇝ λ s f on'' z.
    only_if_sure check s f (omega arith) (there_on on'' Expressions (ref_there y)) z ⇝ λ skip g on''' w.
    sure_given (ref w no_refs)

abbrev There : ℕ → Context → Type 0
There n c = n < size_of c.image Expressions

wrap_as_sure : (temp : List ℕ) → Proper temp → (is_result : Bool) (value : ℕ) (ensures : List Clause) (c : Context) → There value c →
    Every ClauseReady c ensures → KeepsSound c (Lines 3) (wrap_as temp is_result value ensures c)
unfolding wrap_as
wrap_as_sure temp p is_result value ensures c q xs =
    declare_sure temp p value c q ⇝ λ dec c1 on1 y1.
    sure_test is_result (skip_err temp) (give []) c1 (λ e. skip_sure temp p c1) (λ e. sure_given no_refs) ⇝ λ skip c2 on2 y2.
    ident_sure temp p c2 ⇝ λ n c3 on3 y3.
    sure_test {Q = Node 2} is_result (unwrap_call n) (give n) c3
    (λ e. unwrap_sure n c3 (omega arith) y3) (λ e. sure_given (ref_higher (omega arith) y3)) ⇝ λ inner c4 on4 y4.
    declare_sure (ascii "ret") ret_proper inner c4 (ref_there y4) ⇝ λ ret c5 on5 y5.
    clauses_sure (ascii "ensures violated") ensures_proper ensures c5
    (every_on clause_on (on1 then on2 then on3 then on4 then on5) xs) ⇝ λ guards c6 on6 y6.
    return_of_sure temp p c6 ⇝ λ s c7 on7 y7.
    let one : 1 ≤ 3 = omega arith in
    sure_given
    (refs_append
    (refs_append
    (ref (ref_higher one (ref_on (on2 then on3 then on4 then on5 then on6 then on7) y1)) (refs_on (on3 then on4 then on5 then on6 then on7) y2))
    (ref (ref_higher one (ref_on (on6 then on7) y5)) (refs_on on7 y6)))
    (ref (ref_higher one y7) no_refs))

counted_sure : (c : Context) → KeepsSound c (λ n d. d ≡ counted c) (take_temp c)
counted_sure c = record { good = λ r. temp_good c ▹ λ n d l p. (rw p.1 (record { sound = r.sound; span = r.span; limited = r.limited }), p.1) }

pub wrap_sure : (value : ℕ) (ensures : List Clause) (c : Context) → There value c → Every ClauseReady c ensures →
    KeepsSound c (Lines 3) (wrap_return value ensures c)
unfolding wrap_return
wrap_sure value ensures c p xs =
    counted_sure c ⇝ λ n d on e.
    wrap_as_sure (ascii "__ensure_ret_" ++ decimal n) (temp_proper n) d.is_result value ensures d (there_on on Expressions p)
    (every_on clause_on on xs)
