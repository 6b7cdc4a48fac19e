-- A transformed statement is sound, and at most 2 taller than its original.
-- Assumes nothing.
use Rattle.std.specs.Prelude.{◌≡◌, ℕ, zero, suc, ◌+◌, ◌-◌, ◌<◌, ◌≤◌, Bool, true, false, cond, List, [], ◌∷◌, ◌++◌, length, ◌==◌, nat_lt, slice_index}
use Rattle.std.proofs.Math.Path.{refl}
use Rattle.std.proofs.Common.{sym, inl, inr}
use Rattle.std.proofs.Math.Option.{Option}
use native.Mathlib.Omega.{arith}
use borrow.Author.Tests.{eqb-true}
use Rattle.rl_spec.specs.Answers.{Optional}
use Rattle.rl_spec.specs.declared.Section.{Section}
use Rattle.rl_spec.specs.declared.Section.TheVariants.{Statements}
use Rattle.rl_spec.specs.declared.Target.{Target}
use Rattle.rl_spec.specs.declared.Target.TheVariants.{Statement, Branch, ElseBranch, Arm}
use Rattle.rl_spec.specs.declared.Sort.{Sort}
use Rattle.rl_spec.specs.declared.Sort.TheVariants.{Raw, Maybe, Many}
use Rattle.rl_spec.specs.declared.Clause.{Clause}
use Rattle.rl_spec.specs.Schema.{in_section, sort_of, fields_of, fields_in, schema}
use Rattle.rl_spec.specs.Fields.{takes}
use Rattle.rl_spec.specs.Image.{Field, num, Rec, Image, size_of, record_of, field_of, section_of, heights, an_option}
use Rattle.rl_spec.specs.Tree.{number, below, descend_by, descend}
use Rattle.rl_spec.specs.Ranges.{optional_field}
use Rattle.rl_spec.specs.Make.{Context, Make, and_then, ◌>>=◌, give, image_so_far, flat_map, append, made, stmt, entries_of}
use Rattle.rl_spec.specs.Lower.{expr, wrap_return, transform_list, transform_branch_by, transform_branch, transform_else, transform_arm_by, transform_arm, conditional, match, loop, transform_statement_by, transform_statement}
use Rattle.rl_images.specs.Lowering.GrowsTo.{Every, no_more, more}
use Rattle.rl_laws.specs.Optionals.{IfSome, no_index, an_index}
use Rattle.rl_theorems.specs.Images.KeptFields.{same_size}
use Rattle.rl_theorems.specs.Images.NewReferences.{Ref, ref_there, ref_higher, Refs, no_refs, ref, refs_higher, refs_append, Held, held_higher, held_at, AllHeld, own_held, own_tall, raw_below, one_ref, maybe_ref, many_refs}
use Rattle.rl_theorems.specs.Images.KeepsSound.{Ready, Onward, KeepsSound, sure_given, sure_test, sure_ready, ref_on, refs_on, held_on, Line, Lines, OfStatements, list_sure, node_sure, statement_sure, ◌then◌, ◌⇝◌, ◌↠◌}
use Rattle.rl_theorems.specs.Images.NewFields.{nil_held, cons_held, raw_held, byte_held, one_held}
use Rattle.rl_theorems.specs.Images.SoundGuards.{every_on, each_sure, every_refs, ClauseReady, clause_on, wrap_sure}

-- ---- the record of a statement that is there

pub statement_there : {im : Image} {h n : ℕ} (t : Target) → OfStatements t → Ref im Statements h t n → n < size_of im Statements
statement_there {im} t o x = omega (arith, ref_there x, same_size im Statements (section_of t) o)

statement_low : {im : Image} {h n : ℕ} (t : Target) → OfStatements t → Ref im Statements h t n → slice_index (heights im Statements) n ≤ h
statement_low t o x = rw o at x.low

statement_tall : {c : Context} {h n : ℕ} (t : Target) → OfStatements t → Ready c → Ref c.image Statements h t n → 1 ≤ h
statement_tall {c} {h} {n} t o r x = omega (arith, own_tall r.sound Statements n (statement_there t o x), statement_low t o x)

-- the j-th field of a record of kind k is of the sort o
abbrev pub FieldIs : ℕ → ℕ → Sort → Type 0
FieldIs k j o = (j < length (fields_of k)) × (sort_of (slice_index (fields_of k) j) ≡ o)

-- its j-th field, where it is of kind k
pub own_field : {c : Context} {h n : ℕ} {s : Sort} (t : Target) (k j : ℕ) → OfStatements t → Ready c → Ref c.image Statements h t n →
    (record_of c.image Statements n).kind ≡ k → FieldIs k j s →
    Held c.image Statements (h - 1) s (field_of (record_of c.image Statements n) j)
own_field {c} {h} {n} {s} t k j o r x e f =
    let q : Rec = record_of c.image Statements n in
    let a : AllHeld c.image Statements (h - 1) 0 (fields_of q.kind) q.fields =
    own_held r.sound Statements n (statement_there t o x) (omega (arith, statement_low t o x)) in
    let b : AllHeld c.image Statements (h - 1) 0 (fields_of k) q.fields = rw e at a in
    rw (sym f.1) (held_at j (fields_of k) f.0 b)

refs_every : {c : Context} {o : Section} {h : ℕ} {t : Target} {ns : List ℕ} {P : Context → Type 0} → P c → Refs c.image o h t t ns →
    Every (λ n d. Ref d.image o h t n × P d) c ns
refs_every p no_refs = no_more
refs_every p (ref x xs) = more (x, p) (refs_every p xs)

cond_low : {h n : ℕ} (b : Bool) → n ≤ h → cond b 0 n ≤ h
cond_low true p = omega arith
cond_low false p = p

-- ---- lists, branches and arms, where `walk` transforms the statements before

module _ (ensures : List Clause) where
  abbrev Walks : (ℕ → Make (List ℕ)) → Type 0
  Walks walk = (h s : ℕ) (c : Context) → h ≤ 32 → Every ClauseReady c ensures → Line h s c → KeepsSound c (Lines (h + 2)) (walk s c)

  pub flat_sure : (walk : ℕ → Make (List ℕ)) → Walks walk → (h : ℕ) (ns : List ℕ) (c : Context) → h ≤ 32 → Every ClauseReady c ensures →
      Lines h ns c → KeepsSound c (Lines (h + 2)) (flat_map walk ns c)
  unfolding flat_map
  flat_sure walk w h [] c l es no_refs = sure_given no_refs
  flat_sure walk w h (n ∷ ns) c l es (ref x xs) =
      w h n c l es x ⇝ λ ms d on y. flat_sure walk w h ns d l (every_on clause_on on es) (refs_on on xs) ⇝ λ ks e on' ys.
      sure_given (refs_append (refs_on on' y) ys)

  module _ (walk : ℕ → Make (List ℕ)) (w : Walks walk) where
    list_transformed : {h : ℕ} (list : Field) (c : Context) → h ≤ 32 → Every ClauseReady c ensures →
        Held c.image Statements h (Many Statement Statement 1) list →
        KeepsSound c (λ body d. Held d.image Statements (h + 2) (Many Statement Statement 1) body) (transform_list walk list c)
    list_transformed {h} list c l es x =
        flat_sure walk w h (entries_of c.image list) c l es (many_refs list x) ⇝ λ ss d on ys. list_sure 1 ss d (omega arith) ys

    module _ (h : ℕ) (l : h ≤ 32) where
      branch_by_sure : (t : Target) (s : ℕ) (c : Context) → OfStatements t → takes t 69 ≡ true → Every ClauseReady c ensures →
          Ref c.image Statements h t s →
          KeepsSound c (λ n d. Ref d.image Statements (h + 2) t n) (transform_branch_by walk s (record_of c.image Statements s) c)
      unfolding stmt in_section fields_of fields_in schema sort_of
      branch_by_sure t s c o k es x =
          let r : Rec = record_of c.image Statements s in
          let up : h - 1 ≤ h - 1 + 2 = omega arith in
          sure_ready λ ready.
          let tall : 1 ≤ h = statement_tall t o ready x in
          let top : h - 1 + 2 + 1 ≤ h + 2 = omega arith in
          sure_test (r.kind == 69)
          (transform_list walk (field_of r 2) >>= λ body. stmt 69 (number r 0) (field_of r 1 ∷ body ∷ num 0 ∷ [])) (give s) c
          (λ e.
          let d = eqb-true r.kind 69 e in
          list_transformed (field_of r 2) c (omega arith) es (own_field t 69 2 o ready x d (omega arith, refl)) ⇝ λ body c' on y.
          statement_sure t 69 (num (number r 0) ∷ field_of r 1 ∷ body ∷ num 0 ∷ []) c' o k refl (omega arith)
          (cons_held refl (raw_held (raw_below (field_of r 0) (own_field t 69 0 o ready x d (omega arith, refl))))
          (cons_held refl (held_higher up (held_on on (own_field t 69 1 o ready x d (omega arith, refl))))
          (cons_held refl y (cons_held refl (byte_held (omega arith, omega arith)) nil_held))))
          ↠ λ n z on' v. ref_higher top v)
          (λ e. sure_given (ref_higher (omega arith) x))

      branch_sure : (t : Target) (s : ℕ) (c : Context) → OfStatements t → takes t 69 ≡ true → Every ClauseReady c ensures →
          Ref c.image Statements h t s → KeepsSound c (λ n d. Ref d.image Statements (h + 2) t n) (transform_branch walk s c)
      unfolding transform_branch
      branch_sure t s c o k es x = branch_by_sure t s c o k es x

      else_sure : {o : Optional} (c : Context) → Every ClauseReady c ensures → IfSome (Ref c.image Statements h ElseBranch) o →
          KeepsSound c (λ o d. Held d.image Statements (h + 2) (Maybe ElseBranch) (optional_field o)) (transform_else walk o c)
      else_sure c es no_index = sure_given (record { before = 0; fits = an_option (inl refl); low = omega arith })
      else_sure c es (an_index {n = s} x) =
          branch_sure ElseBranch s c refl refl es x ⇝ λ n d on y.
          sure_given (record { before = 0; fits = an_option (inr y.refers); low = cond_low (n == 65535) y.low })

      arm_by_sure : (s : ℕ) (c : Context) → Every ClauseReady c ensures → Ref c.image Statements h Arm s →
          KeepsSound c (λ n d. Ref d.image Statements (h + 2) Arm n) (transform_arm_by walk (record_of c.image Statements s) c)
      unfolding stmt in_section fields_of fields_in schema sort_of
      arm_by_sure s c es x =
          let r : Rec = record_of c.image Statements s in
          let d : r.kind ≡ 76 = eqb-true r.kind 76 x.refers.taken in
          let up : h - 1 ≤ h - 1 + 2 = omega arith in
          sure_ready λ ready.
          let tall : 1 ≤ h = statement_tall Arm refl ready x in
          let top : h - 1 + 2 + 1 ≤ h + 2 = omega arith in
          list_transformed (field_of r 2) c (omega arith) es (own_field Arm 76 2 refl ready x d (omega arith, refl)) ⇝ λ body c' on y.
          statement_sure Arm 76 (num (number r 0) ∷ field_of r 1 ∷ body ∷ []) c' refl refl refl (omega arith)
          (cons_held refl (raw_held (raw_below (field_of r 0) (own_field Arm 76 0 refl ready x d (omega arith, refl))))
          (cons_held refl (held_higher up (held_on on (own_field Arm 76 1 refl ready x d (omega arith, refl)))) (cons_held refl y nil_held)))
          ↠ λ n z on' v. ref_higher top v

      arm_sure : (s : ℕ) (c : Context) → Every ClauseReady c ensures → Ref c.image Statements h Arm s →
          KeepsSound c (λ n d. Ref d.image Statements (h + 2) Arm n) (transform_arm walk s c)
      unfolding transform_arm
      arm_sure s c es x = arm_by_sure s c es x

    -- ---- compound statements

    module _ (h s : ℕ) (c : Context) (l : h ≤ 32) (es : Every ClauseReady c ensures) (x : Line h s c) where
      abbrev here : Rec
      here = record_of c.image Statements s

      -- what is rebuilt, from its fields
      rebuilt_sure : (k : ℕ) → here.kind ≡ k → (fs : List Field) (d : Context) → Onward c d →
          AllHeld d.image Statements (h - 1 + 2) 0 (fields_of k) fs → KeepsSound d (Line (h + 2)) (append Statements (made k fs ∷ []) d)
      rebuilt_sure k e fs d on y =
          let tall : 1 ≤ h = statement_tall Statement refl on.was x in
          let top : h - 1 + 2 + 1 ≤ h + 2 = omega arith in
          let kind : in_section Statements here.kind ≡ true = (on.was.sound.fits Statements s (ref_there x)).kind in
          statement_sure Statement k fs d refl (rw e at x.refers.taken) (rw e at kind) (omega arith) y ↠ λ n z on' v. ref_higher top v

      loop_sure : (kept : List Field) (list : Field) → (Ready c → Held c.image Statements (h - 1) (Many Statement Statement 1) list) →
          ((body : Field) (d : Context) → Onward c d → Held d.image Statements (h - 1 + 2) (Many Statement Statement 1) body →
          AllHeld d.image Statements (h - 1 + 2) 0 (fields_of here.kind) (num (number here 0) ∷ kept ++ body ∷ [])) →
          KeepsSound c (Line (h + 2)) (loop walk here kept list c)
      unfolding stmt
      loop_sure kept list p q =
          sure_ready λ ready. list_transformed list c (omega arith) es (p ready) ⇝ λ body d on y.
          rebuilt_sure here.kind refl (num (number here 0) ∷ kept ++ body ∷ []) d on (q body d on y)

      -- of kind k: its span, and a field that is kept
      module _ (k : ℕ) (e : here.kind ≡ k) {d : Context} (on : Onward c d) where
        span_held : FieldIs k 0 (Raw 4) → Held d.image Statements (h - 1 + 2) (Raw 4) (num (number here 0))
        span_held f = raw_held (raw_below (field_of here 0) (own_field Statement k 0 refl on.was x e f))

        field_held : {o : Sort} (j : ℕ) → FieldIs k j o → Held d.image Statements (h - 1 + 2) o (field_of here j)
        field_held j f =
            let up : h - 1 ≤ h - 1 + 2 = omega arith in
            held_higher up (held_on on (own_field Statement k j refl on.was x e f))

      while_sure : here.kind ≡ 70 → KeepsSound c (Line (h + 2)) (loop walk here (field_of here 1 ∷ []) (field_of here 2) c)
      unfolding fields_of fields_in schema sort_of
      while_sure e =
          loop_sure (field_of here 1 ∷ []) (field_of here 2) (λ r. own_field Statement 70 2 refl r x e (omega arith, refl)) λ body d on y. rw e
          (cons_held refl (span_held 70 e on (omega arith, refl))
          (cons_held refl (field_held 70 e on 1 (omega arith, refl)) (cons_held refl y nil_held)))

      forever_sure : here.kind ≡ 71 → KeepsSound c (Line (h + 2)) (loop walk here [] (field_of here 1) c)
      unfolding fields_of fields_in schema sort_of
      forever_sure e =
          loop_sure [] (field_of here 1) (λ r. own_field Statement 71 1 refl r x e (omega arith, refl)) λ body d on y. rw e
          (cons_held refl (span_held 71 e on (omega arith, refl)) (cons_held refl y nil_held))

      for_sure : here.kind ≡ 72 →
          KeepsSound c (Line (h + 2)) (loop walk here (field_of here 1 ∷ field_of here 2 ∷ field_of here 3 ∷ []) (field_of here 4) c)
      unfolding fields_of fields_in schema sort_of
      for_sure e =
          loop_sure (field_of here 1 ∷ field_of here 2 ∷ field_of here 3 ∷ []) (field_of here 4)
          (λ r. own_field Statement 72 4 refl r x e (omega arith, refl)) λ body d on y. rw e
          (cons_held refl (span_held 72 e on (omega arith, refl)) (cons_held refl (field_held 72 e on 1 (omega arith, refl))
          (cons_held refl (field_held 72 e on 2 (omega arith, refl))
          (cons_held refl (field_held 72 e on 3 (omega arith, refl)) (cons_held refl y nil_held)))))

      for_range_sure : here.kind ≡ 73 → KeepsSound c (Line (h + 2)) (loop walk here (field_of here 1 ∷ field_of here 2 ∷ []) (field_of here 3) c)
      unfolding fields_of fields_in schema sort_of
      for_range_sure e =
          loop_sure (field_of here 1 ∷ field_of here 2 ∷ []) (field_of here 3)
          (λ r. own_field Statement 73 3 refl r x e (omega arith, refl)) λ body d on y. rw e
          (cons_held refl (span_held 73 e on (omega arith, refl)) (cons_held refl (field_held 73 e on 1 (omega arith, refl))
          (cons_held refl (field_held 73 e on 2 (omega arith, refl)) (cons_held refl y nil_held))))

      for_each_sure : here.kind ≡ 74 → KeepsSound c (Line (h + 2)) (loop walk here (field_of here 1 ∷ field_of here 2 ∷ []) (field_of here 3) c)
      unfolding fields_of fields_in schema sort_of
      for_each_sure e =
          loop_sure (field_of here 1 ∷ field_of here 2 ∷ []) (field_of here 3)
          (λ r. own_field Statement 74 3 refl r x e (omega arith, refl)) λ body d on y. rw e
          (cons_held refl (span_held 74 e on (omega arith, refl)) (cons_held refl (field_held 74 e on 1 (omega arith, refl))
          (cons_held refl (field_held 74 e on 2 (omega arith, refl)) (cons_held refl y nil_held))))

      match_sure : here.kind ≡ 75 → KeepsSound c (Line (h + 2)) (match walk here c)
      unfolding stmt fields_of fields_in schema sort_of
      match_sure e =
          sure_ready λ r.
          let arms : Refs c.image Statements (h - 1) Arm Arm (entries_of c.image (field_of here 2)) =
          many_refs (field_of here 2) (own_field Statement 75 2 refl r x e (omega arith, refl)) in
          each_sure
          (λ n d. Ref d.image Statements (h - 1) Arm n × Every ClauseReady d ensures) (λ n d. Ref d.image Statements (h - 1 + 2) Arm n)
          (λ n a b on p. (ref_on on p.0, every_on clause_on on p.1)) (λ n a b on p. ref_on on p)
          (transform_arm walk) (λ n a p. arm_sure (h - 1) (omega arith) n a p.1 p.0)
          (entries_of c.image (field_of here 2)) c (refs_every es arms) ⇝ λ ss d on ys.
          list_sure 1 ss d (omega arith) (every_refs ys) ⇝ λ arms f on' y.
          rebuilt_sure 75 e (num (number here 0) ∷ field_of here 1 ∷ arms ∷ []) f (on then on')
          (cons_held refl (span_held 75 e (on then on') (omega arith, refl))
          (cons_held refl (field_held 75 e (on then on') 1 (omega arith, refl)) (cons_held refl y nil_held)))

      conditional_sure : here.kind ≡ 68 → KeepsSound c (Line (h + 2)) (conditional walk here c)
      unfolding stmt fields_of fields_in schema sort_of
      conditional_sure e =
          sure_ready λ r.
          branch_sure (h - 1) (omega arith) Branch (number here 1) c refl refl es
          (one_ref (field_of here 1) (own_field Statement 68 1 refl r x e (omega arith, refl))) ⇝ λ branch d on y.
          else_sure (h - 1) (omega arith) d (every_on clause_on on es)
          (maybe_ref (field_of here 2) (held_on on (own_field Statement 68 2 refl r x e (omega arith, refl)))) ⇝ λ other f on' z.
          let p : Ref f.image Statements (h - 1 + 2) Branch branch = ref_on on' y in
          rebuilt_sure 68 e (num (number here 0) ∷ num branch ∷ optional_field other ∷ []) f (on then on')
          (cons_held refl (span_held 68 e (on then on') (omega arith, refl)) (cons_held refl (one_held p) (cons_held refl z nil_held)))

      -- ---- a statement of any kind

      pub lines_up : {ns : List ℕ} (d : Context) → Ready c → Lines 3 ns d → Lines (h + 2) ns d
      lines_up d r ys = let tall : 1 ≤ h = statement_tall Statement refl r x in refs_higher (omega arith) ys

      return_sure : here.kind ≡ 66 → KeepsSound c (Lines (h + 2)) (wrap_return (number here 1) ensures c)
      unfolding fields_of fields_in schema sort_of
      return_sure e =
          sure_ready λ r.
          wrap_sure (number here 1) ensures c (ref_there (one_ref (field_of here 1) (own_field Statement 66 1 refl r x e (omega arith, refl)))) es
          ↠ λ ns d on ys. lines_up d r ys

      alone_sure : KeepsSound c (Lines (h + 2)) ((expr 16 [] >>= λ null. wrap_return null ensures) c)
      unfolding expr in_section fields_of fields_in schema sort_of
      alone_sure =
          sure_ready λ r. node_sure {h = 0} 16 (num c.span ∷ []) c refl (omega arith)
          (cons_held refl (raw_held r.span) nil_held) ⇝ λ null d on y.
          wrap_sure null ensures d (ref_there y) (every_on clause_on on es) ↠ λ ns f on' ys. lines_up f r ys

      only_sure : {o : Option (ℕ × Context)} → KeepsSound c (Line (h + 2)) o → KeepsSound c (Lines (h + 2)) (and_then o (λ n. give (n ∷ [])))
      only_sure g = g ⇝ λ n d on y. sure_given (ref y no_refs)

      by_kind : (k : ℕ) (m n : Make (List ℕ)) → (here.kind ≡ k → KeepsSound c (Lines (h + 2)) (m c)) → KeepsSound c (Lines (h + 2)) (n c) →
          KeepsSound c (Lines (h + 2)) (cond (here.kind == k) m n c)
      by_kind k m n p q = sure_test (here.kind == k) m n c (λ e. p (eqb-true here.kind k e)) (λ e. q)

      statement_by_lem : KeepsSound c (Lines (h + 2)) (transform_statement_by walk ensures s here c)
      statement_by_lem =
          by_kind 66 _ _ return_sure
          (by_kind 67 _ _ (λ e. alone_sure)
          (by_kind 68 _ _ (λ e. only_sure (conditional_sure e))
          (by_kind 70 _ _ (λ e. only_sure (while_sure e))
          (by_kind 71 _ _ (λ e. only_sure (forever_sure e))
          (by_kind 72 _ _ (λ e. only_sure (for_sure e))
          (by_kind 73 _ _ (λ e. only_sure (for_range_sure e))
          (by_kind 74 _ _ (λ e. only_sure (for_each_sure e))
          (by_kind 75 _ _ (λ e. only_sure (match_sure e)) (sure_given (ref (ref_higher (omega arith) x) no_refs))))))))))

  -- ---- all the statements before

  abbrev statement_step : ℕ → (ℕ → Make (List ℕ)) → Make (List ℕ)
  statement_step s walk = image_so_far >>= λ im. transform_statement_by walk ensures s (record_of im Statements s)

  abbrev untouched : ℕ → Make (List ℕ)
  untouched s = give (s ∷ [])

  untouched_sure : Walks untouched
  untouched_sure h s c l es x = sure_given (ref (ref_higher (omega arith) x) no_refs)

  walks_by : (n : ℕ) → Walks (descend_by untouched statement_step n)
  unfolding descend_by
  walks_by zero h s c l es x = untouched_sure h s c l es x
  walks_by (suc n) h s c l es x =
      statement_by_lem (below s untouched (descend_by untouched statement_step n))
      (λ g j d m fs y. sure_test (nat_lt j s) (descend_by untouched statement_step n j) (untouched j) d (λ e. walks_by n g j d m fs y) (λ e. untouched_sure g j d m fs y)) h s c l es x

  pub transform_sure : Walks (transform_statement ensures)
  unfolding transform_statement descend
  transform_sure h s c l es x = walks_by (suc s) h s c l es x
