-- The guard of a predicate, and those of clauses.
-- Assumes nothing.
use Rattle.std.proofs.Common.{◌≡◌, ℕ, suc, ◌+◌, ◌-◌, ◌<◌, ◌≤◌, List, [], ◌∷◌, map, length, sym, refl, ap, ◌∙◌, subst, ap₂, arith}
use Rattle.rl_spec.specs.declared.Clause.{Clause}
use Rattle.std.specs.Prelude.{Some}
use Rattle.rl_spec.specs.declared.Interval.{Interval}
use Rattle.rl_spec.specs.Image.{num, Image}
use Rattle.rl_spec.specs.Records.{clause_at}
use Rattle.rl_spec.specs.Ranges.{up_from}
use Rattle.rl_spec.specs.Make.{Make, each}
use Rattle.rl_spec.specs.Lower.{expr, deep_clone_expr, violation, only_if, guard, msg_expr_by, msg_expr, clause_guard}
use Rattle.rl_schema.specs.Codes.{table}
use Rattle.rl_context.specs.Does.{State, nothing, Does, Pushes}
use Rattle.rl_context.proofs.Composed.{does_bind, does_give, does_push, does_each}
use Rattle.rl_images.specs.Lowering.Adds.{adds_bind, adds_each}
use Rattle.rl_context.proofs.StaysOver.{keeps_more, keeps_one}
use Rattle.rl_images.specs.Lowering.AddsLower.{adds_expr, adds_violation, adds_only_if, adds_guard, adds_clause}
use Rattle.rl_context.proofs.NodesMade.{does_none}
use Rattle.rl_context.specs.Guards.{Makes, Gathers, guard_of, clauses_in, ConditionsIn}

module _ {im : Image} {s t u v : State} {a b c : ℕ} (copy msg : ℕ) where
  pub guarded_does : Makes im (expr 33 (num 5 ∷ num copy ∷ [])) s a t → Makes im (violation msg) t b u → Makes im (only_if a b) u c v → Makes im (guard_of copy msg) s c v
  guarded_does d e f =
      does_bind d (keeps_more nothing (λ neg. adds_bind (adds_violation msg) (λ stm. adds_only_if neg stm)))
      (does_bind e (keeps_more nothing (λ stm. adds_only_if a stm)) f)

pub guard_does : {im : Image} {s t u : State} {copy a : ℕ} (pred msg : ℕ) → Makes im (deep_clone_expr pred) s copy t → Makes im (guard_of copy msg) t a u → Makes im (guard pred msg) s a u
unfolding guard
guard_does pred msg d e =
    does_bind d
    (keeps_more nothing (λ copy. adds_bind (adds_expr 33 (num 5 ∷ num copy ∷ [])) (λ neg. adds_bind (adds_violation msg) (λ stm. adds_only_if neg stm)))) e

module _ {im : Image} {k : ℕ} {s : State} (clause : Clause) (default : List ℕ) where
  pub message_own : (n : ℕ) → clause.message ≡ Some n → Does im k k nothing (msg_expr clause default) s n s
  message_own n e = subst (λ o. Does im k k nothing (msg_expr_by o default) s n s) (sym e) (does_give im k n s)

pub clause_does : {im : Image} {s t u : State} {m a : ℕ} (default : List ℕ) (clause : Clause) → Makes im (msg_expr clause default) s m t → Makes im (guard clause.condition m) t a u →
    Makes im (clause_guard default clause) s a u
clause_does default clause d e = does_bind d (keeps_more nothing (λ m. adds_guard clause.condition m)) e

-- ---- the guards of clauses, one after the other

module _ (im : Image) (default : List ℕ) (clauses : Interval) where
  abbrev guards : List Clause → Make (List ℕ)
  guards = each (clause_guard default)

  -- the clauses from the i-th on
  abbrev left : ℕ → List Clause
  left i = map (clause_at im) (up_from (clauses.first + i) (clauses.count - i))

  left_none : (i : ℕ) → clauses.count ≤ i → left i ≡ []
  unfolding up_from
  left_none i h = ap (λ n. map (clause_at im) (up_from (clauses.first + i) n)) none_left
    where
      none_left : clauses.count - i ≡ 0
      none_left = omega (arith, h)

  left_some : (i : ℕ) → i < clauses.count → left i ≡ clause_at im (clauses.first + i) ∷ left (i + 1)
  unfolding up_from
  left_some i h =
      ap (λ n. map (clause_at im) (up_from (clauses.first + i) n)) more
      ∙ ap (λ k. clause_at im (clauses.first + i) ∷ map (clause_at im) (up_from k (clauses.count - (i + 1)))) next
    where
      more : clauses.count - i ≡ suc (clauses.count - (i + 1))
      more = omega (arith, h)

      next : clauses.first + i + 1 ≡ clauses.first + (i + 1)
      next = omega arith

  left_all : left 0 ≡ clauses_in im clauses
  left_all = ap₂ (λ k n. map (clause_at im) (up_from k n)) start whole
    where
      start : clauses.first + 0 ≡ clauses.first
      start = omega arith

      whole : clauses.count - 0 ≡ clauses.count
      whole = omega arith

  one_guard : {t u v w : State} {n : ℕ} (i : ℕ) → i < clauses.count → Makes im (clause_guard default (clause_at im (clauses.first + i))) t n u → Pushes n u v →
      Gathers im 0 (guards (left (i + 1))) v w → Gathers im 0 (guards (left i)) t w
  one_guard {t} {w = w} {n = n} i h d p r =
      subst (λ l. Gathers im 0 (guards l) t w) (sym (left_some i h))
      (n ∷ r.0, does_each (clause_guard default) (clause_at im (clauses.first + i)) (left (i + 1)) (keeps_one (λ m ms. m ∷ ms) (adds_each (adds_clause default) (left (i + 1))) (λ m ms. omega arith)) (does_push d p) r.1)

  -- what is left leads to the whole
  pub record Guarding (rows : List ℕ) (n : ℕ) (s : State) (i : ℕ) (t : State) : Type 0 where
    pub some : i ≤ clauses.count
    pub scratch : length t.scratch ≡ length s.scratch
    pub waiting : length t.waiting ≡ length s.waiting
    pub rest : rows ≡ table → ConditionsIn im clauses n → (u : State) → Gathers im 0 (guards (left i)) t u → Gathers im 0 (guards (clauses_in im clauses)) s u

  module _ (rows : List ℕ) (n : ℕ) (s : State) where
    pub guarding_none : Guarding rows n s 0 s
    guarding_none = record { some = omega arith; scratch = refl; waiting = refl; rest = λ _ _ u g. subst (λ l. Gathers im 0 (guards l) s u) left_all g }

    pub guarding_more : (i : ℕ) (t u v : State) (clause : Clause) (m : ℕ) → i < clauses.count → Guarding rows n s i t → clause ≡ clause_at im (clauses.first + i) →
        (rows ≡ table → clause.condition < n → Makes im (clause_guard default clause) t m u) → Pushes m u v → length v.scratch ≡ length t.scratch →
        length v.waiting ≡ length t.waiting → Guarding rows n s (i + 1) v
    guarding_more i t u v clause m h g e d p a b =
        record {
          some = omega (arith, h);
          scratch = a ∙ g.scratch;
          waiting = b ∙ g.waiting;
          rest = λ q c w r.
              g.rest q c w
              (one_guard i h (subst (λ z. Makes im (clause_guard default z) t m u) e (d q (subst (λ z. z.condition < n) (sym e) (c i h)))) p r);
        }

    pub guarding_all : (i : ℕ) (t : State) → clauses.count ≤ i → Guarding rows n s i t → rows ≡ table → ConditionsIn im clauses n →
        Gathers im 0 (guards (clauses_in im clauses)) s t
    unfolding each
    guarding_all i t h g q c = g.rest q c t (subst (λ l. Gathers im 0 (guards l) t t) (sym (left_none i h)) ([], does_none t))
