-- What reading comes to: it refuses exactly for the first row of its table that holds, and accepts exactly where none does; and what is
-- known of bytes that it accepts (Reads).
-- Assumes nothing.
use Prim.Native.Nat.{ℕ, zero, suc, ◌+◌, ◌*◌, ◌≤◌, ◌<◌}
use Rattle.std.proofs.Math.Path.{◌≡◌, subst}
use Rattle.std.specs.Prelude.{refl, ◌↔◌, ltb, eqb, get_or, replicate}
use Rattle.std.proofs.Common.{sym}
use mathlib.Core.List.{List, [], ◌∷◌, ◌++◌, append_assoc}
use native.Mathlib.Omega.{arith}
use Rattle.std.proofs.Math.ListN.{length}
use borrow.Author.Tests.{ltb-true, ltb-false, eqb-true, eqb-false}
use Rattle.rl_spec.specs.declared.ArenaNo.{ArenaNo}
use Rattle.rl_spec.specs.declared.Counts.{Counts}
use Rattle.rl_spec.specs.declared.Cause.{Cause}
use Rattle.rl_spec.specs.declared.Cause.TheVariants.{BytesEnd, BytesLeft}
use Rattle.rl_spec.specs.Answers.{accepted, goes_on, refused, Step}
use Rattle.rl_spec.specs.declared.Section.{Section}
use Rattle.rl_spec.specs.Bytes.{u16_at, u32_at, past}
use Rattle.rl_spec.specs.Schema.{limits, text_bytes_at, sections, count_of}
use Rattle.rl_spec.specs.Read.{after, counts_of, counts_from, header_of, Out, good, bad, seen_by, keep, records_from, and_then, sections_from, end_of, body_of, content_of, most_starts, read_of, answer_by, starts_by, answer_of, starts_of}
use Rattle.rl_spec.specs.Image.{next_at, end_at}
use Rattle.rl_images.specs.Reading.Table.{Row, row, Unmet, First, first_front, unmet_parts, By, refuses, accepts, refuses_exactly, accepts_exactly, behind, checks, checks_not}
use Rattle.rl_images.specs.Reading.Rows.{height_at, record_rows, starts_from, work_from, records_rows, sections_rows, starts_in, work_in, last_at, counts_rows, header_rows, sections_at, sections_end, content_rows, read_rows}
use Rattle.rl_images.specs.Reading.Causes.{record_by_lem}
use Rattle.rl_laws.specs.Tests.{not_below}
use Rattle.rl_images.specs.Reading.Whole.{Sections, sections_whole, HeaderRead, header_whole}
use Rattle.rl_laws.specs.AnswerLaws.{same_refusal, same_accepted}
use Rattle.std.proofs.Common.{ap}

-- ---- one part behind another

by_after : (t u : List Row) {a tall : ℕ} {v : Out} {x : Step} (f : ℕ → ℕ → Out) → By refused t (goes_on a tall) x → By bad u v (f a tall) → By bad (t ++ u) v (after x f bad)
by_after t u f (refuses {q = q} {p = n} y) z = refuses (first_front t u q n y)
by_after t u f (accepts y) z = behind t u y z

by_then : (t u : List Row) {a : ℕ} {w p : List ℕ} {v : Out} {x : Out} (f : ℕ → List ℕ → List ℕ → Out) → By bad t (good a w p) x → By bad u v (f a w p) → By bad (t ++ u) v (and_then x f)
by_then t u f (refuses {q = q} {p = n} y) z = refuses (first_front t u q n y)
by_then t u f (accepts y) z = behind t u y z

-- ---- the records and the sections

module _ (s : List ℕ) (c : Counts) where
  records_by : (o : Section) (n i at : ℕ) (w p : List ℕ) → By bad (records_rows s c o n i at w p) (good (end_at s n at) (work_from s c o n i at w) (starts_from s c o n i at p)) (records_from s c o n i at w p)
  unfolding records_from records_rows end_at work_from starts_from
  records_by o zero i at w p = accepts tt
  records_by o (suc n) i at w p =
      by_after (record_rows s w p (seen_by c o i) o at) _ (λ a tall. records_from s c o n (i + 1) a (keep c o i tall w) (keep c o i at p))
      (record_by_lem s w p (seen_by c o i) o at)
      (records_by o n (i + 1) (next_at s at) (keep c o i (height_at s w (seen_by c o i) o at) w) (keep c o i at p))

  sections_by : (os : List Section) (at : ℕ) (w p : List ℕ) → By bad (sections_rows s c os at w p) (good (last_at s c os at) (work_in s c os at w) (starts_in s c os at p)) (sections_from s c os at w p)
  unfolding sections_from sections_rows last_at work_in starts_in
  sections_by [] at w p = accepts tt
  sections_by (o ∷ os) at w p =
      by_then (records_rows s c o (count_of c o) 0 at w p) _ (λ a w p. sections_from s c os a w p) (records_by o (count_of c o) 0 at w p)
      (sections_by os (end_at s (count_of c o) at) (work_from s c o (count_of c o) 0 at w) (starts_from s c o (count_of c o) 0 at p))

-- ---- the header

module _ (s : List ℕ) where
  counts_by : (ms : List ℕ) (at : ℕ) → By refused (counts_rows s ms at) (goes_on (at + 2 * length ms) 0) (counts_from s ms at)
  unfolding counts_from counts_rows past
  counts_by [] at = subst (λ i. By refused [] (goes_on i 0) (goes_on at 0)) (omega arith) (accepts tt)
  counts_by (m ∷ ms) at =
      checks (ltb (length s) (at + 2)) (ltb-true (length s) (at + 2)) (λ e h. omega (arith, ltb-false (length s) (at + 2) e))
      (checks (ltb m (u16_at s at)) (ltb-true m (u16_at s at)) (λ e h. omega (arith, ltb-false m (u16_at s at) e))
      (let e : at + 2 + 2 * length ms ≡ at + 2 * suc (length ms) = omega arith in
      subst (λ i. By refused (counts_rows s ms (at + 2)) (goes_on i 0) (counts_from s ms (at + 2))) e (counts_by ms (at + 2))))

  header_by : By refused (header_rows s) (goes_on (5 + 2 * length limits) 0) (header_of s)
  unfolding header_of past
  header_by =
      checks (ltb (length s) (0 + 1)) (λ e. omega (arith, ltb-true (length s) 1 e)) (λ e h. omega (arith, ltb-false (length s) 1 e))
      (checks_not (eqb (get_or s 0 0) 1) (eqb-false (get_or s 0 0) 1) (λ e h. h (eqb-true (get_or s 0 0) 1 e))
      (checks (ltb (length s) (1 + 4)) (ltb-true (length s) 5) (λ e h. omega (arith, ltb-false (length s) 5 e)) (counts_by limits 5)))

-- ---- the whole

module _ (s : List ℕ) where
  end_by : (t : List Row) {a : ℕ} {w p : List ℕ} {x : Out} → By bad t (good a w p) x → By bad (t ++ row BytesLeft a (a < length s) ∷ []) (good a w p) (end_of s x)
  unfolding end_of
  end_by t (refuses {q = q} {p = n} y) = refuses (first_front t _ q n y)
  end_by t {a = a} (accepts y) =
      behind t _ y (checks (ltb a (length s)) (ltb-true a (length s)) (λ e h. omega (arith, ltb-false a (length s) e)) (accepts tt))

  -- with these heights and starts
  module _ (w p : List ℕ) where
    unfoldable answer : Out
    answer = good (sections_end s) (work_in s (counts_of s) sections (sections_at s) w) (starts_in s (counts_of s) sections (sections_at s) p)

    unfoldable text_rows : List Row
    text_rows = row BytesEnd text_bytes_at (length s < sections_at s) ∷ sections_rows s (counts_of s) sections (sections_at s) w p

    unfoldable end_rows : List Row
    end_rows = row BytesLeft (sections_end s) (sections_end s < length s) ∷ []

    body_by_lem : By bad (text_rows ++ end_rows) answer (body_of s (counts_of s) w p)
    unfolding body_of past answer text_rows end_rows
    body_by_lem =
        checks (ltb (length s) (sections_at s)) (ltb-true (length s) (sections_at s)) (λ e h. omega (arith, ltb-false (length s) (sections_at s) e))
        (end_by (sections_rows s (counts_of s) sections (sections_at s) w p) (sections_by s (counts_of s) sections (sections_at s) w p))

    content_by : By bad (header_rows s ++ text_rows ++ end_rows) answer (content_of s w p)
    content_by =
        subst (λ t. By bad t answer (content_of s w p)) (sym (append_assoc (header_rows s) text_rows end_rows))
        (by_after (header_rows s) (text_rows ++ end_rows) (λ a tall. body_of s (counts_of s) w p) (header_by s) body_by_lem)

module _ (s : List ℕ) (k : ℕ) where
  read_by : By bad (read_rows s k) (answer s (replicate k 0) (replicate most_starts 0)) (read_of s k)
  unfolding read_of text_rows end_rows
  read_by =
      checks (ltb 65535 (length s)) (ltb-true 65535 (length s)) (λ e h. omega (arith, ltb-false 65535 (length s) e))
      (checks (ltb k 8192) (ltb-true k 8192) (λ e h. omega (arith, ltb-false k 8192 e)) (content_by s (replicate k 0) (replicate most_starts 0)))

  -- the answer, which is the header's arena number and counts where none holds
  pub answer_by_lem : By refused (read_rows s k) (accepted (record { 0 = u32_at s 1 }) (counts_of s)) (answer_of s k)
  unfolding answer_of answer
  answer_by_lem = go read_by
    where
      go : {a : ℕ} {w p : List ℕ} {r : Out} → By bad (read_rows s k) (good a w p) r → By refused (read_rows s k) (accepted (record { 0 = u32_at s 1 }) (counts_of s)) (answer_by s r)
      go (refuses f) = refuses f
      go (accepts u) = accepts u

  -- THEOREM: it is refused exactly for the first row that holds
  pub read_refuses : (q : Cause) (n : ℕ) → (answer_of s k ≡ refused q n) ↔ First (read_rows s k) q n
  read_refuses = refuses_exactly (λ q q' n n' e. same_refusal e) (λ u q n e. differ e) answer_by_lem
    where
      differ : {a : ArenaNo} {c : Counts} {q : Cause} {n : ℕ} → accepted a c ≡ refused q n → ⊥
      differ e = let z : ◌≡◌ {A = ℕ} 0 1 = cc in omega arith

  accepts_as : (a : ArenaNo) (c : Counts) → (answer_of s k ≡ accepted a c) ↔ (Unmet (read_rows s k) × (accepted (record { 0 = u32_at s 1 }) (counts_of s) ≡ accepted a c))
  accepts_as a c = accepts_exactly (accepted a c) (λ q n e. differ e) answer_by_lem
    where
      differ : {q : Cause} {n : ℕ} → refused q n ≡ accepted a c → ⊥
      differ e = let z : ◌≡◌ {A = ℕ} 0 1 = cc in omega arith

  -- THEOREM: it is accepted exactly where none holds
  pub read_accepts : ((a : ArenaNo) × (c : Counts) × (answer_of s k ≡ accepted a c)) ↔ Unmet (read_rows s k)
  read_accepts = (λ x. ((accepts_as x.0 x.1).0 x.2).0, λ u. (_, _, (accepts_as _ _).1 (u, refl)))

  -- THEOREM: the answer's arena number and counts are the header's
  pub accepted_header : (a : ArenaNo) (c : Counts) → answer_of s k ≡ accepted a c → (a.0 ≡ u32_at s 1) × (c ≡ counts_of s)
  accepted_header a c e = let h = same_accepted ((accepts_as a c).0 e).1 in (ap (λ (x : ArenaNo). x.0) (sym h.0), sym h.1)

-- what is known of accepted bytes, and of the starts p that reading leaves
pub record Reads (s p : List ℕ) : Type 0 where
  pub small : length s ≤ 65535
  pub header : HeaderRead s
  pub text : sections_at s ≤ length s
  pub found : Sections s (counts_of s) sections (sections_at s)
  pub ends : length s ≡ sections_end s
  pub kept : p ≡ starts_in s (counts_of s) sections (sections_at s) (replicate most_starts 0)

module _ (s : List ℕ) (k : ℕ) where
  reads : Unmet (read_rows s k) → Reads s (starts_in s (counts_of s) sections (sections_at s) (replicate most_starts 0))
  reads u =
      let v = unmet_parts (content_rows s k) _ u in
      let h = unmet_parts (header_rows s) _ v.0.1.1 in
      let t = not_below (length s) (sections_at s) h.1.0 in
      let x = sections_whole s (counts_of s) sections (sections_at s) (replicate k 0) (replicate most_starts 0) t h.1.1 in
      record {
        small = not_below 65535 (length s) v.0.0;
        header = header_whole s h.0;
        text = t;
        found = x.0;
        ends = omega (arith, x.1, not_below (sections_end s) (length s) v.1.0);
        kept = refl;
      }

  -- THEOREM: what acceptance says
  pub accepted_reads : (a : ArenaNo) (c : Counts) → answer_of s k ≡ accepted a c → Reads s (starts_of s k)
  unfolding answer_of starts_of answer
  accepted_reads a c e = go (read_by s k) e
    where
      go : {n : ℕ} {w : List ℕ} {r : Out} → By bad (read_rows s k) (good n w (starts_in s (counts_of s) sections (sections_at s) (replicate most_starts 0))) r → answer_by s r ≡ accepted a c → Reads s (starts_by r)
      go (accepts u) e = reads u
      go (refuses f) e = let z : ◌≡◌ {A = ℕ} 0 1 = cc in absurd (omega arith)
