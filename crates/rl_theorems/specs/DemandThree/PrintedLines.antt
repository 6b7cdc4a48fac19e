-- What the printer writes of a call: a line that begins with a call's number is of a violation of that call.
-- Assumes nothing.
use Rattle.std.specs.Prelude.{◌≡◌, ℕ, zero, suc, ◌+◌, ◌/◌, ◌%◌, ◌^◌, ◌<◌, ◌≤◌, List, [], ◌∷◌, ◌++◌, map, length, ◌≢◌, slice_index_or, refl, Ok, Err}
use Rattle.std.proofs.Common.{ap, ap₂, ◌∙◌, arith, pow-suc, div-lt_iff_lt-mul, lt-ltb, le-ltb, lit<, length-append}
use Rattle.std.proofs.Math.Path.{sym, subst}
use mathlib.Core.List.{append_assoc, head-eq_of_cons-eq, tail-eq_of_cons-eq}
use Rattle.std.proofs.Math.Option.{Option, none, some}
use Rattle.rl_spec.specs.Answers.{Answer, accepted}
use Rattle.rl_spec.specs.declared.ArenaNo.{ArenaNo}
use Rattle.rl_spec.specs.declared.Cause.{Cause}
use Rattle.rl_spec.specs.declared.Counts.{Counts}
use Rattle.rl_spec.specs.declared.Violation.{Violation}
use Rattle.rl_spec.specs.Schema.{limits}
use Rattle.rl_spec.specs.Read.{counts_of, answer_of}
use Rattle.rl_spec.specs.Image.{Image, image_of}
use Rattle.rl_spec.specs.Tree.{ascii}
use Rattle.rl_spec.specs.Records.{call_at}
use Rattle.rl_spec.specs.FnContracts.{callee_of}
use Rattle.rl_spec.specs.Prove.{violations_of}
use Rattle.rl_spec.specs.Message.{decimal_by, decimal, opening}
use Rattle.rl_spec.specs.Printed.{refused_line, line_with, line_of, lines_by, call_lines, all_lines, lines_from, lines_of}
use Rattle.rl_laws.specs.Tests.{by_ltb}
use Rattle.rl_images.specs.Reading.ReadOutcome.{accepted_header, accepted_reads}
use Rattle.rl_theorems.specs.DemandThree.FoldsEntry.{NonEmpty, AllOf}

-- ---- the digits of a number

abbrev Digit : ℕ → Type 0
Digit b = (48 ≤ b) × (b ≤ 57)

one_digit : (k n : ℕ) → n < 10 → decimal_by (suc k) n ≡ (48 + n) ∷ []
unfolding decimal_by
one_digit k n l = rw (lt-ltb n 10 l) refl

more_digits : (k n : ℕ) → 10 ≤ n → decimal_by (suc k) n ≡ decimal_by k (n / 10) ++ (48 + n % 10) ∷ []
unfolding decimal_by
more_digits k n l = rw (le-ltb n 10 l) refl

last_digit : (t : List ℕ) (b : ℕ) → AllOf Digit t → Digit b → AllOf Digit (t ++ b ∷ [])
last_digit [] b h d = (d, tt)
last_digit (a ∷ t) b h d = (h.0, last_digit t b h.1 d)

digits_by : (k n : ℕ) → AllOf Digit (decimal_by k n)
unfolding decimal_by
digits_by zero n = tt
digits_by (suc k) n =
    by_ltb n 10
    (λ l. subst (AllOf Digit) (sym (one_digit k n l)) ((omega arith, omega (arith, l)), tt))
    (λ l.
    subst (AllOf Digit) (sym (more_digits k n l))
    (last_digit (decimal_by k (n / 10)) (48 + n % 10) (digits_by k (n / 10)) (omega arith, omega arith)))

digits : (n : ℕ) → AllOf Digit (decimal n)
unfolding decimal
digits n = digits_by 20 n

-- there is one at least
some_digit : (k n : ℕ) → 1 ≤ length (decimal_by (suc k) n)
some_digit k n =
    by_ltb n 10
    (λ l. rw (one_digit k n l) (omega arith))
    (λ l. rw (more_digits k n l, length-append (decimal_by k (n / 10)) ((48 + n % 10) ∷ [])) (omega arith))

no_single : (k n b : ℕ) (t : List ℕ) → decimal_by (suc k) n ++ b ∷ [] ≡ t → length t ≢ 1
no_single k n b t e d =
    let whole : length (decimal_by (suc k) n) + 1 ≡ length t = sym (length-append (decimal_by (suc k) n) (b ∷ [])) ∙ ap length e in
    omega (arith, whole, d, some_digit k n)

same_last : (s t : List ℕ) (a b : ℕ) → s ++ a ∷ [] ≡ t ++ b ∷ [] → (s ≡ t) × (a ≡ b)
same_last [] [] a b e = (refl, head-eq_of_cons-eq e)
same_last [] (y ∷ t) a b e =
    let l : 1 ≡ suc (length (t ++ b ∷ [])) = ap length e in
    absurd (omega (arith, l, length-append t (b ∷ [])))
same_last (x ∷ s) [] a b e =
    let l : suc (length (s ++ a ∷ [])) ≡ 1 = ap length e in
    absurd (omega (arith, l, length-append s (a ∷ [])))
same_last (x ∷ s) (y ∷ t) a b e =
    let h = same_last s t a b (tail-eq_of_cons-eq e) in
    (ap₂ ◌∷◌ (head-eq_of_cons-eq e) h.0, h.1)

but_last : (k n m : ℕ) → 10 ≤ n → 10 ≤ m → decimal_by (suc k) n ≡ decimal_by (suc k) m →
    (decimal_by k (n / 10) ≡ decimal_by k (m / 10)) × (48 + n % 10 ≡ 48 + m % 10)
but_last k n m a b e = same_last _ _ _ _ (sym (more_digits k n a) ∙ e ∙ more_digits k m b)

-- numbers with the same digits are the same, where one has fewer digits than are made
same_step : (k n m : ℕ) → (10 ≤ m → decimal_by (suc k) (n / 10) ≡ decimal_by (suc k) (m / 10) → n / 10 ≡ m / 10) →
    decimal_by (suc (suc k)) n ≡ decimal_by (suc (suc k)) m → n ≡ m
same_step k n m further e =
    by_ltb n 10
    (λ a. by_ltb m 10
    (λ b. let h : 48 + n ≡ 48 + m = head-eq_of_cons-eq (sym (one_digit (suc k) n a) ∙ e ∙ one_digit (suc k) m b) in omega (arith, h))
    (λ b. absurd (no_single k (m / 10) _ _ (sym (more_digits (suc k) m b) ∙ sym e ∙ one_digit (suc k) n a) refl)))
    (λ a. by_ltb m 10
    (λ b. absurd (no_single k (n / 10) _ _ (sym (more_digits (suc k) n a) ∙ e ∙ one_digit (suc k) m b) refl))
    (λ b. let h = but_last (suc k) n m a b e in omega (arith, further b h.0, h.1)))

same_by : (k n m : ℕ) → m < 10 ^ suc k → decimal_by (suc (suc k)) n ≡ decimal_by (suc (suc k)) m → n ≡ m
same_by zero n m l e = same_step 0 n m (λ b h. absurd (omega (arith, l, b))) e
same_by (suc k) n m l e =
    same_step (suc k) n m (λ b h. same_by k (n / 10) (m / 10) ((div-lt_iff_lt-mul (lit< tt)).1 (rw pow-suc at l)) h) e

same_number : (n m : ℕ) → m ≤ 256 → decimal n ≡ decimal m → n ≡ m
unfolding decimal
same_number n m l e = same_by 18 n m (omega (arith, l)) e

-- ---- how a line begins

-- digits up to a space
before_space : (s t x y : List ℕ) → AllOf Digit s → AllOf Digit t → s ++ 32 ∷ x ≡ t ++ 32 ∷ y → s ≡ t
before_space [] [] x y g h e = refl
before_space [] (b ∷ t) x y g h e = absurd (omega (arith, head-eq_of_cons-eq e, h.0.0))
before_space (a ∷ s) [] x y g h e = absurd (omega (arith, head-eq_of_cons-eq e, g.0.0))
before_space (a ∷ s) (b ∷ t) x y g h e =
    ap₂ ◌∷◌ (head-eq_of_cons-eq e) (before_space s t x y g.1 h.1 (tail-eq_of_cons-eq e))

module _ (call : ℕ) (rest : List ℕ) where
  -- a line that begins with the call's number
  abbrev Starts : List ℕ → Type 0
  Starts line = decimal call ++ ascii " " ++ rest ≡ line

  spaced : (t : List ℕ) → Starts t → decimal call ++ 32 ∷ rest ≡ t
  unfolding ascii
  spaced t e = sym (append_assoc (decimal call) (32 ∷ []) rest) ∙ e

  -- that of a report begins with its own call's
  line_call : (k span : ℕ) (text : List ℕ) → k ≤ 256 → Starts (line_with k span text) → call ≡ k
  unfolding line_with ascii
  line_call k span text l e =
      same_number call k l
      (before_space (decimal call) (decimal k) rest _ (digits call) (digits k)
      (spaced _ e
      ∙ append_assoc (decimal k ++ 32 ∷ [] ++ decimal span ++ 32 ∷ [] ++ opening) text (10 ∷ [])
      ∙ append_assoc (decimal k ++ 32 ∷ [] ++ decimal span ++ 32 ∷ []) opening (text ++ 10 ∷ [])
      ∙ append_assoc (decimal k ++ 32 ∷ [] ++ decimal span) (32 ∷ []) (opening ++ (text ++ 10 ∷ []))
      ∙ append_assoc (decimal k ++ 32 ∷ []) (decimal span) (32 ∷ (opening ++ (text ++ 10 ∷ [])))
      ∙ append_assoc (decimal k) (32 ∷ []) (decimal span ++ 32 ∷ (opening ++ (text ++ 10 ∷ [])))))

  -- that of a refusal begins with `r`
  no_r : (s t : List ℕ) → AllOf Digit s → s ++ 32 ∷ rest ≢ 114 ∷ t
  no_r [] t h e = omega (arith, head-eq_of_cons-eq e)
  no_r (b ∷ s) t h e = omega (arith, head-eq_of_cons-eq e, h.0.1)

  not_refused : (q : Cause) (place : ℕ) → Starts (refused_line q place) → ⊥
  unfolding refused_line ascii
  not_refused q place e = no_r (decimal call) _ (digits call) (spaced _ e)

-- ---- all lines

module _ (im : Image) (call : ℕ) (rest : List ℕ) where
  -- a line that begins with the call's number is of a violation of it
  abbrev Tells : List ℕ → Type 0
  Tells line = Starts call rest line → NonEmpty (violations_of im call)

  both : (s t : List (List ℕ)) → AllOf Tells s → AllOf Tells t → AllOf Tells (s ++ t)
  both [] t g h = h
  both (a ∷ s) t g h = (g.0, both s t g.1 h)

  each : (f k : ℕ) → k ≤ 256 → (vs : List Violation) → (NonEmpty vs → call ≡ k → NonEmpty (violations_of im call)) →
      AllOf Tells (map (line_of im f k (call_at im k).span) vs)
  unfolding line_of
  each f k l [] h = tt
  each f k l (v ∷ vs) h = (λ e. h tt (line_call call rest k _ _ l e), each f k l vs (λ z. h tt))

  of_call : (k : ℕ) → k ≤ 256 → AllOf Tells (call_lines im k)
  unfolding call_lines
  of_call k l = go (callee_of im k)
    where
      go : (o : Option ℕ) → AllOf Tells (lines_by im k o)
      go none = tt
      go (some f) = each f k l (violations_of im k) (λ z e. subst (λ c. NonEmpty (violations_of im c)) (sym e) z)

  of_calls : (n k : ℕ) → k + n ≤ 256 → AllOf Tells (all_lines im n k)
  unfolding all_lines
  of_calls zero k l = tt
  of_calls (suc n) k l =
      both (call_lines im k) (all_lines im n (k + 1)) (of_call k (omega (arith, l))) (of_calls n (k + 1) (omega (arith, l)))

line_at_lem : (P : List ℕ → Type 0) (lines : List (List ℕ)) → AllOf P lines → (i : ℕ) → i < length lines → P (slice_index_or lines i [])
line_at_lem P [] h i l = absurd (omega (arith, l))
line_at_lem P (a ∷ lines) h zero l = h.0
line_at_lem P (a ∷ lines) h (suc i) l = line_at_lem P lines h.1 i (omega (arith, l))

module _ (s : List ℕ) where
  few_calls : (k : ℕ) (a : ArenaNo) (c : Counts) → answer_of s k ≡ accepted a c → c.calls ≤ 256
  unfolding counts_of limits
  few_calls k a c e =
      rw (accepted_header s k a c e).1 (accepted_reads s k a c e).header.counts.1.1.1.1.1.1.1.1.0

  of_answer : (call : ℕ) (rest : List ℕ) (a : Answer) → answer_of s 8192 ≡ a → AllOf (Tells (image_of s) call rest) (lines_from s a)
  of_answer call rest (Ok h) e = of_calls (image_of s) call rest h.counts.calls 0 (omega (arith, few_calls 8192 h.arena h.counts e))
  of_answer call rest (Err r) e = (λ d. absurd (not_refused call rest r.cause r.place d), tt)

  -- THEOREM: a call whose number a line of the printer begins with has a violation
  pub line_reported : (call i : ℕ) (rest : List ℕ) → i < length (lines_of s) → decimal call ++ ascii " " ++ rest ≡ slice_index_or (lines_of s) i [] →
      NonEmpty (violations_of (image_of s) call)
  unfolding lines_of
  line_reported call i rest l e = line_at_lem (Tells (image_of s) call rest) (lines_of s) (of_answer call rest (answer_of s 8192) refl) i l e
