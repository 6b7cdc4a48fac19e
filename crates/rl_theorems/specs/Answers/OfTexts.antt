-- What is answered for a text by its number, and for the message of a call's report: by the reader's table, then 20, and 17; and that a text
-- that is found stands in the image's bytes.
-- Assumes nothing.
use Rattle.std.specs.Prelude.{◌≡◌, ℕ, ◌+◌, ◌<◌, ◌≤◌, ◌↔◌, List, ◌++◌, length, take, drop, ◌≢◌, nat_lt, refl, Ok}
use Rattle.std.proofs.Common.{sym, ap, arith}
use Rattle.std.proofs.Math.ListN.{length-append}
use borrow.Author.Tests.{ltb-true, ltb-false}
use Rattle.rl_spec.specs.declared.Cause.{Cause}
use Rattle.rl_spec.specs.Answers.{refused}
use Rattle.rl_spec.specs.declared.Section.TheVariants.{Texts, Calls}
use Rattle.rl_spec.specs.declared.TextPart.{TextPart}
use Rattle.rl_spec.specs.Image.{size_of, record_of, field_of, first, second, text_of, image_of, AllBytes}
use Rattle.rl_spec.specs.Texts.{text_part, text_by, text_for, message_at, message_from, message_answer}
use Rattle.rl_laws.specs.Tests.{by_ltb}
use Rattle.rl_images.specs.Encoding.Accepted.{accepted_well_formed}
use Rattle.rl_images.specs.Encoding.AcceptedParts as Parts
use Rattle.rl_images.specs.Encoding.BytesAt.{BytesAt, piece}
use Rattle.rl_images.specs.Reading.ReadOutcome.{read_accepts, accepted_reads}
use Rattle.rl_images.specs.Reading.Table.{Unmet, First, By, accepts, checks_not, unmet_parts, refuses_exactly, accepts_exactly}
use Rattle.rl_images.specs.Reading.Rows.{read_rows}
use Rattle.rl_images.specs.Reading.Starts.{sizes_are_counts}
use Rattle.rl_theorems.specs.Answers.Tables.{text_rows, message_rows}
use Rattle.rl_theorems.specs.Answers.AfterReading.{after_reading}
use Rattle.rl_theorems.specs.Trees.DenotingExpressions.{text_says}
use Rattle.rl_laws.specs.AnswerLaws.{same_refusal}
use Rattle.rl_spec.specs.Answers.{TextAnswer, MessageAnswer}

-- ---- a text by its number

text_differ : {part : TextPart} {q : Cause} {p : ℕ} → Ok part ≢ refused q p
text_differ e = let z : ◌≡◌ {A = ℕ} 0 1 = cc in omega arith

text_same : {part other : TextPart} → ◌≡◌ {A = TextAnswer} (Ok part) (Ok other) → part ≡ other
text_same e = cc

module _ (s : List ℕ) (k t : ℕ) where
  -- THEOREM
  pub text_by_lem : By refused (read_rows s k ++ text_rows (image_of s) t) (Ok (text_part (image_of s) t)) (text_for s k t)
  unfolding text_for
  text_by_lem =
      after_reading s k (text_rows (image_of s) t) (text_by s t) (λ q n. refl) λ a c e.
      let size = sizes_are_counts s k a c e Texts in
      checks_not (nat_lt t c.texts) (λ d. omega (arith, size, ltb-false t c.texts d))
      (λ d h. omega (arith, size, ltb-true t c.texts d, h)) (accepts tt)

  -- THEOREMS: so
  pub text_refuses : (q : Cause) (p : ℕ) → (text_for s k t ≡ refused q p) ↔ First (read_rows s k ++ text_rows (image_of s) t) q p
  text_refuses = refuses_exactly (λ q q' p p' e. same_refusal e) (λ u q p. text_differ) text_by_lem

  pub text_accepts : (part : TextPart) → (text_for s k t ≡ Ok part) ↔ (Unmet (read_rows s k ++ text_rows (image_of s) t) × (text_part (image_of s) t ≡ part))
  text_accepts part =
      let x = accepts_exactly (Ok part) (λ q p e. text_differ (sym e)) text_by_lem in
      (λ e. ((x.0 e).0, text_same (x.0 e).1), λ y. x.1 (y.0, ap Ok y.1))

  -- THEOREM: the bytes of a text that is found are those that its part names, which stand within the image; and start and length have 16 bits
  pub text_stands : (part : TextPart) → AllBytes s → text_for s k t ≡ Ok part → (take part.length (drop part.start s) ≡ text_of (image_of s) t) × (part.start + part.length ≤ length s) × (part.start < 65536) × (part.length < 65536)
  unfolding text_part
  text_stands part bytes e =
      let found = (text_accepts part).0 e in
      let unmet = unmet_parts (read_rows s k) (text_rows (image_of s) t) found.0 in
      let read = (read_accepts s k).1 unmet.0 in
      let reads = accepted_reads s k read.0 read.1 read.2 in
      let there : t < size_of (image_of s) Texts = by_ltb t (size_of (image_of s) Texts) (λ l. l) (λ l. absurd (unmet.1.0 l)) in
      let at : ℕ = first (field_of (record_of (image_of s) Texts t) 0) in
      let size : ℕ = second (field_of (record_of (image_of s) Texts t) 0) in
      let inside : at + size ≤ length (image_of s).bytes =
      (text_says (image_of s) (accepted_well_formed s k read.0 read.1 bytes read.2) t there).part
      in
      let stand : BytesAt s 23 (image_of s).bytes = Parts.text_stands s bytes reads in
      let whole : 23 + at + size ≤ length s = omega (arith, simp length-append at (ap length stand.whole), stand.place) in
      rw (← found.1) (piece stand at size inside, whole, omega (arith, reads.small), omega (arith, reads.small))

-- ---- the message of a call's report

message_differ : {l : ℕ} {q : Cause} {p : ℕ} → Ok l ≢ refused q p
message_differ e = let z : ◌≡◌ {A = ℕ} 0 1 = cc in omega arith

message_same : {l m : ℕ} → ◌≡◌ {A = MessageAnswer} (Ok l) (Ok m) → l ≡ m
message_same e = cc

module _ (s : List ℕ) (k call n : ℕ) where
  -- THEOREM
  pub message_by_lem : By refused (read_rows s k ++ message_rows (image_of s) call) (Ok (length (message_at (image_of s) call n))) (message_answer s k call n)
  unfolding message_answer
  message_by_lem =
      after_reading s k (message_rows (image_of s) call) (message_from s call n) (λ q p. refl) λ a c e.
      let size = sizes_are_counts s k a c e Calls in
      checks_not (nat_lt call c.calls) (λ d. omega (arith, size, ltb-false call c.calls d))
      (λ d h. omega (arith, size, ltb-true call c.calls d, h)) (accepts tt)

  -- THEOREMS: so
  pub message_refuses : (q : Cause) (p : ℕ) → (message_answer s k call n ≡ refused q p) ↔ First (read_rows s k ++ message_rows (image_of s) call) q p
  message_refuses = refuses_exactly (λ q q' p p' e. same_refusal e) (λ u q p. message_differ) message_by_lem

  pub message_accepts : (l : ℕ) → (message_answer s k call n ≡ Ok l) ↔ (Unmet (read_rows s k ++ message_rows (image_of s) call) × (length (message_at (image_of s) call n) ≡ l))
  message_accepts l =
      let x = accepts_exactly (Ok l) (λ q p e. message_differ (sym e)) message_by_lem in
      (λ e. ((x.0 e).0, message_same (x.0 e).1), λ y. x.1 (y.0, ap Ok y.1))
