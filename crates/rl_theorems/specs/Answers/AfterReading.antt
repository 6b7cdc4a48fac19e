-- An entry point reads first: what the reader refuses is refused so, and behind the reader's table stands its own.
-- Assumes nothing.
use Rattle.std.specs.Prelude.{◌≡◌, ℕ, List, ◌++◌, refl}
use Rattle.std.proofs.Common.{subst}
use Rattle.rl_spec.specs.declared.ArenaNo.{ArenaNo}
use Rattle.rl_spec.specs.declared.Counts.{Counts}
use Rattle.rl_spec.specs.declared.Cause.{Cause}
use Rattle.rl_spec.specs.Answers.{Answer, accepted, refused}
use Rattle.rl_spec.specs.Bytes.{u32_at}
use Rattle.rl_spec.specs.Read.{counts_of, answer_of}
use Rattle.rl_spec.specs.Image.{image_of}
use Rattle.rl_images.specs.Reading.Table.{Row, By, refuses, accepts, first_front, behind}
use Rattle.rl_images.specs.Reading.Rows.{read_rows}
use Rattle.rl_images.specs.Reading.ReadOutcome.{answer_by_lem, accepted_header}

-- what f makes of the reader's answer is by both tables
pub after_reading : {A : Type 0} {refuse : Cause → ℕ → A} {answer : A} (s : List ℕ) (k : ℕ) (t : List Row) (f : Answer → A) → ((q : Cause) (n : ℕ) → refuse q n ≡ f (refused q n)) → ((a : ArenaNo) (c : Counts) → answer_of s k ≡ accepted a c → By refuse t answer (f (accepted a c))) → By refuse (read_rows s k ++ t) answer (f (answer_of s k))
after_reading {A} {refuse} {answer} s k t f same own = go refl (answer_by_lem s k)
  where
    go : {r : Answer} → answer_of s k ≡ r → By refused (read_rows s k) (accepted (record { 0 = u32_at s 1 }) (counts_of s)) r → By refuse (read_rows s k ++ t) answer (f r)
    go e (refuses {q = q} {p = n} x) =
        subst (By refuse (read_rows s k ++ t) answer) (same q n) (refuses (first_front (read_rows s k) t q n x))
    go e (accepts u) = behind (read_rows s k) t u (own (record { 0 = u32_at s 1 }) (counts_of s) e)

-- the image's arena number is the answer's
pub arena_of : (s : List ℕ) (k : ℕ) (a : ArenaNo) (c : Counts) → answer_of s k ≡ accepted a c → a.0 ≡ (image_of s).arena
unfolding image_of
arena_of s k a c e = (accepted_header s k a c e).0
