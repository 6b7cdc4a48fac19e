-- Answers that are the same have the same parts.
use Rattle.std.specs.Prelude.{ℕ, ◌≡◌}
use Rattle.std.proofs.Common.{ap}
use Rattle.rl_spec.specs.declared.Accepted.{Accepted}
use Rattle.rl_spec.specs.declared.ArenaNo.{ArenaNo}
use Rattle.rl_spec.specs.declared.Cause.{Cause}
use Rattle.rl_spec.specs.declared.Counts.{Counts}
use Rattle.rl_spec.specs.declared.Next.{Next}
use Rattle.rl_spec.specs.declared.Outcome.{Outcome}
use Rattle.rl_spec.specs.declared.Refusal.{Refusal}
use Rattle.rl_spec.specs.declared.Run.{Run}
use Rattle.rl_spec.specs.Answers.{accepted, goes_on, ran, refused}

pub same_refusal : {A : Type 0} {c c' : Cause} {q q' : ℕ} → refused {A = A} c q ≡ refused c' q' → (c ≡ c') × (q ≡ q')
same_refusal {A} {c} {c'} {q} {q'} e =
    let r : Refusal = record { cause = c; place = q } in
    let r' : Refusal = record { cause = c'; place = q' } in
    let d : r ≡ r' = cc in
    (ap (λ (x : Refusal). x.cause) d, ap (λ (x : Refusal). x.place) d)

pub same_accepted : {a a' : ArenaNo} {c c' : Counts} → accepted a c ≡ accepted a' c' → (a ≡ a') × (c ≡ c')
same_accepted {a} {a'} {c} {c'} e =
    let r : Accepted = record { arena = a; counts = c } in
    let r' : Accepted = record { arena = a'; counts = c' } in
    let d : r ≡ r' = cc in
    (ap (λ (x : Accepted). x.arena) d, ap (λ (x : Accepted). x.counts) d)

pub same_step : {a a' t t' : ℕ} → goes_on a t ≡ goes_on a' t' → (a ≡ a') × (t ≡ t')
same_step {a} {a'} {t} {t'} e =
    let r : Next = record { at = a; tall = t } in
    let r' : Next = record { at = a'; tall = t' } in
    let d : r ≡ r' = cc in
    (ap (λ (x : Next). x.at) d, ap (λ (x : Next). x.tall) d)

pub same_run : {o o' : Outcome} {n n' : ℕ} → ran o n ≡ ran o' n' → (o ≡ o') × (n ≡ n')
same_run {o} {o'} {n} {n'} e =
    let r : Run = record { outcome = o; steps = n } in
    let r' : Run = record { outcome = o'; steps = n' } in
    let d : r ≡ r' = cc in
    (ap (λ (x : Run). x.outcome) d, ap (λ (x : Run). x.steps) d)
