-- The test of a limit.
-- Assumes nothing.
use Rattle.std.proofs.Common.{◌≡◌, ℕ, ◌+◌, ◌≤◌, Bool, false, ltb, sym, ◌∙◌, ltb-false}

pub within : (n more most : ℕ) (b : Bool) → b ≡ ltb most (n + more) → b ≡ false → n + more ≤ most
within n more most b e q = ltb-false most (n + more) (sym e ∙ q)
