-- A text by its index, or none. Assumes nothing.
use Rattle.std.specs.Prelude.{ℕ, None, Some}
use Rattle.std.proofs.Math.Option.{Option, none, some}
use Rattle.rl_spec.specs.Answers.{Optional}

abbrev pub text_option : Optional → Option ℕ
text_option None = none
text_option (Some t) = some t
