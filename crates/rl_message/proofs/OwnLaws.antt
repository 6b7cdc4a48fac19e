-- Laws for a clause's own text and for the message.
-- Assumes nothing.
use Prim.Native.Nat.{ℕ}
use mathlib.Core.Path.{◌≡◌}
use mathlib.Core.Option.{Option}
use Rattle.rl_spec.specs.Answers.{Optional}
use Rattle.std.specs.Prelude.{Some}
use Rattle.rl_spec.specs.declared.Form.{Form}
use Rattle.rl_spec.specs.Image.{Image}
use Rattle.rl_spec.specs.Tree.{Expr, tree_by, form_of, optional_tree}
use Rattle.rl_spec.specs.Message.{string_in, own_string}
use Rattle.rl_laws.specs.Descend.{tree_is}

-- ---- the text of a String

abbrev StringOf : Form → Option ℕ → Type 0
StringOf f r = (im : Image) (tree : ℕ → Expr ℕ) → r ≡ string_in (tree_by im f tree)

-- ---- the text of a message's node

module _ (im : Image) (m : Optional) where
  pub a_message_lem : (n : ℕ) → m ≡ Some n → (f : Form) (r : Option ℕ) → f ≡ form_of im n → StringOf f r → r ≡ own_string (optional_tree im m)
  a_message_lem n h f r e g = rw (h, tree_is im n, ← e) (g im _)
