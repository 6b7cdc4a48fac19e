-- What the parts of a new body promise.
use Rattle.std.specs.Prelude.{ℕ, ◌+◌, ◌<◌, ◌≡◌, Bool, not, cond, ◌&&◌, List, map, eqb, length, None, Some}
use Rattle.rl_spec.specs.declared.Counts.{Counts}
use Rattle.rl_spec.specs.declared.Section.TheVariants.{Texts, Lists, Expressions, Statements}
use Rattle.rl_spec.specs.declared.Interval.{Interval}
use Rattle.rl_spec.specs.Image.{Image, size_of, entry_of}
use Rattle.rl_spec.specs.Answers.{Optional}
use Rattle.rl_spec.specs.Found.{image_found}
use Rattle.rl_spec.specs.Tree.{number}
use Rattle.rl_records.specs.declared.ImageRef.{ImageRef}
use Rattle.rl_spec.specs.Ranges.{numbers_in}
use Rattle.rl_spec.specs.FnContracts.{param_of, is_empty}
use Rattle.rl_spec.specs.Records.{function_at}
use Rattle.rl_spec.specs.Make.{Make, give, flat_map}
use Rattle.rl_spec.specs.Lower.{last_of, ensured_body, desugar_fn_contracts, params_in, requires_in, ensures_in, body_in}
use Rattle.rl_context.specs.declared.Ctx.{Ctx}
use Rattle.rl_context.specs.Does.{State, all, Does}
use Rattle.rl_context.specs.Guards.{guard_for, clauses_in}

-- the guards of a function's refined parameters
abbrev pub refined_in : Image → ℕ → Make (List ℕ)
refined_in im f = flat_map (guard_for im) (map (param_of im) (numbers_in (function_at im f).params))

-- the statements of a function's new body
abbrev pub desugared_in : Image → ℕ → Make (List ℕ)
desugared_in im f = desugar_fn_contracts (params_in im f) (body_in im f) (requires_in im f) (ensures_in im f)

-- the entries of a list, as they are
abbrev pub entries_in : Image → Interval → List ℕ
entries_in im list = map (entry_of im) (numbers_in list)

-- these numbers wait behind what waited
abbrev pub Waits : Image → List ℕ → State → State → Type 0
Waits im ns s t = Does im 0 0 all (give ns) s ns t

-- the last entry is a bare expression
abbrev pub ends_bare : Image → List ℕ → Bool
ends_bare im body = not (is_empty body) && eqb (last_of im body).kind 65

-- its value then
abbrev pub bare_value : Image → List ℕ → Optional
bare_value im body = cond (ends_bare im body) (Some (number (last_of im body) 1)) None

abbrev pub rest_in : Image → Interval → Interval → Make (List ℕ)
rest_in im body ensured = cond (is_empty (clauses_in im ensured)) (give (entries_in im body)) (ensured_body (clauses_in im ensured) (entries_in im body))

-- a body's entries are statements of the image
abbrev pub BodyFits : List ℕ → List ℕ → Counts → Interval → Type 0
BodyFits s p c body = (i : ℕ) → i < body.count → entry_of (image_found s p c) (body.first + i) < c.statements

abbrev pub body_fits : ImageRef → Interval → Type 0
body_fits image body = BodyFits image.bytes.now image.starts.now image.counts body

-- nothing is new
pub record Fresh (im : Image) (ctx : Ctx) : Type 0 where
  pub bytes : ctx.bytes ≡ length im.bytes
  pub texts : ctx.texts ≡ size_of im Texts
  pub lists : ctx.lists ≡ size_of im Lists
  pub expressions : ctx.expressions ≡ size_of im Expressions
  pub statements : ctx.statements ≡ size_of im Statements
