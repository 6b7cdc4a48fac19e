-- The bytes of a lowered image, from those of the image and the new ones.
use Rattle.std.specs.Prelude.{ℕ, ◌+◌, ◌-◌, ◌*◌, ◌<◌, ◌≡◌, cond, List, ◌++◌, eqb, length, get_or, take, drop}
use Rattle.rl_spec.specs.declared.Counts.{Counts}
use Rattle.rl_spec.specs.declared.Interval.{Interval}
use Rattle.rl_spec.specs.declared.Section.TheVariants.{Statements}
use Rattle.rl_spec.specs.Schema.{text_bytes_at}
use Rattle.rl_spec.specs.Fields.{lists_at}
use Rattle.rl_spec.specs.Image.{Image, bytes_of, encode, WellFormed}
use Rattle.rl_spec.specs.Found.{functions_at, parameters_at}
use Rattle.rl_images.specs.Encoding.ReaderKnows.{counts}
use Rattle.rl_images.specs.Encoding.Sections.{place_of}
use Rattle.rl_text_out.specs.Put.{with_text, after_text}
use Rattle.rl_text_out.specs.declared.Out.{Out}
use Rattle.rl_assemble.specs.declared.Sources.{Sources}
use Rattle.rl_context.specs.declared.Ctx.{Ctx}
use Rattle.rl_context.specs.Additions.{texts_from, lists_from, expressions_from, statements_from}

-- ---- what is put

-- a text is put at a writer's place; the place after it, and the bytes then
pub record Puts (old : Out) (text : List ℕ) (new : Out) : Type 0 where
  pub place : new.at ≡ after_text old.bytes.now old.at text
  pub bytes : new.bytes.now ≡ with_text old.bytes.now old.at text

-- n bytes from a place on
abbrev pub part : List ℕ → ℕ → ℕ → List ℕ
part s from n = take n (drop from s)

-- a piece of the parts of a lowered image
abbrev pub of : (List ℕ → Counts → Ctx → List ℕ → List ℕ) → Sources → List ℕ
of piece x = piece x.image.bytes.now x.image.counts x.ctx x.scratch.now

-- ---- the places in the image

abbrev pub expressions_at : Counts → ℕ
expressions_at c = lists_at c + c.lists * 3

-- without statements, where they would start
abbrev pub statements_at : List ℕ → List ℕ → Counts → ℕ
statements_at s p c = cond (eqb c.statements 0) (parameters_at s c) (get_or p c.expressions 0)

-- the body list of a function, behind kind, name, span, parameters and result flag
abbrev pub body_at : List ℕ → Counts → ℕ → ℕ
body_at s c f = functions_at s c + f * 24 + 12

-- ---- the pieces

unfoldable pub new_counts : Ctx → List ℕ
new_counts ctx =
    bytes_of 2 ctx.bytes ++ bytes_of 2 ctx.texts ++ bytes_of 2 ctx.lists ++ bytes_of 2 ctx.expressions
    ++ bytes_of 2 ctx.statements

-- the other counts stay
unfoldable pub new_header : List ℕ → Ctx → List ℕ
new_header s ctx = part s 0 5 ++ new_counts ctx ++ part s 15 8

-- what the image has, and what is new
abbrev pub both : List ℕ → ℕ → ℕ → List ℕ → ℕ → ℕ → List ℕ
both s from n scratch place m = part s from n ++ part scratch place m

unfoldable pub new_text : List ℕ → Counts → Ctx → List ℕ → List ℕ
new_text s c ctx scratch = both s text_bytes_at c.bytes scratch c.bytes (ctx.bytes - c.bytes)

unfoldable pub new_texts : List ℕ → Counts → Ctx → List ℕ → List ℕ
new_texts s c ctx scratch =
    both s (text_bytes_at + c.bytes) (c.texts * 5) scratch (texts_from + c.texts * 5) ((ctx.texts - c.texts) * 5)

unfoldable pub new_lists : List ℕ → Counts → Ctx → List ℕ → List ℕ
new_lists s c ctx scratch =
    both s (lists_at c) (c.lists * 3) scratch (lists_from + c.lists * 3) ((ctx.lists - c.lists) * 3)

-- the expressions and the statements
unfoldable pub new_trees : List ℕ → ℕ → ℕ → ℕ → Ctx → List ℕ → List ℕ
new_trees s expressions statements parameters ctx scratch =
    both s expressions (statements - expressions) scratch expressions_from ctx.expression_bytes
    ++ both s statements (parameters - statements) scratch statements_from ctx.statement_bytes

-- the other sections, with another body list
unfoldable pub new_rest : List ℕ → ℕ → ℕ → Interval → List ℕ
new_rest s parameters body list =
    part s parameters (body - parameters) ++ bytes_of 2 list.first ++ bytes_of 2 list.count ++ part s (body + 4) (length s)

-- all of it, and how many bytes that is
unfoldable pub new_bytes : List ℕ → List ℕ → Counts → Ctx → List ℕ → ℕ → Interval → List ℕ
new_bytes s p c ctx scratch f list =
    new_header s ctx ++ new_text s c ctx scratch ++ new_texts s c ctx scratch ++ new_lists s c ctx scratch
    ++ new_trees s (expressions_at c) (statements_at s p c) (parameters_at s c) ctx scratch
    ++ new_rest s (parameters_at s c) (body_at s c f) list

unfoldable pub new_length : List ℕ → Counts → Ctx → ℕ
new_length s c ctx =
    length s + (ctx.bytes - c.bytes) + (ctx.texts - c.texts) * 5 + (ctx.lists - c.lists) * 3 + ctx.expression_bytes
    + ctx.statement_bytes

-- ---- what is asked of the arguments, and what is given

-- the bytes, the starts and the counts of a well-formed image
pub record Source (im : Image) (s p : List ℕ) (c : Counts) : Type 0 where
  pub well_formed : WellFormed im
  pub bytes : s ≡ encode im
  pub counts_are : c ≡ counts im
  pub starts : 0 < c.statements → get_or p c.expressions 0 ≡ place_of im Statements
