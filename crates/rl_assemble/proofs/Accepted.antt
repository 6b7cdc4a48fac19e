-- Accepted bytes, with the starts and the counts that the reader answers, are what assembling asks for.
-- Assumes nothing.
use Prim.Native.Nat.{ℕ, ◌+◌, ◌<◌}
use mathlib.Core.Path.{◌≡◌, refl, ap, sym, ◌∙◌, subst}
use mathlib.Core.List.{List}
use native.Mathlib.Nat.{add-zero}
use lib.ListN.{get_or}
use Rattle.rl_spec.specs.declared.ArenaNo.{ArenaNo}
use Rattle.rl_spec.specs.declared.Counts.{Counts}
use Rattle.rl_spec.specs.Answers.{accepted}
use Rattle.rl_spec.specs.declared.Section.TheVariants.{Expressions, Statements}
use Rattle.rl_spec.specs.Schema.{sections}
use Rattle.rl_spec.specs.Read.{counts_of, answer_of, starts_of}
use Rattle.rl_spec.specs.Image.{end_at, image_of, AllBytes, WellFormed}
use Rattle.rl_spec.specs.Found.{image_found}
use Rattle.rl_images.specs.Reading.Rows.{last_at}
use Rattle.rl_images.specs.Reading.ReadOutcome.{accepted_reads, accepted_header}
use Rattle.rl_images.specs.Reading.Decode.{accepted_encodes}
use Rattle.rl_images.specs.Encoding.Accepted.{accepted_well_formed}
use Rattle.rl_images.specs.Encoding.AcceptedParts.{counts_image, section_next}
use Rattle.rl_images.specs.Reading.Found.{found_is_image}
use Rattle.rl_images.specs.Reading.Starts.{section_at, start_statement, section_places}
use Rattle.rl_images.specs.Encoding.ReaderKnows.{counts}
use Rattle.rl_images.specs.Encoding.Sections.{place_of}
use Rattle.rl_assemble.specs.Pieces.{Source, expressions_at}
use Rattle.rl_assemble.proofs.Parts.{size_in, statements_place}

module _ (s : List ℕ) (k : ℕ) (a : ArenaNo) (c : Counts) (bytes : AllBytes s) (e : answer_of s k ≡ accepted a c) where
  well_formed : WellFormed (image_of s)
  well_formed = accepted_well_formed s k a c bytes e

  counts_same : c ≡ counts (image_of s)
  counts_same = (accepted_header s k a c e).1 ∙ sym (counts_image s bytes (accepted_reads s k a c e))

  -- the statements come behind the expressions
  behind : section_at s Statements ≡ end_at s (counts_of s).expressions (section_at s Expressions)
  unfolding section_at last_at sections
  behind = refl

  statements_start : section_at s Statements ≡ place_of (image_of s) Statements
  statements_start =
      behind
      ∙ sym (section_next s bytes (accepted_reads s k a c e) Expressions)
      ∙ ap (λ n. n + size_in (image_of s) Expressions) ((section_places s k a c e).expressions ∙ ap expressions_at counts_same)
      ∙ sym (statements_place (image_of s) well_formed)

  first_start : 0 < c.statements → get_or (starts_of s k) c.expressions 0 ≡ place_of (image_of s) Statements
  unfolding end_at
  first_start h =
      ap (λ n. get_or (starts_of s k) n 0) (ap (λ (x : Counts). x.expressions) q ∙ sym (add-zero (counts_of s).expressions))
      ∙ start_statement s (accepted_reads s k a c e) 0 (subst (λ (x : Counts). 0 < x.statements) q h)
      ∙ statements_start
    where
      q : c ≡ counts_of s
      q = (accepted_header s k a c e).1

  -- THE LAW
  pub accepted_source : Source (image_found s (starts_of s k) c) s (starts_of s k) c
  accepted_source =
      subst (λ im. Source im s (starts_of s k) c) (sym (found_is_image s k a c e))
      (record { well_formed = well_formed; bytes = sym (accepted_encodes s k a c bytes e); counts_are = counts_same; starts = first_start })
