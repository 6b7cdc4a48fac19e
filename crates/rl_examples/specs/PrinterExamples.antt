-- What the printer writes, as bytes: its example, two reports of one call, and refusals.
-- Assumes nothing.
use Rattle.std.specs.Prelude.{◌≡◌, [], ◌∷◌, ◌++◌, pos, refl}
use Rattle.rl_spec.specs.Image.{pair, Image, encode, image_of, sections_in, records_in, record_in, next_at, end_at, fields_at, widths_of}
use Rattle.rl_spec.specs.Tree.{ascii}
use Rattle.rl_spec.specs.Printed.{refused_line, line_with, line_of, call_lines, all_lines, lines_of, joined, output_of}
use Rattle.rl_examples.specs.MarkedImages.{integer, identifier, binary, refined, clause, function, call, build, flow}
use Rattle.rl_examples.specs.LowerExamples.{lowering, decoding, running}
use Rattle.rl_examples.specs.NodeRows.{folding}
use Rattle.rl_examples.specs.ContractRows.{proving}

-- what computation opens of the printer
unfoldable pub printing : Unit {0}
unfolding refused_line line_with line_of call_lines all_lines lines_of joined output_of
printing = tt

unfoldable imaging : Unit {0}
unfolding image_of sections_in records_in record_in next_at end_at fields_at widths_of
imaging = tt

-- the printer's example: all of it
pub two_lines : output_of (encode flow)
    ≡ ascii "0 7 contract violation (proven at compile time): refinement failed: flow >= 1\n1 9 contract violation (proven at compile time): flow id range\n"
unfolding lowering decoding running folding proving imaging printing
two_lines = refl

-- f(1), a > 5, requires a > 5 without message: the refinement's line comes ahead of the clause's
abbrev pub both_fail : Image
both_fail =
    build
    record {
      texts = "f" ∷ "a" ∷ [];
      lists = 0 ∷ [];
      expressions = integer (pos 1) ∷ identifier 1 ∷ integer (pos 5) ∷ binary 1 10 2 ∷ [];
      statements = [];
      parameters = refined 1 1 (pos 5) ∷ [];
      clauses = clause 3 65535 ∷ [];
      functions = function 0 1 (pair 0 1) (pair 0 0) (pair 0 1) (pair 0 0) ∷ [];
      calls = call 0 10 (pair 0 1) ∷ [];
    }

pub in_order : output_of (encode both_fail)
    ≡ ascii "0 10 contract violation (proven at compile time): refinement failed: a > 5\n0 10 contract violation (proven at compile time): requires violated\n"
unfolding lowering decoding running folding proving imaging printing
in_order = refl

-- no byte at all, and one too many
pub refusals : (output_of [] ≡ ascii "refused 3 at 0\n") × (output_of (encode flow ++ 0 ∷ []) ≡ ascii "refused 10 at 213\n")
unfolding lowering decoding printing
refusals = (refl, refl)
