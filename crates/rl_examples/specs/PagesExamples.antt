-- Reports on printed pages, by computation: the lines and the pages of images, and what is answered.
-- Assumes nothing.
use Rattle.std.specs.Prelude.{◌≡◌, ℕ, List, [], ◌∷◌, ◌++◌, map, replicate, refl, Ok}
use Rattle.rl_spec.specs.declared.Cause.TheVariants.{BytesLeft, PagesTooShort}
use Rattle.rl_spec.specs.Answers.{refused}
use Rattle.rl_spec.specs.Image.{encode, image_of, sections_in, records_in, record_in, next_at, end_at, fields_at, widths_of}
use Rattle.rl_spec.specs.Tree.{ascii}
use Rattle.rl_spec.specs.Printed.{joined}
use Rattle.rl_spec.specs.Pages.{unopened, report_line, report_lines, all_report_lines, pages_of, pages_answer, pages_out}
use Rattle.rl_spec.specs.Boundary.{pages_packed}
use Rattle.rl_examples.specs.MarkedImages.{returns_true, flow}
use Rattle.rl_examples.specs.LowerExamples.{lowering, decoding, running}
use Rattle.rl_examples.specs.NodeRows.{folding}
use Rattle.rl_examples.specs.ContractRows.{proving}
use Rattle.rl_examples.specs.PrinterExamples.{both_fail}
use Rattle.rl_examples.specs.ColumnExamples.{columning, paging}

-- what computation opens of reports on pages, and of images
unfoldable reporting : Unit {0}
unfolding unopened report_line report_lines all_report_lines pages_of pages_answer pages_out
reporting = tt

unfoldable imaging : Unit {0}
unfolding image_of sections_in records_in record_in next_at end_at fields_at widths_of
imaging = tt

-- ---- lines and pages of images

-- the printer's example: a line for each of its two calls, and none for a third; a call with two reports
pub reports_so : report_lines flow 0 ∷ report_lines flow 1 ∷ report_lines flow 2 ∷ report_lines both_fail 0 ∷ []
    ≡ (ascii "   0          7 open             refinement failed: flow >= 1           " ∷ [])
    ∷ (ascii "   1          9 open             flow id range                          " ∷ [])
    ∷ []
    ∷ (ascii "   0         10 f                refinement failed: a > 5               " ∷ ascii "   0         10 f                requires violated                      " ∷ [])
    ∷ []
unfolding lowering running folding proving columning paging reporting
reports_so = refl

-- the printer's example: all of its page
abbrev pub flow_page : List ℕ
flow_page =
    ascii "   0          7 open             refinement failed: flow >= 1           \n"
    ++ ascii "   1          9 open             flow id range                          \n"
    ++ joined (replicate 58 (replicate 72 32 ++ 10 ∷ []))

pub flow_page_lem : pages_of flow 2 ≡ flow_page
unfolding lowering running folding proving columning paging reporting
flow_page_lem = refl

-- ---- what is answered

-- a page slice just long enough, one byte short, without any; no report; bytes that are refused
pub answers_so : pages_answer (encode flow) 8192 4380 ∷ pages_answer (encode flow) 8192 4379 ∷ pages_answer (encode flow) 8192 0
    ∷ pages_answer (encode returns_true) 8192 0 ∷ pages_answer (encode flow ++ 0 ∷ []) 8192 0 ∷ []
    ≡ Ok 4380 ∷ refused PagesTooShort 0 ∷ refused PagesTooShort 0 ∷ Ok 0 ∷ refused BytesLeft 213 ∷ []
unfolding lowering decoding running folding proving imaging columning paging reporting
answers_so = refl

-- 22 stands above the place's 32 bits
pub pages_packed_so : map pages_packed (Ok 4380 ∷ refused PagesTooShort 0 ∷ refused BytesLeft 213 ∷ []) ≡ 4380 ∷ 94489280512 ∷ 42949673173 ∷ []
pages_packed_so = refl

-- the page slice: the page and then zeros; all zero where something is refused
pub slices_so : (pages_out (encode flow) 8192 4382 ≡ flow_page ++ 0 ∷ 0 ∷ []) × (pages_out (encode flow) 8192 3 ≡ 0 ∷ 0 ∷ 0 ∷ [])
    × (pages_out (encode returns_true) 8192 3 ≡ 0 ∷ 0 ∷ 0 ∷ []) × (pages_out (encode flow ++ 0 ∷ []) 8192 3 ≡ 0 ∷ 0 ∷ 0 ∷ [])
unfolding lowering decoding running folding proving imaging columning paging reporting
slices_so = (refl, refl, refl, refl)
