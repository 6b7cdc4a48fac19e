-- The starting context: nothing is new, and nothing waits.
-- Assumes nothing.
use Prim.Native.Nat.{ℕ, ◌≤◌}
use mathlib.Core.Path.{◌≡◌, refl, ap, sym, subst}
use mathlib.Core.Bool.{true}
use mathlib.Core.List.{List, []}
use native.Mathlib.Omega.{arith}
use lib.ListN.{length, replicate, length-replicate}
use Rattle.rl_spec.specs.declared.Counts.{Counts}
use Rattle.rl_spec.specs.declared.Function.{Function}
use Rattle.rl_spec.specs.declared.Section.TheVariants.{Texts, Lists, Expressions, Statements}
use Rattle.rl_spec.specs.Schema.{limits}
use Rattle.rl_spec.specs.Image.{Image, encode_records, WellFormed}
use Rattle.rl_spec.specs.Found.{image_found}
use Rattle.rl_spec.specs.Records.{function_at}
use Rattle.rl_spec.specs.Lower.{start}
use Rattle.rl_images.specs.Encoding.ReaderKnows.{counts}
use Rattle.rl_images.specs.Images.Limits.{size_within}
use Rattle.rl_context.specs.Additions.{none_new, Counted, Kept, Waiting, Live}
use Rattle.rl_context.specs.declared.Ctx.{Ctx}
use Rattle.rl_assemble.specs.Pieces.{Source}
use Rattle.rl_resolver.specs.Begun.{begun}
use Rattle.rl_bodies.specs.Bodies.{Fresh}
use Rattle.rl_bodies.proofs.Nothing.{grown_none}

pub begun_is : (s : List ℕ) (c : Counts) (f : ℕ) (g : Function) → ((p : List ℕ) → g ≡ function_at (image_found s p c) f) →
    (p : List ℕ) → begun c g ≡ begun c (function_at (image_found s p c) f)
begun_is s c f g e p = ap (begun c) (e p)

module _ (im : Image) (wf : WellFormed im) where
  bytes_within : length im.bytes ≤ 16384
  unfolding limits
  bytes_within = wf.counts.0

  counted_none : (f : ℕ) → Counted im none_new (begun (counts im) (function_at im f))
  unfolding limits encode_records
  counted_none f =
      record {
        bytes = omega arith;
        texts = omega arith;
        lists = omega arith;
        expressions = omega arith;
        statements = omega arith;
        few_bytes = bytes_within;
        few_texts = size_within im wf Texts;
        few_lists = size_within im wf Lists;
        few_expressions = size_within im wf Expressions;
        few_statements = size_within im wf Statements;
        text_bytes_lem = refl;
        list_bytes = refl;
        expression_bytes_lem = refl;
        statement_bytes_lem = refl;
        low_expressions = omega arith;
        low_statements = omega arith;
      }

  kept_none : Kept im none_new (replicate 186496 0)
  unfolding encode_records
  kept_none =
      record { size = length-replicate {A = ℕ} 186496 0; bytes = refl; texts = refl; lists = refl; expressions = refl; statements = refl }

waits_none : (im : Image) (c : Counts) (f : ℕ) → Waiting [] (begun c (function_at im f)) (replicate 4096 0)
waits_none im c f = record { size = length-replicate {A = ℕ} 4096 0; count = refl; few = omega arith; entries = refl }

module _ (s p : List ℕ) (c : Counts) (f : ℕ) (src : Source (image_found s p c) s p c) where
  abbrev im : Image
  im = image_found s p c

  -- THE LAW
  pub live_begun : Live im 0 (start im f) [] (begun c (function_at im f)) (replicate 186496 0) (replicate 4096 0)
  live_begun =
      record {
        new = none_new;
        context = ap (λ x. record { image = x; span = (function_at im f).span; is_result = (function_at im f).result; temp_counter = 0; limited = true }) (grown_none s p c);
        image = src.well_formed;
        counted = subst (λ (x : Counts). Counted im none_new (begun x (function_at im f))) (sym src.counts_are) (counted_none im src.well_formed f);
        kept = kept_none im src.well_formed;
        waits = waits_none im c f;
        temps = omega arith;
      }

  pub fresh_begun : (ctx : Ctx) → ((q : List ℕ) → ctx ≡ begun c (function_at (image_found s q c) f)) → Fresh im ctx
  fresh_begun ctx e =
      subst (Fresh im) (sym (e p))
      (subst (λ (x : Counts). Fresh im (begun x (function_at im f))) (sym src.counts_are)
      (record { bytes = refl; texts = refl; lists = refl; expressions = refl; statements = refl }))
