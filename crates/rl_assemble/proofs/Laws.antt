-- What assembling gives, at each way out.
-- Assumes nothing.
use Prim.Native.Nat.{ℕ, ◌≤◌, ◌<◌}
use mathlib.Core.Path.{◌≡◌, refl, ap, ap₂, sym, ◌∙◌, subst}
use mathlib.Core.Bool.{true, cond}
use mathlib.Core.List.{List, ◌++◌}
use mathlib.Core.Option.{none, some}
use native.Mathlib.Omega.{arith}
use native.Mathlib.Nat.{zero-add}
use lib.ListN.{length, get_or, drop}
use lib.Seq.{paste, take-length}
use borrow.Author.Tests.{lt-ltb, le-ltb}
use Rattle.rl_spec.specs.declared.Counts.{Counts}
use Rattle.rl_spec.specs.declared.Interval.{Interval}
use Rattle.rl_spec.specs.declared.Section.TheVariants.{Functions, Statements}
use Rattle.rl_spec.specs.Image.{Image, size_of, pair, encode}
use Rattle.rl_spec.specs.Lower.{with_body, fitting}
use Rattle.rl_images.specs.Encoding.ReaderKnows.{counts}
use Rattle.rl_images.specs.Encoding.Sections.{place_of}
use Rattle.rl_text_out.specs.Put.{with_text, after_text}
use Rattle.rl_text_out.specs.Put.{fitting as placed}
use Rattle.rl_context.specs.declared.Ctx.{Ctx}
use Rattle.rl_text_out.specs.declared.Out.{Out}
use Rattle.rl_context.specs.Additions.{New, grown, Counted, Kept}
use Rattle.rl_assemble.specs.Pieces.{Puts, Source, new_bytes, new_length}
use Rattle.rl_assemble.specs.Written.{Assembled, Written}
use Rattle.std.specs.Prelude.{None, Some}
use Rattle.rl_assemble.proofs.Final.{bytes_are, length_is}

-- a text at the front of a slice that has room for it
module _ (out x : List ℕ) (room : length x ≤ length out) where
  fits : placed out 0 x ≡ length x
  unfolding placed
  fits = omega arith

  pub after_front : after_text out 0 x ≡ length x
  unfolding after_text
  after_front = omega (arith, fits)

  pub with_front : with_text out 0 x ≡ x ++ drop (length x) out
  unfolding with_text
  with_front = ap (paste out 0 x) fits ∙ ap₂ (λ a n. a ++ drop n out) (take-length x) (zero-add (length x))

abbrev pub IsPast : Assembled → Type 0
IsPast (Some n) = ⊥
IsPast None = Unit {0}

abbrev pub length_in : Assembled → ℕ
length_in (Some n) = n
length_in None = 0

pub written_none : (out : List ℕ) → Written none out None out
written_none out = record { number = refl; bytes = refl; few = λ n e. absurd (subst IsPast e tt) }

pub written_all : (im : Image) (out : List ℕ) (r : ℕ) (after : List ℕ) → r ≡ length (encode im) → after ≡ encode im ++ drop (length (encode im)) out →
    length (encode im) ≤ 65535 → Written (some im) out (Some r) after
written_all im out r after e f h = record { number = ap Some e; bytes = f; few = λ n g. omega (arith, ap length_in g, e) }

past_limit : (im : Image) (out : List ℕ) → 65535 < length (encode im) → Written (fitting true im) out None out
unfolding fitting
past_limit im out h =
    subst (λ b. Written (cond b none (some im)) out None out) (sym (lt-ltb 65535 (length (encode im)) h)) (written_none out)

within_limit : (im : Image) (old new : Out) → length (encode im) ≤ 65535 → 65535 ≤ length old.bytes.now → old.at ≡ 0 → Puts old (encode im) new →
    Written (fitting true im) old.bytes.now (Some new.at) new.bytes.now
unfolding fitting
within_limit im old new h room z p =
    subst (λ b. Written (cond b none (some im)) old.bytes.now (Some new.at) new.bytes.now) (sym (le-ltb 65535 (length (encode im)) h))
    (written_all im old.bytes.now new.at new.bytes.now
    (p.place ∙ ap (λ n. after_text old.bytes.now n (encode im)) z ∙ after_front old.bytes.now (encode im) (omega arith))
    (p.bytes ∙ ap (λ n. with_text old.bytes.now n (encode im)) z ∙ with_front old.bytes.now (encode im) (omega arith)) h)

-- ---- the three ways out

module _ (s p : List ℕ) (c : Counts) (ctx : Ctx) (z : List ℕ) (f : ℕ) (list : Interval) where
  abbrev Assembles : List ℕ → Assembled → List ℕ → Type 0
  Assembles out r after =
      (im : Image) (new : New) → Source im s p c → Counted im new ctx → Kept im new z → f < size_of im Functions → 65535 ≤ length out →
      Written (fitting true (with_body (grown im new) f (pair list.first list.count))) out r after

  module _ (im : Image) (new : New) (src : Source im s p c) (counted : Counted im new ctx) (kept : Kept im new z) (l : f < size_of im Functions) where
    abbrev final : Image
    final = with_body (grown im new) f (pair list.first list.count)

    size_is : new_length s c ctx ≡ length (encode final)
    size_is =
        (λ i. new_length (src.bytes i) (src.counts_are i) ctx) ∙ length_is im src.well_formed new ctx z counted kept f l list

    starts_are : 0 < size_of im Statements → get_or p (counts im).expressions 0 ≡ place_of im Statements
    starts_are =
        subst (λ x. 0 < x.statements → get_or p x.expressions 0 ≡ place_of im Statements) src.counts_are src.starts

    put_is : new_bytes s p c ctx z f list ≡ encode final
    put_is =
        (λ i. new_bytes (src.bytes i) p (src.counts_are i) ctx z f list)
        ∙ bytes_are im src.well_formed new ctx z counted kept f l list p starts_are

  pub image_long : (out : List ℕ) → 65535 < length s → Assembles out None out
  image_long out h im new src counted kept l room = absurd (omega (arith, src.well_formed.size, ap length src.bytes))

  pub bytes_long : (out : List ℕ) (n : ℕ) → n ≡ new_length s c ctx → 65535 < n → Assembles out None out
  bytes_long out n e h im new src counted kept l room =
      past_limit (final im new src counted kept l) out (omega (arith, size_is im new src counted kept l))

  pub all_put : (n : ℕ) → n ≡ new_length s c ctx → n ≤ 65535 → (old new : Out) → old.at ≡ 0 → Puts old (new_bytes s p c ctx z f list) new →
      (after : List ℕ) → after ≡ new.bytes.now → Assembles old.bytes.now (Some new.at) after
  all_put n e h old new z q after same im more src counted kept l room =
      subst (Written (fitting true (final im more src counted kept l)) old.bytes.now (Some new.at)) (sym same)
      (within_limit (final im more src counted kept l) old new (omega (arith, size_is im more src counted kept l)) room z
      (subst (λ x. Puts old x new) (put_is im more src counted kept l) q))
