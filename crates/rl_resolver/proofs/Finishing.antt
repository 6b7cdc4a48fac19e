-- The image with a new body, and the lowered image: what is written, at each way out.
-- Assumes nothing.
use Prim.Native.Nat.{ℕ, ◌+◌, ◌≤◌, ◌<◌}
use mathlib.Core.Path.{◌≡◌, refl, ap, sym, subst, ◌∙◌}
use mathlib.Core.Bool.{Bool, true, false}
use mathlib.Core.List.{List, [], ◌∷◌, ◌++◌}
use mathlib.Core.Option.{Option, none, some}
use native.Mathlib.Omega.{arith}
use lib.ListN.{length, drop, replicate, length-append, length-map, length-set}
use Rattle.rl_spec.specs.declared.Counts.{Counts}
use Rattle.rl_spec.specs.declared.Interval.{Interval}
use Rattle.rl_spec.specs.declared.Section.TheVariants.{Lists, Functions}
use Rattle.rl_spec.specs.Schema.{limits}
use Rattle.rl_spec.specs.Image.{Field, num, pair, Image, records_of, size_of}
use Rattle.rl_spec.specs.Found.{image_found}
use Rattle.rl_spec.specs.Records.{function_at}
use Rattle.rl_spec.specs.Make.{Context, made}
use Rattle.rl_spec.specs.Lower.{has_contracts, new_body, start, with_body, fitting, finished, lowered_by, lowered}
use Rattle.rl_images.specs.Lowering.Grows.{Eight, eight_sections, list_records, list_gives, records_own}
use Rattle.rl_images.specs.Lowering.Gives.{Gives, stops, gives, after, weaker, given_is}
use Rattle.rl_text_out.specs.Put.{with_text, after_text}
use Rattle.rl_context.specs.declared.Ctx.{Ctx}
use Rattle.rl_context.specs.Additions.{New, grown, Counted, Kept}
use Rattle.rl_context.specs.Does.{at, nothing, Over, Ends, Does}
use Rattle.rl_context.proofs.Composed.{ends_live}
use Rattle.rl_images.specs.Lowering.Adds.{adds_later}
use Rattle.rl_images.specs.Lowering.AddsLower.{adds_desugar}
use Rattle.std.specs.Prelude.{None, Some}
use Rattle.rl_assemble.specs.Pieces.{Source}
use Rattle.rl_assemble.specs.Written.{Assembled, Written}
use Rattle.rl_assemble.proofs.Laws.{after_front, with_front, written_none, written_all}
use Rattle.rl_resolver.specs.Begun.{begun}
use Rattle.rl_resolver.proofs.Beginning.{live_begun}

-- ---- a limit was passed

-- the list entries of a finished body are within their limit
within_limit : (im : Image) (f : ℕ) → Eight im → Gives (λ (_ : Field) y. Over [] y → ⊥) (new_body im f (start im f))
unfolding new_body limits
within_limit im f e =
    after (adds_later (adds_desugar _ _ _ _) (start im f) e) (λ ns y l.
    weaker (list_gives ns y) (λ b z n o.
    let eight : length y.image.records ≡ 8 = sym (ap (λ (v : Context). length v.image.records) n.is ∙ length-set y.image.records 1 _) ∙ o.sections in
    let size : size_of z.image Lists ≡ size_of y.image Lists + length ns =
    rw (n.is, records_own y.image Lists (records_of y.image Lists ++ list_records ns) eight, length-append (records_of y.image Lists) (list_records ns), length-map ns (λ m. made 3 (num m ∷ []))) refl in
    omega (arith, size, n.within l.limited, o.more)))

none_of : {A : Type 0} {P : A → Context → Type 0} {o : Option (A × Context)} → Gives P o → ((a : A) (x : Context) → o ≡ some (a, x) → P a x → ⊥) →
    o ≡ none
none_of stops k = refl
none_of (gives {a} {c} p) k = absurd (k a c refl p)

-- ---- the image with the new body

module _ (s p : List ℕ) (c : Counts) (f : ℕ) (src : Source (image_found s p c) s p c) (l : f < c.functions) (out : List ℕ)
    (room : 65535 ≤ length out) where
  abbrev im : Image
  im = image_found s p c

  abbrev Finishes : Assembled → List ℕ → Type 0
  Finishes n end = Written (finished true f (new_body im f (start im f))) out n end

  module _ (ctx₀ : Ctx) (is : (q : List ℕ) → ctx₀ ≡ begun c (function_at (image_found s q c) f)) (list : Interval) (ctx : Ctx) (scratch waiting : List ℕ)
      (does : Does im 0 0 nothing (new_body im f) (at ctx₀ (replicate 186496 0) (replicate 4096 0)) (pair list.first list.count) (at ctx scratch waiting)) where
    ends : Ends im 0 nothing [] (new_body im f (start im f)) (pair list.first list.count) (at ctx scratch waiting)
    ends =
        does.does [] (some (tt, start im f))
        (subst (λ (x : Ctx). Ends im 0 nothing [] (some (tt, start im f)) tt (at x (replicate 186496 0) (replicate 4096 0))) (sym (is p))
        (ends_live refl (live_begun s p c f src)))

    pub body_full : ctx.full ≡ true → Finishes None out
    body_full e =
        subst (λ o. Written (finished true f o) out None out)
        (sym (none_of (ends.full e) (λ a x q o. given_is (within_limit im f (eight_sections im src.well_formed)) q o)))
        (written_none out)

    functions_are : f < size_of im Functions
    functions_are = subst (λ (x : Counts). f < x.functions) src.counts_are l

    pub body_put : ctx.full ≡ false → (n : Assembled) (end : List ℕ) →
        ((im : Image) (new : New) → Source im s p c → Counted im new ctx → Kept im new scratch → f < size_of im Functions → 65535 ≤ length out →
        Written (fitting true (with_body (grown im new) f (pair list.first list.count))) out n end) →
        Finishes n end
    body_put e n end given =
        let v = ends.live e in
        let w = v.live in
        let g = given im w.new src w.counted w.kept functions_are room in
        subst (λ o. Written (finished true f o) out n end) (sym v.is)
        (subst (λ (x : Context). Written (fitting true (with_body x.image f (pair list.first list.count))) out n end) (sym w.context) g)

  -- ---- the lowered image

  module _ (b : Bool) (e : (q : List ℕ) → b ≡ has_contracts (image_found s q c) f) where
    pub lowered_body : b ≡ true → (n : Assembled) (end : List ℕ) → Finishes n end → Written (lowered im f) out n end
    unfolding lowered_by
    lowered_body t n end w = rw (← e p, t) w

    pub lowered_same : b ≡ false → (n : ℕ) (end : List ℕ) → n ≡ after_text out 0 s → end ≡ with_text out 0 s → Written (lowered im f) out (Some n) end
    unfolding lowered_by
    lowered_same t n end h g =
        let few : length s ≤ 65535 = omega (arith, ap length src.bytes, src.well_formed.size) in
        let number : n ≡ length s = h ∙ after_front out s (omega arith) in
        let bytes : end ≡ s ++ drop (length s) out = g ∙ with_front out s (omega arith) in
        rw (← e p, t)
        (written_all im out n end (number ∙ ap length src.bytes) (bytes ∙ ap (λ (x : List ℕ). x ++ drop (length x) out) src.bytes) src.well_formed.size)
