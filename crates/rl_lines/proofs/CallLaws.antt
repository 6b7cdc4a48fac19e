-- The way out of proving a call. Assumes nothing.
use Prim.Native.Nat.{ℕ, ◌*◌, ◌/◌, ◌≤◌}
use mathlib.Core.Path.{◌≡◌, refl, sym, ap, subst, ◌∙◌}
use mathlib.Core.List.{List, []}
use native.Mathlib.Omega.{arith}
use lib.ListN.{length, replicate}
use Rattle.rl_spec.specs.declared.Call.{Call}
use Rattle.rl_spec.specs.declared.Counts.{Counts}
use Rattle.rl_spec.specs.declared.Section.TheVariants.{Functions}
use Rattle.rl_spec.specs.Image.{Image, records_of, text_of, image_of}
use Rattle.rl_spec.specs.Found.{image_found}
use Rattle.rl_spec.specs.Records.{call_at}
use Rattle.rl_spec.specs.FnContracts.{callee_among, callee_of}
use Rattle.rl_spec.specs.Prove.{call_entries, violations_of}
use Rattle.rl_laws.specs.Found.{size_found}
use Rattle.rl_images.specs.Images.Limits.{parameters_within}
use Rattle.rl_images.specs.Images.Reports.{at_most_512, entries_length}
use Rattle.rl_names.specs.Names.{Classes}
use Rattle.std.proofs.Common.{unwrap_or, Some, None}
use Rattle.rl_spec.specs.Answers.{Optional}
use Rattle.rl_prover.specs.Callees.{callee_in}
use Rattle.rl_prover.specs.Calls.{Room, ProvesCall}
use Rattle.rl_prover.specs.Reports.{Shown}
use Rattle.rl_prover.proofs.ShownLaws.{none_shown, all_shown}
use Rattle.rl_lines.specs.Opened.{Known}
use Rattle.rl_spec.specs.Texts.{message_at}
use Rattle.rl_lines.specs.declared.lines.Lines.{Lines}
use Rattle.rl_lines.specs.Lines.{function_or, padded, lines_for, entries_for}

function_is : (y : Optional) → unwrap_or y 0 ≡ function_or (callee_in y)
function_is (Some f) = refl
function_is None = refl

module _ (s p : List ℕ) (c : Counts) (kn : Known s p c) (cs : List ℕ) (cl : Classes (text_of (image_of s)) cs) (call : ℕ) where
  abbrev im : Image
  im = image_of s

  module _ (w : List ℕ) (long : 768 ≤ length w) (n : ℕ) (l out : List ℕ) (end : ℕ) (z : l ≡ replicate n 0) (proves : ProvesCall (image_found s p c) cs call w l 0 out end) where
    roomy : Room im w
    roomy f = omega (arith, long, parameters_within im kn.whole f)

    shown : Shown out (call_entries im call) end
    unfolding call_entries
    shown = subst (λ (x : Image). ProvesCall x cs call w l 0 out end) kn.found proves (omega arith) cl roomy [] (none_shown l n z)

    entries : length (call_entries im call) ≡ length (violations_of im call) * 4
    unfolding call_entries
    entries = entries_length call (call_at im call).span (violations_of im call)

    pub call_entries_lem : length out ≡ 2048 → out ≡ entries_for im call
    unfolding entries_for
    call_entries_lem m =
        let few : length (call_entries im call) ≤ 2048 = omega (arith, entries, at_most_512 im kn.whole call) in
        shown.slice ∙ rw m (all_shown 2048 2048 (call_entries im call) few (omega arith))

    count_is : end / 4 ≡ length (violations_of im call)
    count_is = let e : length (call_entries im call) ≡ end = shown.place in omega (arith, entries)

    module _ (k : Call) (q : (o : List ℕ) → k ≡ call_at (image_found s o c) call) (y : Optional)
        (g : (o : List ℕ) → Classes (text_of (image_found s o c)) cs → callee_in y ≡ callee_among (image_found s o c) (text_of (image_found s o c) k.callee) c.functions) where
      call_is : k ≡ call_at im call
      call_is = q p ∙ ap (λ (x : Image). call_at x call) kn.found

      callee_is : callee_in y ≡ callee_of im call
      unfolding callee_of
      callee_is =
          subst (λ (x : Image). Classes (text_of x) cs → callee_in y ≡ callee_among x (text_of x k.callee) c.functions) kn.found (g p) cl
          ∙ rw call_is (ap (callee_among im (text_of im (call_at im call).callee)) (sym (size_found s p c Functions) ∙ ap (λ (x : Image). length (records_of x Functions)) kn.found))

      pub call_lines_lem : (f : ℕ) → f ≡ unwrap_or y 0 → record { call = call; function = f; span = k.span; count = end / 4 } ≡ lines_for im call
      unfolding lines_for
      call_lines_lem f e = rw (e, function_is y, callee_is, call_is, count_is) refl

-- what is known by the number that the lines have themselves
module _ (im : Image) (call : ℕ) (lines : Lines) (e : lines ≡ lines_for im call) where
  pub same_call : call ≡ lines.call
  unfolding lines_for
  same_call = sym (ap (λ (x : Lines). x.call) e)

  pub own_lines : lines ≡ lines_for im lines.call
  own_lines = e ∙ ap (lines_for im) same_call

  pub own_entries : (reports : List ℕ) → reports ≡ entries_for im call → reports ≡ entries_for im lines.call
  own_entries reports f = f ∙ ap (entries_for im) same_call

  module _ (number room : ℕ) where
    pub own_length : (r : ℕ) → r ≡ length (message_at im lines.call number) → r ≡ length (message_at im call number)
    own_length r f = f ∙ ap (λ (k : ℕ). length (message_at im k number)) (sym same_call)

    pub own_message : (out : List ℕ) → out ≡ padded room (message_at im lines.call number) → out ≡ padded room (message_at im call number)
    own_message out f = f ∙ ap (λ (k : ℕ). padded room (message_at im k number)) (sym same_call)
