-- The ways out of opening an image. Assumes nothing.
use Prim.Native.Nat.{ℕ, ◌≤◌}
use mathlib.Core.Path.{◌≡◌, sym, ap, subst, ◌∙◌}
use mathlib.Core.List.{List}
use native.Mathlib.Omega.{arith}
use lib.ListN.{length, get_or}
use mir.Syntax.{w8}
use mir.Val.{Fits}
use Rattle.rl_spec.specs.Answers.{Answer, accepted}
use Rattle.rl_spec.specs.declared.ArenaNo.{ArenaNo}
use Rattle.rl_spec.specs.declared.Counts.{Counts}
use Rattle.rl_spec.specs.declared.Section.TheVariants.{Texts}
use Rattle.rl_spec.specs.Read.{answer_of, starts_of}
use Rattle.rl_spec.specs.Image.{text_of, image_of, WellFormed}
use Rattle.rl_spec.specs.Found.{image_found}
use Rattle.rl_images.specs.Encoding.Accepted.{accepted_well_formed}
use Rattle.rl_images.specs.Images.Limits.{texts_within, all_bytes}
use Rattle.rl_images.specs.Reading.Found.{found_is_image}
use Rattle.rl_images.specs.Reading.Starts.{sizes_are_counts}
use Rattle.rl_names.specs.Names.{Classes}
use Rattle.std.proofs.Math.Logic.{∥∥₁_elim}
use Rattle.std.specs.Coded.{Coded-set, coded_ℕ, coded_list, le_prop}
use Rattle.rl_lines.specs.Opened.{Known, Opened}
use Rattle.rl_lines.specs.declared.lines.Lines.{Lines}

-- what an open image knows, where an equation is to be shown
module _ {s p : List ℕ} {c : Counts} (known : ∥ Known s p c ∥₁) where
  pub number_by : {x y : ℕ} → (Known s p c → x ≡ y) → x ≡ y
  number_by f = ∥∥₁_elim known (Coded-set coded_ℕ _ _) f

  pub list_by : {x y : List ℕ} → (Known s p c → x ≡ y) → x ≡ y
  list_by f = ∥∥₁_elim known (Coded-set (coded_list coded_ℕ) _ _) f

  pub bound_by : {x y : ℕ} → (Known s p c → x ≤ y) → x ≤ y
  bound_by f = ∥∥₁_elim known le_prop f

  pub lines_by : {x y : Lines} → (Known s p c → x ≡ y) → x ≡ y
  lines_by {x} {y} f = ∥∥₁_elim known (lines_set x y) f where
    lines_set : (x y : Lines) → IsProp (x ≡ y)
    lines_set = hlevel (Coded-set coded_ℕ)

module _ (s : List ℕ) (k : ℕ) (r : Answer) (e : r ≡ answer_of s k) where
  module _ (bytes : (i : ℕ) → Fits w8 (get_or s i 0)) (a : ArenaNo) (c : Counts) (f : r ≡ accepted a c) where
    pub accepted_well : WellFormed (image_of s)
    accepted_well = accepted_well_formed s k a c (all_bytes s (λ i. omega (arith, (bytes i).fits))) (sym e ∙ f)

    pub accepted_known : (p : List ℕ) → p ≡ starts_of s k → Known s p c
    accepted_known p g =
        record {
          found = ap (λ x. image_found s x c) g ∙ found_is_image s k a c (sym e ∙ f);
          whole = accepted_well;
        }

    texts_few : c.texts ≤ 2048
    texts_few = subst (λ (n : ℕ). n ≤ 2048) (sizes_are_counts s k a c (sym e ∙ f) Texts) (texts_within (image_of s) accepted_well)

    pub opened_accepted : (p cs l m : List ℕ) → p ≡ starts_of s k → length l ≡ 2048 → length m ≡ 2048
        → ((q : List ℕ) → c.texts ≤ length l → c.texts ≤ length m → Classes (text_of (image_found s q c)) cs) → Opened s p cs (accepted a c)
    opened_accepted p cs l m g x y d =
        let kn : Known s p c = accepted_known p g in
        (kn, subst (λ im. Classes (text_of im) cs) kn.found (d p (omega (arith, texts_few)) (omega (arith, texts_few))))
