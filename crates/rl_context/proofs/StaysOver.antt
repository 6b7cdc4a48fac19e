-- Nothing takes list entries away, so that what is over stays over, whatever waits then.
-- Assumes nothing.
use Rattle.std.proofs.Common.{ℕ, ◌≤◌, List, [], ◌∷◌, ◌++◌, length, ◌∙◌, arith, length-append}
use Rattle.rl_spec.specs.declared.Section.TheVariants.{Lists}
use Rattle.rl_spec.specs.Make.{Make, ◌>>=◌, give}
use Rattle.rl_images.specs.Lowering.Gives.{gives, after, weaker}
use Rattle.rl_images.specs.Lowering.Grows.{size_grows}
use Rattle.rl_images.specs.Lowering.Adds.{Adds, adds_later}
use Rattle.rl_context.specs.Does.{nothing, one, all}
use Rattle.rl_context.proofs.Composed.{Keeps}

pub keeps_more : {A B : Type 0} {f : A → Make B} (q : B → List ℕ) → ((a : A) → Adds (f a)) → Keeps (nothing {A = A}) f q
keeps_more q h =
    record {
      keeps = λ ws a x o.
          weaker (adds_later (h a) x o.sections) (λ b y k.
          record {
            sections = k.image.sections ∙ o.sections;
            more = rw (length-append ws (q b)) (omega (arith, o.more, size_grows k.image Lists, length-append ws []));
          });
    }

-- what waits is kept where a list goes on
pub keeps_one : {A : Type 0} {m : Make (List A)} (g : ℕ → List A → List ℕ) → Adds m → ((n : ℕ) (as' : List A) → 1 ≤ length (g n as')) →
    Keeps one (λ n. m >>= λ as'. give (g n as')) all
keeps_one g h long =
    record {
      keeps = λ ws n x o.
          after (adds_later h x o.sections) (λ as' y k.
          gives (record {
            sections = k.image.sections ∙ o.sections;
            more = rw (length-append ws (g n as')) (omega (arith, o.more, size_grows k.image Lists, length-append ws (n ∷ []), long n as'));
          }));
    }

pub keeps_all : {m : Make (List ℕ)} → Adds m → Keeps all (λ ns. m >>= λ ms. give (ns ++ ms)) all
keeps_all h =
    record {
      keeps = λ ws ns x o.
          after (adds_later h x o.sections) (λ ms y k.
          gives (record {
            sections = k.image.sections ∙ o.sections;
            more = rw (length-append ws (ns ++ ms), length-append ns ms) (omega (arith, o.more, size_grows k.image Lists, length-append ws ns));
          }));
    }
