-- The functions of an image, by computation: name, parameters and result flag, by index as the runner has them, and by bytes.
-- Assumes nothing.
use Rattle.std.specs.Prelude.{◌≡◌, ℕ, true, false, List, [], ◌∷◌, map, refl}
use Rattle.rl_spec.specs.Image.{num, pair, Rec, Image, text_of}
use Rattle.rl_spec.specs.Tree.{ascii}
use Rattle.rl_spec.specs.Ranges.{up_from}
use Rattle.rl_spec.specs.Records.{param_at, function_at}
use Rattle.rl_spec.specs.FnContracts.{param_of, contracts_of}
use Rattle.rl_spec.specs.Make.{made}
use Rattle.rl_spec.specs.Mapped.{Text}
use Rattle.rl_spec.specs.Functions.{plain_function, contract_function}
use Rattle.rl_examples.specs.MarkedImages.{parameter, function, text_bytes, text_records, build}

abbrev result_function : Rec
result_function = made 82 (num 0 ∷ num 0 ∷ pair 1 2 ∷ num 1 ∷ pair 0 0 ∷ pair 0 0 ∷ pair 0 0 ∷ [])

-- g(x), then f(y, x), a result function
abbrev pub two : Image
two =
    build
    record {
      texts = "f" ∷ "g" ∷ "x" ∷ "y" ∷ [];
      lists = [];
      expressions = [];
      statements = [];
      parameters = parameter 2 ∷ parameter 3 ∷ parameter 2 ∷ [];
      clauses = [];
      functions = function 1 0 (pair 0 1) (pair 0 0) (pair 0 0) (pair 0 0) ∷ result_function ∷ [];
      calls = [];
    }

abbrev pub named : (ℕ → Text) → (ℕ → List Text) → List (List Text)
named name params = (name 0 ∷ params 0) ∷ (name 1 ∷ params 1) ∷ []

abbrev pub expected : List (List Text)
expected = (ascii "g" ∷ ascii "x" ∷ []) ∷ (ascii "f" ∷ ascii "y" ∷ ascii "x" ∷ []) ∷ []

-- as their contracts are read
pub read_names : named (λ f. (contract_function two f).name) (λ f. (contract_function two f).params) ≡ expected
unfolding contract_function contracts_of function_at param_of param_at up_from text_bytes text_records ascii
read_names = refl

pub read_results : (contract_function two 0).is_result ∷ (contract_function two 1).is_result ∷ [] ≡ false ∷ true ∷ []
unfolding contract_function function_at
read_results = refl

-- as the runner runs them
pub run_names : named (λ f. text_of two (plain_function two f).name) (λ f. map (text_of two) (plain_function two f).params) ≡ expected
unfolding plain_function function_at param_at up_from text_bytes text_records ascii
run_names = refl

pub run_results : (plain_function two 0).is_result ∷ (plain_function two 1).is_result ∷ [] ≡ false ∷ true ∷ []
unfolding plain_function function_at
run_results = refl
