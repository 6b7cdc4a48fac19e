-- The path of a call, before its list of arguments.
use Rattle.std.specs.Prelude.{ℕ, List, [], ◌∷◌}
use Rattle.rl_spec.specs.Image.{Field}
use Rattle.rl_spec.specs.Tree.{ascii}
use Rattle.rl_spec.specs.Make.{Make, ◌>>=◌, each, new_text, new_list}

-- `std::res::NAME`
abbrev pub res_path : List ℕ → Make Field
res_path name = each new_text (ascii "std" ∷ ascii "res" ∷ name ∷ []) >>= new_list
