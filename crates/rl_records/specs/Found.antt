-- The image that borrowed bytes stand for.
use Rattle.std.specs.Prelude.{ℕ, List}
use Rattle.rl_spec.specs.Image.{Image}
use Rattle.rl_spec.specs.Found.{image_found}
use Rattle.rl_records.specs.declared.ImageRef.{ImageRef}

-- where its expressions and statements start at the places p
abbrev pub found_with : ImageRef → List ℕ → Image
found_with image p = image_found image.bytes.now p image.counts

abbrev pub found : ImageRef → Image
found image = found_with image image.starts.now
