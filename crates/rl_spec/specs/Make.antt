-- Making records: computations that append to an image. Under limits they stop where one would be passed; without limits they never stop.
use Rattle.std.specs.Prelude.{ℕ, suc, ◌+◌, Bool, cond, ◌&&◌, List, [], ◌∷◌, ◌++◌, map, length, nat_lt, slice_index, slice_set}
use Rattle.std.proofs.Math.Option.{Option, none, some}
use Rattle.rl_spec.specs.declared.Section.{Section}
use Rattle.rl_spec.specs.declared.Section.TheVariants.{Texts, Lists, Statements}
use Rattle.rl_spec.specs.Schema.{limits}
use Rattle.rl_spec.specs.Image.{Field, num, pair, Rec, Image, order_of, records_of, size_of, entry_of}
use Rattle.rl_spec.specs.Ranges.{interval, numbers_in}

infixl 1 ◌>>=◌
-- ---- making: from the context to what is made and the context then; none where a limit would be passed

-- the image so far, the function's span and result flag, the number of the next temporary, and whether there are limits
pub record Context : Type 0 where
  pub image : Image
  pub span : ℕ
  pub is_result : Bool
  pub temp_counter : ℕ
  pub limited : Bool

abbrev pub Make : Type 0 → Type 0
Make A = Context → Option (A × Context)

abbrev pub and_then : {A B : Type 0} → Option (A × Context) → (A → Make B) → Option (B × Context)
and_then none f = none
and_then (some r) f = f r.0 r.1

abbrev pub ◌>>=◌ : {A B : Type 0} → Make A → (A → Make B) → Make B
◌>>=◌ m f = λ ctx. and_then (m ctx) f

abbrev pub give : {A : Type 0} → A → Make A
give a ctx = some (a, ctx)

-- the image so far
abbrev pub image_so_far : Make Image
image_so_far ctx = some (ctx.image, ctx)

-- whether the function's result is a Result or CResult
abbrev pub result_flag : Make Bool
result_flag ctx = some (ctx.is_result, ctx)

abbrev pub counted : Context → Context
counted ctx =
    record {
      image = ctx.image;
      span = ctx.span;
      is_result = ctx.is_result;
      temp_counter = suc ctx.temp_counter;
      limited = ctx.limited;
    }

-- the number of a temporary, which is then taken
abbrev pub take_temp : Make ℕ
take_temp ctx = some (ctx.temp_counter, counted ctx)

-- one after the other
unfoldable pub each : {A B : Type 0} → (A → Make B) → List A → Make (List B)
each f [] = give []
each f (a ∷ l) = do
  b ← f a
  bs ← each f l
  give (b ∷ bs)

unfoldable pub flat_map : {A B : Type 0} → (A → Make (List B)) → List A → Make (List B)
flat_map f [] = give []
flat_map f (a ∷ l) = do
  bs ← f a
  cs ← flat_map f l
  give (bs ++ cs)

-- ---- the image grows, up to five of the six limits; the sixth, of its bytes, is tested on the finished image

abbrev pub with_image : Context → Image → Context
with_image ctx im =
    record { image = im; span = ctx.span; is_result = ctx.is_result; temp_counter = ctx.temp_counter; limited = ctx.limited }

abbrev pub with_records : Image → Section → List Rec → Image
with_records im o rs = record { arena = im.arena; bytes = im.bytes; records = slice_set im.records (order_of o) rs }

abbrev pub with_bytes : Image → List ℕ → Image
with_bytes im s = record { arena = im.arena; bytes = s; records = im.records }

-- the limit of the text bytes stands before those of the sections
abbrev pub most : Section → ℕ
most o = slice_index limits (suc (order_of o))

abbrev pub most_bytes : ℕ
most_bytes = slice_index limits 0

-- records at the end of a section; the number of the first
unfoldable pub append : Section → List Rec → Make ℕ
append o rs ctx =
    cond (ctx.limited && nat_lt (most o) (size_of ctx.image o + length rs)) none
    (some (size_of ctx.image o, with_image ctx (with_records ctx.image o (records_of ctx.image o ++ rs))))

unfoldable pub append_bytes : List ℕ → Make ℕ
append_bytes s ctx =
    cond (ctx.limited && nat_lt most_bytes (length ctx.image.bytes + length s)) none
    (some (length ctx.image.bytes, with_image ctx (with_bytes ctx.image (ctx.image.bytes ++ s))))

abbrev pub made : ℕ → List Field → Rec
made kind fields = record { kind = kind; fields = fields }

-- a text, even one that the image has
unfoldable pub new_text : List ℕ → Make ℕ
new_text s = do
  at ← append_bytes s
  append Texts (made 2 (pair at (length s) ∷ []) ∷ [])

-- a list; an empty one starts at the number of entries there are
unfoldable pub new_list : List ℕ → Make Field
new_list ns = do
  at ← append Lists (map (λ n. made 3 (num n ∷ [])) ns)
  give (pair at (length ns))

-- a statement with a span of its own, and one with the function's
unfoldable pub stmt : ℕ → ℕ → List Field → Make ℕ
stmt kind span fields = append Statements (made kind (num span ∷ fields) ∷ [])

abbrev pub new_stmt : ℕ → List Field → Make ℕ
new_stmt kind fields ctx = stmt kind ctx.span fields ctx

-- the entries of a list
abbrev pub entries_of : Image → Field → List ℕ
entries_of im list = map (entry_of im) (numbers_in (interval list))
