-- The rows of the schema that the code gives for the kinds that it makes.
-- Assumes nothing.
use Rattle.std.proofs.Common.{◌≡◌, [], ◌∷◌, refl}
use Rattle.rl_spec.specs.Schema.{schema, fields_in, fields_of}
use Rattle.rl_schema.specs.Codes.{codes_in, codes}

pub row_null : codes 3 ≡ fields_of 16
unfolding codes_in codes fields_of fields_in schema
row_null = refl

pub row_integer : codes 1027 ≡ fields_of 17
unfolding codes_in codes fields_of fields_in schema
row_integer = refl

pub row_string : codes 3075 ≡ fields_of 25
unfolding codes_in codes fields_of fields_in schema
row_string = refl

pub row_bool : codes 1283 ≡ fields_of 26
unfolding codes_in codes fields_of fields_in schema
row_bool = refl

pub row_identifier : codes 3075 ≡ fields_of 30
unfolding codes_in codes fields_of fields_in schema
row_identifier = refl

pub row_binary : codes 218500355 ≡ fields_of 32
unfolding codes_in codes fields_of fields_in schema
row_binary = refl

pub row_unary : codes 853507 ≡ fields_of 33
unfolding codes_in codes fields_of fields_in schema
row_unary = refl

pub row_call : codes 1249795 ≡ fields_of 41
unfolding codes_in codes fields_of fields_in schema
row_call = refl

pub row_err : codes 3331 ≡ fields_of 50
unfolding codes_in codes fields_of fields_in schema
row_err = refl

pub row_declaration : codes 13103205379 ≡ fields_of 64
unfolding codes_in codes fields_of fields_in schema
row_declaration = refl

pub row_expression : codes 3331 ≡ fields_of 65
unfolding codes_in codes fields_of fields_in schema
row_expression = refl

pub row_return : codes 3331 ≡ fields_of 66
unfolding codes_in codes fields_of fields_in schema
row_return = refl

pub row_conditional : codes 1118211 ≡ fields_of 68
unfolding codes_in codes fields_of fields_in schema
row_conditional = refl

pub row_branch : codes 85331459 ≡ fields_of 69
unfolding codes_in codes fields_of fields_in schema
row_branch = refl

-- ---- behind the span

pub fields_null : fields_of 16 ≡ 3 ∷ []
unfolding fields_of fields_in schema
fields_null = refl

pub fields_string : fields_of 25 ≡ 3 ∷ 12 ∷ []
unfolding fields_of fields_in schema
fields_string = refl

pub fields_identifier : fields_of 30 ≡ 3 ∷ 12 ∷ []
unfolding fields_of fields_in schema
fields_identifier = refl

pub fields_binary : fields_of 32 ≡ 3 ∷ 13 ∷ 6 ∷ 13 ∷ []
unfolding fields_of fields_in schema
fields_binary = refl

pub fields_unary : fields_of 33 ≡ 3 ∷ 6 ∷ 13 ∷ []
unfolding fields_of fields_in schema
fields_unary = refl

pub fields_call : fields_of 41 ≡ 3 ∷ 18 ∷ 19 ∷ []
unfolding fields_of fields_in schema
fields_call = refl

pub fields_err : fields_of 50 ≡ 3 ∷ 13 ∷ []
unfolding fields_of fields_in schema
fields_err = refl
