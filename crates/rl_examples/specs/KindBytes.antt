-- Every kind of record in literal bytes, in 01's order of fields: one image that has them all, what the reader says of it, and the records
-- that it stands for.
-- Assumes nothing.
use Rattle.std.specs.Prelude.{◌≡◌, ℕ, List, [], ◌∷◌, ◌++◌, map, replicate, refl}
use Rattle.rl_spec.specs.Answers.{accepted}
use Rattle.rl_spec.specs.declared.Section.TheVariants.{Expressions, Statements}
use Rattle.rl_spec.specs.Read.{answer_of, work_of}
use Rattle.rl_spec.specs.Image.{num, pair, Rec, Image, bytes_of, encode_fields, encode_record, encode_records, encode_sections, encode_counts, encode, image_of, sections_in, records_in, record_in, next_at, end_at, fields_at, widths_of, heights, heights_from, tallest_child, tallest_entry}
use Rattle.rl_examples.specs.MarkedImages.{made}
use Rattle.rl_examples.specs.ByteRows.{joined, reading}

-- the bytes of a record, and the record
pub record Kind : Type 0 where
  pub bytes : List ℕ
  pub means : Rec

abbrev row : List ℕ → Rec → Kind
row s r = record { bytes = s; means = r }

-- ---- texts and list entries

abbrev texts : List Kind
texts =
    -- Text 2: offset, length (u16). "ab", "é", "c"
    row (2 ∷ 0 ∷ 0 ∷ 2 ∷ 0 ∷ []) (made 2 (pair 0 2 ∷ []))
    ∷ row (2 ∷ 2 ∷ 0 ∷ 2 ∷ 0 ∷ []) (made 2 (pair 2 2 ∷ []))
    ∷ row (2 ∷ 4 ∷ 0 ∷ 1 ∷ 0 ∷ []) (made 2 (pair 4 1 ∷ []))
    ∷ []

abbrev lists : List Kind
lists =
    -- List entry 3: u16. Two nodes
    row (3 ∷ 1 ∷ 0 ∷ []) (made 3 (num 1 ∷ []))
    ∷ row (3 ∷ 0 ∷ 0 ∷ []) (made 3 (num 0 ∷ []))
    -- three texts
    ∷ row (3 ∷ 0 ∷ 0 ∷ []) (made 3 (num 0 ∷ []))
    ∷ row (3 ∷ 1 ∷ 0 ∷ []) (made 3 (num 1 ∷ []))
    ∷ row (3 ∷ 2 ∷ 0 ∷ []) (made 3 (num 2 ∷ []))
    -- a text and a node
    ∷ row (3 ∷ 2 ∷ 0 ∷ []) (made 3 (num 2 ∷ []))
    ∷ row (3 ∷ 3 ∷ 0 ∷ []) (made 3 (num 3 ∷ []))
    -- two statements
    ∷ row (3 ∷ 0 ∷ 0 ∷ []) (made 3 (num 0 ∷ []))
    ∷ row (3 ∷ 3 ∷ 0 ∷ []) (made 3 (num 3 ∷ []))
    -- an arm
    ∷ row (3 ∷ 0x0B ∷ 0 ∷ []) (made 3 (num 11 ∷ []))
    -- one that no list names
    ∷ row (3 ∷ 1 ∷ 2 ∷ []) (made 3 (num 0x0201 ∷ []))
    ∷ []

-- ---- expressions, with their span behind the kind: k, 2, 3, 4 for the kind k

abbrev expressions : List Kind
expressions =
    -- Null
    row (16 ∷ 0x10 ∷ 2 ∷ 3 ∷ 4 ∷ []) (made 16 (num 0x04030210 ∷ []))
    -- Integer i64
    ∷ row (17 ∷ 0x11 ∷ 2 ∷ 3 ∷ 4 ∷ 0x11 ∷ 0x12 ∷ 0x13 ∷ 0x14 ∷ 0x15 ∷ 0x16 ∷ 0x17 ∷ 0x18 ∷ []) (made 17 (num 0x04030211 ∷ num 0x1817161514131211 ∷ []))
    -- SInt i32
    ∷ row (18 ∷ 0x12 ∷ 2 ∷ 3 ∷ 4 ∷ 0x81 ∷ 0x82 ∷ 0x83 ∷ 0x84 ∷ []) (made 18 (num 0x04030212 ∷ num 0x84838281 ∷ []))
    -- UInt u64
    ∷ row (19 ∷ 0x13 ∷ 2 ∷ 3 ∷ 4 ∷ 0xF1 ∷ 0xF2 ∷ 0xF3 ∷ 0xF4 ∷ 0xF5 ∷ 0xF6 ∷ 0xF7 ∷ 0xF8 ∷ []) (made 19 (num 0x04030213 ∷ num 0xF8F7F6F5F4F3F2F1 ∷ []))
    -- SUInt u32
    ∷ row (20 ∷ 0x14 ∷ 2 ∷ 3 ∷ 4 ∷ 0x91 ∷ 0x92 ∷ 0x93 ∷ 0x94 ∷ []) (made 20 (num 0x04030214 ∷ num 0x94939291 ∷ []))
    -- Byte u8
    ∷ row (21 ∷ 0x15 ∷ 2 ∷ 3 ∷ 4 ∷ 0xFF ∷ []) (made 21 (num 0x04030215 ∷ num 255 ∷ []))
    -- SByte i8
    ∷ row (22 ∷ 0x16 ∷ 2 ∷ 3 ∷ 4 ∷ 0x80 ∷ []) (made 22 (num 0x04030216 ∷ num 128 ∷ []))
    -- BByte u16
    ∷ row (23 ∷ 0x17 ∷ 2 ∷ 3 ∷ 4 ∷ 0x11 ∷ 0x12 ∷ []) (made 23 (num 0x04030217 ∷ num 0x1211 ∷ []))
    -- BSByte i16
    ∷ row (24 ∷ 0x18 ∷ 2 ∷ 3 ∷ 4 ∷ 0xF1 ∷ 0xF2 ∷ []) (made 24 (num 0x04030218 ∷ num 0xF2F1 ∷ []))
    -- String t
    ∷ row (25 ∷ 0x19 ∷ 2 ∷ 3 ∷ 4 ∷ 2 ∷ 0 ∷ []) (made 25 (num 0x04030219 ∷ num 2 ∷ []))
    -- Bool (0, 1)
    ∷ row (26 ∷ 0x1A ∷ 2 ∷ 3 ∷ 4 ∷ 1 ∷ []) (made 26 (num 0x0403021A ∷ num 1 ∷ []))
    -- Float 8 bytes
    ∷ row (27 ∷ 0x1B ∷ 2 ∷ 3 ∷ 4 ∷ 0x21 ∷ 0x22 ∷ 0x23 ∷ 0x24 ∷ 0x25 ∷ 0x26 ∷ 0x27 ∷ 0x28 ∷ []) (made 27 (num 0x0403021B ∷ num 0x2827262524232221 ∷ []))
    -- SFloat 4 bytes
    ∷ row (28 ∷ 0x1C ∷ 2 ∷ 3 ∷ 4 ∷ 0x31 ∷ 0x32 ∷ 0x33 ∷ 0x34 ∷ []) (made 28 (num 0x0403021C ∷ num 0x34333231 ∷ []))
    -- Character u32, a Unicode scalar
    ∷ row (29 ∷ 0x1D ∷ 2 ∷ 3 ∷ 4 ∷ 0 ∷ 0xF6 ∷ 1 ∷ 0 ∷ []) (made 29 (num 0x0403021D ∷ num 0x0001F600 ∷ []))
    -- Identifier t
    ∷ row (30 ∷ 0x1E ∷ 2 ∷ 3 ∷ 4 ∷ 1 ∷ 0 ∷ []) (made 30 (num 0x0403021E ∷ num 1 ∷ []))
    -- ResolvedIdentifier t h h
    ∷ row (31 ∷ 0x1F ∷ 2 ∷ 3 ∷ 4 ∷ 2 ∷ 0 ∷ 0x1B ∷ 0x1C ∷ 0x1D ∷ 0x1E ∷ 0x1A ∷ 0x1B ∷ 0x1C ∷ 0x1D ∷ []) (made 31 (num 0x0403021F ∷ num 2 ∷ num 0x1E1D1C1B ∷ num 0x1D1C1B1A ∷ []))
    -- Binary n, operator, n
    ∷ row (32 ∷ 0x20 ∷ 2 ∷ 3 ∷ 4 ∷ 3 ∷ 0 ∷ 6 ∷ 0x0F ∷ 0 ∷ []) (made 32 (num 0x04030220 ∷ num 3 ∷ num 6 ∷ num 15 ∷ []))
    -- Unary operator, n
    ∷ row (33 ∷ 0x21 ∷ 2 ∷ 3 ∷ 4 ∷ 5 ∷ 0x10 ∷ 0 ∷ []) (made 33 (num 0x04030221 ∷ num 5 ∷ num 16 ∷ []))
    -- Grouping n
    ∷ row (34 ∷ 0x22 ∷ 2 ∷ 3 ∷ 4 ∷ 0x11 ∷ 0 ∷ []) (made 34 (num 0x04030222 ∷ num 17 ∷ []))
    -- ArrayLiteral l
    ∷ row (35 ∷ 0x23 ∷ 2 ∷ 3 ∷ 4 ∷ 0 ∷ 0 ∷ 2 ∷ 0 ∷ []) (made 35 (num 0x04030223 ∷ pair 0 2 ∷ []))
    -- MapLiteral l of pairs n n
    ∷ row (36 ∷ 0x24 ∷ 2 ∷ 3 ∷ 4 ∷ 0 ∷ 0 ∷ 2 ∷ 0 ∷ []) (made 36 (num 0x04030224 ∷ pair 0 2 ∷ []))
    -- SetLiteral l
    ∷ row (37 ∷ 0x25 ∷ 2 ∷ 3 ∷ 4 ∷ 1 ∷ 0 ∷ 1 ∷ 0 ∷ []) (made 37 (num 0x04030225 ∷ pair 1 1 ∷ []))
    -- TupleLiteral l
    ∷ row (38 ∷ 0x26 ∷ 2 ∷ 3 ∷ 4 ∷ 0 ∷ 0 ∷ 1 ∷ 0 ∷ []) (made 38 (num 0x04030226 ∷ pair 0 1 ∷ []))
    -- Assign t n
    ∷ row (39 ∷ 0x27 ∷ 2 ∷ 3 ∷ 4 ∷ 1 ∷ 0 ∷ 2 ∷ 0 ∷ []) (made 39 (num 0x04030227 ∷ num 1 ∷ num 2 ∷ []))
    -- ResolvedAssign t h h n
    ∷ row (40 ∷ 0x28 ∷ 2 ∷ 3 ∷ 4 ∷ 2 ∷ 0 ∷ 0x19 ∷ 0x1A ∷ 0x1B ∷ 0x1C ∷ 0x18 ∷ 0x19 ∷ 0x1A ∷ 0x1B ∷ 1 ∷ 0 ∷ []) (made 40 (num 0x04030228 ∷ num 2 ∷ num 0x1C1B1A19 ∷ num 0x1B1A1918 ∷ num 1 ∷ []))
    -- Call l of t, l
    ∷ row (41 ∷ 0x29 ∷ 2 ∷ 3 ∷ 4 ∷ 2 ∷ 0 ∷ 3 ∷ 0 ∷ 0 ∷ 0 ∷ 2 ∷ 0 ∷ []) (made 41 (num 0x04030229 ∷ pair 2 3 ∷ pair 0 2 ∷ []))
    -- CallExpr n l
    ∷ row (42 ∷ 0x2A ∷ 2 ∷ 3 ∷ 4 ∷ 5 ∷ 0 ∷ 1 ∷ 0 ∷ 1 ∷ 0 ∷ []) (made 42 (num 0x0403022A ∷ num 5 ∷ pair 1 1 ∷ []))
    -- MethodCall n, l of t, l
    ∷ row (43 ∷ 0x2B ∷ 2 ∷ 3 ∷ 4 ∷ 6 ∷ 0 ∷ 3 ∷ 0 ∷ 2 ∷ 0 ∷ 0 ∷ 0 ∷ 1 ∷ 0 ∷ []) (made 43 (num 0x0403022B ∷ num 6 ∷ pair 3 2 ∷ pair 0 1 ∷ []))
    -- Index n n
    ∷ row (44 ∷ 0x2C ∷ 2 ∷ 3 ∷ 4 ∷ 7 ∷ 0 ∷ 8 ∷ 0 ∷ []) (made 44 (num 0x0403022C ∷ num 7 ∷ num 8 ∷ []))
    -- IndexAssign n n n
    ∷ row (45 ∷ 0x2D ∷ 2 ∷ 3 ∷ 4 ∷ 9 ∷ 0 ∷ 0x0A ∷ 0 ∷ 0x0B ∷ 0 ∷ []) (made 45 (num 0x0403022D ∷ num 9 ∷ num 10 ∷ num 11 ∷ []))
    -- Cast n h
    ∷ row (46 ∷ 0x2E ∷ 2 ∷ 3 ∷ 4 ∷ 0x0C ∷ 0 ∷ 0x17 ∷ 0x18 ∷ 0x19 ∷ 0x1A ∷ []) (made 46 (num 0x0403022E ∷ num 12 ∷ num 0x1A191817 ∷ []))
    -- Is n h
    ∷ row (47 ∷ 0x2F ∷ 2 ∷ 3 ∷ 4 ∷ 0x0D ∷ 0 ∷ 0x16 ∷ 0x17 ∷ 0x18 ∷ 0x19 ∷ []) (made 47 (num 0x0403022F ∷ num 13 ∷ num 0x19181716 ∷ []))
    -- ErrorLiteral n
    ∷ row (48 ∷ 0x30 ∷ 2 ∷ 3 ∷ 4 ∷ 0x0E ∷ 0 ∷ []) (made 48 (num 0x04030230 ∷ num 14 ∷ []))
    -- OkLiteral n
    ∷ row (49 ∷ 0x31 ∷ 2 ∷ 3 ∷ 4 ∷ 0x20 ∷ 0 ∷ []) (made 49 (num 0x04030231 ∷ num 32 ∷ []))
    -- ErrLiteral n
    ∷ row (50 ∷ 0x32 ∷ 2 ∷ 3 ∷ 4 ∷ 0x21 ∷ 0 ∷ []) (made 50 (num 0x04030232 ∷ num 33 ∷ []))
    -- Propagate n
    ∷ row (51 ∷ 0x33 ∷ 2 ∷ 3 ∷ 4 ∷ 0x22 ∷ 0 ∷ []) (made 51 (num 0x04030233 ∷ num 34 ∷ []))
    -- StructLiteral t, l of pairs t n
    ∷ row (52 ∷ 0x34 ∷ 2 ∷ 3 ∷ 4 ∷ 2 ∷ 0 ∷ 5 ∷ 0 ∷ 2 ∷ 0 ∷ []) (made 52 (num 0x04030234 ∷ num 2 ∷ pair 5 2 ∷ []))
    -- FieldAccess n t
    ∷ row (53 ∷ 0x35 ∷ 2 ∷ 3 ∷ 4 ∷ 0x24 ∷ 0 ∷ 1 ∷ 0 ∷ []) (made 53 (num 0x04030235 ∷ num 36 ∷ num 1 ∷ []))
    -- FieldAssign n t n
    ∷ row (54 ∷ 0x36 ∷ 2 ∷ 3 ∷ 4 ∷ 0x25 ∷ 0 ∷ 2 ∷ 0 ∷ 3 ∷ 0 ∷ []) (made 54 (num 0x04030236 ∷ num 37 ∷ num 2 ∷ num 3 ∷ []))
    -- EnumVariant t t
    ∷ row (55 ∷ 0x37 ∷ 2 ∷ 3 ∷ 4 ∷ 0 ∷ 0 ∷ 2 ∷ 0 ∷ []) (made 55 (num 0x04030237 ∷ num 0 ∷ num 2 ∷ []))
    -- Lambda h
    ∷ row (56 ∷ 0x38 ∷ 2 ∷ 3 ∷ 4 ∷ 0x15 ∷ 0x16 ∷ 0x17 ∷ 0x18 ∷ []) (made 56 (num 0x04030238 ∷ num 0x18171615 ∷ []))
    -- ResolvedLambda h
    ∷ row (57 ∷ 0x39 ∷ 2 ∷ 3 ∷ 4 ∷ 0x14 ∷ 0x15 ∷ 0x16 ∷ 0x17 ∷ []) (made 57 (num 0x04030239 ∷ num 0x17161514 ∷ []))
    ∷ []

-- ---- statements. An arm comes before its Match, and a branch before its Conditional

abbrev statements : List Kind
statements =
    -- VariableDeclaration t, h type, n, h rest
    row (64 ∷ 0x40 ∷ 2 ∷ 3 ∷ 4 ∷ 1 ∷ 0 ∷ 0x13 ∷ 0x14 ∷ 0x15 ∷ 0x16 ∷ 0x29 ∷ 0 ∷ 0x12 ∷ 0x13 ∷ 0x14 ∷ 0x15 ∷ []) (made 64 (num 0x04030240 ∷ num 1 ∷ num 0x16151413 ∷ num 41 ∷ num 0x15141312 ∷ []))
    -- Expression n
    ∷ row (65 ∷ 0x41 ∷ 2 ∷ 3 ∷ 4 ∷ 0x28 ∷ 0 ∷ []) (made 65 (num 0x04030241 ∷ num 40 ∷ []))
    -- Return n
    ∷ row (66 ∷ 0x42 ∷ 2 ∷ 3 ∷ 4 ∷ 0x27 ∷ 0 ∷ []) (made 66 (num 0x04030242 ∷ num 39 ∷ []))
    -- Return alone
    ∷ row (67 ∷ 0x43 ∷ 2 ∷ 3 ∷ 4 ∷ []) (made 67 (num 0x04030243 ∷ []))
    -- ConditionalBranch n or none, l, needs_scope
    ∷ row (69 ∷ 0x45 ∷ 2 ∷ 3 ∷ 4 ∷ 0x26 ∷ 0 ∷ 7 ∷ 0 ∷ 2 ∷ 0 ∷ 1 ∷ []) (made 69 (num 0x04030245 ∷ num 38 ∷ pair 7 2 ∷ num 1 ∷ []))
    -- Conditional s (a 69), s (69, 68 or none)
    ∷ row (68 ∷ 0x44 ∷ 2 ∷ 3 ∷ 4 ∷ 4 ∷ 0 ∷ 0xFF ∷ 0xFF ∷ []) (made 68 (num 0x04030244 ∷ num 4 ∷ num 65535 ∷ []))
    -- While n l
    ∷ row (70 ∷ 0x46 ∷ 2 ∷ 3 ∷ 4 ∷ 5 ∷ 0 ∷ 8 ∷ 0 ∷ 1 ∷ 0 ∷ []) (made 70 (num 0x04030246 ∷ num 5 ∷ pair 8 1 ∷ []))
    -- Loop l
    ∷ row (71 ∷ 0x47 ∷ 2 ∷ 3 ∷ 4 ∷ 7 ∷ 0 ∷ 1 ∷ 0 ∷ []) (made 71 (num 0x04030247 ∷ pair 7 1 ∷ []))
    -- For s n n l
    ∷ row (72 ∷ 0x48 ∷ 2 ∷ 3 ∷ 4 ∷ 6 ∷ 0 ∷ 0x14 ∷ 0 ∷ 0x15 ∷ 0 ∷ 7 ∷ 0 ∷ 2 ∷ 0 ∷ []) (made 72 (num 0x04030248 ∷ num 6 ∷ num 20 ∷ num 21 ∷ pair 7 2 ∷ []))
    -- ForRange t s l
    ∷ row (73 ∷ 0x49 ∷ 2 ∷ 3 ∷ 4 ∷ 2 ∷ 0 ∷ 8 ∷ 0 ∷ 8 ∷ 0 ∷ 1 ∷ 0 ∷ []) (made 73 (num 0x04030249 ∷ num 2 ∷ num 8 ∷ pair 8 1 ∷ []))
    -- ForEach t n l
    ∷ row (74 ∷ 0x4A ∷ 2 ∷ 3 ∷ 4 ∷ 0 ∷ 0 ∷ 0x16 ∷ 0 ∷ 7 ∷ 0 ∷ 1 ∷ 0 ∷ []) (made 74 (num 0x0403024A ∷ num 0 ∷ num 22 ∷ pair 7 1 ∷ []))
    -- arm: n or none, l
    ∷ row (76 ∷ 0x4C ∷ 2 ∷ 3 ∷ 4 ∷ 0xFF ∷ 0xFF ∷ 8 ∷ 0 ∷ 1 ∷ 0 ∷ []) (made 76 (num 0x0403024C ∷ num 65535 ∷ pair 8 1 ∷ []))
    -- Match n, l of 76
    ∷ row (75 ∷ 0x4B ∷ 2 ∷ 3 ∷ 4 ∷ 0x17 ∷ 0 ∷ 9 ∷ 0 ∷ 1 ∷ 0 ∷ []) (made 75 (num 0x0403024B ∷ num 23 ∷ pair 9 1 ∷ []))
    -- Break
    ∷ row (77 ∷ 0x4D ∷ 2 ∷ 3 ∷ 4 ∷ []) (made 77 (num 0x0403024D ∷ []))
    -- Continue
    ∷ row (78 ∷ 0x4E ∷ 2 ∷ 3 ∷ 4 ∷ []) (made 78 (num 0x0403024E ∷ []))
    -- any other kind: h
    ∷ row (79 ∷ 0x4F ∷ 2 ∷ 3 ∷ 4 ∷ 0x11 ∷ 0x12 ∷ 0x13 ∷ 0x14 ∷ []) (made 79 (num 0x0403024F ∷ num 0x14131211 ∷ []))
    ∷ []

-- ---- parameters, clauses, functions, calls

abbrev parameters : List Kind
parameters =
    -- Parameter t, h, refinement, operand sort, 8 bytes: none
    row (80 ∷ 1 ∷ 0 ∷ 0x10 ∷ 0x11 ∷ 0x12 ∷ 0x13 ∷ 0 ∷ 0 ∷ 0 ∷ 0 ∷ 0 ∷ 0 ∷ 0 ∷ 0 ∷ 0 ∷ 0 ∷ []) (made 80 (num 1 ∷ num 0x13121110 ∷ num 0 ∷ num 0 ∷ num 0 ∷ []))
    -- Ne an Integer
    ∷ row (80 ∷ 2 ∷ 0 ∷ 0x0F ∷ 0x10 ∷ 0x11 ∷ 0x12 ∷ 6 ∷ 1 ∷ 0xC1 ∷ 0xC2 ∷ 0xC3 ∷ 0xC4 ∷ 0xC5 ∷ 0xC6 ∷ 0xC7 ∷ 0xC8 ∷ []) (made 80 (num 2 ∷ num 0x1211100F ∷ num 6 ∷ num 1 ∷ num 0xC8C7C6C5C4C3C2C1 ∷ []))
    -- Gt a Str
    ∷ row (80 ∷ 0 ∷ 0 ∷ 0x0E ∷ 0x0F ∷ 0x10 ∷ 0x11 ∷ 1 ∷ 2 ∷ 2 ∷ 0 ∷ 0 ∷ 0 ∷ 0 ∷ 0 ∷ 0 ∷ 0 ∷ []) (made 80 (num 0 ∷ num 0x11100F0E ∷ num 1 ∷ num 2 ∷ num 2 ∷ []))
    -- Ge a Bool
    ∷ row (80 ∷ 1 ∷ 0 ∷ 0x0D ∷ 0x0E ∷ 0x0F ∷ 0x10 ∷ 2 ∷ 3 ∷ 1 ∷ 0 ∷ 0 ∷ 0 ∷ 0 ∷ 0 ∷ 0 ∷ 0 ∷ []) (made 80 (num 1 ∷ num 0x100F0E0D ∷ num 2 ∷ num 3 ∷ num 1 ∷ []))
    -- Lt a Param
    ∷ row (80 ∷ 2 ∷ 0 ∷ 0x0C ∷ 0x0D ∷ 0x0E ∷ 0x0F ∷ 3 ∷ 4 ∷ 1 ∷ 0 ∷ 0 ∷ 0 ∷ 0 ∷ 0 ∷ 0 ∷ 0 ∷ []) (made 80 (num 2 ∷ num 0x0F0E0D0C ∷ num 3 ∷ num 4 ∷ num 1 ∷ []))
    ∷ []

abbrev clauses : List Kind
clauses =
    -- Clause n, message n or none
    row (81 ∷ 0x0A ∷ 0 ∷ 0xFF ∷ 0xFF ∷ []) (made 81 (num 10 ∷ num 65535 ∷ []))
    ∷ row (81 ∷ 0x0B ∷ 0 ∷ 0x0C ∷ 0 ∷ []) (made 81 (num 11 ∷ num 12 ∷ []))
    ∷ row (81 ∷ 0x0D ∷ 0 ∷ 9 ∷ 0 ∷ []) (made 81 (num 13 ∷ num 9 ∷ []))
    ∷ []

abbrev functions : List Kind
functions =
    -- Function t, span u32, parameters, result flag, body l, requires and ensures
    row (82 ∷ 1 ∷ 0 ∷ 0x0B ∷ 0x0C ∷ 0x0D ∷ 0x0E ∷ 1 ∷ 0 ∷ 3 ∷ 0 ∷ 1 ∷ 7 ∷ 0 ∷ 2 ∷ 0 ∷ 0 ∷ 0 ∷ 2 ∷ 0 ∷ 2 ∷ 0 ∷ 1 ∷ 0 ∷ []) (made 82 (num 1 ∷ num 0x0E0D0C0B ∷ pair 1 3 ∷ num 1 ∷ pair 7 2 ∷ pair 0 2 ∷ pair 2 1 ∷ []))
    ∷ row (82 ∷ 2 ∷ 0 ∷ 0x0A ∷ 0x0B ∷ 0x0C ∷ 0x0D ∷ 5 ∷ 0 ∷ 0 ∷ 0 ∷ 0 ∷ 0x0B ∷ 0 ∷ 0 ∷ 0 ∷ 3 ∷ 0 ∷ 0 ∷ 0 ∷ 0 ∷ 0 ∷ 3 ∷ 0 ∷ []) (made 82 (num 2 ∷ num 0x0D0C0B0A ∷ pair 5 0 ∷ num 0 ∷ pair 11 0 ∷ pair 3 0 ∷ pair 0 3 ∷ []))
    ∷ []

abbrev calls : List Kind
calls =
    -- Call: callee t, span u32, l
    row (83 ∷ 2 ∷ 0 ∷ 9 ∷ 0x0A ∷ 0x0B ∷ 0x0C ∷ 0 ∷ 0 ∷ 2 ∷ 0 ∷ []) (made 83 (num 2 ∷ num 0x0C0B0A09 ∷ pair 0 2 ∷ []))
    ∷ []

-- ---- the image

unfoldable pub sections : List (List Kind)
sections = texts ∷ lists ∷ expressions ∷ statements ∷ parameters ∷ clauses ∷ functions ∷ calls ∷ []

-- kind 1, the arena number, nine counts; the text bytes; the records
unfoldable pub bytes : List ℕ
bytes =
    (1 ∷ 1 ∷ 2 ∷ 3 ∷ 4 ∷ 5 ∷ 0 ∷ 3 ∷ 0 ∷ 11 ∷ 0 ∷ 42 ∷ 0 ∷ 16 ∷ 0 ∷ 5 ∷ 0 ∷ 3 ∷ 0 ∷ 2 ∷ 0 ∷ 1 ∷ 0 ∷ [])
    ++ (0x61 ∷ 0x62 ∷ 0xC3 ∷ 0xA9 ∷ 0x63 ∷ [])
    ++ joined (map (λ (ks : List Kind). joined (map (λ (k : Kind). k.bytes) ks)) sections)

-- and what it stands for
abbrev pub image : Image
image =
    record {
      arena = 0x04030201;
      bytes = 0x61 ∷ 0x62 ∷ 0xC3 ∷ 0xA9 ∷ 0x63 ∷ [];
      records = map (map (λ (k : Kind). k.means)) sections;
    }

-- THEOREM: it is accepted, with its arena number and its counts
pub answer_so : answer_of bytes 8192
    ≡ accepted (record { 0 = 0x04030201 })
    (record { bytes = 5; texts = 3; lists = 11; expressions = 42; statements = 16; parameters = 5; clauses = 3; functions = 2; calls = 1 })
unfolding reading bytes sections
answer_so = refl

-- THEOREM: the records are these, and these are the image's bytes
pub image_so : image_of bytes ≡ image
unfolding reading bytes sections image_of sections_in records_in record_in next_at end_at fields_at widths_of
image_so = refl

pub encode_so : encode image ≡ bytes
unfolding reading bytes sections bytes_of encode_fields encode_record encode_records encode_sections encode_counts encode
encode_so = refl

-- ---- heights

abbrev pub of_expressions : List ℕ
of_expressions =
    -- 16 to 31; 32, 33, 34; 35 to 48; 49, 50, 51; 52, 53, 54; 55, 56, 57
    replicate 16 1 ++ (2 ∷ 3 ∷ 4 ∷ []) ++ replicate 14 2 ++ (3 ∷ 4 ∷ 5 ∷ []) ++ (2 ∷ 3 ∷ 4 ∷ []) ++ 1 ∷ 1 ∷ 1 ∷ []

abbrev pub of_statements : List ℕ
of_statements =
    -- 64 to 67; 69, 68; 70, 71; 72, 73; 74; 76, 75; 77, 78, 79
    1 ∷ 1 ∷ 1 ∷ 1 ∷ 2 ∷ 3 ∷ 2 ∷ 2 ∷ 3 ∷ 4 ∷ 2 ∷ 2 ∷ 3 ∷ 1 ∷ 1 ∷ 1 ∷ []

pub heights_so : (heights image Expressions ≡ of_expressions) × (heights image Statements ≡ of_statements)
unfolding reading sections heights heights_from tallest_child tallest_entry
heights_so = (refl, refl)

-- THEOREM: the work slice has the heights of the expressions, then of the statements, then zeros
pub work_so : work_of bytes 8192 ≡ of_expressions ++ of_statements ++ replicate 8134 0
unfolding reading bytes sections work_of
work_so = refl
