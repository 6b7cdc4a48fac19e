-- The rows of the table. A row: the bytes of a number, the lowest first, up to the last that is not 0.
use Rattle.std.specs.Prelude.{ℕ, zero, suc, ◌/◌, ◌%◌, cond, List, [], ◌∷◌, eqb}

unfoldable pub codes_in : ℕ → ℕ → List ℕ
codes_in zero n = []
codes_in (suc f) n = cond (eqb n 0) [] (n % 256 ∷ codes_in f (n / 256))

unfoldable pub codes : ℕ → List ℕ
codes n = codes_in 8 n

unfoldable pub table : List ℕ
table =
    0 ∷ 0 ∷ 11 ∷ 2 ∷ 0 ∷ 0 ∷ 0 ∷ 0
    ∷ 0 ∷ 0 ∷ 0 ∷ 0 ∷ 0 ∷ 0 ∷ 0 ∷ 0
    ∷ 3 ∷ 1027 ∷ 771 ∷ 1027 ∷ 771 ∷ 259 ∷ 259 ∷ 515
    ∷ 515 ∷ 3075 ∷ 1283 ∷ 1027 ∷ 771 ∷ 2563 ∷ 3075 ∷ 50531331
    ∷ 218500355 ∷ 853507 ∷ 3331 ∷ 4867 ∷ 5123 ∷ 4867 ∷ 4867 ∷ 855043
    ∷ 55885106179 ∷ 1249795 ∷ 1248515 ∷ 319950083 ∷ 855299 ∷ 218959107 ∷ 199939 ∷ 199939
    ∷ 3331 ∷ 3331 ∷ 3331 ∷ 3331 ∷ 1379331 ∷ 789763 ∷ 218893571 ∷ 789507
    ∷ 771 ∷ 771 ∷ 0 ∷ 0 ∷ 0 ∷ 0 ∷ 0 ∷ 0
    ∷ 13103205379 ∷ 3331 ∷ 3331 ∷ 3 ∷ 1118211 ∷ 85331459 ∷ 1445123 ∷ 5635
    ∷ 94708240131 ∷ 370084867 ∷ 369953795 ∷ 1510659 ∷ 1445379 ∷ 3 ∷ 3 ∷ 771
    ∷ 38789382924 ∷ 3597 ∷ 7064456783201036 ∷ 1245964 ∷ []
