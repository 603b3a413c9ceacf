-- Rows that a volume can have.
use Rattle.std.proofs.Common.{◌≡◌, ◌<◌, ◌≤◌, ◌+◌, ℕ, Bool, false, zero, suc, refl, ◌∙◌, ap, List, [], ◌∷◌, ◌++◌, length, get_or, take, map, length-append, arith}
use Rattle.std.proofs.lemmas.List.{length-map, length-take-le}
use Rattle.std.specs.List.{list_any}
use Rattle.std.proofs.lemmas.Bool.Decides.{nat_tests}
use Rattle.mdv_components.specs.declared.asked.RowAsked.{RowAsked}
use Rattle.mdv_components.specs.Stripes.{bases_of, all_bases, is_empty_row, is_bad_row, AreFormed}

-- each element fails a test that none passes
pub none_passes : {X : Type 0} (p : X → Bool) (xs : List X) → list_any p xs ≡ false → (i : ℕ) (d : X) → i < length xs → p (get_or xs i d) ≡ false
none_passes p [] none i d within = absurd (omega arith)
none_passes p (x ∷ xs) none zero d within = grind (arith, nat_tests)
none_passes p (x ∷ xs) none (suc i) d within =
    let rest : list_any p xs ≡ false = grind (arith, nat_tests) in
    none_passes p xs rest i d (omega arith)

-- where each row has a base, there are no more rows than bases
rows_few : (rows : List RowAsked) → list_any is_empty_row rows ≡ false → length rows ≤ length (all_bases rows)
rows_few [] whole = omega arith
rows_few (r ∷ rows) whole =
    let first : is_empty_row r ≡ false = none_passes is_empty_row (r ∷ rows) whole 0 r (omega arith) in
    let some : 1 ≤ length (bases_of r) = grind (arith, nat_tests) in
    let rest : list_any is_empty_row rows ≡ false = grind (arith, nat_tests) in
    omega (arith, some, rows_few rows rest, length-append (bases_of r) (all_bases rows))

row_few : (rows : List RowAsked) (i : ℕ) (d : RowAsked) → i < length rows → length (get_or rows i d).components ≤ length (all_bases rows)
row_few [] i d within = absurd (omega arith)
row_few (r ∷ rows) zero d within = omega (arith, length-append (bases_of r) (all_bases rows))
row_few (r ∷ rows) (suc i) d within = omega (arith, row_few rows i d (omega arith), length-append (bases_of r) (all_bases rows))

pub formed_few : (rows : List RowAsked) → AreFormed rows → length rows ≤ 100
formed_few rows formed = omega (arith, formed.total, rows_few rows formed.whole)

pub formed_row : (rows : List RowAsked) (i : ℕ) (d : RowAsked) → AreFormed rows → i < length rows → length (get_or rows i d).components ≤ 100
formed_row rows i d formed within = omega (arith, formed.total, row_few rows i d within)

pub formed_interlace : (rows : List RowAsked) (i : ℕ) (d : RowAsked) → AreFormed rows → i < length rows → is_bad_row (get_or rows i d) ≡ false
formed_interlace rows i d formed within = none_passes is_bad_row rows formed.interlaces i d within

pub map_more : {X : Type 0} {Y : Type 0} (f : X → Y) (xs : List X) (i : ℕ) (d : X) → i < length xs → map f (take (i + 1) xs) ≡ map f (take i xs) ++ f (get_or xs i d) ∷ []
map_more {Y = Y} f [] i d within = absurd (omega arith)
map_more {Y = Y} f (x ∷ xs) zero d within = refl
map_more {Y = Y} f (x ∷ xs) (suc i) d within =
    let rest = map_more f xs i d (omega arith) in
    let next : suc i + 1 ≡ suc (i + 1) = omega arith in
    rw next (ap (λ (ys : List Y). f x ∷ ys) rest)

-- so many values are made of the first so many
pub made_few : {X Y : Type 0} (f : X → Y) (xs : List X) (i : ℕ) (made : List Y) → made ≡ map f (take i xs) → i < length xs → length made ≡ i
made_few f xs i made is within = ap length is ∙ length-map (take i xs) f ∙ length-take-le i xs (omega (arith, within))
