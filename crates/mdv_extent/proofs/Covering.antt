-- Which blocks runs have once some are joined or taken out.
use Rattle.std.proofs.Common.{◌≡◌, ◌&&◌, ◌||◌, ℕ, Bool, true, false, not, leb, ltb, min, max, List, [], ◌∷◌, ◌++◌, refl, sym, ◌∙◌, ap, arith}
use Rattle.std.proofs.lemmas.Bool.Decides.{nat_tests}
use Rattle.mdv_extent.specs.declared.run.Run.{Run}
use Rattle.mdv_extent.specs.Runs.{end_of, has, covers, takes, with_header}
use Rattle.mdv_extent.specs.Free.{between, without, free_of}

or_assoc : (a b c : Bool) → ((a || b) || c) ≡ (a || (b || c))
or_assoc true b c = refl
or_assoc false b c = refl

pub covers-append : (xs ys : List Run) (k : ℕ) → covers (xs ++ ys) k ≡ (covers xs k || covers ys k)
covers-append [] ys k = refl
covers-append (r ∷ xs) ys k = ap (λ (b : Bool). has r k || b) (covers-append xs ys k) ∙ sym (or_assoc (has r k) (covers xs k) (covers ys k))

pub covers-between : (low high k : ℕ) → covers (between low high) k ≡ (leb low k && ltb k high)
covers-between low high k = grind (arith, nat_tests)

-- what is left of one run
left_over : (at end from to k : ℕ) → ((leb at k && ltb k (min end from)) || (leb (max at to) k && ltb k end)) ≡ ((leb at k && ltb k end) && not (leb from k && ltb k to))
left_over at end from to k = grind (arith, nat_tests)

keeps_apart : (a b c d t : Bool) → (a || b) ≡ (c && not t) → ((a || (b || (d && not t)))) ≡ ((c || d) && not t)
keeps_apart true b true d false e = refl
keeps_apart a b c d t e = grind (arith, nat_tests)

pub covers-without : (gone : Run) (runs : List Run) (k : ℕ) → covers (without gone runs) k ≡ (covers runs k && not (has gone k))
covers-without gone [] k = refl
covers-without gone (r ∷ runs) k =
    let left = between r.at (min (end_of r) gone.at) in
    let right = between (max r.at (end_of gone)) (end_of r) in
    let one : (covers left k || covers right k) ≡ (has r k && not (has gone k)) =
    (λ i. covers-between r.at (min (end_of r) gone.at) k i || covers-between (max r.at (end_of gone)) (end_of r) k i) ∙ left_over r.at (end_of r) gone.at (end_of gone) k in
    covers-append left (right ++ without gone runs) k
    ∙ ap (λ (b : Bool). covers left k || b) (covers-append right (without gone runs) k ∙ ap (λ (b : Bool). covers right k || b) (covers-without gone runs k))
    ∙ keeps_apart (covers left k) (covers right k) (has r k) (covers runs k) (has gone k) one

beyond : (a b t : Bool) → ((a && not b) && not t) ≡ (a && not (t || b))
beyond true true true = refl
beyond true true false = refl
beyond true false true = refl
beyond true false false = refl
beyond false b t = refl

pub covers-free_of : (blocks : ℕ) (used : List Run) (k : ℕ) → covers (free_of blocks used) k ≡ (ltb k blocks && not (takes used k))
unfolding free_of
covers-free_of blocks [] k = covers-between 0 blocks k ∙ grind (arith, nat_tests)
covers-free_of blocks (r ∷ used) k =
    covers-without (with_header r) (free_of blocks used) k
    ∙ ap (λ (b : Bool). b && not (has (with_header r) k)) (covers-free_of blocks used k)
    ∙ beyond (ltb k blocks) (takes used k) (has (with_header r) k)
