-- What is printed is the listing: of all volumes where no name is given, and else of the names.
use Rattle.std.proofs.Common.{◌≡◌, ◌==◌, ℕ, true, false, Option, None, refl, ◌∙◌, ap, List, [], ◌∷◌, ◌++◌, length, arith}
use Rattle.std.proofs.lemmas.Bool.Decides.{nat_tests}
use Rattle.mdv_listing.specs.Below.{Named, Plan, names_text, tab_text}
use Rattle.mdv_listing.specs.Listing.{listing_of}

same_number : (m n : ℕ) → (m == n) ≡ true → m ≡ n
same_number m n is = grind (arith, nat_tests)

none_listed : (p : Plan) (names : List Named) → (length names == 0) ≡ true → tab_text None p ≡ listing_of p names
none_listed p [] none = refl
none_listed p (name ∷ names) none = let long = same_number (length (name ∷ names)) 0 none in absurd (omega (arith, long))

some_listed : (p : Plan) (names : List Named) → (length names == 0) ≡ false → names_text None p names ≡ listing_of p names
some_listed p [] some = absurd (cc (some))
some_listed p (name ∷ names) some = refl

pub all_listed : (p : Plan) (names : List Named) (set : Option (List ℕ)) (text old : List ℕ) → set ≡ None → old ≡ [] → (length names == 0) ≡ true → text ≡ old ++ tab_text set p → text ≡ listing_of p names
all_listed p names set text old local new none is =
    is ∙ ap (λ (l : List ℕ). l ++ tab_text set p) new ∙ ap (λ (s : Option (List ℕ)). tab_text s p) local ∙ none_listed p names none

pub named_listed : (p : Plan) (names : List Named) (set : Option (List ℕ)) (text old : List ℕ) → set ≡ None → old ≡ [] → (length names == 0) ≡ false → text ≡ old ++ names_text set p names → text ≡ listing_of p names
named_listed p names set text old local new some is =
    is ∙ ap (λ (l : List ℕ). l ++ names_text set p names) new ∙ ap (λ (s : Option (List ℕ)). names_text s p names) local ∙ some_listed p names some
