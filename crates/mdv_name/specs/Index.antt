-- What the sorted sets and maps beside the lists have.
use Rattle.std.specs.Prelude.{◌≡◌, ℕ, Option, Some, List, String, slice_get}
use Rattle.std.specs.Ordering.{nat_cmp}
use Rattle.std.specs.Str.{bytes_eq}
use Rattle.std.specs.List.{list_any}
use Rattle.std.specs.BTreeSet.{BTreeSet, contains_text}
use Rattle.std.specs.BTreeMap.{BTreeMap, get}

-- the set has the list's texts
abbrev pub HasTexts : {A : Type 0} → BTreeSet (String A) → List (List ℕ) → Type 0
HasTexts set names = (q : List ℕ) → contains_text set q ≡ list_any (bytes_eq q) names

-- the map has the place of each code of the list, and no other code
pub record HasPlaces (places : BTreeMap ℕ ℕ) (codes : List (Option ℕ)) : Type 0 where
  pub stands : (q n : ℕ) → get nat_cmp places q ≡ Some n → slice_get codes n ≡ Some (Some q)
  pub known : (q n : ℕ) → slice_get codes n ≡ Some (Some q) → get nat_cmp places q ≡ Some n
