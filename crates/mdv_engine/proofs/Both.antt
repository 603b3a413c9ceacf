-- A table that has another list beside its own is one of the table of drives.
use Rattle.std.proofs.Common.{◌≡◌, inl, inr, ◌≤◌, ◌&&◌, not, Bool, true, List, ◌++◌, Contains, IsTrue, arith, ap, get_or, length, length-append, subst, sym}
use Rattle.std.specs.Prelude.{◌==◌, ◌-◌, ◌%◌, AllPairs, nat_le}
use Rattle.std.specs.List.{list_all}
use Rattle.std.proofs.lemmas.Bool.{and_from, and_parts, cases_Bool, not_from_false, or_left}
use Rattle.std.proofs.lemmas.Bool.Decides.{nat_tests}
use Rattle.std.proofs.lemmas.List.Elements.{All-append, All-contains, Contains-append_cases, Contains-get_or}
use Rattle.std.proofs.lemmas.List.Sums.{list_all-from_AllPass}
use Rattle.mdv_fields.specs.Sets.{agrees, are_spaced, is_spaced, starts_well}
use Rattle.mdv_keeping.proofs.Keeping.{tables_stay}
use Rattle.mdv_name.proofs.Finding.{same_slice-equal}
use Rattle.mdv_name.specs.SliceIndex.{same_slice}
use Rattle.mdv_places.proofs.Fronting.{one_of_all}
use Rattle.mdv_places.proofs.Lists.{pairs_append}
use Rattle.mdv_plan.specs.declared.lists.Lists.{Lists}
use Rattle.mdv_plan.specs.declared.lists.Lists.TheVariants.{One, Two}
use Rattle.mdv_plan.specs.declared.lists.Lists.TheVariants.{Two as TwoLists}
use Rattle.mdv_config.specs.Lists.{last_of, with_lists}
use Rattle.mdv_config.specs.Table.{IsListsOf, IsPlaceOf, IsPlacesOf}
use Rattle.mdv_engine_law.specs.Below.{IsSound, Place}
use Rattle.mdv_engine.specs.Below.{Geometry, IsOfGeometry, Table}

-- the list that comes, or is there alone
pub last_placed : (g : Geometry) (lists : Lists) → IsListsOf g lists → IsPlacesOf g (last_of lists)
last_placed g (One places) are = are
last_placed g (Two old new) are = are.1

-- A list may come beside that of a table, whose places are spaced with its own.
pub both_fit : (g : Geometry) → IsSound g → (t : Table) (lists next : List Place) → t.plan.lists ≡ One lists → IsOfGeometry g t → IsPlacesOf g next → IsTrue (are_spaced (TwoLists lists next)) → IsOfGeometry g (with_lists t (Two lists next))
both_fit g sound t lists next one is coming spaced = tables_stay.moved_kept g t (Two lists next) sound is (subst (λ (l : Lists). IsListsOf g l) one is.lists, coming, spaced)

-- How two lists are spaced.
pub record Fits (all : List Place) (p : Place) : Type 0 where
  pub starts : starts_well p ≡ true
  pub agree : (q : Place) → Contains all q → agrees p q ≡ true

all_when : {X : Type 0} (test : X → Bool) (xs : List X) → ((x : X) → Contains xs x → test x ≡ true) → list_all test xs ≡ true
all_when {X} test xs each = list_all-from_AllPass test xs (λ k d within. each (get_or xs k d) (Contains-get_or xs k d within))

spaced_when : (all xs : List Place) → ((p : Place) → Contains xs p → Fits all p) → list_all (is_spaced all) xs ≡ true
spaced_when all xs each = all_when (is_spaced all) xs (λ p has. and_from (starts_well p) (list_all (agrees p) all) (each p has).starts (all_when (agrees p) all (each p has).agree))

fits_in : (all xs : List Place) → list_all (is_spaced all) xs ≡ true → (p : Place) → Contains xs p → Fits all p
fits_in all xs spaced p has =
    let both = and_parts (starts_well p) (list_all (agrees p) all) (one_of_all (is_spaced all) xs spaced p has) in
    record { starts = both.0; agree = λ q in_it. one_of_all (agrees p) all both.1 q in_it }

pair_spaced : (old new : List Place) → ((p : Place) → Contains old p → Fits old p) → ((p : Place) → Contains new p → Fits old p) → ((p : Place) → Contains new p → Fits new p) → are_spaced (TwoLists old new) ≡ true
pair_spaced old new one two three =
    and_from (list_all (is_spaced old) old) (list_all (is_spaced old) new && list_all (is_spaced new) new) (spaced_when old old one)
    (and_from (list_all (is_spaced old) new) (list_all (is_spaced new) new) (spaced_when old new two) (spaced_when new new three))

module _ (g : Geometry) (old : List Place) (was : IsPlacesOf g old) where
  fits : (p : Place) → Contains old p → Fits old p
  fits p has = fits_in old old was.spaced p has

  -- each starts behind the first blocks of its slice
  pub starts_late : (p : Place) → Contains old p → 16 ≤ p.start
  starts_late p has =
      let late = and_parts (not (p.blocks == 0)) (nat_le 16 p.start && ((p.start - 16) % p.blocks == 0)) (fits p has).starts in
      let from = and_parts (nat_le 16 p.start) ((p.start - 16) % p.blocks == 0) late.1 in
      grind (arith, nat_tests, from.0)

  -- a list of some of the places
  module _ (new : List Place) (some : 1 ≤ length new) (few : length new ≤ 50) (differ : AllPairs (λ (p q : Place). p ≡ q → ⊥) new) (of : (p : Place) → Contains new p → Contains old p) where
    pub part_placed : IsPlacesOf g new
    part_placed = record {
      some = some;
      few = few;
      spaced = spaced_when new new (λ p has. record { starts = (fits p (of p has)).starts; agree = λ q in_it. (fits p (of p has)).agree q (of q in_it) });
      differ = differ;
      each = λ k d within. All-contains (IsPlaceOf g) old (get_or new k d) was.each (of (get_or new k d) (Contains-get_or new k d within));
    }

    pub part_spaced : are_spaced (TwoLists old new) ≡ true
    part_spaced = pair_spaced old new fits (λ p has. fits p (of p has)) (λ p has. record { starts = (fits p (of p has)).starts; agree = λ q in_it. (fits p (of p has)).agree q (of q in_it) })

  -- or with more places, on other slices
  module _ (more : List Place) (come : IsPlacesOf g more) (few : length (old ++ more) ≤ 50) (beside_those : (p q : Place) → Contains old p → Contains more q → p.slice ≡ q.slice → ⊥) where
    others : (p q : Place) → (p.slice ≡ q.slice → ⊥) → agrees p q ≡ true
    others p q differ = elim (cases_Bool (same_slice p.slice q.slice)) [
      | inl same ↦ absurd (differ (same_slice-equal p.slice q.slice same))
      | inr not_same ↦ or_left (not (same_slice p.slice q.slice)) (p.blocks == q.blocks) (not_from_false (same_slice p.slice q.slice) not_same)
    ]

    with_old : (p : Place) → Contains (old ++ more) p → Fits old p
    with_old p has = elim (Contains-append_cases old more p has) [
      | inl here ↦ fits p here
      | inr there ↦ record { starts = (fits_in more more come.spaced p there).starts; agree = λ q in_it. others p q (λ same. beside_those q p in_it there (sym same)) }
    ]

    with_more : (p : Place) → Contains (old ++ more) p → Fits more p
    with_more p has = elim (Contains-append_cases old more p has) [
      | inl here ↦ record { starts = (fits p here).starts; agree = λ q in_it. others p q (beside_those p q here in_it) }
      | inr there ↦ fits_in more more come.spaced p there
    ]

    with_all : (p : Place) → Contains (old ++ more) p → Fits (old ++ more) p
    with_all p has = record { starts = (with_old p has).starts; agree = λ q in_it. elim (Contains-append_cases old more q in_it) [ inl here ↦ (with_old p has).agree q here | inr there ↦ (with_more p has).agree q there ] }

    pub more_placed : IsPlacesOf g (old ++ more)
    more_placed = record {
      some = (let counted = length-append old more in let first = was.some in omega (arith, counted, first));
      few = few;
      spaced = spaced_when (old ++ more) (old ++ more) with_all;
      differ = pairs_append (λ (p q : Place). p ≡ q → ⊥) old more was.differ come.differ (λ p q in_p in_q same. beside_those p q in_p in_q (ap (λ (x : Place). x.slice) same));
      each = All-append (IsPlaceOf g) old more was.each come.each;
    }

    pub more_spaced : are_spaced (TwoLists old (old ++ more)) ≡ true
    more_spaced = pair_spaced old (old ++ more) fits with_old with_all
