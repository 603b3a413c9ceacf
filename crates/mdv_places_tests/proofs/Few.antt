-- The list that comes isn't empty, nor too long; and where a place lies that was tested.
use Rattle.std.proofs.Common.{◌≡◌, ◌<◌, ◌≤◌, ◌+◌, ◌*◌, ◌^◌, slice_index_or, ℕ, Bool, true, List, [], ◌∷◌, ◌++◌, filter, length, take, Contains, refl, sym, ap, subst, arith}
use Rattle.std.proofs.lemmas.List.{length-append}
use Rattle.std.proofs.lemmas.List.Elements.{All-contains}
use Rattle.std.proofs.lemmas.List.Filters.{length-filter_both}
use Rattle.std.proofs.lemmas.List.Folds.{Any-from_list_any}
use Rattle.std.specs.List.{list_any}
use Rattle.std.specs.Prelude.{All, AllPairs, flat_map, not}
use Rattle.mdv_acts.specs.Wipes.{AreLaidOn, IsLaidOn, place_in}
use Rattle.mdv_base.specs.declared.drive.SliceName.{SliceName}
use Rattle.mdv_base.specs.declared.place.Place.{Place}
use Rattle.mdv_name.specs.SliceIndex.{HasSlice}
use Rattle.mdv_name.specs.Sound.{IsSound}
use Rattle.mdv_name.specs.declared.geometry.Geometry.{Geometry}
use Rattle.mdv_name.specs.declared.slice_lines.SliceAt.{SliceAt}
use Rattle.mdv_name.specs.declared.slice_lines.SliceLine.{SliceLine}
use Rattle.mdv_places.proofs.Coming.{keeps}
use Rattle.mdv_places.proofs.Lists.{places_count}
use Rattle.mdv_places.specs.Asked.{AreAskedOn, Asks, is_on, list_after, list_less, places_asked, places_on}
use Rattle.mdv_places.specs.Changing.{AreFree, IsEnough, MayMove}
use Rattle.mdv_store.specs.Opened.{Opened}
use Rattle.mdv_config.specs.Lists.{last_of}
use Rattle.mdv_plan.specs.declared.lists.Lists.TheVariants.{One}
use Rattle.mdv_replica.specs.Replica.{IsPlaced}
use Rattle.mdv_places_tests.specs.Few.{AreFew, IsBare}

lines_count : (lines : List SliceLine) (count blocks : ℕ) → length (places_asked lines count blocks) ≡ length lines * count
lines_count [] count blocks = omega arith
lines_count (line ∷ lines) count blocks =
    let here = places_count line.name blocks 0 count in
    let rest = lines_count lines count blocks in
    let all = length-append (places_on count blocks line.name) (places_asked lines count blocks) in
    let split : length (line ∷ lines) * count ≡ count + length lines * count = omega arith in
    omega (arith, here, rest, all, split)

pub more_few : (places : List Place) (lines : List SliceLine) (count blocks : ℕ) → 1 ≤ length places → length places + length lines * count ≤ 50 → AreFew (places ++ places_asked lines count blocks)
more_few places lines count blocks some few =
    let all = length-append places (places_asked lines count blocks) in
    let more = lines_count lines count blocks in
    record { some = omega (arith, some, all); few = omega (arith, all, more, few) }

pub less_few : (places : List Place) (slices : List SliceName) → length places ≤ 50 → list_any (λ (p : Place). not (is_on slices p)) places ≡ true → AreFew (list_less slices places)
less_few places slices few is =
    let test : Place → Bool = λ p. not (is_on slices p) in
    let one = Any-from_list_any test places is in
    let has = keeps test places one.1 (one.0, one.2, one.3) one.4 in
    let both = length-filter_both test (λ p. not (test p)) (λ p. refl) places in
    record { some = (let within = has.1 in omega (arith, within)); few = omega (arith, both, few) }

pub first_few : (places : List Place) → 1 ≤ length places → AreFew (take 1 places)
first_few [] some = absurd (omega (arith, some))
first_few (p ∷ places) some = record { some = omega arith; few = omega arith }

pub laid_at : (sizes : List ℕ) (g : Geometry) (p : Place) (at : SliceAt) → IsSound g → HasSlice g.slices p.slice at → at.drive.0 < length sizes → 16 ≤ p.blocks → at.start + p.start + p.blocks ≤ slice_index_or sizes at.drive.0 0 → slice_index_or sizes at.drive.0 0 < 2 ^ 64 → IsLaidOn sizes g p
laid_at sizes g p at sound has drive least within size =
    let placed : IsPlaced sizes (place_in at p) = record { drive = drive; least = least; within = within; size = size } in
    record { some = (at, has); placed = λ other its. subst (λ (a : SliceAt). IsPlaced sizes (place_in a p)) (sound.once p.slice at other has its) placed }

pub may_be_moved : (sizes : List ℕ) (g : Geometry) (o : Opened) (asked : Asks) (places : List Place) → IsSound g → length sizes ≤ 256 → o.table.plan.lists ≡ One places → AllPairs (λ (p q : Place). p ≡ q → ⊥) places → All (IsLaidOn sizes g) places → AreAskedOn sizes asked → AreFree asked places
    → AreFew (list_after asked places) → IsEnough o asked → MayMove sizes g o asked
may_be_moved sizes g o asked places sound drives one differ placed within free few enough =
    let last : last_of o.table.plan.lists ≡ places = ap last_of one in
    record {
      sound = sound;
      drives = drives;
      one = (places, one);
      differ = subst (AllPairs (λ (p q : Place). p ≡ q → ⊥)) (sym last) differ;
      placed = subst (AreLaidOn sizes g) (sym last) (λ p has. All-contains (IsLaidOn sizes g) places p placed has);
      within = within;
      free = subst (AreFree asked) (sym last) free;
      some = subst (λ (list : List Place). 1 ≤ length (list_after asked list)) (sym last) few.some;
      few = subst (λ (list : List Place). length (list_after asked list) ≤ 50) (sym last) few.few;
      enough = enough;
    }
