-- On which slices the places of each list lie that a boot may find: on such as the lines so far may have come to.
use Rattle.std.proofs.Common.{◌≡◌, inl, inr, ⊎_elim, ℕ, true, List, [], ◌∷◌, ◌++◌, map, Some, None, Contains, subst}
use Rattle.std.proofs.lemmas.List.Elements.{Contains-append_cases, Contains-append_left, Contains-append_right}
use Rattle.mdv_base.specs.declared.drive.SliceName.{SliceName}
use Rattle.mdv_base.specs.declared.name.Key.{Key}
use Rattle.mdv_base.specs.declared.name.Key.TheVariants.{Local}
use Rattle.mdv_base.specs.declared.place.Place.{Place}
use Rattle.mdv_home.specs.View.{own_view}
use Rattle.mdv_name.specs.declared.geometry.Geometry.{Geometry}
use Rattle.mdv_store_law.specs.Changes.{Change, TellsList, list_after}
use Rattle.mdv_store_law.specs.Log.{Lives, Version}
use Rattle.mdv_store_law.specs.Part.{IsPart}
use Rattle.mdv_plan.specs.declared.lists.Lists.{Lists}
use Rattle.mdv_plan.specs.declared.lists.Lists.TheVariants.{One, Two}
use Rattle.mdv_volumes.specs.Databases.{log_of}
use Rattle.mdv_volumes.specs.Happening.{IsCourse, issued_by}
use Rattle.mdv_volumes.specs.History.{Changed, Event, History, history_after_all}
use Rattle.mdv_volumes.specs.HistoryLaws.{AllLists, HasLists, HasLogs, KeepDatabase, KeepPlaces, database_deeds, lists_by}
use Rattle.mdv_volumes.proofs.Ending.{firm_lasts}
use Rattle.mdv_volumes.proofs.Listed.{lists_stay}
use Rattle.mdv_volumes.proofs.Lists.{contains_behind, contains_first, first_or_behind}
use Rattle.mdv_theorem.specs.Exchanges.{Exchange}
use Rattle.mdv_theorem.specs.Words.{MayBecome, MayMake}
use Rattle.mdv_theorem.proofs.Lined.{AreQuiet}
use Rattle.mdv_theorem.proofs.Lines.{never_in}
use Rattle.mdv_theorem.proofs.Slices.{become_one, slices_of}

-- what is mapped comes of one of these
pub from_mapped : {X Y : Type 0} (f : X → Y) (xs : List X) (y : Y) → Contains (map f xs) y → (x : X) × Contains xs x × (f x ≡ y)
from_mapped f [] y has = absurd (never_in y has)
from_mapped f (x ∷ xs) y has = elim (first_or_behind (f x) y (map f xs) has) [
  | inl here ↦ (x, contains_first x xs, here)
  | inr behind ↦ (let rest = from_mapped f xs y behind in (rest.0, contains_behind x rest.0 xs rest.1, rest.2))
]

-- both lists of each of these versions
abbrev both_lists : Lists → List (List Place)
both_lists (One places) = places ∷ []
both_lists (Two old new) = old ∷ new ∷ []

abbrev lists_in : List Version → List (List Place)
lists_in [] = []
lists_in (v ∷ family) = both_lists v.table.plan.lists ++ lists_in family

all_more : (may more : List (List Place)) (lists : Lists) → ((l : List Place) → Contains may l → Contains more l) → AllLists may lists → AllLists more lists
all_more may more (One places) wider has = wider places has
all_more may more (Two old new) wider has = (wider old has.0, wider new has.1)

its_lists : (lists : Lists) → AllLists (both_lists lists) lists
its_lists (One places) = contains_first places []
its_lists (Two old new) = (contains_first old (new ∷ []), contains_behind old new (new ∷ []) (contains_first new []))

lists_has : (family : List Version) (v : Version) → Contains family v → AllLists (lists_in family) v.table.plan.lists
lists_has [] v has = absurd (never_in v has)
lists_has (w ∷ family) v has = elim (first_or_behind w v family has) [
  | inl here ↦ subst (λ (x : Version). AllLists (lists_in (w ∷ family)) x.table.plan.lists) here
      (all_more (both_lists w.table.plan.lists) (lists_in (w ∷ family)) w.table.plan.lists (λ l one. Contains-append_left (both_lists w.table.plan.lists) (lists_in family) l one) (its_lists w.table.plan.lists))
  | inr behind ↦ all_more (lists_in family) (lists_in (w ∷ family)) v.table.plan.lists (λ l one. Contains-append_right (both_lists w.table.plan.lists) (lists_in family) l one) (lists_has family v behind)
]

module _ (drives : Geometry) (name : List ℕ) (from : List SliceName) where
  abbrev pub key : Key
  key = Local name

  abbrev pub g : Geometry
  g = own_view drives name

  -- behind these lines, of which the first began with places on those slices
  pub record ListsLie (lines : List Exchange) (h : History) : Type 0 where
    pub may : List (List Place)
    pub has : HasLists key may h
    pub each : (places : List Place) → Contains may places → MayBecome drives name lines from (slices_of places)
    pub some : (slices : List SliceName) × MayBecome drives name lines from slices

  module _ (lines : List Exchange) (h : History) (es : List Event) (course : IsCourse g h es) (keep : KeepDatabase key es) (lie : ListsLie lines h) where
    -- events that begin nothing leave them
    pub lie_quiet : AreQuiet es → ListsLie lines (history_after_all h es)
    lie_quiet quiet = record { may = lie.may; has = lists_stay.still g key lie.may h es course keep (λ change begun. absurd (quiet (Changed key change) begun)) lie.has; each = lie.each; some = lie.some }

    module _ (one : Exchange) where
      abbrev so_far : List Exchange
      so_far = lines ++ one ∷ []

      -- the line may have left each list of these
      module _ (left : (slices : List SliceName) → MayMake drives name one slices slices) where
        each_left : (places : List Place) → Contains lie.may places → MayBecome drives name so_far from (slices_of places)
        each_left places has = become_one drives name lines one from (slices_of places) (slices_of places) (lie.each places has) (left (slices_of places))

        some_left : ((slices : List SliceName) × MayBecome drives name so_far from slices)
        some_left = (lie.some.0, become_one drives name lines one from lie.some.0 lie.some.0 lie.some.1 (left lie.some.0))

        -- it moves no place
        pub lie_still : KeepPlaces key es → ListsLie so_far (history_after_all h es)
        lie_still still = record { may = lie.may; has = lists_stay.still g key lie.may h es course keep still lie.has; each = each_left; some = some_left }

        -- or begins such a change at most, and once
        pub lie_changed : (change : Change) → TellsList change → IsPart (database_deeds key (issued_by es)) (None ∷ Some change ∷ []) → ((places : List Place) → MayMake drives name one (slices_of places) (slices_of (list_after change places)))
            → ListsLie so_far (history_after_all h es)
        lie_changed change tells part makes = record {
          may = lists_by (None ∷ Some change ∷ []) lie.may;
          has = lists_stay.by g key lie.may h es (None ∷ Some change ∷ []) course keep part (tells, tt) lie.has;
          each = λ places has. ⊎_elim (each_left places)
              (λ new. (let was = from_mapped (list_after change) lie.may places new in
              become_one drives name lines one from (slices_of was.0) (slices_of places) (lie.each was.0 was.1) (subst (λ (l : List Place). MayMake drives name one (slices_of was.0) (slices_of l)) was.2 (makes was.0))))
              (Contains-append_cases lie.may (map (list_after change) lie.may) places has);
          some = some_left;
        }

      -- or it may have made any list
      pub lie_any : ((old next : List SliceName) → MayMake drives name one old next) → ListsLie so_far (history_after_all h es)
      lie_any any =
          let family = (log_of (history_after_all h es).databases key).family in
          record {
            may = lists_in family;
            has = (firm_lasts key g h es course keep lie.has.0, λ v found. lists_has family v found.0);
            each = λ places has. become_one drives name lines one from lie.some.0 (slices_of places) lie.some.1 (any lie.some.0 (slices_of places));
            some = (lie.some.0, become_one drives name lines one from lie.some.0 lie.some.0 lie.some.1 (any lie.some.0 lie.some.0));
          }

  -- where the newest table was answered, with one list, that alone may be found
  pub lie_one : (lines : List Exchange) (h : History) (newest : Version) (older : List Version) (places : List Place) → HasLogs g h → (log_of h.databases key).family ≡ newest ∷ older → newest.is_written ≡ true → newest.table.plan.lists ≡ One places
      → (log_of h.databases key).fate ≡ Lives → MayBecome drives name lines from (slices_of places) → ListsLie lines h
  lie_one lines h newest older places logs family written lists lives may = record {
    may = places ∷ [];
    has = lists_stay.are key places h (lists_stay.one g key h newest older places logs family written lists lives);
    each = λ other has. elim (first_or_behind places other [] has) [ inl here ↦ subst (λ (l : List Place). MayBecome drives name lines from (slices_of l)) here may | inr none ↦ absurd (never_in other none) ];
    some = (slices_of places, may);
  }
