-- Entries by the numbers of their names.
use Rattle.std.specs.Prelude.{◌≡◌, ℕ, Option, None, Some, List, length, slice_get}
use Rattle.std.specs.List.{filter_map}
use Rattle.mdv_base.specs.declared.name.Named.{Named}
use Rattle.mdv_tab.specs.declared.entry.Entry.{Entry}
use Rattle.mdv_tab.specs.declared.graph.Place.{Place}
use Rattle.mdv_tab.specs.declared.index.Index.{Index}
use Rattle.mdv_tab.specs.Index.{number_of}
use Rattle.mdv_tab.specs.Order.{entry_set, makes, stands_on}

abbrev pub made_number : Index → Entry → Option Named → Option ℕ
made_number index e None = None
made_number index e (Some named) = number_of index (entry_set e) named

-- what the names of the entry are by number; a name that no entry makes has none
pub record IsPlaceOf (index : Index) (e : Entry) (p : Place) : Type 0 where
  pub makes_is : p.makes ≡ made_number index e (makes e)
  pub stands_is : p.stands.items ≡ filter_map (λ named. number_of index (entry_set e) named) (stands_on e)

pub record ArePlacesOf (index : Index) (es : List Entry) (ps : List Place) : Type 0 where
  pub same : length ps ≡ length es
  pub each : (i : ℕ) (e : Entry) (p : Place) → slice_get es i ≡ Some e → slice_get ps i ≡ Some p → IsPlaceOf index e p
