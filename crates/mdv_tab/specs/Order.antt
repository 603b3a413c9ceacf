-- In which order the entries are made: each behind those that it needs.
use Rattle.std.specs.Prelude.{◌≡◌, ◌≢◌, ◌<◌, ◌⊎◌, ℕ, Option, None, Some, List, [], ◌∷◌, ◌++◌, length, take, slice_index, slice_get, Contains}
use Rattle.mdv_base.specs.declared.name.Named.{Named}
use Rattle.mdv_base.specs.declared.name.PoolId.{PoolId}
use Rattle.mdv_base.specs.declared.name.VolId.{VolId}
use Rattle.mdv_parts.specs.declared.component.Component.{Component}
use Rattle.mdv_parts.specs.declared.component.Component.TheVariants.{Slice}
use Rattle.mdv_tab.specs.declared.entry.Entry.{Entry}
use Rattle.mdv_tab.specs.declared.entry.Entry.TheVariants.{Stripe, Mirror, Raid, Soft, Pool, Replicas}
use Rattle.mdv_tab.specs.declared.entry.Row.{Row}

-- the set of an entry's names
abbrev pub entry_set : Entry → Option (List ℕ)
entry_set (Stripe name rows spares) = name.set
entry_set (Mirror name submirrors options pass) = name.set
entry_set (Raid name columns options) = name.set
entry_set (Soft name base room) = name.set
entry_set (Pool name slices) = name.set
entry_set (Replicas number options slices) = None

-- the volume or the pool that the entry makes
abbrev pub makes : Entry → Option Named
makes (Stripe name rows spares) = Some (Named.Volume name.volume)
makes (Mirror name submirrors options pass) = Some (Named.Volume name.volume)
makes (Raid name columns options) = Some (Named.Volume name.volume)
makes (Soft name base room) = Some (Named.Volume name.volume)
makes (Pool name slices) = Some (Named.Pool name.pool)
makes (Replicas number options slices) = None

abbrev pub volumes_of : List Component → List Named
volumes_of [] = []
volumes_of (Slice s ∷ cs) = volumes_of cs
volumes_of (Component.Volume v ∷ cs) = Named.Volume v ∷ volumes_of cs

abbrev pub volumes_of_rows : List Row → List Named
volumes_of_rows [] = []
volumes_of_rows (row ∷ rows) = volumes_of row.components ++ volumes_of_rows rows

abbrev pub submirror_names : List VolId → List Named
submirror_names [] = []
submirror_names (v ∷ vs) = Named.Volume v ∷ submirror_names vs

abbrev pub pool_names : Option PoolId → List Named
pool_names None = []
pool_names (Some p) = Named.Pool p ∷ []

-- the volumes and the pools that the entry is to stand on
abbrev pub stands_on : Entry → List Named
stands_on (Stripe name rows spares) = volumes_of_rows rows ++ pool_names spares
stands_on (Mirror name submirrors options pass) = submirror_names submirrors
stands_on (Raid name columns options) = volumes_of columns ++ pool_names options.spares
stands_on (Soft name base room) = volumes_of (base ∷ [])
stands_on (Pool name slices) = []
stands_on (Replicas number options slices) = []

-- one of them is of the set of the other and made by it
pub record NeedsEntry (e f : Entry) : Type 0 where
  pub named : Named
  pub stands : Contains (stands_on e) named
  pub made : makes f ≡ Some named
  pub set : entry_set e ≡ entry_set f

-- the entry at i needs another one, at j
pub record Needs (es : List Entry) (i j : ℕ) : Type 0 where
  pub other : j ≢ i
  pub entry : Entry
  pub need : Entry
  pub at : slice_get es i ≡ Some entry
  pub below : slice_get es j ≡ Some need
  pub needs : NeedsEntry entry need

abbrev pub Remains : ℕ → List ℕ → ℕ → Type 0
Remains count made i = (i < count) × (Contains made i → ⊥)

-- it needs another one that remains
abbrev pub Waits : (ℕ → ℕ → Type 0) → ℕ → List ℕ → ℕ → Type 0
Waits needs count made i = (j : ℕ) × Remains count made j × needs i j

-- the next behind those that are made: the first that remains and doesn't wait, or where all that remain wait, the first of them
pub record IsNext (needs : ℕ → ℕ → Type 0) (count : ℕ) (made : List ℕ) (i : ℕ) : Type 0 where
  pub remains : Remains count made i
  pub first : ((Waits needs count made i → ⊥) × ((j : ℕ) → j < i → Remains count made j → Waits needs count made j)) ⊎
      (((j : ℕ) → Remains count made j → Waits needs count made j) × ((j : ℕ) → j < i → Remains count made j → ⊥))

-- so many places, one after the other
pub record IsOrder (needs : ℕ → ℕ → Type 0) (count : ℕ) (order : List ℕ) : Type 0 where
  pub all : length order ≡ count
  pub each : (k : ℕ) → k < length order → IsNext needs count (take k order) (slice_index order k)

-- the places of all entries, from 0
abbrev pub IsOrderOfNeed : List Entry → List ℕ → Type 0
IsOrderOfNeed es order = IsOrder (Needs es) (length es) order
