-- Extents that come in order on each base: from where they are counted, and where the last one ends.
use Rattle.std.specs.Prelude.{◌≡◌, ◌==◌, ℕ, true, false, List, map, Option, Some, unwrap_or, All}
use Rattle.std.specs.Option.{option_map, option_or}
use Rattle.mdv_extent.specs.Extents.{IsExtent}
use Rattle.mdv_extent.specs.Runs.{IsInOrder, with_header}
use Rattle.mdv_fitting.specs.Below.{Geometry, OneSoft, Plan, Run, VolumeKind, Soft}
use Rattle.mdv_fitting.specs.Held.{held}
use Rattle.mdv_fitting.specs.Keys.{base_key, kind_start_at}
use Rattle.mdv_fitting.specs.OnBases.{may_count}
use Rattle.mdv_fitting.specs.Runs.{soft_size}
use Rattle.mdv_fitting.specs.declared.climb.Last.{Last}
use Rattle.mdv_fitting.specs.declared.held.Held.{Held}

abbrev pub last_start : Last → ℕ
last_start l = l.start

abbrev pub last_end : Last → ℕ
last_end l = l.end

-- from which block extents are counted on the base of this number
abbrev pub start_by : Held Last → ℕ → Option ℕ
start_by m k = option_map last_start (held m k)

-- block 0 where there is none
abbrev pub end_at : Held Last → ℕ → ℕ
end_at m k = unwrap_or (option_map last_end (held m k)) 0

-- the last one on the base or, where there is none, one that ends at block 0 and is counted from there
abbrev pub LastOn : Held Last → ℕ → ℕ → Last → Type 0
LastOn m k start l = l ≡ unwrap_or (held m k) (record { start = start; end = 0 })

-- extents of a base of so many blocks, with their headers one behind the other, between two blocks
pub record Climbs (blocks end last : ℕ) (runs : List Run) : Type 0 where
  pub lie : All (IsExtent blocks) runs
  pub order : IsInOrder end last (map with_header runs)

abbrev pub StaysEnd : Held Last → Held Last → ℕ → Type 0
StaysEnd m n k = end_at n k ≡ end_at m k

-- the extents of a soft partition come behind those of its base, and are counted from where those are
pub record SoftClimbs (g : Geometry) (p : Plan) (m : Held Last) (s : OneSoft) (n : Held Last) : Type 0 where
  pub counted : may_count g p.lists s.base s.start ≡ true
  pub joined : start_by n (base_key s.base) ≡ Some s.start
  pub starts : (k : ℕ) → start_by n k ≡ option_or (start_by m k) (kind_start_at k (Soft s))
  pub runs : Climbs (soft_size g p s) (end_at m (base_key s.base)) (end_at n (base_key s.base)) s.extents
  pub others : (k : ℕ) → (base_key s.base == k) ≡ false → StaysEnd m n k

abbrev pub KindClimbs : Geometry → Plan → Held Last → VolumeKind → Held Last → Type 0
KindClimbs g p m (Soft s) n = SoftClimbs g p m s n
KindClimbs g p m _ n = n ≡ m
