-- From which block extents are counted on each base, by the base's number.
use Rattle.std.specs.Prelude.{◌≡◌, ℕ, Bool, true, false, ◌==◌, List, Option, None, Some}
use Rattle.std.specs.Option.{option_or}
use Rattle.mdv_fitting.specs.Held.{held}
use Rattle.mdv_fitting.specs.declared.held.Held.{Held}
use Rattle.mdv_fitting.specs.Below.{OneVolume, VolumeKind, Soft}
use Rattle.mdv_fitting.specs.Keys.{base_key, kind_start_at, start_at}

-- with one volume more
abbrev pub HasStart : Held ℕ → VolumeKind → Held ℕ → Type 0
HasStart m kind n = (k : ℕ) → held n k ≡ option_or (held m k) (kind_start_at k kind)

abbrev pub is_some_at : ℕ → Option ℕ → Bool
is_some_at start None = false
is_some_at start (Some s) = s == start

-- it counts from where the first one on its base does
abbrev pub is_kind_joined : Held ℕ → VolumeKind → Bool
is_kind_joined m (Soft s) = is_some_at s.start (held m (base_key s.base))
is_kind_joined m _ = true

abbrev pub is_joined : Held ℕ → OneVolume → Bool
is_joined m w = is_kind_joined m w.kind

abbrev pub is_kind_joined_in : List OneVolume → VolumeKind → Bool
is_kind_joined_in vs (Soft s) = is_some_at s.start (start_at (base_key s.base) vs)
is_kind_joined_in vs _ = true

abbrev pub is_joined_in : List OneVolume → OneVolume → Bool
is_joined_in vs w = is_kind_joined_in vs w.kind
