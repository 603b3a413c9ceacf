-- One number for each base, and what soft partitions say of the base of a number.
use Rattle.std.specs.Prelude.{ℕ, ◌+◌, ◌^◌, ◌==◌, List, [], ◌∷◌, Option, None, if◌then◌else◌, Some}
use Rattle.std.specs.List.{flat_map}
use Rattle.std.specs.Option.{option_or}
use Rattle.mdv_fitting.specs.Below.{Base, Slice, Volume, OneVolume, Run, VolumeKind, Soft, slice_code}

abbrev pub base_key : Base → ℕ
base_key (Slice s) = slice_code s
base_key (Volume v) = 2 ^ 32 + v.0

abbrev pub kind_start_at : ℕ → VolumeKind → Option ℕ
kind_start_at k (Soft s) = if base_key s.base == k then Some s.start else None
kind_start_at k _ = None

-- from which block the first soft partition on the base counts its extents
abbrev pub start_at : ℕ → List OneVolume → Option ℕ
start_at k [] = None
start_at k (v ∷ vs) = option_or (kind_start_at k v.kind) (start_at k vs)

abbrev pub kind_runs_at : ℕ → VolumeKind → List Run
kind_runs_at k (Soft s) = if base_key s.base == k then s.extents else []
kind_runs_at k _ = []

abbrev pub volume_runs_at : ℕ → OneVolume → List Run
volume_runs_at k v = kind_runs_at k v.kind

-- the extents of all soft partitions on the base
abbrev pub runs_at : ℕ → List OneVolume → List Run
runs_at k vs = flat_map (volume_runs_at k) vs
