-- Tables of which all that there is to note is noted.
use Rattle.std.specs.Prelude.{◌≡◌, ◌≤◌, ℕ, length, map}
use Rattle.std.specs.List.{sum_by, AllZip}
use Rattle.mdv_whole.specs.Below.{KindStatus, VolumeStatus, Table, Row, Volume, VolumeKind}
use Rattle.mdv_whole.specs.Parted.{spare_states}
use Rattle.mdv_whole.specs.Sides.{pool_of}
use Rattle.mdv_plan.specs.declared.status.KindStatus.TheVariants.{Stripe as StripeNoted, Mirror as MirrorNoted, Raid as RaidNoted, Soft as SoftNoted}
use Rattle.mdv_plan.specs.declared.volume.VolumeKind.TheVariants.{Stripe as StripeKind, Mirror as MirrorKind, Raid as RaidKind, Soft as SoftKind}

abbrev pub width : Row → ℕ
width r = length r.components

-- a state of each component or column, over all rows, and of each submirror whether it is offline
abbrev pub IsKindNoted : VolumeKind → KindStatus → Type 0
IsKindNoted (StripeKind s) (StripeNoted states) = (length states ≡ sum_by width s.rows) × (length states ≤ 100)
IsKindNoted (MirrorKind m) (MirrorNoted n) = length n.offline ≡ length m.submirrors
IsKindNoted (RaidKind r) (RaidNoted n) = length n.columns ≡ length r.columns
IsKindNoted (SoftKind s) SoftNoted = Unit {0}
IsKindNoted _ _ = ⊥

pub record IsVolumeNoted (v : Volume) (s : VolumeStatus) : Type 0 where
  pub number : s.number ≡ v.number
  pub kind : IsKindNoted v.kind s.kind

-- something is noted of each volume and of no other, and of each spare of the pools and of no other slice
pub record IsNoted (t : Table) : Type 0 where
  pub volumes : AllZip IsVolumeNoted t.plan.volumes t.status.volumes
  pub spares : spare_states (map (pool_of t.status.spares) t.plan.pools) ≡ t.status.spares
