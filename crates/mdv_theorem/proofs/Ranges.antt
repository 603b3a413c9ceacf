-- A volume that the newest table of a host had, whose write was answered: each table that a boot may find since has it, where it lay, with more blocks behind or none, as long as no end of its database begins, and no change by which it goes.
use Rattle.std.proofs.Common.{ℕ, List}
use Rattle.mdv_base.specs.declared.name.Key.{Key}
use Rattle.mdv_base.specs.declared.name.VolId.{VolId}
use Rattle.mdv_name.specs.declared.geometry.Geometry.{Geometry}
use Rattle.mdv_plan.specs.declared.table.Table.{Table}
use Rattle.mdv_volumes.specs.Databases.{log_of}
use Rattle.mdv_volumes.specs.Happening.{HasRange, IsCourse}
use Rattle.mdv_volumes.specs.History.{Event, History, history_after_all}
use Rattle.mdv_volumes.specs.HistoryLaws.{HasLogs, KeepDatabase, KeepVolume}
use Rattle.mdv_volumes.proofs.Found.{AreLasting, lasting_at}
use Rattle.mdv_volumes.proofs.Lasting.{lasts_over, volume_kept}
use Rattle.mdv_volumes.proofs.Made.{HasFront, VolumeStays, front_stays, has_itself}

pub range_lasts : (g : Geometry) (key : Key) (h : History) (es : List Event) (volume : VolId) (at count : ℕ) → HasLogs g h → (range : HasRange g h.databases key volume at count) → IsCourse g h es → KeepDatabase key es → KeepVolume key volume es
    → AreLasting g (λ table. HasFront g volume range.map table) (log_of (history_after_all h es).databases key)
range_lasts g key h es volume at count logs range course keep stay =
    let there = range.there in
    let v = range.map in
    let P : Table → Type 0 = λ table. HasFront g volume v table in
    let start = lasting_at g P (log_of h.databases key) there.newest there.older (logs key) there.family there.written there.lives (has_itself g volume v there.newest.table there.map) in
    lasts_over g key P (VolumeStays volume) (front_stays g volume v) h es course keep (volume_kept key volume es stay) start
