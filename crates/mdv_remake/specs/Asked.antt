-- What an entry of an md.tab asks of a table.
use Rattle.std.specs.Prelude.{ℕ, ◌&&◌, Bool, false, true, nat_le, nat_lt, List, [], ◌∷◌, flat_map, length, map, Option, None, Some, if◌then◌else◌}
use Rattle.std.specs.List.{list_all}
use Rattle.mdv_remake.specs.Below.{VolId, PoolId, Change, Clear, ClearBelow, MakeStripe, MakeRaid, MakeMirror, MakeSoft, AddSpares, RaidAsked, RowAsked, Run, Base, Slice, Volume, ReadOption, InTurn, Geometric, First, WriteOption, Parallel, Serial, RoomAsked, Blocks, Extents, SoftAsked, MirrorAsked}
use Rattle.mdv_base.specs.declared.name.Named.{Named as Name}
use Rattle.mdv_base.specs.declared.name.Named.TheVariants as name
use Rattle.mdv_remake.specs.Below.{Named, NamedSlice, NamedVolume, Entry, Extent, MirrorOptions, RaidOptions, ReadFrom, Room, RowEntry}

abbrev pub base_of : Named → Base
base_of (NamedSlice s) = Slice s
base_of (NamedVolume v) = Volume v

abbrev pub row_of : RowEntry → RowAsked
row_of row = record { components = map base_of row.components; interlace = row.interlace }

abbrev pub read_of : Option ReadFrom → ReadOption
read_of None = InTurn
read_of (Some ReadFrom.Geometric) = Geometric
read_of (Some ReadFrom.First) = First

abbrev pub write_of : Bool → WriteOption
write_of serial = if serial then Serial else Parallel

abbrev pub mirror_of : List VolId → MirrorOptions → ℕ → MirrorAsked
mirror_of submirrors options pass = record { submirrors = submirrors; read = read_of options.read; write = write_of options.serial; pass = pass }

abbrev pub raid_of : List Named → RaidOptions → RaidAsked
raid_of columns options = record { columns = map base_of columns; interlace = options.interlace; spares = options.spares; keep = options.keep }

abbrev pub run_of : Extent → Run
run_of e = record { at = e.offset; blocks = e.blocks }

abbrev pub room_of : Room → RoomAsked
room_of (Room.Size blocks) = Blocks blocks
room_of (Room.Extents extents) = Extents (map run_of extents)

abbrev pub soft_of : Named → Room → SoftAsked
soft_of base room = record { base = base_of base; room = room_of room }

-- the change that the entry asks; replicas aren't made by a change
abbrev pub asked_of : Entry → Option Change
asked_of (Entry.Stripe name rows spares) = Some (MakeStripe name.volume (map row_of rows) spares)
asked_of (Entry.Mirror name submirrors options pass) = Some (MakeMirror name.volume (mirror_of submirrors options pass))
asked_of (Entry.Raid name columns options) = Some (MakeRaid name.volume (raid_of columns options))
asked_of (Entry.Soft name base room) = Some (MakeSoft name.volume (soft_of base room))
asked_of (Entry.Pool name slices) = Some (AddSpares name.pool true slices)
asked_of (Entry.Replicas number options slices) = None

-- Below: entries whose numbers and lists a change can have.

-- no more than 65536 of them
abbrev pub is_few : {T : Type 0} → List T → Bool
is_few xs = nat_le (length xs) 65536

abbrev pub is_short_row : RowEntry → Bool
is_short_row row = is_few row.components

abbrev pub is_short_room : Room → Bool
is_short_room (Room.Size blocks) = true
is_short_room (Room.Extents extents) = is_few extents

abbrev pub is_within : Entry → Bool
is_within (Entry.Stripe name rows spares) = nat_lt name.volume.0 8192 && (is_few rows && list_all is_short_row rows)
is_within (Entry.Mirror name submirrors options pass) = nat_lt name.volume.0 8192 && is_few submirrors
is_within (Entry.Raid name columns options) = nat_lt name.volume.0 8192 && is_few columns
is_within (Entry.Soft name base room) = nat_lt name.volume.0 8192 && is_short_room room
is_within (Entry.Pool name slices) = nat_lt name.pool.0 1000 && is_few slices
is_within (Entry.Replicas number options slices) = true

-- Below: the clearing of volumes and pools.

abbrev pub volume_named : Name → List VolId
volume_named (name.Volume v) = v ∷ []
volume_named (name.Pool q) = []

abbrev pub pool_named : Name → List PoolId
pool_named (name.Volume v) = []
pool_named (name.Pool q) = q ∷ []

-- the change by which those of these names go, and with them each volume below that nothing else uses, or these alone
abbrev pub clearing_of : List Name → Bool → Change
clearing_of names false = Clear (flat_map volume_named names) (flat_map pool_named names)
clearing_of names true = ClearBelow (flat_map volume_named names) (flat_map pool_named names)
