-- The entry that a list of parts is.
use Rattle.std.specs.Prelude.{◌&&◌, nat_le, ℕ, if◌then◌else◌, Option, None, Some, List, [], ◌∷◌}
use Rattle.mdv_base.specs.declared.drive.SliceName.{SliceName}
use Rattle.mdv_base.specs.declared.name.VolId.{VolId}
use Rattle.mdv_parts.specs.declared.part.Part.{Part}
use Rattle.mdv_parts.specs.declared.part.Part.TheVariants.{Number, Volume, Pool, Replicas}
use Rattle.mdv_parts.specs.declared.component.Component.{Component}
use Rattle.mdv_parts.specs.declared.options.ReplicaOptions.{ReplicaOptions}
use Rattle.mdv_parts.specs.Runs.{slice_of, volume_of, component_of, front, behind}
use Rattle.mdv_parts.specs.Options.{has_letter, number_of, size_of, split_replica_options}
use Rattle.mdv_name.specs.declared.volume.VolName.{VolName}
use Rattle.mdv_name.specs.declared.volume.PoolName.{PoolName}
use Rattle.mdv_tab.specs.declared.entry.Entry.{Entry}
use Rattle.mdv_tab.specs.declared.entry.Extent.{Extent}
use Rattle.mdv_tab.specs.declared.entry.MirrorOptions.{MirrorOptions}
use Rattle.mdv_tab.specs.declared.entry.RaidOptions.{RaidOptions}
use Rattle.mdv_tab.specs.declared.entry.Room.{Room}
use Rattle.mdv_tab.specs.Options.{on_some, mirror_options, pass_of, raid_options}
use Rattle.mdv_tab.specs.Stripe.{stripe_of}

abbrev pub ends_mirror : VolName → List VolId → MirrorOptions → Option ℕ → Option Entry
ends_mirror name submirrors options None = None
ends_mirror name submirrors options (Some pass) = Some (Entry.Mirror name submirrors options pass)

abbrev pub mirror_with : VolName → List VolId → MirrorOptions × List Part → Option Entry
mirror_with name [] (options, ps) = None
mirror_with name (v ∷ vs) (options, ps) = ends_mirror name (v ∷ vs) options (pass_of ps)

-- one submirror or more, the options, the pass
abbrev pub mirror_of : VolName → List Part → Option Entry
mirror_of name ps = mirror_with name (front volume_of ps) (mirror_options (behind volume_of ps))

abbrev pub raid_with : VolName → List Component → Option (RaidOptions × List Part) → Option Entry
raid_with name [] read = None
raid_with name (c ∷ cs) None = None
raid_with name (c ∷ cs) (Some (options, [])) = Some (Entry.Raid name (c ∷ cs) options)
raid_with name (c ∷ cs) (Some (options, p ∷ ps)) = None

-- one column or more, the options
abbrev pub raid_of : VolName → List Part → Option Entry
raid_of name ps = raid_with name (front component_of ps) (raid_options (behind component_of ps))

-- `-o number -b number`
abbrev pub extent_of : Part → Part → Part → Part → Option Extent
extent_of a b c d = if has_letter 111 a && has_letter 98 c then on_some (number_of b) (λ o. on_some (number_of d) (λ n. Some (record { offset = o; blocks = n }))) else None

abbrev pub extent_and : Option Extent → Option (List Extent) → Option (List Extent)
extent_and None more = None
extent_and (Some e) None = None
extent_and (Some e) (Some es) = Some (e ∷ es)

-- again and again
abbrev pub extents : List Part → Option (List Extent)
extents [] = Some []
extents (a ∷ []) = None
extents (a ∷ b ∷ []) = None
extents (a ∷ b ∷ c ∷ []) = None
extents (a ∷ b ∷ c ∷ d ∷ ps) = extent_and (extent_of a b c d) (extents ps)

abbrev pub some_blocks : ℕ → Option Room
some_blocks n = if nat_le 1 n then Some (Room.Size n) else None

-- a size of one block or more, or extents
abbrev pub room_of : List Part → Option Room
room_of [] = None
room_of (p ∷ []) = on_some (size_of p) some_blocks
room_of (p ∷ q ∷ ps) = on_some (extents (p ∷ q ∷ ps)) (λ es. Some (Room.Extents es))

-- the base, and the room there
abbrev pub soft_of : VolName → List Part → Option Entry
soft_of name [] = None
soft_of name (p ∷ ps) = on_some (component_of p) (λ base. on_some (room_of ps) (λ room. Some (Entry.Soft name base room)))

abbrev pub ends_pool : PoolName → List SliceName → List Part → Option Entry
ends_pool name slices [] = Some (Entry.Pool name slices)
ends_pool name slices (p ∷ ps) = None

abbrev pub ends_replicas : ℕ → ReplicaOptions → List SliceName → List Part → Option Entry
ends_replicas number options [] ps = None
ends_replicas number options (s ∷ ss) [] = Some (Entry.Replicas number options (s ∷ ss))
ends_replicas number options (s ∷ ss) (p ∷ ps) = None

-- the options, one slice or more
abbrev pub replicas_of : ℕ → List Part → Option Entry
replicas_of number ps = on_some (split_replica_options ps) (λ r. ends_replicas number r.0 (front slice_of r.1) (behind slice_of r.1))

-- `-m`, `-r` and `-p` tell the kind of a volume
abbrev pub lettered_of : VolName → Part → List Part → Option Entry
lettered_of name p ps =
    if has_letter 109 p then mirror_of name ps else
    (if has_letter 114 p then raid_of name ps else
    (if has_letter 112 p then soft_of name ps else None))

-- behind a volume's name
abbrev pub volume_entry : VolName → List Part → Option Entry
volume_entry name [] = None
volume_entry name (Number n ∷ ps) = stripe_of name n ps
volume_entry name (p ∷ ps) = lettered_of name p ps

-- replicas are of the local database, and all names of any other entry have the set of its first
abbrev pub entry_of : Option (List ℕ) → List Part → Option Entry
entry_of set [] = None
entry_of set (Volume v ∷ ps) = volume_entry (record { set = set; volume = v }) ps
entry_of set (Pool p ∷ ps) = ends_pool (record { set = set; pool = p }) (front slice_of ps) (behind slice_of ps)
entry_of None (Replicas n ∷ ps) = replicas_of n ps
entry_of (Some s) (Replicas n ∷ ps) = None
entry_of set (p ∷ ps) = None
