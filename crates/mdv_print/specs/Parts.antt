-- What stands in the line of a volume and of a pool, behind its name.
use Rattle.std.specs.Prelude.{ℕ, nat_lt, if◌then◌else◌, Option, None, Some, List, [], ◌∷◌, ◌++◌, length, map}
use Rattle.std.specs.List.{flat_map}
use Rattle.mdv_print.specs.Below.{Base, Component, OnePool, Part, PoolId, ReadOption, Row, Run, Spare, VolId, VolumeKind, WriteOption}
use Rattle.mdv_plan.specs.declared.volume.Base.TheVariants.{Slice, Volume}
use Rattle.mdv_plan.specs.declared.volume.ReadOption.TheVariants.{InTurn, Geometric, First}
use Rattle.mdv_plan.specs.declared.volume.VolumeKind.TheVariants.{Stripe, Mirror, Raid, Soft}
use Rattle.mdv_plan.specs.declared.volume.WriteOption.TheVariants.{Parallel, Serial}

abbrev pub base_part : Base → Part
base_part (Slice s) = Part.Slice s
base_part (Volume v) = Part.Volume v

abbrev pub component_part : Component → Part
component_part c = base_part c.on

-- `-i SIZE`
abbrev pub interlace_parts : ℕ → List Part
interlace_parts blocks = Part.Letter 105 ∷ Part.Size blocks ∷ []

-- `-h POOL`
abbrev pub spares_parts : Option PoolId → List Part
spares_parts None = []
spares_parts (Some pool) = Part.Letter 104 ∷ Part.Pool pool ∷ []

-- a width, the components, and the interlace where the width is more than 1
abbrev pub row_parts : Row → List Part
row_parts row = Part.Number (length row.components) ∷ (map component_part row.components ++ (if nat_lt 1 (length row.components) then interlace_parts row.interlace else []))

abbrev pub submirror_part : VolId → Part
submirror_part v = Part.Volume v

abbrev pub read_parts : ReadOption → List Part
read_parts InTurn = []
read_parts Geometric = Part.Letter 103 ∷ []
read_parts First = Part.Letter 114 ∷ []

abbrev pub write_parts : WriteOption → List Part
write_parts Parallel = []
write_parts Serial = Part.Letter 83 ∷ []

-- `-o number -b number`
abbrev pub extent_parts : Run → List Part
extent_parts run = Part.Letter 111 ∷ Part.Number run.at ∷ Part.Letter 98 ∷ Part.Number run.blocks ∷ []

-- `-k` of a RAID-5 volume says that its blocks stay as they are
abbrev pub kind_parts : VolumeKind → List Part
kind_parts (Stripe s) = Part.Number (length s.rows) ∷ (flat_map row_parts s.rows ++ spares_parts s.spares)
kind_parts (Mirror m) = Part.Letter 109 ∷ (map submirror_part m.submirrors ++ (read_parts m.read ++ (write_parts m.write ++ Part.Number m.pass ∷ [])))
kind_parts (Raid r) = Part.Letter 114 ∷ (map component_part r.columns ++ Part.Letter 107 ∷ (interlace_parts r.interlace ++ spares_parts r.spares))
kind_parts (Soft s) = Part.Letter 112 ∷ base_part s.base ∷ flat_map extent_parts s.extents

abbrev pub spare_part : Spare → Part
spare_part s = Part.Slice s.slice

abbrev pub pool_parts : OnePool → List Part
pool_parts q = map spare_part q.spares
