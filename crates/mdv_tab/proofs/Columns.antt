-- Parts behind the options of a RAID-5 volume.
use Rattle.std.proofs.Common.{◌≡◌, ◌<◌, None, Some, refl, List, [], ◌∷◌, length, arith}
use Rattle.mdv_name.specs.declared.volume.VolName.{VolName}
use Rattle.mdv_parts.specs.declared.part.Part.{Part}
use Rattle.mdv_parts.specs.declared.component.Component.{Component}
use Rattle.mdv_tab.specs.declared.entry.RaidOptions.{RaidOptions}
use Rattle.mdv_tab.specs.Form.{raid_with}

pub raid_behind : (name : VolName) (cs : List Component) (o : RaidOptions) (ps : List Part) → 0 < length ps → raid_with name cs (Some (o, ps)) ≡ None
raid_behind name cs o [] some = absurd (omega arith)
raid_behind name [] o (p ∷ ps) some = refl
raid_behind name (c ∷ cs) o (p ∷ ps) some = refl
