-- The states of spares.
use Rattle.std.specs.Prelude.{ℕ, ◌==◌, List, map, Option, None, Some, if◌then◌else◌}
use Rattle.mdv_notes.specs.Below.{SliceName, slice_code, SpareState, Available, InUse, Broken, SpareStatus, SpareUse}
use Rattle.mdv_notes.specs.declared.note.PartNote.{PartNote}
use Rattle.mdv_notes.specs.declared.note.PartNote.TheVariants.{Okay as NowOkay, Resyncing as NowResyncing, Failed, Spared, LastErred as NowLastErred, Enabled}

abbrev pub spare_key : SpareStatus → ℕ
spare_key s = slice_code s.slice

abbrev pub spare_noted : SliceName → SpareState → SpareStatus → SpareStatus
spare_noted name state s = if spare_key s == slice_code name then record s { state = state } else s

-- the spare of this name, where there is one
abbrev pub spares_noted : SliceName → SpareState → List SpareStatus → List SpareStatus
spares_noted name state spares = map (spare_noted name state) spares

-- the spare that the component leaves: one that failed, or one that is free again
abbrev pub left : PartNote → Option SpareUse → List SpareStatus → List SpareStatus
left note None spares = spares
left NowOkay (Some u) spares = spares
left (NowResyncing resync) (Some u) spares = spares
left Failed (Some u) spares = spares_noted u.slice Broken spares
left (Spared w) (Some u) spares = spares_noted u.slice Broken spares
left NowLastErred (Some u) spares = spares
left Enabled (Some u) spares = spares_noted u.slice Available spares

-- the spare that it takes
abbrev pub taken : PartNote → List SpareStatus → List SpareStatus
taken (Spared u) spares = spares_noted u.slice InUse spares
taken _ spares = spares

-- what the note makes of the spares, where the component lay on this one
abbrev pub spares_after : PartNote → Option SpareUse → List SpareStatus → List SpareStatus
spares_after note under spares = taken note (left note under spares)
