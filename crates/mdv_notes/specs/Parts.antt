-- The states of components.
use Rattle.std.specs.Prelude.{ℕ, zero, suc, Bool, List, [], ◌∷◌, None, Some, if◌then◌else◌}
pub use Rattle.mdv_plan.specs.Resumed.{part_resumed}
use Rattle.mdv_notes.specs.Below.{PartStatus, Okay, Resyncing, Maintenance, LastErred, Whole}
use Rattle.mdv_notes.specs.declared.note.PartNote.{PartNote}
use Rattle.mdv_notes.specs.declared.note.PartNote.TheVariants.{Okay as NowOkay, Resyncing as NowResyncing, Failed, Spared, LastErred as NowLastErred, Enabled}

-- what the note makes of the component that it names
abbrev pub part_noted : PartNote → PartStatus → PartStatus
part_noted NowOkay p = record p { state = Okay }
part_noted (NowResyncing resync) p = record p { state = Resyncing resync }
part_noted Failed p = record { state = Maintenance; spare = None }
part_noted (Spared u) p = record { state = Resyncing Whole; spare = Some u }
part_noted NowLastErred p = record p { state = LastErred }
part_noted Enabled p = record { state = Resyncing Whole; spare = None }

-- one value of a list, at its place; nothing where the list ends before
abbrev pub changed_at : {T : Type 0} → ℕ → (T → T) → List T → List T
changed_at n f [] = []
changed_at zero f (x ∷ xs) = f x ∷ xs
changed_at (suc n) f (x ∷ xs) = x ∷ changed_at n f xs
