use Rattle.std.proofs.Common.{◌∙◌, ℕ, ap, set}
use Rattle.mdv_notes.specs.Below.{PartStatus}
use Rattle.mdv_notes.specs.Parts.{changed_at, part_noted}
use Rattle.mdv_notes.proofs.Places.{set_changed, unchanged_past}
use Rattle.mdv_notes.proofs.parts.note_part.Goals as goal

pub returns-then-place-parts : goal.returns-then-place-parts
returns-then-place-parts c =
    let f = part_noted c.args.note in
    let parts = c.args.parts.now in
    ap (λ (p : PartStatus). set parts c.from-place.result p) c.part_noted.ensures
    ∙ set_changed f parts c.from-place.result _ c.if-place-parts.true
    ∙ ap (λ (n : ℕ). changed_at n f parts) c.from-place.ensures

pub returns-else-place-parts : goal.returns-else-place-parts
returns-else-place-parts c =
    unchanged_past (part_noted c.args.note) c.args.parts.now c.args.place (rw (← c.from-place.ensures) c.if-place-parts.false)
