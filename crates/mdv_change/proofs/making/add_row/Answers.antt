use Rattle.std.proofs.Common.{◌≡◌, rules, sym, ◌∙◌, ap, subst, List, Option, None}
use Rattle.std.specs.Option.{option_map}
use Rattle.mdv_change.specs.Below.{OneVolume, RowAsked, Table, VolumeStatus, add_condition, added_states, first_of, noted, nothing, order, told, volume_of, with_row}
use Rattle.mdv_change.specs.Change.{row_added, with_changed, with_states}
use Rattle.mdv_plan.specs.declared.volume.Row.{Row}
use Rattle.mdv_change.proofs.making.add_row.Goals as goal

abbrev with_noted : Table → List VolumeStatus → Table
with_noted t states = record { plan = t.plan; status = record { volumes = states; spares = t.status.spares } }

pub returns : goal.returns
returns c =
    let old = c.args.table.now in
    let volume = c.args.volume in
    let row = c.in_ok-row.row in
    let none : c.in_ok-cause.field-0 ≡ None = search rules in
    let allowed : option_map (told nothing) (first_of (add_condition c.args.geometry.now c.args.drives.now old.plan volume row) order) ≡ None = ap (option_map (told nothing)) (sym c.in_ok-cause.ensures ∙ none) in
    let longer = c.in_ok-longer.ensures ∙ ap (λ (r : Row). option_map (with_row r) (volume_of old.plan volume)) c.in_ok-made.ensures in
    let changed = c.replace_volume.ensures ∙ ap (λ (v : Option OneVolume). with_changed v old) longer in
    let middle = c.replace_volume.new.table in
    let noted_is : c.note_all.new.statuses ≡ noted middle.status.volumes (added_states old.status volume row) = c.note_all.ensures ∙ ap (noted middle.status.volumes) c.in_ok-states.ensures in
    let stated : with_noted middle c.note_all.new.statuses ≡ with_noted middle (noted middle.status.volumes (added_states old.status volume row)) = ap (with_noted middle) noted_is in
    let after = stated ∙ ap (λ (t : Table). with_states (added_states old.status volume row) t) changed in
    let new : Table = with_noted middle c.note_all.new.statuses in
    record {
      allowed = subst (λ (r : RowAsked). option_map (told nothing) (first_of (add_condition c.args.geometry.now c.args.drives.now old.plan volume r) order) ≡ None) c.in_ok-row.ensures allowed;
      after = subst (λ (r : RowAsked). new ≡ row_added c.args.geometry.now old volume r) c.in_ok-row.ensures after;
    }
