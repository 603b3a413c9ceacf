use Rattle.std.proofs.Common.{◌≡◌, ◌∙◌, sym, None, Some}
use Rattle.std.specs.Prelude.{◌==◌}
use Rattle.std.specs.List.{find}
use Rattle.mdv_notes.specs.Below.{slice_code}
use Rattle.mdv_notes.specs.Spares.{spare_key}
use Rattle.mdv_notes.proofs.Finding.{found_noted, none_noted}
use Rattle.mdv_notes.proofs.spares.note_spare.Goals as goal

pub returns-in-Some : goal.returns-in-Some
returns-in-Some c =
    let found : find (λ x. spare_key x == slice_code c.args.slice) c.args.spares.now ≡ Some c.in-Some.old.now = rw (← c.key.ensures) (sym c.in-Some.ensures) in
    c.replace.ensures ∙ found_noted c.args.slice c.args.state c.in-Some.old.now c.args.spares.now c.as_slice-ascending.ensures.ascending found

pub returns-in_default : goal.returns-in_default
returns-in_default c =
    let none : find (λ x. spare_key x == slice_code c.args.slice) c.args.spares.now ≡ None = rw (← c.key.ensures) (sym c.in_default.ensures) in
    none_noted c.args.slice c.args.state c.args.spares.now none
