use Rattle.std.proofs.Common.{ℕ, List, ◌∷◌, sym, ◌∙◌, ap, codes}
use Rattle.mdv_name.proofs.DriveKinds.{kind_spelled}
use Rattle.mdv_name.proofs.parse_entry.parse_drive_line.Goals as goal

pub returns-in_default-parse_kind : goal.returns-in_default-parse_kind
returns-in_default-parse_kind c = λ d form is.
    let spelled = ap (λ (ws : List (List ℕ)). codes "drive" ∷ ws) (sym c.in-Some.ensures.value) ∙ is in
    c.in_default-parse_kind.ensures.none d.kind (kind_spelled d.kind d.blocks d.file _ _ _ _ form.kind form.owner spelled)
