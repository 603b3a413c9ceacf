use Rattle.std.proofs.Common.{◌∙◌}
use Rattle.mdv_fields.proofs.Fields.{name_or_none}
use Rattle.mdv_fields.proofs.name.read_name.Goals as goal

pub returns : goal.returns
returns c =
    let field = c.in_ok-text.ensures.ok in
    rw c.ok_or.ensures.value (name_or_none c.new.result (field.0 ∙ c.from.ensures) field.1 c.new.ensures.valid c.new.ensures.value)
