use Rattle.mdv_replica.proofs.Pages.{name_spelled}
use Rattle.mdv_replica.proofs.forms.spell_name.Goals as goal

pub returns-clause-spelled : goal.returns-clause-spelled
returns-clause-spelled c =
    (name_spelled c.args.page.now c.bytes.new.self c.bytes-2.new.self c.as_bytes-text.result.now c.args.name.now c.copy_from_slice.new.self c.args.kind c.as_bytes-text.ensures.value c.as_bytes-text.ensures.form.short c.copy_from_slice.ensures.after c.bytes.ensures c.bytes-2.ensures).0

pub returns-clause-size : goal.returns-clause-size
returns-clause-size c =
    (name_spelled c.args.page.now c.bytes.new.self c.bytes-2.new.self c.as_bytes-text.result.now c.args.name.now c.copy_from_slice.new.self c.args.kind c.as_bytes-text.ensures.value c.as_bytes-text.ensures.form.short c.copy_from_slice.ensures.after c.bytes.ensures c.bytes-2.ensures).1
