use Rattle.std.proofs.Common.{◌∙◌, ap}
use Rattle.mdv_tab.specs.Form.{entry_of}
use Rattle.mdv_tab.proofs.SetOf.{read_with}
use Rattle.mdv_tab.proofs.group.read_words.Goals as goal

pub returns : goal.returns
returns c = read_with c.args.set.now _ c.in-Some.parts c.in_ok-entry.entry (rw c.in-Some.is at c.in_ok-parts.ensures) (c.in_ok-entry.ensures ∙ ap (entry_of c.args.set.now) c.as_slice.ensures)
