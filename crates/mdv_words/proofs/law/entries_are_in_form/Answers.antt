use Rattle.mdv_words.proofs.Tabs.{entries_are_in_form}
use Rattle.mdv_words.proofs.law.entries_are_in_form.Goals as goal

pub returns : goal.returns
returns c = entries_are_in_form
