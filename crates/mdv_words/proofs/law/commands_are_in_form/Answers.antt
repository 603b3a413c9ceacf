use Rattle.mdv_words.proofs.Form.{commands_are_in_form}
use Rattle.mdv_words.proofs.law.commands_are_in_form.Goals as goal

pub returns : goal.returns
returns c = commands_are_in_form
