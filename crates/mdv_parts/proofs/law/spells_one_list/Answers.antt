use Rattle.mdv_parts.proofs.OnePart.{one_part, one_list}
use Rattle.mdv_parts.proofs.law.spells_one_list.Goals as goal

pub returns-clause-part : goal.returns-clause-part
returns-clause-part c = one_part

pub returns-clause-parts : goal.returns-clause-parts
returns-clause-parts c = one_list
