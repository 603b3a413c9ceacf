use Rattle.mdv_encoding.proofs.Reading.{one_table}
use Rattle.mdv_encoding.proofs.law.spells_one_table.Goals as goal

pub returns : goal.returns
returns c g t u sound = one_table g sound t u
