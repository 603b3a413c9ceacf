use Rattle.mdv_name.proofs.OneTable.{one_table, never_both, one_bad_line}
use Rattle.mdv_name.proofs.law.reads_as_one_table.Goals as goal

pub returns-clause-tables : goal.returns-clause-tables
returns-clause-tables c = one_table

pub returns-clause-wrong : goal.returns-clause-wrong
returns-clause-wrong c = never_both

pub returns-clause-first : goal.returns-clause-first
returns-clause-first c = one_bad_line
