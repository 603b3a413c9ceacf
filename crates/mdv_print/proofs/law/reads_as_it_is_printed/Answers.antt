use Rattle.mdv_print.proofs.Lines.{gives_line}
use Rattle.mdv_print.specs.Entries.{entry_of_pool, entry_of_volume}
use Rattle.mdv_print.specs.Text.{pool_line, volume_line}
use Rattle.mdv_print.proofs.Printed.{pool_read, tab_is, volume_read}
use Rattle.mdv_print.proofs.law.reads_as_it_is_printed.Goals as goal

pub returns-clause-volume : goal.returns-clause-volume
returns-clause-volume c = λ set v form whole. gives_line (volume_line set v) (entry_of_volume set v) (volume_read set v form whole)

pub returns-clause-pool : goal.returns-clause-pool
returns-clause-pool c = λ set q form whole. gives_line (pool_line set q) (entry_of_pool set q) (pool_read set q form whole)

pub returns-clause-tab : goal.returns-clause-tab
returns-clause-tab c = tab_is
