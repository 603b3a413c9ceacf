use Rattle.mdv_databases.proofs.Booting.{boot_end, boot_moment, one_shown, shown_current}
use Rattle.mdv_databases.proofs.Finding.{short_by}
use Rattle.mdv_databases.proofs.Freed.{freed_blank}
use Rattle.mdv_databases.proofs.law.boots_go.Goals as goal

pub returns : goal.returns
returns c = record { moments = boot_moment; ends = boot_end; shown = shown_current; one = one_shown; short = λ g all key up survey readable needed t sound stand alive is of. short_by g all key up survey t sound stand is of alive readable needed; freed = freed_blank }
