use Rattle.mdv_whole.proofs.Noting.{read_again}
use Rattle.mdv_whole.proofs.law.reads_what_was_written.Goals as goal

pub returns : goal.returns
returns c t answer is decoded = read_again t answer is decoded
