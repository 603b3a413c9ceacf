use Rattle.mdv_encoding.proofs.Reading.{decoded_again}
use Rattle.mdv_encoding.proofs.law.reads_what_was_written.Goals as goal

pub returns : goal.returns
returns c g t answer sound = decoded_again g sound t answer
