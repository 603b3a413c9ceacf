use Rattle.mdv_encoding.proofs.Reading.{is_read}
use Rattle.mdv_encoding.proofs.law.texts_are_read.Goals as goal

pub returns : goal.returns
returns c g text t sound = is_read g sound text t
