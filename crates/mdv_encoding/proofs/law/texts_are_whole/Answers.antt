use Rattle.mdv_encoding.proofs.Fitting.{fits_table}
use Rattle.mdv_encoding.proofs.law.texts_are_whole.Goals as goal

pub returns : goal.returns
returns c g t sound = fits_table g sound t
