use Rattle.mdv_shown.proofs.Worlds.{law_begin}
use Rattle.mdv_shown.proofs.law.tables_begin.Goals as goal

pub returns : goal.returns
returns g c = law_begin _
